-- The keys of the table that a keyspace holds, key by key.
use Rattle.std.proofs.Common.{◌≡◌, ℕ, ◌≤◌, Bool, true, false, cond, ◌&&◌, ◌||◌, List, [], ◌∷◌, ◌++◌, length, map, Option, None, Some, nat_eq, refl, sym, ap, ◌∙◌, arith}
use Rattle.std.specs.Prelude.{is_some}
use Rattle.std.specs.Global.{Vec}
use Rattle.std.specs.List.{list_any}
use Rattle.std.proofs.lemmas.Bool.{and_parts, eq-eqb, or_left, or_right}
use Rattle.std.proofs.lemmas.List.Folds.{list_any-append}
use Rattle.kv_types.specs.declared.limits.TheConstants.{MAX_KEY_BYTES}
use Rattle.kv_types.specs.Keyspace.{Keyspace}
use Rattle.cmd_core.specs.Contents.{same_bytes, has_key}
use Rattle.multi_watch.specs.Session.{is_watched}
use Rattle.multi_watch.specs.Watchers.{Table, numbers_of, numbers_at, has_number, EachWatched}
use Rattle.multi_watch.specs.Sessions.{Sessions, session_at, Agree}
use Rattle.multi_watch.proofs.TableLemmas.{same_is}

-- the bytes are those of one of these keys
abbrev pub is_one : List ℕ → List (Vec ℕ) → Bool
is_one own keys = list_any (λ key. same_bytes own key.items) keys

one_more : (here : Bool) (numbers : Vec ℕ) (later : Option (Vec ℕ)) → (here || is_some later) ≡ is_some (cond here (Some numbers) later)
one_more here numbers later = grind arith

-- the table has something at each of its keys, and at no other
pub is_one_of : (own : List ℕ) (table : Table) → is_one own (map (λ entry. entry.0) table) ≡ is_some (numbers_at table own)
is_one_of own [] = refl
is_one_of own (entry ∷ table) = ap (λ b. same_bytes own entry.0.items || b) (is_one_of own table) ∙ one_more (same_bytes own entry.0.items) entry.1 (numbers_at table own)

-- each of the keys is as short as a key
abbrev pub AllShort : List (Vec ℕ) → Type 0
AllShort keys = (own : List ℕ) → is_one own keys ≡ true → length own ≤ MAX_KEY_BYTES

pub all_short : (table : Table) → EachWatched table → AllShort (map (λ entry. entry.0) table)
all_short table each own is = by_slot (numbers_at table own) refl (sym (is_one_of own table) ∙ is) where
  by_slot : (o : Option (Vec ℕ)) → numbers_at table own ≡ o → is_some o ≡ true → length own ≤ MAX_KEY_BYTES
  by_slot None at some = absurd cc
  by_slot (Some numbers) at some = (each own numbers at).1

pub others_short : (first : Vec ℕ) (left before : List (Vec ℕ)) → before ≡ first ∷ left → AllShort before → AllShort left
others_short first left before is short own one =
    short own (ap (is_one own) is ∙ or_right (same_bytes own first.items) (is_one own left) one)

one_held : (held same later has : Bool) → (same ≡ true → has ≡ true) → ((held || (same || false)) || (later && has)) ≡ (held || ((same || later) && has))
one_held held same later has is = grind arith

-- whether the key is found, among those that were found and those that are left
abbrev pub finds : Keyspace → List ℕ → (found : List (List ℕ)) (left : List (Vec ℕ)) → Bool
finds s own found left = list_any (λ key. same_bytes own key) found || (is_one own left && has_key s own)

-- a key that is held goes from those that are left to those that were found
held_more : (s : Keyspace) (own : List ℕ) (key : Vec ℕ) (found : List (List ℕ)) (left : List (Vec ℕ)) → has_key s key.items ≡ true
    → finds s own (found ++ key.items ∷ []) left ≡ finds s own found (key ∷ left)
held_more s own key found left has =
    ap (λ b. b || (is_one own left && has_key s own)) (list_any-append (λ other. same_bytes own other) found (key.items ∷ []))
    ∙ one_held (list_any (λ other. same_bytes own other) found) (same_bytes own key.items) (is_one own left) (has_key s own) (λ same. ap (has_key s) (same_is own key.items same) ∙ has)

pub held_next : (s : Keyspace) (own : List ℕ) (key : Vec ℕ) (found : List (List ℕ)) (left : List (Vec ℕ)) (now : List (List ℕ)) (before : List (Vec ℕ)) → has_key s key.items ≡ true
    → now ≡ found ++ key.items ∷ [] → before ≡ key ∷ left → finds s own now left ≡ finds s own found before
held_next s own key found left now before has more next =
    ap (λ keys. finds s own keys left) more ∙ held_more s own key found left has ∙ ap (finds s own found) (sym next)

-- a key of the table is watched by some session
module _ (table : Table) (sessions : Sessions) (agree : Agree table sessions) (each : EachWatched table) (own : List ℕ) where
  abbrev Watched : Type 0
  Watched = (number : ℕ) × (is_watched own (session_at sessions number).watched ≡ true)

  by_numbers : (numbers : Vec ℕ) → numbers_at table own ≡ Some numbers → (items : List ℕ) → numbers.items ≡ items → Watched
  by_numbers numbers is [] none = absurd ((each own numbers is).0 none)
  by_numbers numbers is (first ∷ items) some =
      (first, sym (agree own first) ∙ ap (λ o. has_number first (numbers_of o)) is ∙ ap (has_number first) some ∙ or_left (nat_eq first first) (has_number first items) (eq-eqb first first refl))

  by_slot : (o : Option (Vec ℕ)) → numbers_at table own ≡ o → is_some o ≡ true → Watched
  by_slot None is some = absurd cc
  by_slot (Some numbers) is some = by_numbers numbers is numbers.items refl

  pub some_watches : (held : Bool) → (is_some (numbers_at table own) && held) ≡ true → Watched
  some_watches held is = by_slot (numbers_at table own) refl (and_parts (is_some (numbers_at table own)) held is).0
