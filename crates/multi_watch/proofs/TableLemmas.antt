-- What a change of the table at one key says of every key.
use Rattle.std.proofs.Common.{◌≡◌, ◌≢◌, ℕ, ◌≤◌, Bool, true, false, not, cond, ◌&&◌, ◌||◌, List, [], ◌∷◌, ◌++◌, length, Option, Some, None, Result, Ok, Err, OnOk, OnErr, nat_eq, refl, sym, ap, subst, ◌∙◌, arith}
use Rattle.std.specs.List.{filter}
use Rattle.std.specs.Global.{Vec}
use Rattle.std.specs.Map.{lookup, IsKeyTest, AreApart, KeepsOthers}
use Rattle.std.specs.Cmp.Lexicographic.{nat_list_eq_equiv}
use Rattle.std.proofs.lemmas.List.Folds.{list_any-append}
use Rattle.std.proofs.lemmas.Map.Views.{any-filter_same}
use Rattle.std.proofs.Math.Bool.{or-false, and_comm}
use Rattle.std.proofs.lemmas.Bool.{eqb-true}
use Rattle.std.proofs.lemmas.Slice.Eq.{bytes_eq-Decides}
use Rattle.kv_types.specs.declared.limits.TheConstants.{MAX_KEY_BYTES}
use Rattle.cmd_core.specs.Contents.{same_bytes}
use Rattle.multi_watch.specs.Watchers.{Table, numbers_of, numbers_at, has_number, watches, SaysSame, Adds, Removes, EachWatched}

pub same_is : (x y : List ℕ) → same_bytes x y ≡ true → x ≡ y
same_is x y same = (bytes_eq-Decides x y).0 same

pub pushed : (n number : ℕ) (numbers : List ℕ) → has_number n (numbers ++ number ∷ []) ≡ (has_number n numbers || nat_eq number n)
pushed n number numbers = list_any-append (λ other. nat_eq other n) numbers (number ∷ []) ∙ ap (λ b. has_number n numbers || b) (or-false (nat_eq number n))

-- the table has this at the key, and elsewhere what it had
abbrev pub Becomes : Table → List ℕ → Option (Vec ℕ) → Table → Type 0
Becomes old key slot new = (q : List ℕ) → numbers_at new q ≡ cond (same_bytes key q) slot (numbers_at old q)

other_keys : (test : Vec ℕ → Bool) (old new : Table) → KeepsOthers (λ x y. same_bytes x.items y.items) test old new
    → (other : Vec ℕ → Bool) → IsKeyTest (λ x y. same_bytes x.items y.items) other → AreApart test other → lookup other new ≡ lookup other old
unfolding KeepsOthers
other_keys test old new keeps = keeps

apart : (key q own : List ℕ) → same_bytes key q ≡ false → same_bytes key own ≡ true → same_bytes q own ≡ false
apart key q own differ is = nat_list_eq_equiv.symm q own ∙ sym (nat_list_eq_equiv.congr key own q is) ∙ differ

-- what a change of the table at the bytes of a key says
pub becomes_at : (old new : Table) (key : List ℕ) (slot : Option (Vec ℕ)) → numbers_at new key ≡ slot
    → KeepsOthers (λ x y. same_bytes x.items y.items) (λ own. same_bytes key own.items) old new → Becomes old key slot new
becomes_at old new key slot here keeps q = by_same (same_bytes key q) refl where
  by_same : (same : Bool) → same_bytes key q ≡ same → numbers_at new q ≡ cond same slot (numbers_at old q)
  by_same true is = ap (numbers_at new) (sym (same_is key q is)) ∙ here
  by_same false is =
      other_keys (λ own. same_bytes key own.items) old new keeps (λ own. same_bytes q own.items)
      (λ x y. nat_list_eq_equiv.congr q x.items y.items) (λ own. apart key q own.items is)

module _ (old new : Table) (key : List ℕ) (slot : Option (Vec ℕ)) (becomes : Becomes old key slot new) where
  pub says_same : ((n : ℕ) → has_number n (numbers_of slot) ≡ watches old key n) → SaysSame old new
  says_same slot_is q n = grind (arith, becomes q, same_is key q, slot_is n)

  pub adds : (number : ℕ) → ((n : ℕ) → has_number n (numbers_of slot) ≡ (watches old key n || nat_eq number n)) → Adds old key number new
  adds number slot_is q n = grind (arith, becomes q, same_is key q, slot_is n)

  pub removes : (number : ℕ) → ((n : ℕ) → has_number n (numbers_of slot) ≡ (watches old key n && not (nat_eq number n))) → Removes old key number new
  removes number slot_is q n = grind (arith, becomes q, same_is key q, slot_is n)

-- ---- no key is left that nobody watches

pub one_more : (numbers : List ℕ) (number : ℕ) → numbers ++ number ∷ [] ≢ []
one_more [] number is = let p = is in cc
one_more (first ∷ numbers) number is = let p = is in cc

module _ (old new : Table) (key : List ℕ) (watched : EachWatched old) where
  -- the key has some sessions, and the others have what they had
  pub still_watched : (now : Vec ℕ) → now.items ≢ [] → length key ≤ MAX_KEY_BYTES → Becomes old key (Some now) new → EachWatched new
  still_watched now some short becomes q numbers is = by_same (same_bytes key q) refl where
    by_same : (same : Bool) → same_bytes key q ≡ same → (numbers.items ≢ []) × (length q ≤ MAX_KEY_BYTES)
    by_same true same =
        let here : Some now ≡ Some numbers = sym (becomes q ∙ ap (λ b. cond b (Some now) (numbers_at old q)) same) ∙ is in
        ((λ none. some (ap (λ o. numbers_of o) here ∙ none)), subst (λ k. length k ≤ MAX_KEY_BYTES) (same_is key q same) short)
    by_same false same = watched q numbers (sym (becomes q ∙ ap (λ b. cond b (Some now) (numbers_at old q)) same) ∙ is)

  -- the key is gone, and the others have what they had
  pub watched_without : (left : Table) → ((other : List ℕ) → same_bytes key other ≡ false → numbers_at left other ≡ numbers_at old other)
      → Becomes left key None new → EachWatched new
  watched_without left others becomes q numbers is = by_same (same_bytes key q) refl where
    by_same : (same : Bool) → same_bytes key q ≡ same → (numbers.items ≢ []) × (length q ≤ MAX_KEY_BYTES)
    by_same true same =
        let gone : None ≡ Some numbers = sym (becomes q ∙ ap (λ b. cond b None (numbers_at left q)) same) ∙ is in
        let p = gone in cc
    by_same false same =
        watched q numbers (sym (others q same) ∙ sym (becomes q ∙ ap (λ b. cond b None (numbers_at left q)) same) ∙ is)

-- a key has what it had where it is not the changed one
pub others_stay : (old new : Table) (key : List ℕ) (slot : Option (Vec ℕ)) → Becomes old key slot new
    → (other : List ℕ) → same_bytes key other ≡ false → numbers_at new other ≡ numbers_at old other
others_stay old new key slot becomes other apart = becomes other ∙ ap (λ b. cond b slot (numbers_at old other)) apart

-- a list that grew, or stayed as it was
pub some_still : (grew : Bool) (numbers : List ℕ) (number : ℕ) → numbers ≢ [] → cond grew (numbers ++ number ∷ []) numbers ≢ []
some_still true numbers number some = one_more numbers number
some_still false numbers number some = some

pub watched_as_before : (old new : Table) → new ≡ old → EachWatched old → EachWatched new
watched_as_before old new same watched key numbers is = watched key numbers (ap (λ table. numbers_at table key) (sym same) ∙ is)

pub either_way : {X E P Q G : Type 0} (result : Result X E) → OnOk result P → OnErr result Q → (P → G) → (Q → G) → G
either_way (Ok x) done failed if_done if_failed = if_done done
either_way (Err e) done failed if_done if_failed = if_failed failed

-- ---- the list of one key, without a number

equal_sym : (m n : ℕ) → nat_eq m n ≡ nat_eq n m
equal_sym m n = grind arith

pub filtered : (n number : ℕ) (numbers : List ℕ) → has_number n (filter (λ x. not (nat_eq x number)) numbers) ≡ (has_number n numbers && not (nat_eq number n))
filtered n number numbers =
    any-filter_same (λ x. nat_eq x n) (λ x. not (nat_eq x number)) (not (nat_eq number n)) (λ x is. ap (λ y. not (nat_eq y number)) (eqb-true x n is) ∙ ap not (equal_sym n number)) numbers
    ∙ and_comm (not (nat_eq number n)) (has_number n numbers)
