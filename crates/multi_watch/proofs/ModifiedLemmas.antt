-- Which keys changes modify, made in parts, and marking in parts.
use Rattle.std.proofs.Common.{◌≡◌, ◌≢◌, ℕ, Bool, true, false, cond, not, ◌&&◌, ◌||◌, List, [], ◌∷◌, ◌++◌, map, Some, None, refl, sym, ap, ap₂, ◌∙◌, arith}
use Rattle.std.specs.List.{list_any}
use Rattle.std.specs.FinMap.Entries.{where_key, by_order}
use Rattle.std.specs.declared.cmp.Ordering.{Ordering}
use Rattle.std.specs.declared.cmp.Ordering.TheVariants.{Less, Equal, Greater}
use Rattle.std.proofs.Math.Bool.{or-false, and-true, and-false, or_assoc}
use Rattle.std.proofs.lemmas.Bool.{false_from_ne_true, or_parts, or_left, or_right}
use Rattle.std.proofs.lemmas.List.Folds.{list_any-append}
use Rattle.kv_types.specs.declared.record_id.RecordId.{RecordId}
use Rattle.kv_types.specs.declared.record_id.RecordId.TheVariants.{Str, Field}
use Rattle.kv_types.specs.declared.change.Change.{Change}
use Rattle.kv_types.specs.declared.change.Change.TheVariants.{Put, Drop, DropKey, Clear}
use Rattle.kv_types.specs.Keyspace.{Keyspace, key_of, record_cmp, value_at, with_record, without_record, without_key, play, play_all}
use Rattle.kv_types.proofs.OrderLemmas.{same_record, same_key, key_itself}
use Rattle.kv_types.proofs.LookUpLemmas.{is_same, is_other, is_same_key_at, looked_up-play}
use Rattle.cmd_core.specs.Contents.{same_bytes, has_key}
use Rattle.cmd_core.proofs.RecordsLemmas.{has_none, has_more}
use Rattle.multi_watch.specs.declared.watch.Watch.{Watch}
use Rattle.multi_watch.specs.Session.{Session, is_watched, with_watched, marked_where, modified_where}
use Rattle.multi_watch.specs.Modified.{names, is_clear, modifies}

-- ---- whether a key is there, after changes that are of other keys

turned : (a b : List ℕ) → same_bytes a b ≡ false → same_bytes b a ≡ false
turned a b apart = false_from_ne_true (same_bytes b a) (λ e.
    let is : same_bytes a b ≡ true = ap (λ k. same_bytes a k) (same_key b a e) ∙ key_itself a in
    let both : true ≡ false = sym is ∙ apart in
    cc)

apart_from : (a b : List ℕ) → same_bytes a b ≡ false → a ≢ b
apart_from a b apart same = let both : true ≡ false = sym (is_same_key_at a b same) ∙ apart in cc

not_false : (b : Bool) → not b ≡ false → b ≡ true
not_false true e = refl
not_false false e = cc

module _ (own : List ℕ) where
  -- taking out records of other keys
  has-where : (p : RecordId → Bool) → ((id : RecordId) → p id ≡ false → same_bytes (key_of id) own ≡ false) → (s : Keyspace) → has_key (where_key record_cmp p s) own ≡ has_key s own
  has-where p other [] = refl
  has-where p other (e ∷ s) = grind (arith, has_more e s own, has_more e (where_key record_cmp p s) own, other e.0, has-where p other s)

  -- putting in a record of another key
  has-put : (id : RecordId) (value : List ℕ) → same_bytes (key_of id) own ≡ false → (s : Keyspace) → has_key (with_record id value s) own ≡ has_key s own
  has-put id value apart [] = has_more (id, value) [] own ∙ ap (λ b. b || has_key [] own) apart
  has-put id value apart (e ∷ s) = step (has-put id value apart s) (record_cmp id e.0) refl
    where
      step : has_key (with_record id value s) own ≡ has_key s own → (o : Ordering) → record_cmp id e.0 ≡ o → has_key (by_order o ((id, value) ∷ e ∷ s) ((e.0, value) ∷ s) (e ∷ with_record id value s)) own ≡ has_key (e ∷ s) own
      step rest Less is = has_more (id, value) (e ∷ s) own ∙ ap (λ b. b || has_key (e ∷ s) own) apart
      step rest Equal is = has_more (e.0, value) s own ∙ sym (has_more e s own)
      step rest Greater is = has_more e (with_record id value s) own ∙ ap (λ b. same_bytes (key_of e.0) own || b) rest ∙ sym (has_more e s own)

  of_another : (key : List ℕ) → same_bytes own key ≡ false → (id : RecordId) → not (same_bytes (key_of id) key) ≡ false → same_bytes (key_of id) own ≡ false
  of_another key apart id is = ap (λ k. same_bytes k own) (same_key (key_of id) key (not_false (same_bytes (key_of id) key) is)) ∙ turned own key apart

  that_record : (that : RecordId) → same_bytes own (key_of that) ≡ false → (id : RecordId) → not (is_same id that) ≡ false → same_bytes (key_of id) own ≡ false
  that_record that apart id is = ap (λ x. same_bytes (key_of x) own) (same_record id that (not_false (is_same id that) is)) ∙ turned own (key_of that) apart

  has-without_key : (key : List ℕ) → same_bytes own key ≡ false → (s : Keyspace) → has_key (without_key key s) own ≡ has_key s own
  has-without_key key apart s = has-where (λ id. not (same_bytes (key_of id) key)) (of_another key apart) s

  has-without_record : (that : RecordId) → same_bytes own (key_of that) ≡ false → (s : Keyspace) → has_key (without_record that s) own ≡ has_key s own
  has-without_record that apart s = has-where (λ id. not (is_same id that)) (that_record that apart) s

  has-play : (s : Keyspace) (change : Change) → names own change ≡ false → has_key (play s change) own ≡ (has_key s own && not (is_clear change))
  has-play s (Put (Str key) value) apart =
      has-put (Str key) value (turned own key apart) (without_key key s) ∙ has-without_key key apart s ∙ sym (and-true (has_key s own))
  has-play s (Put (Field key field) value) apart =
      has-put (Field key field) value (turned own key apart) (without_record (Str key) s) ∙ has-without_record (Str key) apart s ∙ sym (and-true (has_key s own))
  has-play s (Drop id) apart = has-without_record id apart s ∙ sym (and-true (has_key s own))
  has-play s (DropKey key) apart = has-without_key key apart s ∙ sym (and-true (has_key s own))
  has-play s Clear apart = has_none own ∙ sym (and-false (has_key s own))

  neither : (had a b : Bool) → ((had && not a) && not b) ≡ (had && not (a || b))
  neither had a b = grind arith

  pub has-play_all : (s : Keyspace) (changes : List Change) → list_any (names own) changes ≡ false → has_key (play_all s changes) own ≡ (has_key s own && not (list_any is_clear changes))
  has-play_all s [] apart = sym (and-true (has_key s own))
  has-play_all s (change ∷ changes) apart =
      let parts = or_parts (names own change) (list_any (names own) changes) apart in
      has-play_all (play s change) changes parts.1 ∙ ap (λ b. b && not (list_any is_clear changes)) (has-play s change parts.0)
      ∙ neither (has_key s own) (is_clear change) (list_any is_clear changes)

-- ---- which keys changes modify

pub modifies-none : (s : Keyspace) (own : List ℕ) → modifies s [] own ≡ false
modifies-none s own = refl

in_parts : (named more first later had has : Bool) → (named ≡ false → has ≡ (had && not first)) → ((named || more) || ((first || later) && had)) ≡ ((named || (first && had)) || (more || (later && has)))
in_parts named more first later had has is = grind arith

-- what some changes modify, and what more of them do, made on what these leave
pub modifies-append : (s : Keyspace) (first more : List Change) (own : List ℕ) → modifies s (first ++ more) own ≡ (modifies s first own || modifies (play_all s first) more own)
modifies-append s first more own =
    ap₂ (λ named cleared. named || (cleared && has_key s own)) (list_any-append (names own) first more) (list_any-append is_clear first more)
    ∙ in_parts (list_any (names own) first) (list_any (names own) more) (list_any is_clear first) (list_any is_clear more) (has_key s own) (has_key (play_all s first) own) (has-play_all own s first)

-- ---- what a key that is not modified holds

absent : (s : Keyspace) (id : RecordId) → has_key s (key_of id) ≡ false → value_at s id ≡ None
absent [] id none = refl
absent (e ∷ s) id none =
    let parts = or_parts (same_bytes (key_of e.0) (key_of id)) (has_key s (key_of id)) (sym (has_more e s (key_of id)) ∙ none) in
    let other : is_same id e.0 ≡ false = is_other id e.0 (λ same. apart_from (key_of e.0) (key_of id) parts.0 (sym (ap key_of same))) in
    ap (λ b. cond b (Some e.1) (value_at s id)) other ∙ absent s id parts.1

module _ (s : Keyspace) (id : RecordId) where
  stays-play : (change : Change) → names (key_of id) change ≡ false → (is_clear change && has_key s (key_of id)) ≡ false → value_at (play s change) id ≡ value_at s id
  stays-play (Put (Str key) value) other kept = (looked_up-play s (Put (Str key) value)).others id (apart_from (key_of id) key other)
  stays-play (Put (Field key field) value) other kept =
      (looked_up-play s (Put (Field key field) value)).others id ((λ same. apart_from (key_of id) key other (ap key_of same)), (λ same. apart_from (key_of id) key other (ap key_of same)))
  stays-play (Drop that) other kept = (looked_up-play s (Drop that)).others id (λ same. apart_from (key_of id) (key_of that) other (ap key_of same))
  stays-play (DropKey key) other kept = (looked_up-play s (DropKey key)).others id (apart_from (key_of id) key other)
  stays-play Clear other kept = sym (absent s id kept)

pub stays-play_all : (s : Keyspace) (changes : List Change) (id : RecordId) → modifies s changes (key_of id) ≡ false → value_at (play_all s changes) id ≡ value_at s id
stays-play_all s [] id kept = refl
stays-play_all s (change ∷ changes) id kept =
    let own = key_of id in
    let parts = or_parts (modifies s (change ∷ []) own) (modifies (play s change) changes own) (sym (modifies-append s (change ∷ []) changes own) ∙ kept) in
    let here = or_parts (names own change || false) ((is_clear change || false) && has_key s own) parts.0 in
    stays-play_all (play s change) changes id parts.1
    ∙ stays-play s id change (sym (or-false (names own change)) ∙ here.0) (ap (λ b. b && has_key s own) (sym (or-false (is_clear change))) ∙ here.1)

-- ---- marking in parts

abbrev pub with_mark : List ℕ → Bool → Watch
with_mark key is_modified = record { key = key; is_modified = is_modified }

marked_where-twice : (p q : List ℕ → Bool) (watched : List Watch) → map (marked_where q) (map (marked_where p) watched) ≡ map (marked_where (λ own. p own || q own)) watched
marked_where-twice p q [] = refl
marked_where-twice p q (watch ∷ watched) = ap₂ (λ b ws. with_mark watch.key b ∷ ws) (or_assoc watch.is_modified (p watch.key) (q watch.key)) (marked_where-twice p q watched)

marked_where-none : (watched : List Watch) → map (marked_where (λ own. false)) watched ≡ watched
marked_where-none [] = refl
marked_where-none (watch ∷ watched) = ap₂ (λ b ws. with_mark watch.key b ∷ ws) (or-false watch.is_modified) (marked_where-none watched)

marked_where-watched : (p q : List ℕ → Bool) (watched : List Watch) → ((own : List ℕ) → is_watched own watched ≡ true → p own ≡ q own) → map (marked_where p) watched ≡ map (marked_where q) watched
marked_where-watched p q [] same = refl
marked_where-watched p q (watch ∷ watched) same =
    ap₂ (λ b ws. with_mark watch.key (watch.is_modified || b) ∷ ws)
    (same watch.key (or_left (same_bytes watch.key watch.key) (is_watched watch.key watched) (key_itself watch.key)))
    (marked_where-watched p q watched (λ own is. same own (or_right (same_bytes watch.key own) (is_watched own watched) is)))

pub modified_where-twice : (p q : List ℕ → Bool) (session : Session) → modified_where q (modified_where p session) ≡ modified_where (λ own. p own || q own) session
modified_where-twice p q session = ap (λ watched. with_watched watched session) (marked_where-twice p q session.watched)

pub modified_where-none : (session : Session) → modified_where (λ own. false) session ≡ session
modified_where-none session = ap (λ watched. with_watched watched session) (marked_where-none session.watched)

-- tests that agree on every key
pub modified_where-same : (p q : List ℕ → Bool) → ((own : List ℕ) → p own ≡ q own) → (session : Session) → modified_where p session ≡ modified_where q session
modified_where-same p q same session = ap (λ watched. with_watched watched session) (marked_where-watched p q session.watched (λ own is. same own))

-- tests that agree on the watched keys
pub modified_where-watched : (p q : List ℕ → Bool) (session : Session) → ((own : List ℕ) → is_watched own session.watched ≡ true → p own ≡ q own) → modified_where p session ≡ modified_where q session
modified_where-watched p q session same = ap (λ watched. with_watched watched session) (marked_where-watched p q session.watched same)
