-- Puts whose records clash with nothing there, nor with one another: each makes its version, and none ends.
use Rattle.std.proofs.Common.{◌≡◌, ℕ, Bool, true, false, cond, ◌||◌, IsTrue, List, [], ◌∷◌, map, Option, Some, None, nat_eq, inl, inr, ⊎_elim, refl, sym, ap, subst, ◌∙◌}
use Rattle.std.proofs.Math.Bool.{or-false}
use Rattle.std.proofs.lemmas.Bool.{and_from, both_ways, cases_Bool, cond-false, cond-true, eqb-true, false_from_ne_true, or_cases, or_left, or_right}
use Rattle.std.specs.Prelude.{is_none}
use Rattle.std.specs.List.{AllByRecursion}
use Rattle.kv_types.specs.declared.change.Change.{Change}
use Rattle.kv_types.specs.declared.change.Change.TheVariants as change
use Rattle.kv_types.specs.declared.record_id.RecordId.{RecordId}
use Rattle.kv_types.specs.declared.record_id.RecordId.TheVariants.{Str, Field}
use Rattle.kv_types.specs.Keyspace.{field_of, key_of}
use Rattle.kv_types.proofs.LookUpLemmas.{is_same, is_same_key}
use Rattle.kv_types.proofs.OrderLemmas.{key_itself, record_itself, same_record}
use Rattle.model.specs.declared.group.PlacedChange.TheVariants as placed
use Rattle.model.specs.declared.group.Put.{Put}
use Rattle.model.specs.Group.{AreAllApart, IsApartFrom, Versions, change_versions, changes_versions, ended_where_begun, ends_record, version_of_put, with_puts}
use Rattle.model.specs.Image.{Version}
use Rattle.model.specs.ReadImage.{is_clash}
use Rattle.wbl_engine.specs.Copying.{AreAllDistinct, IsFresh}

-- ---- a put that clashes with no record ends none

clash_itself : (key field : List ℕ) → is_clash (Field key field) (Field key field) ≡ true
clash_itself key field =
    and_from (is_same_key key key) (is_same (Field key field) (Field key field) || false || false) (key_itself key)
    (or-false (is_same (Field key field) (Field key field) || false) ∙ or-false (is_same (Field key field) (Field key field))
    ∙ record_itself (Field key field))

clash_string : (key field : List ℕ) → is_clash (Str key) (Field key field) ≡ true
clash_string key field =
    and_from (is_same_key key key) (is_same (Str key) (Field key field) || true || false) (key_itself key)
    (or_left (is_same (Str key) (Field key field) || true) false (or_right (is_same (Str key) (Field key field)) true refl))

spared : (id other : RecordId) (value : List ℕ) → is_clash other id ≡ false → ends_record (change.Put id value) other ≡ false
spared (Str key) other value none =
    false_from_ne_true (is_same_key (key_of other) key)
    (λ same.
    both_ways (is_clash other (Str key)) none
    (and_from (is_same_key (key_of other) key) (is_same other (Str key) || is_none (field_of other) || true) same
    (or_right (is_same other (Str key) || is_none (field_of other)) true refl)))
spared (Field key field) other value none =
    false_from_ne_true (is_same other (Field key field) || is_same other (Str key))
    (λ ends.
    ⊎_elim
    (λ (same : IsTrue (is_same other (Field key field))).
    both_ways (is_clash other (Field key field)) none
    (subst (λ (q : RecordId). is_clash q (Field key field) ≡ true) (sym (same_record other (Field key field) same)) (clash_itself key field)))
    (λ (same : IsTrue (is_same other (Str key))).
    both_ways (is_clash other (Field key field)) none
    (subst (λ (q : RecordId). is_clash q (Field key field) ≡ true) (sym (same_record other (Str key) same)) (clash_string key field)))
    (or_cases (is_same other (Field key field)) (is_same other (Str key)) ends))

kept : (change : Change) (held : Option Version) → ((version : Version) → held ≡ Some version → ends_record change version.id ≡ false)
    → ended_where_begun change held ≡ held
kept change None left = refl
kept change (Some version) left =
    ap (λ (is_ended : Bool). Some (record version { is_ended = is_ended }))
    (ap (λ (ends : Bool). version.is_ended || ends) (left version refl) ∙ or-false version.is_ended)

-- ---- several

cond_swap : (a b : Bool) (x y z : Option Version) → (IsTrue a → IsTrue b → ⊥) → cond b y (cond a x z) ≡ cond a x (cond b y z)
cond_swap true true x y z apart = absurd (apart refl refl)
cond_swap true false x y z apart = refl
cond_swap false b x y z apart = refl

-- a put may come first or last
over : (position : ℕ) (put : Put) (puts : List Put) (versions : Versions) → AllByRecursion (IsApartFrom put) puts → (i : ℕ)
    → with_puts position puts (with_puts position (put ∷ []) versions) i ≡ with_puts position (put ∷ puts) versions i
over position put [] versions apart i = refl
over position put (other ∷ puts) versions apart i =
    ap (λ (held : Option Version). cond (nat_eq i other.entry.0) (Some (version_of_put position other)) held) (over position put puts versions apart.1 i)
    ∙ cond_swap (nat_eq i put.entry.0) (nat_eq i other.entry.0) (Some (version_of_put position put)) (Some (version_of_put position other)) (with_puts position puts versions i)
    (λ here there. apart.0.entries (sym (eqb-true i put.entry.0 here) ∙ eqb-true i other.entry.0 there))

fresh_beside : (position : ℕ) (put : Put) (puts : List Put) (versions : Versions) → AllByRecursion (IsFresh versions) puts
    → AllByRecursion (λ (other : Put). is_clash put.id other.id ≡ false) puts → AllByRecursion (IsFresh (with_puts position (put ∷ []) versions)) puts
fresh_beside position put [] versions fresh distinct = tt
fresh_beside position put (next ∷ puts) versions fresh distinct = (
  λ i version is. elim (cases_Bool (nat_eq i put.entry.0)) [
    | inl here ↦
        let both : Some version ≡ Some (version_of_put position put) = sym is ∙ cond-true (nat_eq i put.entry.0) (Some (version_of_put position put)) (versions i) here in
        let same : version ≡ version_of_put position put = cc in
        subst (λ (v : Version). is_clash v.id next.id ≡ false) (sym same) distinct.0
    | inr other ↦ fresh.0 i version (sym (cond-false (nat_eq i put.entry.0) (Some (version_of_put position put)) (versions i) other) ∙ is)
  ],
  fresh_beside position put puts versions fresh.1 distinct.1,
)

same_versions : (a b : Versions) → ((j : ℕ) → a j ≡ b j) → a ≡ b
same_versions a b same = λ p j. same j p

-- they do to the versions what staging them does
pub puts_alone : (position : ℕ) (versions : Versions) (puts : List Put) → AllByRecursion (IsFresh versions) puts → AreAllDistinct puts → AreAllApart puts → (i : ℕ)
    → changes_versions position versions (map placed.Put puts) i ≡ with_puts position puts versions i
puts_alone position versions [] fresh distinct apart i = refl
puts_alone position versions (put ∷ puts) fresh distinct apart i =
    let first : change_versions position versions (placed.Put put) ≡ with_puts position (put ∷ []) versions =
    ap (λ (vs : Versions). with_puts position (put ∷ []) vs) (same_versions (λ j. ended_where_begun (change.Put put.id put.value) (versions j)) versions
    (λ j. kept (change.Put put.id put.value) (versions j) (λ version is. spared put.id version.id put.value (fresh.0 j version is)))) in
    ap (λ (made : Versions). changes_versions position made (map placed.Put puts) i) first
    ∙ puts_alone position (with_puts position (put ∷ []) versions) puts (fresh_beside position put puts versions fresh.1 distinct.0) distinct.1 apart.1 i
    ∙ over position put puts versions apart.0 i
