-- A record is in a keyspace exactly when the look-up finds it.
use Rattle.std.proofs.Common.{◌≡◌, ℕ, zero, suc, ◌<◌, List, [], ◌∷◌, length, get_or, Bool, true, false, IsTrue, cond, Some, None, Ordering, Contains, refl, sym, ap, ap₂, ◌∙◌, is_eq, is_lt, arith}
use Rattle.std.proofs.lemmas.Bool.{and_parts}
use Rattle.std.specs.FinMap.Entries.{is_sorted, below_all}
use Rattle.kv_types.specs.declared.record_id.RecordId.{RecordId}
use Rattle.kv_types.specs.Keyspace.{Keyspace, record_cmp, value_at}
use Rattle.kv_types.proofs.OrderLemmas.{same_record, record_itself}
use Rattle.kv_types.proofs.LookUpLemmas.{is_same}

is_lt-no_eq : (o : Ordering) → is_lt o ≡ true → is_eq o ≡ false
is_lt-no_eq o e = grind arith

pub value_at-below_all : (id : RecordId) (s : Keyspace) → IsTrue (below_all record_cmp id s) → value_at s id ≡ None
value_at-below_all id [] h = refl
value_at-below_all id (e ∷ s) h =
    let parts = and_parts (is_lt (record_cmp id e.0)) (below_all record_cmp id s) h in
    ap (λ b. cond b (Some e.1) (value_at s id)) (is_lt-no_eq (record_cmp id e.0) parts.0) ∙ value_at-below_all id s parts.1

-- the look-up finds the record at an index of a sorted list
pub found_at : (s : Keyspace) (id : RecordId) (value : List ℕ) (k : ℕ) → IsTrue (is_sorted record_cmp s) → k < length s → get_or s k (id, value) ≡ (id, value) → value_at s id ≡ Some value
found_at [] id value k h lt e = absurd (omega arith)
found_at (x ∷ s) id value zero h lt e = ap₂ (λ (b : Bool) (v : List ℕ). cond b (Some v) (value_at s id)) (ap (λ (y : RecordId × List ℕ). is_same id y.0) e ∙ record_itself id) (ap (λ (y : RecordId × List ℕ). y.1) e)
found_at (x ∷ s) id value (suc k) h lt e =
    let parts = and_parts (below_all record_cmp x.0 s) (is_sorted record_cmp s) h in
    let later : value_at s id ≡ Some value = found_at s id value k parts.1 (omega arith) e in
    elim (is_same id x.0) as (λ b. is_same id x.0 ≡ b → cond b (Some x.1) (value_at s id) ≡ Some value) [
      | true ↦ λ t. let missed : value_at s id ≡ None = ap (value_at s) (same_record id x.0 t) ∙ value_at-below_all x.0 s parts.0 in cc
      | false ↦ λ t. later
    ] refl

pub member-from_found : (s : Keyspace) (id : RecordId) (value : List ℕ) → value_at s id ≡ Some value → Contains s (id, value)
member-from_found [] id value e = cc
member-from_found (x ∷ s) id value e =
    elim (is_same id x.0) as (λ b. is_same id x.0 ≡ b → cond b (Some x.1) (value_at s id) ≡ Some value → Contains (x ∷ s) (id, value)) [
      | true ↦ λ t is. let key : id ≡ x.0 = same_record id x.0 t in let same : x.1 ≡ value = cc in (0, omega arith, λ i. (sym key i, same i))
      | false ↦ λ t is. let m = member-from_found s id value is in (suc m.0, omega (arith, m.1), m.2)
    ] refl e
