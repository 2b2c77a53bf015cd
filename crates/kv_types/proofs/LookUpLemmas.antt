-- What a look-up finds after a record was put or removed, and after each change.
use Rattle.std.proofs.Common.{◌≡◌, ◌≢◌, ℕ, List, Bool, true, false, cond, not, Some, None, nat_eq, refl, sym, ap, ◌∙◌, arith}
use Rattle.std.proofs.lemmas.Bool.{false_from_ne_true}
use Rattle.std.specs.Cmp.Lexicographic.{pointwise}
use Rattle.std.specs.FinMap.Entries.{find-put, find-where_key}
use Rattle.std.specs.Ordering.{eq_by_cmp}
use Rattle.kv_types.specs.declared.record_id.RecordId.{RecordId}
use Rattle.kv_types.specs.declared.record_id.RecordId.TheVariants.{Str, Field}
use Rattle.kv_types.specs.declared.change.Change.{Change}
use Rattle.kv_types.specs.declared.change.Change.TheVariants.{Put, Drop, DropKey, Clear}
use Rattle.kv_types.specs.Keyspace.{Keyspace, key_of, record_cmp, value_at, with_record, without_record, without_key, play}
use Rattle.kv_types.specs.LookUp.{IsLookedUpAfter}
use Rattle.kv_types.specs.Order.{record_cmp_total}
use Rattle.kv_types.proofs.OrderLemmas.{record_cmp_equal, same_record, record_itself, same_key, key_itself, field_is_no_string, string_is_no_field}

-- whether two records are the same, and whether two keys are the same
abbrev pub is_same : RecordId → RecordId → Bool
is_same = eq_by_cmp record_cmp

abbrev pub is_same_key : List ℕ → List ℕ → Bool
is_same_key = pointwise nat_eq

cond_not : {A : Type 0} (b : Bool) (x y : A) → cond (not b) x y ≡ cond b y x
cond_not b x y = grind arith

pub value_at-with_record : (s : Keyspace) (id : RecordId) (value : List ℕ) (q : RecordId) → value_at (with_record id value s) q ≡ cond (is_same q id) (Some value) (value_at s q)
value_at-with_record s id value q = find-put record_cmp record_cmp_total q id value s

pub value_at-without_record : (s : Keyspace) (id q : RecordId) → value_at (without_record id s) q ≡ cond (is_same q id) None (value_at s q)
value_at-without_record s id q =
    find-where_key record_cmp (λ other. not (is_same other id)) q (λ x e. ap (λ y. not (is_same y id)) (sym (record_cmp_equal q x e))) s
    ∙ cond_not (is_same q id) (value_at s q) None

pub value_at-without_key : (s : Keyspace) (key : List ℕ) (q : RecordId) → value_at (without_key key s) q ≡ cond (is_same_key (key_of q) key) None (value_at s q)
value_at-without_key s key q =
    find-where_key record_cmp (λ other. not (is_same_key (key_of other) key)) q (λ x e. ap (λ y. not (is_same_key (key_of y) key)) (sym (record_cmp_equal q x e))) s
    ∙ cond_not (is_same_key (key_of q) key) (value_at s q) None

-- after each change, by tests
pub value_at-put_string : (s : Keyspace) (key value : List ℕ) (q : RecordId) → value_at (play s (Put (Str key) value)) q ≡ cond (is_same q (Str key)) (Some value) (cond (is_same_key (key_of q) key) None (value_at s q))
value_at-put_string s key value q = value_at-with_record (without_key key s) (Str key) value q ∙ ap (cond (is_same q (Str key)) (Some value)) (value_at-without_key s key q)

pub value_at-put_field : (s : Keyspace) (key field value : List ℕ) (q : RecordId) → value_at (play s (Put (Field key field) value)) q ≡ cond (is_same q (Field key field)) (Some value) (cond (is_same q (Str key)) None (value_at s q))
value_at-put_field s key field value q = value_at-with_record (without_record (Str key) s) (Field key field) value q ∙ ap (cond (is_same q (Field key field)) (Some value)) (value_at-without_record s (Str key) q)

-- the outcomes of the tests
pub is_other : (x y : RecordId) → x ≢ y → is_same x y ≡ false
is_other x y differ = false_from_ne_true (is_same x y) (λ e. differ (same_record x y e))

pub is_other_key : (xs ys : List ℕ) → xs ≢ ys → is_same_key xs ys ≡ false
is_other_key xs ys differ = false_from_ne_true (is_same_key xs ys) (λ e. differ (same_key xs ys e))

pub is_same_at : (x y : RecordId) → x ≡ y → is_same x y ≡ true
is_same_at x y e = ap (is_same x) (sym e) ∙ record_itself x

pub is_same_key_at : (xs ys : List ℕ) → xs ≡ ys → is_same_key xs ys ≡ true
is_same_key_at xs ys e = ap (is_same_key xs) (sym e) ∙ key_itself xs

-- after each change, in words
pub looked_up-play : (s : Keyspace) (change : Change) → IsLookedUpAfter change s (play s change)
looked_up-play s (Put (Str key) value) = record {
  there = simp (value_at-put_string, record_itself);
  no_fields = λ field. simp (value_at-put_string, field_is_no_string, key_itself);
  others = λ id differ. simp (value_at-put_string, is_other id (Str key) (λ e. differ (ap key_of e)), is_other_key (key_of id) key differ);
}
looked_up-play s (Put (Field key field) value) = record {
  there = simp (value_at-put_field, record_itself);
  no_string = simp (value_at-put_field, string_is_no_field, record_itself);
  others = λ id differ. simp (value_at-put_field, is_other id (Field key field) differ.0, is_other id (Str key) differ.1);
}
looked_up-play s (Drop id) = record { gone = simp (value_at-without_record, record_itself); others = λ other differ. simp (value_at-without_record, is_other other id differ) }
looked_up-play s (DropKey key) = record {
  gone = λ id e. simp (value_at-without_key, is_same_key_at (key_of id) key e);
  others = λ id differ. simp (value_at-without_key, is_other_key (key_of id) key differ);
}
looked_up-play s Clear = λ id. refl
