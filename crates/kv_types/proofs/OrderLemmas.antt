-- The order of records tells any two of them apart, and so do the tests of keys.
use Rattle.std.proofs.Common.{◌≡◌, ℕ, List, true, false, Ordering, Less, Equal, Greater, nat_eq, refl, ap, ◌∙◌, is_eq, arith}
use Rattle.std.specs.Cmp.{tied_itself}
use Rattle.std.specs.Cmp.Lexicographic.{pointwise, bytes_decides, texts_ties}
use Rattle.std.specs.FinMap.{nat_cmp-IsAntisymmetric, slice_cmp-IsAntisymmetric}
use Rattle.std.specs.Ordering.{ordering_then, eq_by_cmp}
use Rattle.kv_types.specs.declared.record_id.RecordId.{RecordId}
use Rattle.kv_types.specs.declared.record_id.RecordId.TheVariants.{Str, Field}
use Rattle.kv_types.specs.Keyspace.{bytes_cmp, record_cmp}
use Rattle.kv_types.specs.Order.{record_cmp_total}

both_equal : (o p : Ordering) → ordering_then o p ≡ Equal → (o ≡ Equal) × (p ≡ Equal)
both_equal o p e = grind arith

pub bytes_cmp_equal : (xs ys : List ℕ) → bytes_cmp xs ys ≡ Equal → xs ≡ ys
bytes_cmp_equal = slice_cmp-IsAntisymmetric nat_cmp-IsAntisymmetric

-- records that the order does not tell apart are equal
pub record_cmp_equal : (x y : RecordId) → record_cmp x y ≡ Equal → x ≡ y
record_cmp_equal (Str a) (Str b) e = ap Str (bytes_cmp_equal a b (both_equal (bytes_cmp a b) Equal e).0)
record_cmp_equal (Str a) (Field b g) e = let p = (both_equal (bytes_cmp a b) Less e).1 in cc
record_cmp_equal (Field a f) (Str b) e = let p = (both_equal (bytes_cmp a b) Greater e).1 in cc
record_cmp_equal (Field a f) (Field b g) e =
    let parts = both_equal (bytes_cmp a b) (bytes_cmp f g) e in
    λ i. Field (bytes_cmp_equal a b parts.0 i) (bytes_cmp_equal f g parts.1 i)

is_eq_Equal : (o : Ordering) → is_eq o ≡ true → o ≡ Equal
is_eq_Equal o e = grind arith

-- the test by the order tests whether two records are equal
pub same_record : (x y : RecordId) → eq_by_cmp record_cmp x y ≡ true → x ≡ y
same_record x y e = record_cmp_equal x y (is_eq_Equal (record_cmp x y) e)

pub record_itself : (x : RecordId) → eq_by_cmp record_cmp x x ≡ true
record_itself x = ap is_eq (tied_itself record_cmp_total x)

-- the test of keys tests whether two keys are equal
pub same_key : (xs ys : List ℕ) → pointwise nat_eq xs ys ≡ true → xs ≡ ys
same_key xs ys e = (bytes_decides xs ys).0 e

pub key_itself : (xs : List ℕ) → pointwise nat_eq xs xs ≡ true
key_itself xs = (bytes_decides xs xs).1 refl

is_eq-then : (o : Ordering) → (is_eq o ≡ is_eq (ordering_then o Equal)) × (is_eq (ordering_then o Greater) ≡ false) × (is_eq (ordering_then o Less) ≡ false)
is_eq-then Less = (refl, refl, refl)
is_eq-then Equal = (refl, refl, refl)
is_eq-then Greater = (refl, refl, refl)

pub same_strings : (a b : List ℕ) → pointwise nat_eq a b ≡ eq_by_cmp record_cmp (Str a) (Str b)
same_strings a b = texts_ties a b ∙ (is_eq-then (bytes_cmp a b)).0

pub field_is_no_string : (a f b : List ℕ) → eq_by_cmp record_cmp (Field a f) (Str b) ≡ false
field_is_no_string a f b = (is_eq-then (bytes_cmp a b)).1

pub string_is_no_field : (a b f : List ℕ) → eq_by_cmp record_cmp (Str a) (Field b f) ≡ false
string_is_no_field a b f = (is_eq-then (bytes_cmp a b)).2
