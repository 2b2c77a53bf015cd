-- Lists of records in order: where a test of a record cuts one in two, and what is read at such a cut.
use Rattle.std.proofs.Common.{◌≡◌, ℕ, zero, suc, ◌+◌, ◌-◌, ◌<◌, ◌≤◌, Bool, true, false, cond, not, ◌&&◌, ◌||◌, IsTrue, List, [], ◌∷◌, ◌++◌, map, length, take, drop, get_or, Option, Some, None, refl, sym, ap, ap₂, ◌∙◌, arith}
use Rattle.std.proofs.lemmas.Bool.{and_parts}
use Rattle.std.specs.Prelude.{is_some, slice_range}
use Rattle.std.specs.List.{filter, remove_range}
use Rattle.std.specs.List.Sorted.{IsPartitionedBy}
use Rattle.std.specs.Cmp.{IsTotalOrder}
use Rattle.std.specs.Cmp.Lexicographic.{texts_ties, nat_list_cmp_total}
use Rattle.std.specs.FinMap.Entries.{is_sorted, below_all}
use Rattle.std.specs.Ordering.{is_eq, is_lt, is_le, ordering_then, ordering_reverse}
use Rattle.std.specs.declared.cmp.Ordering.{Ordering}
use Rattle.std.specs.declared.cmp.Ordering.TheVariants.{Less, Equal, Greater}
use Rattle.kv_types.specs.declared.record_id.RecordId.{RecordId}
use Rattle.kv_types.specs.declared.record_id.RecordId.TheVariants.{Str, Field}
use Rattle.kv_types.specs.Keyspace.{Keyspace, key_of, bytes_cmp, record_cmp, value_at}
use Rattle.kv_types.specs.Order.{record_cmp_total}
use Rattle.kv_types.proofs.OrderLemmas.{bytes_cmp_equal, record_cmp_equal, key_itself}
use Rattle.kv_types.proofs.LookUpLemmas.{is_same, is_other}
use Rattle.kv_types.proofs.MemberLemmas.{value_at-below_all}
use Rattle.cmd_core.specs.Contents.{same_bytes, has_key, fields_of}
use Rattle.cmd_core.specs.Record.{field_at, next_has_key, first_value, comes_before, is_up_to, has_key_up_to, SplitsAt}
use Rattle.cmd_core.proofs.RecordsLemmas.{has_none, has_more, fields_none, fields_more, with_field, no_later}

-- ---- tests that hold of the earlier records where they hold of a later one

abbrev pub IsOfEarlier : (RecordId → Bool) → Type 0
IsOfEarlier p = (x y : RecordId) → is_lt (record_cmp x y) ≡ true → p y ≡ true → p x ≡ true

lt_Less : (o : Ordering) → is_lt o ≡ true → o ≡ Less
lt_Less o e = grind arith

pub earlier-comes_before : (id : RecordId) → IsOfEarlier (comes_before id)
earlier-comes_before id x y lt before = ap is_lt (record_cmp_total.trans x y id (lt_Less _ lt) (lt_Less _ before))

lt_le : (o : Ordering) → is_lt o ≡ true → is_le o ≡ true
lt_le o e = grind arith

le_trans : {X : Type 0} (cmp : X → X → Ordering) → IsTotalOrder cmp → ((x y : X) → cmp x y ≡ Equal → x ≡ y) → (x y z : X) → is_le (cmp x y) ≡ true → is_le (cmp y z) ≡ true → is_le (cmp x z) ≡ true
le_trans cmp total same x y z h g = grind (arith, total.trans x y z, same x y, same y z)

pub earlier-is_up_to : (id : RecordId) → IsOfEarlier (is_up_to id)
earlier-is_up_to id x y lt up = le_trans record_cmp record_cmp_total record_cmp_equal x y id (lt_le _ lt) up

first_le : (o p : Ordering) → is_lt (ordering_then o p) ≡ true → is_le o ≡ true
first_le o p e = grind arith

pub earlier-has_key_up_to : (key : List ℕ) → IsOfEarlier (has_key_up_to key)
earlier-has_key_up_to key x y lt up = le_trans bytes_cmp nat_list_cmp_total bytes_cmp_equal (key_of x) (key_of y) key (first_le _ _ lt) up

-- ---- tests of which one holds wherever the other does

then_le : (o p : Ordering) → is_le (ordering_then o p) ≡ true → is_le o ≡ true
then_le o p e = grind arith

pub key-is_up_to : (key : List ℕ) (id : RecordId) → is_up_to (Str key) id ≡ true → has_key_up_to key id ≡ true
key-is_up_to key id up = then_le (bytes_cmp (key_of id) key) _ up

pub key-comes_before : (key : List ℕ) (id : RecordId) → comes_before (Str key) id ≡ true → has_key_up_to key id ≡ true
key-comes_before key id before = first_le (bytes_cmp (key_of id) key) _ before

-- what the tests of an order with an end say of its first part
record Ends (o : Ordering) : Type 0 where
  string_le : false ≡ (is_le o && not (is_le (ordering_then o Equal)))
  field_le : is_eq o ≡ (is_le o && not (is_le (ordering_then o Greater)))
  string_lt : is_eq o ≡ (is_le o && not (is_lt (ordering_then o Equal)))
  field_lt : is_eq o ≡ (is_le o && not (is_lt (ordering_then o Greater)))
  itself_lt : is_eq o ≡ (is_le o && not (is_lt o))

ends : (o : Ordering) → Ends o
ends Less = assumption
ends Equal = assumption
ends Greater = assumption

is_some-cond : (b : Bool) (field : List ℕ) → is_some (cond b (Some field) None) ≡ b
is_some-cond b field = grind arith

-- a field of the key comes behind the string of the key, and is of no later key
pub field_between : (key : List ℕ) (id : RecordId) → is_some (field_at id key) ≡ (has_key_up_to key id && not (is_up_to (Str key) id))
field_between key (Str own) = (ends (bytes_cmp own key)).string_le
field_between key (Field own field) = is_some-cond (same_bytes own key) field ∙ texts_ties own key ∙ (ends (bytes_cmp own key)).field_le

-- a record of the key comes not before its string, and is of no later key
pub key_between : (key : List ℕ) (id : RecordId) → same_bytes (key_of id) key ≡ (has_key_up_to key id && not (comes_before (Str key) id))
key_between key (Str own) = texts_ties own key ∙ (ends (bytes_cmp own key)).string_lt
key_between key (Field own field) = texts_ties own key ∙ (ends (bytes_cmp own key)).field_lt

pub record-is_up_to : (id other : RecordId) → comes_before id other ≡ true → is_up_to id other ≡ true
record-is_up_to id other before = ap is_le (lt_Less _ before)

-- a record is this one where it is up to it and does not come before it
pub record_between : (id other : RecordId) → is_same other id ≡ (is_up_to id other && not (comes_before id other))
record_between id other = (ends (record_cmp other id)).itself_lt

-- ---- cuts of any list

module _ {A : Type 0} (p : A → Bool) where
  pub splits-rest : (x : A) (xs : List A) (n : ℕ) → SplitsAt p (x ∷ xs) (suc n) → SplitsAt p xs n
  splits-rest x xs n h = (omega (arith, h.0), (λ k d le lt. h.1.0 (suc k) d (omega arith) (omega arith), λ k d le lt. h.1.1 (suc k) d (omega arith) (omega arith)))

  pub splits-first : (x : A) (xs : List A) (n : ℕ) → SplitsAt p (x ∷ xs) (suc n) → p x ≡ true
  splits-first x xs n h = h.1.0 0 x (omega arith) (omega arith)

  pub splits-none : (x : A) (xs : List A) → SplitsAt p (x ∷ xs) 0 → p x ≡ false
  splits-none x xs h = h.1.1 0 x (omega arith) (omega arith)

  pub splits-later : (x : A) (xs : List A) → SplitsAt p (x ∷ xs) 0 → SplitsAt p xs 0
  splits-later x xs h = (omega arith, (λ k d le lt. absurd (omega arith), λ k d le lt. h.1.1 (suc k) d (omega arith) (omega arith)))

take_none : {A : Type 0} (n : ℕ) → take {A = A} n [] ≡ []
take_none zero = refl
take_none (suc n) = refl

drop_none : {A : Type 0} (n : ℕ) → drop {A = A} n [] ≡ []
drop_none zero = refl
drop_none (suc n) = refl

-- what lies between two cuts passes the later test and not the earlier one
module _ {A : Type 0} (p q : A → Bool) (both : (x : A) → p x ≡ true → q x ≡ true) where
  abbrev pub lies_between : A → Bool
  lies_between x = q x && not (p x)

  no_earlier : (x : A) → p x ≡ true → q x ≡ false → ⊥
  no_earlier x e f = let g = both x e in let h : true ≡ false = sym g ∙ f in cc

  pub cuts-rise : (xs : List A) (i j : ℕ) → SplitsAt p xs i → SplitsAt q xs j → i ≤ j
  cuts-rise [] i j h g = omega (arith, h.0)
  cuts-rise (x ∷ xs) zero j h g = omega arith
  cuts-rise (x ∷ xs) (suc i) zero h g = absurd (no_earlier x (splits-first p x xs i h) (splits-none q x xs g))
  cuts-rise (x ∷ xs) (suc i) (suc j) h g = let less = cuts-rise xs i j (splits-rest p x xs i h) (splits-rest q x xs j g) in omega arith

  run : (xs : List A) (i k j : ℕ) → i + k ≡ j → SplitsAt p xs i → SplitsAt q xs j → take k (drop i xs) ≡ filter lies_between xs
  run [] i k j e h g = ap (take k) (drop_none i) ∙ take_none k
  run (x ∷ xs) (suc i) k zero e h g = absurd (omega arith)
  run (x ∷ xs) (suc i) k (suc j) e h g =
      let first = splits-first p x xs i h in
      rw (first, both x first) (run xs i k j (omega arith) (splits-rest p x xs i h) (splits-rest q x xs j g))
  run (x ∷ xs) zero zero zero e h g = rw (splits-none q x xs g) (run xs zero zero zero refl (splits-later p x xs h) (splits-later q x xs g))
  run (x ∷ xs) zero zero (suc j) e h g = absurd (omega arith)
  run (x ∷ xs) zero (suc k) zero e h g = absurd (omega arith)
  run (x ∷ xs) zero (suc k) (suc j) e h g =
      rw (splits-none p x xs h, splits-first q x xs j g) (ap (λ rest. x ∷ rest) (run xs zero k j (omega arith) (splits-later p x xs h) (splits-rest q x xs j g)))

  pub range-between : (xs : List A) (i j : ℕ) → SplitsAt p xs i → SplitsAt q xs j → slice_range xs i j ≡ filter lies_between xs
  range-between xs i j h g = let rise = cuts-rise xs i j h g in run xs i (j - i) j (omega arith) h g

  -- and the others are left when it is taken out
  pub left-between : (xs : List A) (i j : ℕ) → SplitsAt p xs i → SplitsAt q xs j → remove_range xs i j ≡ filter (λ x. not (lies_between x)) xs
  left-between [] i j h g = ap₂ (λ a b. a ++ b) (take_none i) (drop_none j)
  left-between (x ∷ xs) (suc i) zero h g = absurd (no_earlier x (splits-first p x xs i h) (splits-none q x xs g))
  left-between (x ∷ xs) (suc i) (suc j) h g =
      let first = splits-first p x xs i h in
      rw (first, both x first) (ap (λ rest. x ∷ rest) (left-between xs i j (splits-rest p x xs i h) (splits-rest q x xs j g)))
  left-between (x ∷ xs) zero zero h g =
      rw (splits-none q x xs g) (ap (λ rest. x ∷ rest) (left-between xs zero zero (splits-later p x xs h) (splits-later q x xs g)))
  left-between (x ∷ xs) zero (suc j) h g =
      rw (splits-none p x xs h, splits-first q x xs j g) (left-between xs zero j (splits-later p x xs h) (splits-rest q x xs j g))

not_before : (o p : Ordering) → o ≡ ordering_reverse p → is_lt p ≡ false → is_eq o ≡ false → is_lt o ≡ true
not_before o p e f g = grind arith

-- a record that does not come before this one and is another comes after it
pub comes_after : (id other : RecordId) → comes_before id other ≡ false → is_same id other ≡ false → is_lt (record_cmp id other) ≡ true
comes_after id other not_first another = not_before (record_cmp id other) (record_cmp other id) (record_cmp_total.antisymm id other) not_first another

-- the records that are fields of the key
abbrev pub is_field_of : List ℕ → RecordId → Bool
is_field_of key id = is_some (field_at id key)

module _ {A : Type 0} (kept : A → RecordId × List ℕ) where
  abbrev pub InOrder : List A → Type 0
  InOrder xs = IsTrue (is_sorted record_cmp (map kept xs))

  below_first : (x : A) (xs : List A) → InOrder (x ∷ xs) → IsTrue (below_all record_cmp (kept x).0 (map kept xs))
  below_first x xs order = (and_parts (below_all record_cmp (kept x).0 (map kept xs)) (is_sorted record_cmp (map kept xs)) order).0

  order_later : (x : A) (xs : List A) → InOrder (x ∷ xs) → InOrder xs
  order_later x xs order = (and_parts (below_all record_cmp (kept x).0 (map kept xs)) (is_sorted record_cmp (map kept xs)) order).1

  below_at : (id : RecordId) (xs : List A) (j : ℕ) (d : A) → IsTrue (below_all record_cmp id (map kept xs)) → j < length xs → is_lt (record_cmp id (kept (get_or xs j d)).0) ≡ true
  below_at id [] j d below lt = absurd (omega arith)
  below_at id (x ∷ xs) zero d below lt = (and_parts (is_lt (record_cmp id (kept x).0)) (below_all record_cmp id (map kept xs)) below).0
  below_at id (x ∷ xs) (suc j) d below lt = below_at id xs j d (and_parts (is_lt (record_cmp id (kept x).0)) (below_all record_cmp id (map kept xs)) below).1 (omega arith)

  -- a list in order is cut in two by a test that holds of the earlier records where it holds of a later one
  pub parted : (p : RecordId → Bool) → IsOfEarlier p → (xs : List A) → InOrder xs → IsPartitionedBy (λ x. p (kept x).0) xs
  parted p earlier [] order i j d le lt passes = absurd (omega arith)
  parted p earlier (x ∷ xs) order zero zero d le lt passes = passes
  parted p earlier (x ∷ xs) order zero (suc j) d le lt passes = earlier (kept x).0 (kept (get_or xs j d)).0 (below_at (kept x).0 xs j d (below_first x xs order) (omega arith)) passes
  parted p earlier (x ∷ xs) order (suc i) zero d le lt passes = absurd (omega arith)
  parted p earlier (x ∷ xs) order (suc i) (suc j) d le lt passes = parted p earlier xs (order_later x xs order) i j d (omega arith) (omega arith) passes

  -- ---- what is read at a cut

  below_further : (id other : RecordId) (s : Keyspace) → is_lt (record_cmp id other) ≡ true → IsTrue (below_all record_cmp other s) → IsTrue (below_all record_cmp id s)
  below_further id other [] lt below = refl
  below_further id other (e ∷ s) lt below =
      let parts = and_parts (is_lt (record_cmp other e.0)) (below_all record_cmp other s) below in
      let first : is_lt (record_cmp id e.0) ≡ true = ap is_lt (record_cmp_total.trans id other e.0 (lt_Less _ lt) (lt_Less _ parts.0)) in
      ap (λ b. b && below_all record_cmp id s) first ∙ below_further id other s lt parts.1

  lt_no_eq : (o p : Ordering) → o ≡ ordering_reverse p → is_lt p ≡ true → is_eq o ≡ false
  lt_no_eq o p e f = grind arith

  pub value-at_cut : (id : RecordId) (xs : List A) (n : ℕ) → InOrder xs → SplitsAt (λ x. comes_before id (kept x).0) xs n → value_at (map kept xs) id ≡ first_value (map kept (drop n xs)) id
  value-at_cut id [] n order cut = ap (λ rest. first_value (map kept rest) id) (sym (drop_none n))
  value-at_cut id (x ∷ xs) zero order cut =
      elim (is_same id (kept x).0) as (λ b. is_same id (kept x).0 ≡ b → cond b (Some (kept x).1) (value_at (map kept xs) id) ≡ cond b (Some (kept x).1) None) [
        | true ↦ λ e. refl
        | false ↦ λ e.
            value_at-below_all id (map kept xs)
            (below_further id (kept x).0 (map kept xs) (comes_after id (kept x).0 (splits-none (λ y. comes_before id (kept y).0) x xs cut) e) (below_first x xs order))
      ] refl
  value-at_cut id (x ∷ xs) (suc n) order cut =
      ap (λ b. cond b (Some (kept x).1) (value_at (map kept xs) id))
      (lt_no_eq (record_cmp id (kept x).0) (record_cmp (kept x).0 id) (record_cmp_total.antisymm id (kept x).0) (splits-first (λ y. comes_before id (kept y).0) x xs n cut))
      ∙ value-at_cut id xs n (order_later x xs order) (splits-rest (λ y. comes_before id (kept y).0) x xs n cut)

  and_false : (b : Bool) → (b && false) ≡ false
  and_false b = grind arith

  other_key : (key : List ℕ) (id : RecordId) → comes_before (Str key) id ≡ true → same_bytes (key_of id) key ≡ false
  other_key key id before = key_between key id ∙ ap (λ b. has_key_up_to key id && not b) before ∙ and_false (has_key_up_to key id)

  string_of_other : (key : List ℕ) (id : RecordId) → same_bytes (key_of id) key ≡ false → is_same (Str key) id ≡ false
  string_of_other key id other = is_other (Str key) id (λ e. let same : same_bytes (key_of id) key ≡ true = ap (λ z. same_bytes (key_of z) key) (sym e) ∙ key_itself key in let both : true ≡ false = sym same ∙ other in cc)

  pub has-at_cut : (key : List ℕ) (xs : List A) (n : ℕ) → InOrder xs → SplitsAt (λ x. comes_before (Str key) (kept x).0) xs n → has_key (map kept xs) key ≡ next_has_key (map kept (drop n xs)) key
  has-at_cut key [] n order cut = has_none key ∙ ap (λ rest. next_has_key (map kept rest) key) (sym (drop_none n))
  has-at_cut key (x ∷ xs) zero order cut =
      has_more (kept x) (map kept xs) key
      ∙ elim (same_bytes (key_of (kept x).0) key) as (λ b. same_bytes (key_of (kept x).0) key ≡ b → (b || has_key (map kept xs) key) ≡ b) [
        | true ↦ λ e. refl
        | false ↦ λ e.
            no_later (Str key) (kept x).0 (map kept xs)
            (comes_after (Str key) (kept x).0 (splits-none (λ y. comes_before (Str key) (kept y).0) x xs cut) (string_of_other key (kept x).0 e))
            (below_first x xs order) e
      ] refl
  has-at_cut key (x ∷ xs) (suc n) order cut =
      has_more (kept x) (map kept xs) key
      ∙ ap (λ b. b || has_key (map kept xs) key) (other_key key (kept x).0 (splits-first (λ y. comes_before (Str key) (kept y).0) x xs n cut))
      ∙ has-at_cut key xs n (order_later x xs order) (splits-rest (λ y. comes_before (Str key) (kept y).0) x xs n cut)

  -- ---- the fields of a key are read from the records that are its fields

  abbrev field_test : List ℕ → A → Bool
  field_test key x = is_field_of key (kept x).0

  pub fields-rise : (key : List ℕ) (xs : List A) (i j : ℕ) → SplitsAt (λ x. is_up_to (Str key) (kept x).0) xs i → SplitsAt (λ x. has_key_up_to key (kept x).0) xs j → i ≤ j
  fields-rise key xs = cuts-rise (λ x. is_up_to (Str key) (kept x).0) (λ x. has_key_up_to key (kept x).0) (λ x. key-is_up_to key (kept x).0) xs

  pub fields-range : (key : List ℕ) (xs : List A) (i j : ℕ) → SplitsAt (λ x. is_up_to (Str key) (kept x).0) xs i → SplitsAt (λ x. has_key_up_to key (kept x).0) xs j → slice_range xs i j ≡ filter (field_test key) xs
  fields-range key xs i j start end =
      range-between (λ x. is_up_to (Str key) (kept x).0) (λ x. has_key_up_to key (kept x).0) (λ x. key-is_up_to key (kept x).0) xs i j start end
      ∙ (λ t. filter (λ x. sym (field_between key (kept x).0) t) xs)

  none-with_field : (found : Option (List ℕ)) (value : List ℕ) (fields : List (List ℕ × List ℕ)) → is_some found ≡ false → with_field found value fields ≡ fields
  none-with_field found value fields e = grind arith

  fields_step : (key : List ℕ) (x : A) (rest : List A) (b : Bool) → field_test key x ≡ b → fields_of (map kept (cond b (x ∷ rest) rest)) key
      ≡ with_field (field_at (kept x).0 key) (kept x).1 (fields_of (map kept rest) key)
  fields_step key x rest true e = fields_more (kept x) (map kept rest) key
  fields_step key x rest false e = sym (none-with_field (field_at (kept x).0 key) (kept x).1 (fields_of (map kept rest) key) e)

  pub fields-filter : (key : List ℕ) (xs : List A) → fields_of (map kept (filter (field_test key) xs)) key ≡ fields_of (map kept xs) key
  fields-filter key [] = refl
  fields-filter key (x ∷ xs) =
      fields_step key x (filter (field_test key) xs) (field_test key x) refl ∙ ap (with_field (field_at (kept x).0 key) (kept x).1) (fields-filter key xs)
      ∙ sym (fields_more (kept x) (map kept xs) key)

  count_step : (found : Option (List ℕ)) (value : List ℕ) (fields : List (List ℕ × List ℕ)) (x : A) (rest : List A) → length fields ≡ length rest → length (with_field found value fields)
      ≡ length (cond (is_some found) (x ∷ rest) rest)
  count_step None value fields x rest e = e
  count_step (Some field) value fields x rest e = ap suc e

  pub fields-counted : (key : List ℕ) (xs : List A) → length (fields_of (map kept xs) key) ≡ length (filter (field_test key) xs)
  fields-counted key [] = ap (λ fields. length fields) (fields_none key)
  fields-counted key (x ∷ xs) =
      ap (λ fields. length fields) (fields_more (kept x) (map kept xs) key)
      ∙ count_step (field_at (kept x).0 key) (kept x).1 (fields_of (map kept xs) key) x (filter (field_test key) xs) (fields-counted key xs)
