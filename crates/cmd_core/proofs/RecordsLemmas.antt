-- Tests of records, and what is read of a list of records, one record after another.
use Rattle.std.proofs.Common.{◌≡◌, ℕ, ◌+◌, ◌-◌, ◌<◌, ◌≤◌, Bool, true, false, cond, ◌&&◌, ◌||◌, IsTrue, List, [], ◌∷◌, ◌++◌, map, length, take, drop, take_all, append_assoc, get_or, Option, Some, None, Bor, nat_eq, refl, sym, ap, ap₂, ◌∙◌, arith}
use Rattle.std.proofs.lemmas.Bool.{and_parts}
use Rattle.std.proofs.lemmas.List.{drop_more, at_drop_all}
use Rattle.std.specs.Prelude.{is_some}
use Rattle.std.specs.Option.{option_copied}
use Rattle.std.specs.Cmp.Lexicographic.{pointwise, texts_ties, nat_list_cmp_total}
use Rattle.std.specs.FinMap.Entries.{is_sorted, below_all}
use Rattle.std.specs.Ordering.{is_eq, is_lt, ordering_then, ordering_reverse}
use Rattle.std.specs.declared.cmp.Ordering.{Ordering}
use Rattle.std.specs.declared.cmp.Ordering.TheVariants.{Equal}
use Rattle.kv_types.specs.declared.record_id.RecordId.{RecordId}
use Rattle.kv_types.specs.declared.record_id.RecordId.TheVariants.{Str, Field}
use Rattle.kv_types.specs.Keyspace.{Keyspace, key_of, bytes_cmp, record_cmp}
use Rattle.kv_types.proofs.OrderLemmas.{same_key}
use Rattle.kv_types.proofs.LookUpLemmas.{is_same}
use Rattle.cmd_core.specs.Contents.{same_bytes, has_key, keys_of, fields_of}
use Rattle.cmd_core.specs.Record.{field_at, next_has_key}

-- ---- whether a record is one that is asked for

is_eq-then : (o p : Ordering) → is_eq (ordering_then o p) ≡ (is_eq o && is_eq p)
is_eq-then o p = grind arith

same_fields : (a f b g : List ℕ) → is_same (Field a f) (Field b g) ≡ (pointwise nat_eq a b && pointwise nat_eq f g)
same_fields a f b g = is_eq-then (bytes_cmp a b) (bytes_cmp f g) ∙ ap₂ (λ x y. x && y) (sym (texts_ties a b)) (sym (texts_ties f g))

pub field_of_same_key : (a f b g : List ℕ) → pointwise nat_eq a b ≡ true → pointwise nat_eq f g ≡ is_same (Field a f) (Field b g)
field_of_same_key a f b g e = sym (same_fields a f b g ∙ ap (λ x. x && pointwise nat_eq f g) e)

pub field_of_other_key : (a f b g : List ℕ) → pointwise nat_eq a b ≡ false → false ≡ is_same (Field a f) (Field b g)
field_of_other_key a f b g e = sym (same_fields a f b g ∙ ap (λ x. x && pointwise nat_eq f g) e)

-- ---- one record more

pub has_none : (key : List ℕ) → has_key [] key ≡ false
unfolding has_key
has_none key = refl

pub has_more : (e : RecordId × List ℕ) (s : Keyspace) (key : List ℕ) → has_key (e ∷ s) key ≡ (same_bytes (key_of e.0) key || has_key s key)
unfolding has_key
has_more e s key = refl

pub keys_none : keys_of [] ≡ []
unfolding keys_of
keys_none = refl

pub keys_more : (e : RecordId × List ℕ) (s : Keyspace) → keys_of (e ∷ s) ≡ cond (has_key s (key_of e.0)) (keys_of s) (key_of e.0 ∷ keys_of s)
unfolding keys_of
keys_more e s = refl

pub fields_none : (key : List ℕ) → fields_of [] key ≡ []
unfolding fields_of
fields_none key = refl

abbrev pub with_field : Option (List ℕ) → List ℕ → List (List ℕ × List ℕ) → List (List ℕ × List ℕ)
with_field None value fields = fields
with_field (Some field) value fields = (field, value) ∷ fields

pub fields_more : (e : RecordId × List ℕ) (s : Keyspace) (key : List ℕ) → fields_of (e ∷ s) key ≡ with_field (field_at e.0 key) e.1 (fields_of s key)
unfolding fields_of
fields_more (Str own, value) s key = refl
fields_more (Field own field, value) s key =
    elim (same_bytes own key) as (λ b. cond b ((field, value) ∷ fields_of s key) (fields_of s key) ≡ with_field (cond b (Some field) None) value (fields_of s key)) [ true ↦ refl | false ↦ refl ]

-- ---- the records of a key are next to one another

-- a record between two of one key is of this key
between_by : (o p q r : Ordering) → o ≡ ordering_reverse p → is_lt (ordering_then o q) ≡ true → is_lt (ordering_then p r) ≡ true → p ≡ Equal
between_by o p q r e lt lt' = grind arith

between : (e f g : RecordId) → is_lt (record_cmp e f) ≡ true → is_lt (record_cmp f g) ≡ true → key_of g ≡ key_of e → same_bytes (key_of f) (key_of e) ≡ true
between e f g lt lt' same =
    let first = nat_list_cmp_total.antisymm (key_of e) (key_of f) ∙ ap (λ key. ordering_reverse (bytes_cmp (key_of f) key)) (sym same) in
    let ties = between_by (bytes_cmp (key_of e) (key_of f)) (bytes_cmp (key_of f) (key_of g)) _ _ first lt lt' in
    texts_ties (key_of f) (key_of e) ∙ ap (λ key. is_eq (bytes_cmp (key_of f) key)) (sym same) ∙ ap is_eq ties

pub no_later : (e f : RecordId) (s : Keyspace) → is_lt (record_cmp e f) ≡ true → IsTrue (below_all record_cmp f s) → same_bytes (key_of f) (key_of e) ≡ false → has_key s (key_of e) ≡ false
no_later e f [] lt below other = has_none (key_of e)
no_later e f (g ∷ s) lt below other =
    let parts = and_parts (is_lt (record_cmp f g.0)) (below_all record_cmp f s) below in
    has_more g s (key_of e)
    ∙ (elim (same_bytes (key_of g.0) (key_of e)) as (λ b. same_bytes (key_of g.0) (key_of e) ≡ b → (b || has_key s (key_of e)) ≡ false) [
      | true ↦ λ same. let is = between e f g.0 lt parts.0 (same_key (key_of g.0) (key_of e) same) in cc
      | false ↦ λ same. no_later e f s lt parts.1 other
    ] refl)

-- a key occurs later in a list in order exactly where the next record has it
next_has : (e : RecordId × List ℕ) (s : Keyspace) → IsTrue (is_sorted record_cmp (e ∷ s)) → has_key s (key_of e.0) ≡ next_has_key s (key_of e.0)
next_has e [] sorted = has_none (key_of e.0)
next_has e (f ∷ s) sorted =
    let parts = and_parts (below_all record_cmp e.0 (f ∷ s)) (is_sorted record_cmp (f ∷ s)) sorted in
    let first = and_parts (is_lt (record_cmp e.0 f.0)) (below_all record_cmp e.0 s) parts.0 in
    let later = and_parts (below_all record_cmp f.0 s) (is_sorted record_cmp s) parts.1 in
    has_more f s (key_of e.0)
    ∙ (elim (same_bytes (key_of f.0) (key_of e.0)) as (λ b. same_bytes (key_of f.0) (key_of e.0) ≡ b → (b || has_key s (key_of e.0)) ≡ b) [
      | true ↦ λ same. refl
      | false ↦ λ other. no_later e.0 f.0 s first.0 later.0 other
    ] refl)

-- ---- the same by the index of a walk

pub is_some-copied : (o : Option (Bor (List ℕ))) → is_some (option_copied o) ≡ is_some o
is_some-copied o = grind arith

module _ (A : Type 0) (kept : A → RecordId × List ℕ) (xs : List A) (n : ℕ) where
  abbrev after : Keyspace
  after = map kept (drop (n + 1) xs)

  pub has_end : (key : List ℕ) → length xs ≤ n → has_key (map kept (drop n xs)) key ≡ false
  has_end key le = at_drop_all (λ rest. has_key (map kept rest) key) xs n le ∙ has_none key

  pub fields_end : (key : List ℕ) → length xs ≤ n → fields_of (map kept (drop n xs)) key ≡ []
  fields_end key le = at_drop_all (λ rest. fields_of (map kept rest) key) xs n le ∙ fields_none key

  module _ (x : A) (lt : n < length xs) (is : x ≡ get_or xs n x) where
    rest_at : map kept (drop n xs) ≡ kept x ∷ after
    rest_at = ap (map kept) (drop_more xs n x lt ∙ ap (λ y. y ∷ drop (n + 1) xs) (sym is))

    has_at : (key : List ℕ) → has_key (map kept (drop n xs)) key ≡ (same_bytes (key_of (kept x).0) key || has_key after key)
    has_at key = ap (λ s. has_key s key) rest_at ∙ has_more (kept x) after key

    pub has_here : (key : List ℕ) → same_bytes (key_of (kept x).0) key ≡ true → has_key (map kept (drop n xs)) key ≡ true
    has_here key e = has_at key ∙ ap (λ b. b || has_key after key) e

    pub has_elsewhere : (key : List ℕ) → same_bytes (key_of (kept x).0) key ≡ false → has_key (map kept (drop n xs)) key ≡ has_key after key
    has_elsewhere key e = has_at key ∙ ap (λ b. b || has_key after key) e

    fields_at : (key : List ℕ) → fields_of (map kept (drop n xs)) key ≡ with_field (field_at (kept x).0 key) (kept x).1 (fields_of after key)
    fields_at key = ap (λ s. fields_of s key) rest_at ∙ fields_more (kept x) after key

    pub field_here : (key field : List ℕ) → field_at (kept x).0 key ≡ Some field → fields_of (map kept (drop n xs)) key ≡ (field, (kept x).1) ∷ fields_of after key
    field_here key field e = fields_at key ∙ ap (λ f. with_field f (kept x).1 (fields_of after key)) e

    pub field_elsewhere : (key : List ℕ) → field_at (kept x).0 key ≡ None → fields_of (map kept (drop n xs)) key ≡ fields_of after key
    field_elsewhere key e = fields_at key ∙ ap (λ f. with_field f (kept x).1 (fields_of after key)) e

    counted : (found : Option (List ℕ)) (value : List ℕ) (fields : List (List ℕ × List ℕ)) (b : Bool) → is_some found ≡ b → length (with_field found value fields) ≡ cond b 1 0 + length fields
    counted found value fields b e = grind arith

    pub fields_counted : (key : List ℕ) (b : Bool) → is_some (field_at (kept x).0 key) ≡ b → length (fields_of (map kept (drop n xs)) key) ≡ cond b 1 0 + length (fields_of after key)
    fields_counted key b e = ap (λ fields. length fields) (fields_at key) ∙ counted (field_at (kept x).0 key) (kept x).1 (fields_of after key) b e

    -- a list that ends with a copy of this field
    pub field_pushed : (key field : List ℕ) (whole before pushed : List (List ℕ × List ℕ)) → field_at (kept x).0 key ≡ Some field → whole ≡ before ++ fields_of (map kept (drop n xs)) key
        → pushed ≡ before ++ (field, (kept x).1) ∷ [] → whole ≡ pushed ++ fields_of after key
    field_pushed key field whole before pushed e so_far is_pushed =
        so_far ∙ ap (λ fields. before ++ fields) (field_here key field e) ∙ sym (append_assoc before ((field, (kept x).1) ∷ []) (fields_of after key))
        ∙ ap (λ fields. fields ++ fields_of after key) (sym is_pushed)

-- the first of a slice, and what follows it
pub split_first : {A : Type 0} (xs : List A) (x : A) → 0 < length xs → x ≡ get_or xs 0 x → xs ≡ x ∷ take (length xs - 1) (drop 1 xs)
split_first [] x lt is = absurd (omega (arith, lt))
split_first (y ∷ ys) x lt is = ap₂ (λ z zs. z ∷ zs) (sym is) (sym (take_all _ ys (omega arith)))

pub no_keys : (A : Type 0) (kept : A → RecordId × List ℕ) (xs : List A) → length xs < 1 → length (keys_of (map kept xs)) ≡ 0
no_keys A kept [] lt = ap (λ keys. length keys) keys_none
no_keys A kept (x ∷ xs) lt = absurd (omega (arith, lt))

module _ (A : Type 0) (kept : A → RecordId × List ℕ) (xs later : List A) (x : A) (split : xs ≡ x ∷ later) (sorted : IsTrue (is_sorted record_cmp (map kept xs))) where
  in_order : IsTrue (is_sorted record_cmp (map kept (x ∷ later)))
  in_order = ap (λ rest. is_sorted record_cmp (map kept rest)) (sym split) ∙ sorted

  pub sorted_later : IsTrue (is_sorted record_cmp (map kept later))
  sorted_later = (and_parts (below_all record_cmp (kept x).0 (map kept later)) (is_sorted record_cmp (map kept later)) in_order).1

  key_counted : (b : Bool) → length (cond b (keys_of (map kept later)) (key_of (kept x).0 ∷ keys_of (map kept later))) ≡ cond b 0 1 + length (keys_of (map kept later))
  key_counted b = grind arith

  pub keys_counted : (b : Bool) → next_has_key (map kept later) (key_of (kept x).0) ≡ b → length (keys_of (map kept xs)) ≡ cond b 0 1 + length (keys_of (map kept later))
  keys_counted b e =
      ap (λ rest. length (keys_of (map kept rest))) split
      ∙ ap (λ keys. length keys) (keys_more (kept x) (map kept later) ∙ ap (λ c. cond c (keys_of (map kept later)) (key_of (kept x).0 ∷ keys_of (map kept later))) (next_has (kept x) (map kept later) in_order ∙ e))
      ∙ key_counted b
