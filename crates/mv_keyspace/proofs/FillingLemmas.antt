-- A row that comes after all others, and a map that is made at once.
use Rattle.std.proofs.Common.{nat_eq, ◌≡◌, ℕ, ◌≤◌, Bool, true, false, Some, None, List, [], ◌∷◌, ◌++◌, length, IsTrue, refl, sym, ap, subst, ◌∙◌, append_assoc, arith}
use Rattle.std.proofs.lemmas.List.{append-nil, map-append}
use Rattle.std.proofs.lemmas.Map.Keys.{sorted_head, sorted_tail, IsDistinct-from_sorted}
use Rattle.std.proofs.lemmas.Map.{lookup-none}
use Rattle.std.proofs.lemmas.Map.Entries.{lookup_head, lookup_tail, none_below_head, none_past_head}
use Rattle.std.proofs.lemmas.Map.Made.{update_all_none}
use Rattle.std.specs.Cmp.{eq_by_cmp_equiv, tied_itself}
use Rattle.std.specs.Cmp.Lexicographic.{nat_list_cmp_total, pointwise}
use Rattle.std.specs.BTreeMap.{BTreeMap, IsFromIterResult, is_at}
use Rattle.std.specs.List.{AllByRecursion}
use Rattle.std.specs.List.Sorted.{IsStrictlySortedBy}
use Rattle.std.specs.Map.{keys_of}
use Rattle.std.specs.FinMap.Entries.{below_all}
use Rattle.std.specs.Option.{option_cmp}
use Rattle.std.specs.Ordering.{is_eq, is_lt, ordering_reverse, ordering_then, eq_by_cmp}
use Rattle.std.specs.declared.cmp.Ordering.{Ordering}
use Rattle.std.specs.declared.cmp.Ordering.TheVariants.{Less, Equal, Greater}
use Rattle.kv_types.specs.declared.record_id.RecordId.{RecordId}
use Rattle.kv_types.specs.Keyspace.{key_of, field_of, bytes_cmp, record_cmp}
use Rattle.kv_types.proofs.OrderLemmas.{bytes_cmp_equal, key_itself}
use Rattle.mv_keyspace.specs.declared.row.Row.{Row}
use Rattle.mv_keyspace.specs.declared.slot.Slot.{Slot}
use Rattle.mv_keyspace.specs.Row.{records_of, table_of}
use Rattle.mv_keyspace.specs.Slot.{rows_of}
use Rattle.mv_keyspace.specs.Slots.{Slots, rows_in, slot_at, AreOfKey, AreSlots}
use Rattle.mv_keyspace.proofs.AllLemmas.{All-append, All-map, All-prefix, All-rest}
use Rattle.mv_keyspace.proofs.EndingLemmas.{AreInOrder}
use Rattle.mv_keyspace.proofs.SlotLemmas.{table_of-append, OwnRows}
use Rattle.mv_keyspace.proofs.WritingLemmas.{is_eq_Equal}

-- ---- parts of rows in order

below-first : (id : RecordId) (rows more : List Row) → IsTrue (below_all record_cmp id (records_of (rows ++ more))) → IsTrue (below_all record_cmp id (records_of rows))
below-first id [] more below = refl
below-first id (row ∷ rows) more below = grind (arith, below-first id rows more)

below-last : (id : RecordId) (rows : List Row) (row : Row) → IsTrue (below_all record_cmp id (records_of (rows ++ row ∷ []))) → IsTrue (is_lt (record_cmp id row.id))
below-last id [] row below = grind arith
below-last id (next ∷ rows) row below = grind (arith, below-last id rows row)

pub order-first : (rows more : List Row) → AreInOrder (rows ++ more) → AreInOrder rows
order-first [] more order = refl
order-first (row ∷ rows) more order = grind (arith, below-first row.id rows more, order-first rows more)

order-last : (rows more : List Row) → AreInOrder (rows ++ more) → AreInOrder more
order-last [] more order = order
order-last (row ∷ rows) more order = grind (arith, order-last rows more)

-- a row comes after one whose key is no greater
later-key : (first row : Row) → IsTrue (is_lt (record_cmp first.id row.id)) → bytes_cmp (key_of first.id) (key_of row.id) ≡ Greater → ⊥
later-key first row less greater =
    let no = ap (λ o. is_lt (ordering_then o (option_cmp bytes_cmp (field_of first.id) (field_of row.id)))) greater in cc

-- keys of which a test says that they differ
pub not-same : (xs ys : List ℕ) → false ≡ pointwise nat_eq xs ys → xs ≡ ys → ⊥
not-same xs ys differ e = let yes = subst (λ k. pointwise nat_eq xs k ≡ true) e (key_itself xs) in cc

-- ---- keys in order

module _ (k : List ℕ) where
  sorted-push : (ks : List (List ℕ)) → IsStrictlySortedBy bytes_cmp ks → AllByRecursion (λ y. bytes_cmp y k ≡ Less) ks → IsStrictlySortedBy bytes_cmp (ks ++ k ∷ [])
  unfolding IsStrictlySortedBy
  sorted-push [] sorted below = (tt, tt)
  sorted-push (first ∷ ks) sorted below = (All-append (λ y. bytes_cmp first y ≡ Less) ks (k ∷ []) sorted.0 (below.0, tt), sorted-push ks sorted.1 below.1)

  sorted-under : (ks : List (List ℕ)) → IsStrictlySortedBy bytes_cmp (ks ++ k ∷ []) → AllByRecursion (λ y. bytes_cmp y k ≡ Less) ks
  sorted-under [] sorted = tt
  sorted-under (first ∷ ks) sorted =
      ((All-rest (λ y. bytes_cmp first y ≡ Less) ks (k ∷ []) (sorted_head bytes_cmp first (ks ++ k ∷ []) sorted)).0, sorted-under ks (sorted_tail bytes_cmp first (ks ++ k ∷ []) sorted))

keys_of-append : (es more : Slots) → keys_of (es ++ more) ≡ keys_of es ++ keys_of more
keys_of-append es more = map-append (λ (e : List ℕ × Slot). e.0) es more

-- ---- a row that comes after the rows of some slots

rows_in-append : (es more : Slots) → rows_in (es ++ more) ≡ rows_in es ++ rows_in more
rows_in-append [] more = refl
rows_in-append (e ∷ es) more = ap (λ rows. rows_of e.0 e.1 ++ rows) (rows_in-append es more) ∙ sym (append_assoc (rows_of e.0 e.1) (rows_in es) (rows_in more))

rows_in-last : (es : Slots) (e : List ℕ × Slot) → rows_in (es ++ e ∷ []) ≡ rows_in es ++ rows_of e.0 e.1
rows_in-last es e = rows_in-append es (e ∷ []) ∙ ap (λ rows. rows_in es ++ rows) (append-nil (rows_of e.0 e.1))

module _ (es : Slots) (last : List ℕ × Slot) (row : Row) (order : AreInOrder (rows_in (es ++ last ∷ []) ++ row ∷ [])) where
  split : rows_in (es ++ last ∷ []) ++ row ∷ [] ≡ rows_in es ++ (rows_of last.0 last.1 ++ row ∷ [])
  split = ap (λ rows. rows ++ row ∷ []) (rows_in-last es last) ∙ append_assoc (rows_in es) (rows_of last.0 last.1) (row ∷ [])

  in_turn : AreInOrder (rows_of last.0 last.1 ++ row ∷ [])
  in_turn = order-last (rows_in es) (rows_of last.0 last.1 ++ row ∷ []) (subst AreInOrder split order)

  -- it is of the last key
  module _ (same : last.0 ≡ key_of row.id) where
    pub joined-order : AreInOrder (rows_of (key_of row.id) last.1 ++ row ∷ [])
    joined-order = subst (λ key. AreInOrder (rows_of key last.1 ++ row ∷ [])) same in_turn

    module _ (slot : Slot) (added : rows_of (key_of row.id) slot ≡ rows_of (key_of row.id) last.1 ++ row ∷ []) where
      here : rows_of last.0 slot ≡ rows_of last.0 last.1 ++ row ∷ []
      here = subst (λ key. rows_of key slot ≡ rows_of key last.1 ++ row ∷ []) (sym same) added

      pub joined-rows : rows_in (es ++ (last.0, slot) ∷ []) ≡ rows_in (es ++ last ∷ []) ++ row ∷ []
      joined-rows = rows_in-last es (last.0, slot) ∙ ap (λ rows. rows_in es ++ rows) here ∙ sym split

      of-joined : AllByRecursion OwnRows (es ++ last ∷ []) → AreOfKey last.0 (table_of (rows_of last.0 slot))
      of-joined own =
          subst (AreOfKey last.0) (sym (ap table_of here ∙ table_of-append (rows_of last.0 last.1) (row ∷ [])))
          (All-append (λ other. key_of other.0 ≡ last.0) (table_of (rows_of last.0 last.1)) (table_of (row ∷ [])) ((All-rest OwnRows es (last ∷ []) own).0) (sym same, tt))

      pub joined-slots : AreSlots (es ++ last ∷ []) → AreSlots (es ++ (last.0, slot) ∷ [])
      joined-slots slots = record {
        sorted = subst (IsStrictlySortedBy bytes_cmp) (keys_of-append es (last ∷ []) ∙ sym (keys_of-append es ((last.0, slot) ∷ []))) slots.sorted;
        own = All-append OwnRows es ((last.0, slot) ∷ []) (All-prefix OwnRows es (last ∷ []) slots.own) (of-joined slots.own, tt);
      }

  -- it is of another key, which is greater
  module _ (filled : 1 ≤ length (rows_of last.0 last.1)) (slots : AreSlots (es ++ last ∷ [])) (other : last.0 ≡ key_of row.id → ⊥) where
    not-greater : (rows : List Row) → 1 ≤ length rows → AreOfKey last.0 (table_of rows) → AreInOrder (rows ++ row ∷ []) → bytes_cmp last.0 (key_of row.id) ≡ Greater → ⊥
    not-greater [] some of rise greater = omega (arith, some)
    not-greater (first ∷ rows) some of rise greater =
        let below : IsTrue (below_all record_cmp first.id (records_of (rows ++ row ∷ []))) = grind (arith, rise) in
        later-key first row (below-last first.id rows row below) (ap (λ key. bytes_cmp key (key_of row.id)) of.0 ∙ greater)

    last-under : bytes_cmp last.0 (key_of row.id) ≡ Less
    last-under = step (bytes_cmp last.0 (key_of row.id)) refl
      where
        step : (o : Ordering) → bytes_cmp last.0 (key_of row.id) ≡ o → bytes_cmp last.0 (key_of row.id) ≡ Less
        step Less is = is
        step Equal is = absurd (other (bytes_cmp_equal last.0 (key_of row.id) is))
        step Greater is = absurd (not-greater (rows_of last.0 last.1) filled ((All-rest OwnRows es (last ∷ []) slots.own).0) in_turn is)

    keys : IsStrictlySortedBy bytes_cmp (keys_of es ++ last.0 ∷ [])
    keys = subst (IsStrictlySortedBy bytes_cmp) (keys_of-append es (last ∷ [])) slots.sorted

    all-under : AllByRecursion (λ key. bytes_cmp key (key_of row.id) ≡ Less) (keys_of es ++ last.0 ∷ [])
    all-under =
        All-append (λ key. bytes_cmp key (key_of row.id) ≡ Less) (keys_of es) (last.0 ∷ [])
        (All-map (λ key. bytes_cmp key last.0 ≡ Less) (λ key. bytes_cmp key (key_of row.id) ≡ Less) (λ key less. nat_list_cmp_total.trans key last.0 (key_of row.id) less last-under) (keys_of es) (sorted-under last.0 (keys_of es) keys))
        (last-under, tt)

    module _ (next : List ℕ × Slot) (key : next.0 ≡ key_of row.id) (alone : rows_of next.0 next.1 ≡ row ∷ []) where
      keys-next : keys_of ((es ++ last ∷ []) ++ next ∷ []) ≡ (keys_of es ++ last.0 ∷ []) ++ key_of row.id ∷ []
      keys-next =
          keys_of-append (es ++ last ∷ []) (next ∷ [])
          ∙ ap (λ keys. keys ++ next.0 ∷ []) (keys_of-append es (last ∷ []))
          ∙ ap (λ key. (keys_of es ++ last.0 ∷ []) ++ key ∷ []) key

      pub next-slots : AreSlots ((es ++ last ∷ []) ++ next ∷ [])
      next-slots = record {
        sorted = subst (IsStrictlySortedBy bytes_cmp) (sym keys-next) (sorted-push (key_of row.id) (keys_of es ++ last.0 ∷ []) keys all-under);
        own = All-append OwnRows (es ++ last ∷ []) (next ∷ []) slots.own (subst (AreOfKey next.0) (sym (ap table_of alone)) (sym key, tt), tt);
      }

  pub next-rows : (next : List ℕ × Slot) → rows_of next.0 next.1 ≡ row ∷ [] → rows_in ((es ++ last ∷ []) ++ next ∷ []) ≡ rows_in (es ++ last ∷ []) ++ row ∷ []
  next-rows next alone = rows_in-last (es ++ last ∷ []) next ∙ ap (λ rows. rows_in (es ++ last ∷ []) ++ rows) alone

-- no slots, and that of a first row
pub no-slots : AreSlots []
unfolding IsStrictlySortedBy
no-slots = record { sorted = tt; own = tt }

pub first-slots : (next : List ℕ × Slot) (row : Row) → next.0 ≡ key_of row.id → rows_of next.0 next.1 ≡ row ∷ [] → AreSlots (next ∷ [])
unfolding IsStrictlySortedBy
first-slots next row key alone = record {
  sorted = (tt, tt);
  own = (subst (AreOfKey next.0) (sym (ap table_of alone)) (sym key, tt), tt);
}

pub first-rows : (next : List ℕ × Slot) (row : Row) (later : List Row) → rows_of next.0 next.1 ≡ row ∷ [] → rows_in (next ∷ []) ++ later ≡ row ∷ later
first-rows next row later alone = ap (λ rows. (rows ++ []) ++ later) alone

-- ---- a map that is made at once

tied_itself_at : (e : List ℕ × Slot) (es : Slots) → slot_at e.0 (e ∷ es) ≡ Some e.1
tied_itself_at e es = lookup_head (is_at (bytes_cmp e.0)) e es (ap is_eq (tied_itself nat_list_cmp_total e.0))

-- no slot is that of a key that is below the first
none-under : (key : List ℕ) (e : List ℕ × Slot) (es : Slots) → IsStrictlySortedBy bytes_cmp (keys_of (e ∷ es)) → bytes_cmp key e.0 ≡ Less → slot_at key (e ∷ es) ≡ None
none-under key e es sorted less = lookup-none (is_at (bytes_cmp key)) (e ∷ es) (none_below_head nat_list_cmp_total key e es sorted less)

none-behind : (e : List ℕ × Slot) (es : Slots) → IsStrictlySortedBy bytes_cmp (keys_of (e ∷ es)) → slot_at e.0 es ≡ None
none-behind e es sorted =
    lookup-none (is_at (bytes_cmp e.0)) es
    (none_past_head (eq_by_cmp_equiv nat_list_cmp_total) e.0 e es (IsDistinct-from_sorted bytes_cmp (keys_of (e ∷ es)) sorted) (ap is_eq (tied_itself nat_list_cmp_total e.0)))

same_value : (slot other : Slot) → Some slot ≡ Some other → slot ≡ other
same_value slot other e = cc

some_none : (slot : Slot) → Some slot ≡ None → ⊥
some_none slot e = cc

-- slots in order in which the same is found at each key are the same
module _ (x y : List ℕ × Slot) (xs ys : Slots) (sorted : IsStrictlySortedBy bytes_cmp (keys_of (x ∷ xs))) (other : IsStrictlySortedBy bytes_cmp (keys_of (y ∷ ys))) (same : (q : List ℕ) → slot_at q (x ∷ xs) ≡ slot_at q (y ∷ ys)) where
  same-key : x.0 ≡ y.0
  same-key = step (bytes_cmp x.0 y.0) refl
    where
      step : (o : Ordering) → bytes_cmp x.0 y.0 ≡ o → x.0 ≡ y.0
      step Less is = absurd (some_none x.1 (sym (tied_itself_at x xs) ∙ same x.0 ∙ none-under x.0 y ys other is))
      step Equal is = bytes_cmp_equal x.0 y.0 is
      step Greater is = absurd (some_none y.1 (sym (tied_itself_at y ys) ∙ sym (same y.0) ∙ none-under y.0 x xs sorted (nat_list_cmp_total.antisymm y.0 x.0 ∙ ap ordering_reverse is)))

  same-slot : x.1 ≡ y.1
  same-slot = same_value x.1 y.1 (sym (tied_itself_at x xs) ∙ same x.0 ∙ ap (λ q. slot_at q (y ∷ ys)) same-key ∙ tied_itself_at y ys)

  same-later : (q : List ℕ) → slot_at q xs ≡ slot_at q ys
  same-later q = step (is_at (bytes_cmp q) x.0) refl
    where
      key-y : is_at (bytes_cmp q) y.0 ≡ is_at (bytes_cmp q) x.0
      key-y = ap (λ key. is_at (bytes_cmp q) key) (sym same-key)

      step : (b : Bool) → is_at (bytes_cmp q) x.0 ≡ b → slot_at q xs ≡ slot_at q ys
      step true is =
          let here : q ≡ x.0 = bytes_cmp_equal q x.0 (is_eq_Equal (bytes_cmp q x.0) is) in
          ap (λ k. slot_at k xs) here ∙ none-behind x xs sorted ∙ sym (none-behind y ys other) ∙ ap (λ k. slot_at k ys) (sym (here ∙ same-key))
      step false is = sym (lookup_tail (is_at (bytes_cmp q)) x xs is) ∙ same q ∙ lookup_tail (is_at (bytes_cmp q)) y ys (key-y ∙ is)

same-slots : (xs ys : Slots) → IsStrictlySortedBy bytes_cmp (keys_of xs) → IsStrictlySortedBy bytes_cmp (keys_of ys) → ((q : List ℕ) → slot_at q xs ≡ slot_at q ys) → xs ≡ ys
same-slots [] [] sorted other same = refl
same-slots [] (y ∷ ys) sorted other same = absurd (some_none y.1 (sym (tied_itself_at y ys) ∙ sym (same y.0)))
same-slots (x ∷ xs) [] sorted other same = absurd (some_none x.1 (sym (tied_itself_at x xs) ∙ same x.0))
same-slots (x ∷ xs) (y ∷ ys) sorted other same =
    let later = same-slots xs ys (sorted_tail bytes_cmp x.0 (keys_of xs) sorted) (sorted_tail bytes_cmp y.0 (keys_of ys) other) (same-later x y xs ys sorted other same) in
    λ i. (same-key x y xs ys sorted other same i, same-slot x y xs ys sorted other same i) ∷ later i

-- keys in order are those of the map that is made of them
pub slots-made : (es : Slots) (m : BTreeMap (List ℕ) Slot) → IsStrictlySortedBy bytes_cmp (keys_of es) → IsFromIterResult bytes_cmp es m → m.entries ≡ es
slots-made es m sorted made =
    same-slots m.entries es made.1 sorted
    (λ q. made.0 q ∙ update_all_none (eq_by_cmp_equiv nat_list_cmp_total) (eq_by_cmp bytes_cmp) (λ x y. refl) es q (IsDistinct-from_sorted bytes_cmp (keys_of es) sorted))
