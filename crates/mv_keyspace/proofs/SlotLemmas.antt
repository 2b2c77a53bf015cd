-- Where the rows of a key stand among those of all slots.
use Rattle.std.proofs.Common.{◌≡◌, ℕ, true, false, cond, List, [], ◌∷◌, ◌++◌, Some, None, IsSome, refl, sym, ap, subst, ◌∙◌, append_assoc, arith}
use Rattle.std.proofs.lemmas.List.{map-append}
use Rattle.std.specs.List.{AllByRecursion}
use Rattle.std.specs.List.Sorted.{IsStrictlySortedBy}
use Rattle.std.specs.Map.{keys_of, set_value, remove_entry}
use Rattle.std.specs.BTreeMap.{is_at, insert_entry}
use Rattle.std.specs.Ordering.{is_eq}
use Rattle.std.specs.Cmp.Lexicographic.{nat_list_cmp_total}
use Rattle.std.specs.declared.cmp.Ordering.{Ordering}
use Rattle.std.specs.declared.cmp.Ordering.TheVariants.{Less, Equal, Greater}
use Rattle.std.proofs.lemmas.Map.Keys.{sorted_head, sorted_tail}
use Rattle.kv_types.specs.Keyspace.{key_of, bytes_cmp}
use Rattle.kv_types.proofs.OrderLemmas.{bytes_cmp_equal}
use Rattle.mv_keyspace.specs.declared.row.Row.{Row}
use Rattle.mv_keyspace.specs.declared.slot.Slot.{Slot}
use Rattle.mv_keyspace.specs.Row.{table_of}
use Rattle.mv_keyspace.specs.Table.{Table}
use Rattle.mv_keyspace.specs.Slot.{rows_of}
use Rattle.mv_keyspace.specs.Slots.{Slots, rows_in, slot_at, rows_of_slot, rows_at, AreOfKey, AreSlots}
use Rattle.mv_keyspace.proofs.AllLemmas.{All-append}
use Rattle.mv_keyspace.proofs.ListLemmas.{entry_of}

-- the rows are of keys to which this one compares so
abbrev pub AllStand : Ordering → List ℕ → Table → Type 0
AllStand order key = AllByRecursion (λ row. bytes_cmp key (key_of row.0) ≡ order)

pub table_of-append : (rows more : List Row) → table_of (rows ++ more) ≡ table_of rows ++ table_of more
table_of-append rows more = map-append entry_of rows more

-- rows of a key stand as the key does
own-stand : (order : Ordering) (key own : List ℕ) (rows : Table) → bytes_cmp key own ≡ order → AreOfKey own rows → AllStand order key rows
own-stand order key own [] e of = tt
own-stand order key own (row ∷ rows) e of = (ap (bytes_cmp key) of.0 ∙ e, own-stand order key own rows e of.1)

-- a key that is below the first of some that rise is below all of them
below_later : (key first : List ℕ) (keys : List (List ℕ)) → bytes_cmp key first ≡ Less → AllByRecursion (λ k. bytes_cmp first k ≡ Less) keys → AllByRecursion (λ k. bytes_cmp key k ≡ Less) keys
below_later key first [] less rise = tt
below_later key first (k ∷ keys) less rise = (nat_list_cmp_total.trans key first k less rise.0, below_later key first keys less rise.1)

tied_later : (key first : List ℕ) (keys : List (List ℕ)) → bytes_cmp key first ≡ Equal → AllByRecursion (λ k. bytes_cmp first k ≡ Less) keys → AllByRecursion (λ k. bytes_cmp key k ≡ Less) keys
tied_later key first [] tied rise = tt
tied_later key first (k ∷ keys) tied rise = (nat_list_cmp_total.congr key first k tied ∙ rise.0, tied_later key first keys tied rise.1)

pub slots-tail : (e : List ℕ × Slot) (es : Slots) → AreSlots (e ∷ es) → AreSlots es
slots-tail e es slots = record { sorted = sorted_tail bytes_cmp e.0 (keys_of es) slots.sorted; own = slots.own.1 }

-- no slots are in order
pub slots-none : (es : Slots) → es ≡ [] → IsStrictlySortedBy bytes_cmp (keys_of es) → AreSlots es
slots-none es none sorted = record { sorted = sorted; own = subst (AllByRecursion (λ (e : List ℕ × Slot). AreOfKey e.0 (table_of (rows_of e.0 e.1)))) (sym none) tt }

pub later-stand : (key : List ℕ) (es : Slots) → AllByRecursion (λ k. bytes_cmp key k ≡ Less) (keys_of es) → AllByRecursion (λ (e : List ℕ × Slot). AreOfKey e.0 (table_of (rows_of e.0 e.1))) es → AllStand Less key (table_of (rows_in es))
later-stand key [] less own = tt
later-stand key (e ∷ es) less own =
    subst (AllStand Less key) (sym (table_of-append (rows_of e.0 e.1) (rows_in es)))
    (All-append (λ row. bytes_cmp key (key_of row.0) ≡ Less) (table_of (rows_of e.0 e.1)) (table_of (rows_in es)) (own-stand Less key e.0 (table_of (rows_of e.0 e.1)) less.0 own.0) (later-stand key es less.1 own.1))

none-later : (key : List ℕ) (es : Slots) → AllByRecursion (λ k. bytes_cmp key k ≡ Less) (keys_of es) → slot_at key es ≡ None
none-later key [] less = refl
none-later key (e ∷ es) less = ap (λ o. cond (is_eq o) (Some e.1) (slot_at key es)) less.0 ∙ none-later key es less.1

none_some : false ≡ true → ⊥
none_some e = cc

-- the rows of lesser keys, those of the key, and those of greater keys
pub record Around (key : List ℕ) (es : Slots) : Type 0 where
  pub before : List Row
  pub after : List Row
  pub lower : AllStand Greater key (table_of before)
  pub upper : AllStand Less key (table_of after)
  pub rows : rows_in es ≡ before ++ (rows_at key es ++ after)
  -- and so once the slot of the key is another
  pub written : (slot : Slot) → IsSome (slot_at key es) → rows_in (set_value (is_at (bytes_cmp key)) es slot) ≡ before ++ (rows_of key slot ++ after)

pub around : (key : List ℕ) (es : Slots) → AreSlots es → Around key es
around key [] slots = record { before = []; after = []; lower = tt; upper = tt; rows = refl; written = λ slot some. absurd (none_some some) }
around key (e ∷ es) slots = step (around key es (slots-tail e es slots)) (bytes_cmp key e.0) refl
  where
    step : Around key es → (o : Ordering) → bytes_cmp key e.0 ≡ o → Around key (e ∷ es)
    step rest Less is =
        let less : AllByRecursion (λ k. bytes_cmp key k ≡ Less) (keys_of (e ∷ es)) = (is, below_later key e.0 (keys_of es) is (sorted_head bytes_cmp e.0 (keys_of es) slots.sorted)) in
        let none = none-later key (e ∷ es) less in
        record {
          before = [];
          after = rows_in (e ∷ es);
          lower = tt;
          upper = later-stand key (e ∷ es) less slots.own;
          rows = sym (ap (λ slot. rows_of_slot key slot ++ rows_in (e ∷ es)) none);
          written = λ slot some. absurd (none_some (subst IsSome none some));
        }
    step rest Equal is =
        let found = ap (λ o. cond (is_eq o) (Some e.1) (slot_at key es)) is in
        record {
          before = [];
          after = rows_in es;
          lower = tt;
          upper = later-stand key es (tied_later key e.0 (keys_of es) is (sorted_head bytes_cmp e.0 (keys_of es) slots.sorted)) slots.own.1;
          rows = sym (ap (λ slot. rows_of_slot key slot ++ rows_in es) found ∙ ap (λ k. rows_of k e.1 ++ rows_in es) (bytes_cmp_equal key e.0 is));
          written = λ slot some.
              ap (λ o. rows_in (cond (is_eq o) ((e.0, slot) ∷ es) (e ∷ set_value (is_at (bytes_cmp key)) es slot))) is
              ∙ ap (λ k. rows_of k slot ++ rows_in es) (sym (bytes_cmp_equal key e.0 is));
        }
    step rest Greater is =
        let found = ap (λ o. cond (is_eq o) (Some e.1) (slot_at key es)) is in
        record {
          before = rows_of e.0 e.1 ++ rest.before;
          after = rest.after;
          lower =
              subst (AllStand Greater key) (sym (table_of-append (rows_of e.0 e.1) rest.before))
              (All-append (λ row. bytes_cmp key (key_of row.0) ≡ Greater) (table_of (rows_of e.0 e.1)) (table_of rest.before) (own-stand Greater key e.0 (table_of (rows_of e.0 e.1)) is slots.own.0) rest.lower);
          upper = rest.upper;
          rows =
              ap (λ rows. rows_of e.0 e.1 ++ rows) rest.rows
              ∙ sym (append_assoc (rows_of e.0 e.1) rest.before (rows_at key es ++ rest.after))
              ∙ ap (λ slot. (rows_of e.0 e.1 ++ rest.before) ++ (rows_of_slot key slot ++ rest.after)) (sym found);
          written = λ slot some.
              ap (λ o. rows_in (cond (is_eq o) ((e.0, slot) ∷ es) (e ∷ set_value (is_at (bytes_cmp key)) es slot))) is
              ∙ ap (λ rows. rows_of e.0 e.1 ++ rows) (rest.written slot (subst IsSome found some))
              ∙ sym (append_assoc (rows_of e.0 e.1) rest.before (rows_of key slot ++ rest.after));
        }

-- ---- slots that come and go without rows

pub rows_in-inserted : (key : List ℕ) (slot : Slot) (es : Slots) → rows_of key slot ≡ [] → slot_at key es ≡ None → rows_in (insert_entry bytes_cmp es key slot) ≡ rows_in es
rows_in-inserted key slot [] empty none = ap (λ rows. rows ++ []) empty
rows_in-inserted key slot (e ∷ es) empty none = grind (arith, rows_in-inserted key slot es empty)

pub rows_in-removed : (key : List ℕ) (es : Slots) → rows_at key es ≡ [] → rows_in (remove_entry (is_at (bytes_cmp key)) es) ≡ rows_in es
rows_in-removed key [] empty = refl
rows_in-removed key (e ∷ es) empty = grind (arith, rows_in-removed key es)

abbrev pub OwnRows : List ℕ × Slot → Type 0
OwnRows e = AreOfKey e.0 (table_of (rows_of e.0 e.1))

own-inserted : (key : List ℕ) (slot : Slot) (es : Slots) → AreOfKey key (table_of (rows_of key slot)) → AllByRecursion OwnRows es → AllByRecursion OwnRows (insert_entry bytes_cmp es key slot)
own-inserted key slot [] of own = (of, tt)
own-inserted key slot (e ∷ es) of own =
    grind (arith, own-inserted key slot es of own.1, λ (is : bytes_cmp key e.0 ≡ Equal). subst (λ k. AreOfKey k (table_of (rows_of k slot))) (bytes_cmp_equal key e.0 is) of)

own-removed : (key : List ℕ) (es : Slots) → AllByRecursion OwnRows es → AllByRecursion OwnRows (remove_entry (is_at (bytes_cmp key)) es)
own-removed key [] own = tt
own-removed key (e ∷ es) own = grind (arith, own-removed key es own.1)

own-written : (key : List ℕ) (slot : Slot) (es : Slots) → AreOfKey key (table_of (rows_of key slot)) → AllByRecursion OwnRows es → AllByRecursion OwnRows (set_value (is_at (bytes_cmp key)) es slot)
own-written key slot [] of own = tt
own-written key slot (e ∷ es) of own =
    grind (arith, own-written key slot es of own.1, λ (is : bytes_cmp key e.0 ≡ Equal). subst (λ k. AreOfKey k (table_of (rows_of k slot))) (bytes_cmp_equal key e.0 is) of)

pub slots-inserted : (key : List ℕ) (slot : Slot) (es after : Slots) → after ≡ insert_entry bytes_cmp es key slot → IsStrictlySortedBy bytes_cmp (keys_of after) → AreOfKey key (table_of (rows_of key slot)) → AreSlots es → AreSlots after
slots-inserted key slot es after is sorted of slots = record { sorted = sorted; own = subst (AllByRecursion OwnRows) (sym is) (own-inserted key slot es of slots.own) }

pub slots-removed : (key : List ℕ) (es after : Slots) → after ≡ remove_entry (is_at (bytes_cmp key)) es → IsStrictlySortedBy bytes_cmp (keys_of after) → AreSlots es → AreSlots after
slots-removed key es after is sorted slots = record { sorted = sorted; own = subst (AllByRecursion OwnRows) (sym is) (own-removed key es slots.own) }

pub slots-written : (key : List ℕ) (slot : Slot) (es after : Slots) → after ≡ set_value (is_at (bytes_cmp key)) es slot → IsStrictlySortedBy bytes_cmp (keys_of after) → AreOfKey key (table_of (rows_of key slot)) → AreSlots es → AreSlots after
slots-written key slot es after is sorted of slots = record { sorted = sorted; own = subst (AllByRecursion OwnRows) (sym is) (own-written key slot es of slots.own) }

-- the rows of the slot of a key are of the key
pub own-at : (key : List ℕ) (es : Slots) → AllByRecursion OwnRows es → AreOfKey key (table_of (rows_at key es))
own-at key [] own = tt
own-at key (e ∷ es) own = step (own-at key es own.1) (bytes_cmp key e.0) refl
  where
    step : AreOfKey key (table_of (rows_at key es)) → (o : Ordering) → bytes_cmp key e.0 ≡ o → AreOfKey key (table_of (rows_of_slot key (cond (is_eq o) (Some e.1) (slot_at key es))))
    step rest Less is = rest
    step rest Equal is = subst (λ k. AreOfKey k (table_of (rows_of k e.1))) (sym (bytes_cmp_equal key e.0 is)) own.0
    step rest Greater is = rest
