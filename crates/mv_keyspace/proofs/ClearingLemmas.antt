-- The entries that a clear and the changes before it ended.
use Rattle.std.proofs.Common.{◌≡◌, ℕ, ◌⊎◌, ◌↔◌, List, [], ◌∷◌, ◌++◌, map, Contains, IsTrue, nat_eq, sym, ap, subst, ◌∙◌, append_assoc, arith}
use Rattle.std.proofs.lemmas.List.{append-nil}
use Rattle.std.proofs.lemmas.List.Elements.{Contains-append_left, Contains-append_right, Contains-append_cases}
use Rattle.std.specs.List.{IsDistinct}
use Rattle.model.specs.declared.group.Put.{Put}
use Rattle.model.specs.declared.group.PlacedChange.{PlacedChange}
use Rattle.model.specs.declared.group.PlacedChange.TheVariants as placed
use Rattle.model.specs.Group.{is_put_at}
use Rattle.mv_keyspace.specs.Table.{Table, entries_of, place_all, puts_of, AreFresh, IsLawful, AreNumbersEnded}
use Rattle.mv_keyspace.proofs.AppendedLemmas.{ended-append, lawful-prefix, only, place_all-append, puts_of-append}
use Rattle.mv_keyspace.proofs.DistinctLemmas.{distinct-append, distinct-none, distinct-one, entries-distinct, here, later}
use Rattle.mv_keyspace.proofs.EndedLemmas.{fresh_not, fresh-first, sorted-lawful}

-- the entries of the puts
abbrev pub numbers_put : List Put → List ℕ
numbers_put puts = map (λ (put : Put). put.entry.0) puts

-- an entry is that of one of the puts
named-put : (i : ℕ) (puts : List Put) → Contains (numbers_put puts) i → IsTrue (is_put_at i puts)
named-put i [] m = absurd (omega (arith, m.1))
named-put i (put ∷ puts) m = grind (arith, Contains-append_cases (put.entry.0 ∷ []) (numbers_put puts) i m, only put.entry.0 i, named-put i puts)

put-named : (i : ℕ) (puts : List Put) → IsTrue (is_put_at i puts) → Contains (numbers_put puts) i
put-named i [] t = cc
put-named i (put ∷ puts) t = grind (arith, here put.entry.0 (numbers_put puts), later put.entry.0 i (numbers_put puts), put-named i puts)

puts-distinct : (table : Table) (puts : List Put) → AreFresh table puts → IsDistinct nat_eq (numbers_put puts)
puts-distinct table [] fresh = distinct-none
puts-distinct table (put ∷ puts) fresh =
    distinct-append (put.entry.0 ∷ []) (numbers_put puts) (distinct-one put.entry.0) (puts-distinct table puts fresh.2) (λ i own other. grind (arith, only put.entry.0 i own, named-put i puts other, fresh.1))

module _ (position : ℕ) (table : Table) (before later : List PlacedChange) (lawful : IsLawful table) (fresh : AreFresh table (puts_of (before ++ placed.Clear ∷ later))) where
  -- the changes up to the clear, and with it
  abbrev first : List PlacedChange
  first = before ++ placed.Clear ∷ []

  all : first ++ later ≡ before ++ placed.Clear ∷ later
  all = append_assoc before (placed.Clear ∷ []) later

  nothing : place_all position table first ≡ []
  nothing = place_all-append position table before (placed.Clear ∷ [])

  first_puts : puts_of first ≡ puts_of before
  first_puts = puts_of-append before (placed.Clear ∷ []) ∙ append-nil (puts_of before)

  fresh_all : AreFresh table (puts_of (first ++ later))
  fresh_all = subst (λ changes. AreFresh table (puts_of changes)) (sym all) fresh

  after : IsLawful (place_all position table first) × AreFresh (place_all position table first) (puts_of later)
  after = lawful-prefix position table first later lawful fresh_all

  pub fresh-cleared : AreFresh [] (puts_of later)
  fresh-cleared = subst (λ t. AreFresh t (puts_of later)) nothing after.1

  pub placed-cleared : place_all position table (before ++ placed.Clear ∷ later) ≡ place_all position [] later
  placed-cleared = ap (place_all position table) (sym all) ∙ place_all-append position table first later ∙ ap (λ t. place_all position t later) nothing

  fresh_before : AreFresh table (puts_of before)
  fresh_before = subst (AreFresh table) first_puts (fresh-first table (puts_of first) (puts_of later) (subst (AreFresh table) (puts_of-append first later) fresh_all))

  cleared : AreNumbersEnded position table first (entries_of table ++ numbers_put (puts_of before))
  cleared = record {
    once =
        distinct-append (entries_of table) (numbers_put (puts_of before)) (entries-distinct table (sorted-lawful table lawful) lawful.once) (puts-distinct table (puts_of before) fresh_before)
        (λ i own other. fresh_not table (puts_of before) i fresh_before own (named-put i (puts_of before) other));
    these = λ i. rw (nothing, first_puts) (numbers i);
  }
    where
      numbers : (i : ℕ) → Contains (entries_of table ++ numbers_put (puts_of before)) i ↔ ((Contains (entries_of table) i ⊎ IsTrue (is_put_at i (puts_of before))) × (¬ Contains (entries_of []) i))
      numbers i =
          let none : ¬ Contains (entries_of []) i = λ m. absurd (omega (arith, m.1)) in
          grind (arith, none, Contains-append_cases (entries_of table) (numbers_put (puts_of before)) i, Contains-append_left (entries_of table) (numbers_put (puts_of before)) i, Contains-append_right (entries_of table) (numbers_put (puts_of before)) i, named-put i (puts_of before), put-named i (puts_of before))

  -- the entries that all the changes ended: those that were live, those that were put before the clear, and those that the later changes ended
  pub ended-cleared : (more : List ℕ) → AreNumbersEnded position [] later more → AreNumbersEnded position table (before ++ placed.Clear ∷ later) ((entries_of table ++ numbers_put (puts_of before)) ++ more)
  ended-cleared more ended =
      subst (λ changes. AreNumbersEnded position table changes ((entries_of table ++ numbers_put (puts_of before)) ++ more)) all
      (ended-append position table first later lawful fresh_all (entries_of table ++ numbers_put (puts_of before)) more cleared (subst (λ t. AreNumbersEnded position t later more) (sym nothing) ended))
