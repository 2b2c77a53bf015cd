-- Changes that are made after others, as all of them made at once.
use Rattle.std.proofs.Common.{◌∙◌, Bool, ◌≡◌, ℕ, ◌⊎◌, ◌↔◌, ⊎_elim, inl, inr, ◌||◌, List, [], ◌∷◌, ◌++◌, Contains, IsTrue, refl, subst, arith}
use Rattle.std.proofs.lemmas.Bool.{cases_eq, or_right}
use Rattle.std.proofs.lemmas.Grind.{flat_map-append}
use Rattle.std.proofs.lemmas.List.Elements.{Contains-append_left, Contains-append_right, Contains-append_cases, Contains-push_cases}
use Rattle.model.specs.declared.group.PlacedChange.{PlacedChange}
use Rattle.model.specs.Group.{change_of, put_of, is_put_at}
use Rattle.model.proofs.GroupsLemmas.{is_put_at-append}
use Rattle.mv_keyspace.specs.Row.{ended_rows}
use Rattle.mv_keyspace.specs.Table.{Table, entries_of, place, place_all, puts_of, AreFresh, IsLawful, AreNumbersEnded}
use Rattle.mv_keyspace.proofs.DistinctLemmas.{distinct-append, here, later}
use Rattle.mv_keyspace.proofs.EndedLemmas.{fresh_not, fresh-first, put_once, lawful-place, fresh-place, made_before, ended-one}

pub place_all-append : (position : ℕ) (table : Table) (prefix changes : List PlacedChange) → place_all position table (prefix ++ changes) ≡ place_all position (place_all position table prefix) changes
place_all-append position table [] changes = refl
place_all-append position table (c ∷ prefix) changes = place_all-append position (place position table c) prefix changes

pub puts_of-append : (prefix changes : List PlacedChange) → puts_of (prefix ++ changes) ≡ puts_of prefix ++ puts_of changes
puts_of-append prefix changes = flat_map-append put_of prefix changes

-- ---- a number is in a list or it is not

pub only : (x i : ℕ) → Contains (x ∷ []) i → x ≡ i
only x i m = grind (arith, Contains-push_cases [] x i m)

is_in : (xs : List ℕ) (i : ℕ) → Contains xs i ⊎ (¬ Contains xs i)
is_in [] i = inr (λ m. absurd (omega (arith, m.1)))
is_in (x ∷ xs) i = grind (arith, cases_eq x i, here x xs, later x i xs, Contains-append_cases (x ∷ []) xs i, only x i, is_in xs i)

-- ---- the table after the first changes is lawful, and the puts of those that follow are fresh

pub lawful-prefix : (position : ℕ) (table : Table) (prefix changes : List PlacedChange) → IsLawful table → AreFresh table (puts_of (prefix ++ changes))
    → IsLawful (place_all position table prefix) × AreFresh (place_all position table prefix) (puts_of changes)
lawful-prefix position table [] changes lawful fresh = (lawful, fresh)
lawful-prefix position table (c ∷ prefix) changes lawful fresh =
    lawful-prefix position (place position table c) prefix changes (lawful-place position c (prefix ++ changes) table lawful fresh) (fresh-place position c (prefix ++ changes) table lawful fresh)

-- ---- the entries that both ended

-- what was there or put at first is not put later; what was there, or was ever put, and is gone, was ended at first or later
module _ {was between gone gone' after : Type 0} (put put' : Bool) (first : gone ↔ ((was ⊎ IsTrue put) × (¬ between))) (more : gone' ↔ ((between ⊎ IsTrue put') × (¬ after)))
    (before : between → was ⊎ IsTrue put) (back : after → between ⊎ IsTrue put') (once : was ⊎ IsTrue put → IsTrue put' → ⊥) (known : between ⊎ (¬ between)) where
  apart : gone → gone' → ⊥
  apart h h' = grind arith

  both : (gone ⊎ gone') ↔ ((was ⊎ IsTrue (put || put')) × (¬ after))
  both = grind arith

module _ (position : ℕ) (table : Table) (prefix changes : List PlacedChange) (lawful : IsLawful table) (fresh : AreFresh table (puts_of (prefix ++ changes))) (first more : List ℕ)
    (ended : AreNumbersEnded position table prefix first) (later_ended : AreNumbersEnded position (place_all position table prefix) changes more) where
  abbrev between : Table
  between = place_all position table prefix

  apart_fresh : AreFresh table (puts_of prefix ++ puts_of changes)
  apart_fresh = subst (AreFresh table) (puts_of-append prefix changes) fresh

  was_first : (i : ℕ) → Contains (entries_of between) i → Contains (entries_of table) i ⊎ IsTrue (is_put_at i (puts_of prefix))
  was_first i m = made_before position table prefix i lawful (fresh-first table (puts_of prefix) (puts_of changes) apart_fresh) m

  was_later : (i : ℕ) → Contains (entries_of (place_all position between changes)) i → Contains (entries_of between) i ⊎ IsTrue (is_put_at i (puts_of changes))
  was_later i m = let after = lawful-prefix position table prefix changes lawful fresh in made_before position between changes i after.0 after.1 m

  -- what was live or put at first is not put later
  not_put : (i : ℕ) → Contains (entries_of table) i ⊎ IsTrue (is_put_at i (puts_of prefix)) → IsTrue (is_put_at i (puts_of changes)) → ⊥
  not_put i (inl m) t = fresh_not table (puts_of prefix ++ puts_of changes) i apart_fresh m (is_put_at-append i (puts_of prefix) (puts_of changes) ∙ or_right (is_put_at i (puts_of prefix)) (is_put_at i (puts_of changes)) t)
  not_put i (inr t') t = put_once table (puts_of prefix) (puts_of changes) i apart_fresh t' t

  pub ended-append : AreNumbersEnded position table (prefix ++ changes) (first ++ more)
  ended-append = record {
    once = distinct-append first more ended.once later_ended.once (λ i. apart _ _ (ended.these i) (later_ended.these i) (was_first i) (was_later i) (not_put i) (is_in (entries_of between) i));
    these = λ i.
        let all = both _ _ (ended.these i) (later_ended.these i) (was_first i) (was_later i) (not_put i) (is_in (entries_of between) i) in
        rw (puts_of-append prefix changes, place_all-append position table prefix changes, is_put_at-append i (puts_of prefix) (puts_of changes))
        (λ m. all.0 (Contains-append_cases first more i m), λ h. ⊎_elim (Contains-append_left first more i) (Contains-append_right first more i) (all.1 h));
  }

-- the entries that a change ended, and those that the later changes ended
pub ended-first : (position : ℕ) (c : PlacedChange) (changes : List PlacedChange) (table : Table) → IsLawful table → AreFresh table (puts_of (c ∷ changes)) → (more : List ℕ) → AreNumbersEnded position (place position table c) changes more
    → AreNumbersEnded position table (c ∷ changes) (entries_of (ended_rows (change_of c) table) ++ more)
ended-first position c changes table lawful fresh more rest =
    ended-append position table (c ∷ []) changes lawful fresh (entries_of (ended_rows (change_of c) table)) more (ended-one position c changes table lawful fresh) rest
