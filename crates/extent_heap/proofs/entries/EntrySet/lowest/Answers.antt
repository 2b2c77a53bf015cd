use Rattle.std.proofs.Common.{◌≡◌, List, Bool, false, ℕ, subst}
use Rattle.extent_heap.specs.Entries.{is_free, IsLowest}
use Rattle.extent_heap.proofs.EntriesLemmas.{none_in_set, first_block, first_entries, lowest_in_set, words_fit}
use Rattle.extent_heap.proofs.entries.EntrySet.lowest.Goals as goal

pub returns-in_default : goal.returns-in_default
returns-in_default c = subst (λ (entries : List Bool). (i : ℕ) → is_free entries i ≡ false) c.self.view_is (none_in_set _ _ _ _ _ c.self.invariant c.in_default.ensures)

pub first_of-word-requires-clause-first : goal.first_of-word-requires-clause-first
first_of-word-requires-clause-first c = first_block _ _ _ _ _ c.self.invariant _ c.first_of-block.ensures

pub first_of-requires-clause-first : goal.first_of-requires-clause-first
first_of-requires-clause-first c = first_entries _ _ _ _ _ c.self.invariant _ c.first_of-word.ensures

pub first_of-requires-clause-small : goal.first_of-requires-clause-small
first_of-requires-clause-small c = words_fit _ _ _ _ _ c.self.invariant

pub returns : goal.returns
returns c = subst (λ (entries : List Bool). IsLowest entries c.first_of.result) c.self.view_is (lowest_in_set _ _ _ _ _ c.self.invariant _ c.first_of.ensures)
