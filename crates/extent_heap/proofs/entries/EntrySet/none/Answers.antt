use Rattle.std.proofs.Common.{rules}
use Rattle.extent_heap.proofs.EntriesLemmas.{none_are_free, empty_set}
use Rattle.extent_heap.proofs.entries.EntrySet.none.Goals as goal

pub invariant_of-result : goal.invariant_of-result
invariant_of-result c = empty_set c.args.end (search rules) _ _ _ c.in_ok-new.ensures c.in_ok-new-2.ensures c.in_ok-new-3.ensures

pub returns : goal.returns
returns c = none_are_free c.args.end _ c.in_ok-new.ensures
