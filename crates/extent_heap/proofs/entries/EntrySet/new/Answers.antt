use Rattle.std.proofs.Common.{◌≡◌, subst, rules}
use Rattle.extent_heap.proofs.EntriesLemmas.{AreFreeBelow, all_free}
use Rattle.extent_heap.proofs.entries.EntrySet.new.Goals as goal

pub returns : goal.returns
returns c =
    let all : c.loop-entry.entry ≡ c.args.end = search rules in
    all_free c.args.end c.loop-entry.entries (subst (λ n. AreFreeBelow c.args.end n c.loop-entry.entries) all c.loop-entry.invariant)
