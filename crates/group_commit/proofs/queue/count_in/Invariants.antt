use Rattle.std.proofs.Common.{◌≡◌, take}
use Rattle.group_commit.proofs.TakingLemmas.{many_in}
use Rattle.group_commit.proofs.queue.count_in.Given as goal

abbrev pub invariant-loop-item : goal.invariant-loop-item
invariant-loop-item l = l.count ≡ many_in (take l.item-index l.items)
