use Rattle.std.proofs.Common.{length}
use Rattle.primary.proofs.restarting.drop_all.Given as goal

abbrev pub decreases-loop-work : goal.decreases-loop-work
decreases-loop-work l = length l.work.items
