use Rattle.std.proofs.Common.{◌≡◌, map}
use Rattle.cmd_core.specs.Reply.{bulk_or_null}
use Rattle.cmd_core.proofs.outcome.bulks.Given as goal

abbrev pub invariant-loop-value : goal.invariant-loop-value
invariant-loop-value l = l.replies ≡ map bulk_or_null l.yielded
