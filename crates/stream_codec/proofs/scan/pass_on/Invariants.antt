use Rattle.std.proofs.Common.{length}
use Rattle.stream_codec.specs.Scanning.{IsEnd, EndsAlike}
use Rattle.stream_codec.proofs.scan.pass_on.Given as goal

-- the frame ends where it does from what comes next on
abbrev pub invariant-loop-next : goal.invariant-loop-next
invariant-loop-next l = record { alike : EndsAlike l.fn.next l.bytes l.next l.rest; end : IsEnd l.bytes l.rest }

abbrev pub decreases-loop-next : goal.decreases-loop-next
decreases-loop-next l = length l.rest
