use Rattle.std.proofs.Common.{◌≡◌, length}
use Rattle.clients.specs.Texts.{Sends}
use Rattle.clients.proofs.outbox.write_pending.Given as goal

-- What was written and what is still to be written are what was released.
abbrev pub invariant-loop-gate : goal.invariant-loop-gate
invariant-loop-gate g l = record {
  sends : Sends (g.W.Write.contents l.initial.writer) (g.W.Write.contents l.writer) l.initial.gate.pending l.gate.pending;
  waiting : l.gate.waiting ≡ l.initial.gate.waiting;
  replies : l.gate.replies ≡ l.initial.gate.replies;
}

abbrev pub decreases-loop-gate : goal.decreases-loop-gate
decreases-loop-gate g l = length l.gate.pending
