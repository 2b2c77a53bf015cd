use Rattle.std.proofs.Common.{◌≡◌}
use Rattle.pipes.specs.Ring.{taken_at}
use Rattle.clients.specs.Texts.{Holds}
use Rattle.clients.proofs.outbox.Outbox.hold_all.Given as goal

-- What was taken so far is held behind what was held before.
abbrev pub invariant-loop-count : goal.invariant-loop-count
invariant-loop-count l = record {
  pending : l.self.gate.pending ≡ l.initial.self.gate.pending;
  taken : Holds (taken_at l.initial.replies) (taken_at l.replies) l.initial.self.gate l.self.gate;
  nothing : l.count ≡ 0 → taken_at l.replies ≡ taken_at l.initial.replies;
}
