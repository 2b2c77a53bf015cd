use Rattle.std.proofs.Common.{◌≡◌}
use Rattle.links.specs.Marking.{StaysAhead}
use Rattle.links.proofs.Hearing.{SoFar}
use Rattle.links.proofs.receiver.AckReceiver.hear_link.Given as goal

-- all that came was taken; the epoch stays, and so does the mark of a standby that was ahead
abbrev pub invariant-loop : goal.invariant-loop
invariant-loop g l = record {
  epoch : l.self.epoch ≡ l.initial.self.epoch;
  stays : StaysAhead l.initial.self l.self;
  so_far : SoFar l.initial.self l.initial.decoder (g.I.Read.remaining l.initial.from) l.self (g.I.Read.remaining l.from) l.decoder;
}
