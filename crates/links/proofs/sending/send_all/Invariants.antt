use Rattle.std.proofs.Common.{◌≡◌, []}
use Rattle.links.proofs.SentRounds.{SoSent}
use Rattle.links.proofs.sending.send_all.Given as goal

-- all that was put is written
abbrev pub invariant-loop : goal.invariant-loop
invariant-loop g l = record {
  so_far : SoSent g.I.Inlet.take_gives l.fn.marks.remote l.fn.outgoing.link l.fn.groups (g.O.Write.contents l.fn.to) l.marks.remote l.outgoing.link l.groups (g.O.Write.contents l.to);
  emptied : l.out.items ≡ [];
}
