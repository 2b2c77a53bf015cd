use Rattle.std.proofs.Common.{◌≡◌, []}
use Rattle.links.proofs.GivenCopies.{SoGiven}
use Rattle.links.proofs.giving.give_copy.Given as goal

-- all that was put is written
abbrev pub invariant-loop : goal.invariant-loop
invariant-loop g l = record {
  so_far : SoGiven g.I.Inlet.take_gives g.C.Inlet.take_gives l.fn.attempt l.fn.outgoing.link l.fn.groups l.fn.copies (g.O.Write.contents l.fn.to) l.outgoing.link l.groups l.copies
      (g.O.Write.contents l.to);
  emptied : l.out.items ≡ [];
}
