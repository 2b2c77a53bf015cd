use Rattle.links.specs.Carrying.{ServesLinks}
use Rattle.links.specs.Ends.{AreOfOneEpoch}
use Rattle.links.proofs.sender.LinkSender.serve_links.Given as goal

-- both ends stay of one epoch, and are what the links so far left
abbrev pub invariant-loop : goal.invariant-loop
invariant-loop g l = record {
  epoch : AreOfOneEpoch l.self l.receiver;
  links : ServesLinks l.initial.self l.fn.receiver l.self l.receiver;
}
