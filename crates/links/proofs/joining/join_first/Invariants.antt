use Rattle.links.specs.Joining.{AreBegun}
use Rattle.links.proofs.joining.join_first.Given as goal

abbrev pub invariant-loop : goal.invariant-loop
invariant-loop l = AreBegun l.fn.messages.items l.joined
