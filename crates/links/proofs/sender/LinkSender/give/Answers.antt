use Rattle.links.proofs.GivenCopies.{HasGiven-epoch}
use Rattle.links.proofs.sender.LinkSender.give.Goals as goal

pub returns-clause-epoch : goal.returns-clause-epoch
returns-clause-epoch g c = let given = c.give_copy.ensures.given in HasGiven-epoch _ _ _ _ _ _ _ _ _ _ _ _ given.1
