use Rattle.connections.proofs.AskingLemmas.{new-stands}
use Rattle.connections.proofs.asking.Asking.new.Goals as goal

pub returns : goal.returns
returns c = new-stands _ c.new.ensures.unread c.new.ensures.is_open c.new-2.ensures.items c.in_ok-new.ensures
