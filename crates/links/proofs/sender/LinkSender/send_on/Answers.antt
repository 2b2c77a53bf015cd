use Rattle.links.proofs.SentRounds.{HasSent-epoch}
use Rattle.links.proofs.sender.LinkSender.send_on.Goals as goal

pub returns-clause-epoch : goal.returns-clause-epoch
returns-clause-epoch g c = let sent = c.send_all.ensures.sent in HasSent-epoch _ _ _ _ _ _ _ _ _ _ sent.1

pub returns-clause-sends : goal.returns-clause-sends
returns-clause-sends g c = let sent = c.send_all.ensures.sent in (_, _, sent.0, sent.1, sent.2)
