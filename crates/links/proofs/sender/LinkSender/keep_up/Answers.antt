use Rattle.std.proofs.Common.{refl, inl, inr}
use Rattle.links.proofs.sender.LinkSender.keep_up.Goals as goal

pub returns-in-Ok-clause-sends : goal.returns-in-Ok-clause-sends
returns-in-Ok-clause-sends g c = inr (c.send_to-has_sent.result.1, c.send_to-has_sent.ensures.sends)

pub returns-clause-sends : goal.returns-clause-sends
returns-clause-sends g c = inl (refl, refl, (refl, refl))
