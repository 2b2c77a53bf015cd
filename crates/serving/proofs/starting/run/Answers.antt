use Rattle.serving.proofs.LinkingLemmas.{link-of}
use Rattle.serving.proofs.starting.run.Goals as goal

pub committed-committed-requires : goal.committed-committed-requires
committed-committed-requires g c = (c.args.opened.primary.front.sequencer, c.requires.stands)

pub start-requires-clause-link : goal.start-requires-clause-link
start-requires-clause-link g c = λ κs bounds. link-of _ _ _ _ _ _ _ _ c.requires.stands.consistent c.requires.opened c.in-Ok.ensures.link
