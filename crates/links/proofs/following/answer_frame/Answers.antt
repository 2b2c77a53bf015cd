use Rattle.std.proofs.Common.{[], refl}
use Rattle.standby.specs.declared.standby.Standby.{Standby}
use Rattle.links.specs.Serving.{Held, held}
use Rattle.links.proofs.Says.{says-err, says-frame, says-none}
use Rattle.links.proofs.Serving.{OnOk-into}
use Rattle.links.proofs.following.answer_frame.Given.{Over}
use Rattle.links.proofs.following.answer_frame.Goals as goal

abbrev holds : (g : Over) → Standby g.row.E.Denot g.row.K.Denot g.row.E-Device.Denot → Held
holds g standby = held (g.E.Durable.contents standby.engine) (g.K.Keyspace.table standby.keyspace)

-- nothing is sent
pub returns-in_err-ack-clause-says : goal.returns-in_err-ack-clause-says
returns-in_err-ack-clause-says g c = says-err _ [] (says-none _ _ _ _ c.in_err-ack.ensures.leaves) (λ _. refl)

-- ---- the acknowledgement is sent

pub returns-clause-answered : goal.returns-clause-answered
returns-clause-answered g c = OnOk-into c.say.result (λ written. (c.in_ok-ack.ack, c.in_ok-ack.ensures.acknowledges, written)) c.say.ensures.said

pub returns-clause-says : goal.returns-clause-says
returns-clause-says g c =
    says-frame c.say.result (holds g c.args.node.now) (holds g c.take_frame.new.node) c.args.frame c.in_ok-ack.ack _ _ c.in_ok-ack.ensures.acknowledges c.say.ensures.begun
