use Rattle.failover.proofs.PromotedLemmas.{promotion_lawful}
use Rattle.failover.proofs.promoting.promote_image.Goals as goal

pub returns-clause-lawful : goal.returns-clause-lawful
returns-clause-lawful g c =
    promotion_lawful c.promote.result (g.E.Durable.is_faulted c.args.standby.now.engine) (g.E.Durable.contents c.args.standby.now.engine)
    (g.E.Durable.contents c.promote.new.self) (λ faulted. (c.promote.ensures.fences.faulted faulted).0) c.promote.ensures.exhausts c.promote.ensures.moved
