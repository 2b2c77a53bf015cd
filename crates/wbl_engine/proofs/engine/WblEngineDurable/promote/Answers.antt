use Rattle.wbl_engine.proofs.Erased.{rest_keeps}
use Rattle.wbl_engine.proofs.HalfLemmas.{half_keeps}
use Rattle.wbl_engine.proofs.PromotingLemmas.{not_promotion, promotion_none}
use Rattle.wbl_engine.proofs.engine.WblEngineDurable.promote.Goals as goal

pub returns-then-self-2-clause-moments : goal.returns-then-self-2-clause-moments
returns-then-self-2-clause-moments g c sound = promotion_none (half_keeps (c.args.self.now.half sound c.if-self-2.true))

pub returns-in_default-clause-moments : goal.returns-in_default-clause-moments
returns-in_default-clause-moments g c sound =
    let self = c.args.self.now in
    promotion_none (rest_keeps self.current (g.P.Pmem.state self.device) (self.at_rest sound c.if-self-2.false))

pub returns-clause-durable : goal.returns-clause-durable
returns-clause-durable g c = rest_keeps c.in-Some.next (g.P.Pmem.state c.write_promoted.new.device) c.in-Ok.ensures.rest

pub returns-in_default-write_promoted-clause-exhausts : goal.returns-in_default-write_promoted-clause-exhausts
returns-in_default-write_promoted-clause-exhausts g c sound exhausts =
    absurd (not_promotion c.args.self.now.current c.in-Some.next c.in-Some.ensures.next c.in-Some.ensures.lawful c.in-Some.ensures.other exhausts)

pub returns-clause-exhausts : goal.returns-clause-exhausts
returns-clause-exhausts g c sound exhausts =
    absurd (not_promotion c.args.self.now.current c.in-Some.next c.in-Some.ensures.next c.in-Some.ensures.lawful c.in-Some.ensures.other exhausts)
