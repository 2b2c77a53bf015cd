use Rattle.std.proofs.Common.{ap, []}
use Rattle.redis_core.specs.Sequencing.{Sequencing}
use Rattle.primary.proofs.ClosedLemmas.{ended-same}
use Rattle.primary.proofs.KeptLemmas.{recollects-answered, recollects-same, recollects-turned}
use Rattle.primary.proofs.LeadsLemmas.{Leads-still}
use Rattle.primary.proofs.front.Front.turn.Goals as goal

pub returns-clause-keeps : goal.returns-clause-keeps
returns-clause-keeps g c = λ contents items aside leads.
    let s = c.args.self.now.sequencer in
    let turned = c.turn.ensures in
    let ended = ended-same c.turn.result s c.turn.new.self _ _ turned.served turned.unserved (λ served. served.4.ended) (λ same. ap (λ (s : Sequencing). s.ended) same.0) in
    Leads-still contents items aside s c.turn.new.self [] turned.stands turned.expects ended leads

pub returns-clause-recollects : goal.returns-clause-recollects
returns-clause-recollects g c =
    let s = c.args.self.now.sequencer in
    let turned = c.turn.ensures in
    recollects-turned c.turn.result s c.turn.new.self _ _ turned.served turned.unserved (λ served. recollects-answered s c.turn.new.self _ served.0 served.1 served.4) (λ same. recollects-same s c.turn.new.self same.0)
