use Rattle.std.proofs.Common.{ap, sym}
use Rattle.model.specs.declared.record.Record.{Record}
use Rattle.standby.proofs.Restarted.{are_of_restarted}
use Rattle.standby.proofs.opening.open.Goals as goal

pub read_back-requires : goal.read_back-requires
read_back-requires g c =
    let opened = c.in-Ok.ensures in
    (_, sym (ap (λ (r : Record). r.layout) c.record.ensures), sym c.lines.ensures, are_of_restarted (g.P.Pmem.state c.in-Ok.engine.device) _ _ _ _ _ _ opened.reopens opened.shown opened.durable)

pub returns-in_ok-keyspace-in-Ok-clause-follows : goal.returns-in_ok-keyspace-in-Ok-clause-follows
returns-in_ok-keyspace-in-Ok-clause-follows g c =
    let opened = c.in-Ok.ensures in
    rw c.new.ensures (c.in_ok-keyspace-in-Ok.ensures.follows _ (sym (ap (λ (r : Record). r.layout) c.record.ensures)) (sym c.lines.ensures)
    (are_of_restarted (g.P.Pmem.state c.in-Ok.engine.device) _ _ _ _ _ _ opened.reopens opened.shown opened.durable))

pub returns-in_ok-keyspace-in-Ok-clause-durable : goal.returns-in_ok-keyspace-in-Ok-clause-durable
returns-in_ok-keyspace-in-Ok-clause-durable g c = rw c.new.ensures c.in-Ok.ensures.durable
