use Rattle.std.proofs.Common.{ap, sym}
use Rattle.model.specs.declared.record.Record.{Record}
use Rattle.standby.proofs.OpenedNewcomer.{is_newcomer, none_there}
use Rattle.standby.proofs.Restarted.{are_of_restarted}
use Rattle.standby.proofs.beginning.open_newcomer.Goals as goal

pub read_back-requires : goal.read_back-requires
read_back-requires g c =
    let opened = c.in-Ok.ensures in
    (_, sym (ap (λ (r : Record). r.layout) c.record.ensures), sym c.lines.ensures, are_of_restarted (g.P.Pmem.state c.in-Ok.engine.device) _ _ _ _ _ _ opened.reopens opened.shown opened.durable)

pub begin-requires-clause-stands : goal.begin-requires-clause-stands
begin-requires-clause-stands g c =
    let opened = c.in-Ok.ensures in
    record {
      follows = c.in_ok-keyspace-in-Ok.ensures.follows _ (sym (ap (λ (r : Record). r.layout) c.record.ensures)) (sym c.lines.ensures)
          (are_of_restarted (g.P.Pmem.state c.in-Ok.engine.device) _ _ _ _ _ _ opened.reopens opened.shown opened.durable);
      sound = opened.sound.0;
      durable = opened.durable;
    }

pub begin-requires-clause-newcomer : goal.begin-requires-clause-newcomer
begin-requires-clause-newcomer g c = is_newcomer _ _ _ _ _ c.in-Ok.ensures.reopens

pub begin-requires-clause-empty : goal.begin-requires-clause-empty
begin-requires-clause-empty g c = none_there _ _ _ _ _ c.in-Ok.ensures.reopens

pub returns-in_ok-keyspace-in-Ok-clause-begun : goal.returns-in_ok-keyspace-in-Ok-clause-begun
returns-in_ok-keyspace-in-Ok-clause-begun g c = c.begin.ensures.begun _ _ (record { counted = _; gapped = _; reopens = c.in-Ok.ensures.reopens })
