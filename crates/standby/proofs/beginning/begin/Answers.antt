use Rattle.std.proofs.Common.{ap, ◌∙◌}
use Rattle.model.specs.declared.record.Record.{Record}
use Rattle.standby.proofs.OpenedNewcomer.{Gathers-opened, none_ended}
use Rattle.standby.proofs.beginning.begin.Goals as goal

pub clear_all_gaps-requires-clause-none : goal.clear_all_gaps-requires-clause-none
clear_all_gaps-requires-clause-none g c =
    none_ended (g.E.Durable.contents c.args.read.engine) c.args.read.ended.items c.requires.empty c.requires.stands.follows.listed

pub returns-clause-begun : goal.returns-clause-begun
returns-clause-begun g c = λ lines image reopened.
    let done = c.in_ok-clear_all_gaps.ensures in
    record { opened = g.E.Durable.contents c.args.read.engine; reopened = reopened; cleared = done.cleared; gapless = done.gapless }

pub returns-clause-awaits : goal.returns-clause-awaits
returns-clause-awaits g c =
    let node = c.clear_all_gaps.new.self in
    let contents = g.E.Durable.contents node.engine in
    let cleared = c.in_ok-clear_all_gaps.ensures.cleared in
    let stands = c.in_ok-clear_all_gaps.ensures.stands in
    record {
      gathers = Gathers-opened contents (ap (λ (r : Record). r.role) cleared.current ∙ c.requires.newcomer) (λ i. cleared.versions i ∙ c.requires.empty i) (g.E.Durable.staged node.engine)
          (g.met.E.Durable.idle node.engine (c.in_ok-clear_all_gaps.ensures.copying ∙ c.requires.idle)) (g.K.Keyspace.table node.keyspace) node.heap node.ended.items stands.follows;
      sound = stands.sound;
      durable = stands.durable;
    }
