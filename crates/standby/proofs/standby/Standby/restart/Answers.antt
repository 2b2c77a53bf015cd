use Rattle.std.proofs.Common.{ap, sym}
use Rattle.model.specs.declared.record.Record.{Record}
use Rattle.model.specs.declared.record.Role.TheVariants.{Standby}
use Rattle.pmem.specs.Crash.{image_of}
use Rattle.placing.specs.Read.{AreOf}
use Rattle.standby.proofs.Restarted.{are_of_restarted}
use Rattle.standby.proofs.standby.Standby.restart.Given.{Over}
use Rattle.standby.proofs.standby.Standby.restart.Goals as goal
use Rattle.standby.proofs.standby.Standby.restart.Goals.{After-lines}

-- the lists that were read of the image are those of the contents
are_of : (g : Over) (c : After-lines g) → AreOf (g.E.Durable.contents c.restart.new.self) c.in_ok-versions.versions.counted.items c.in_ok-versions.versions.gapped.items
are_of g c =
    let device = g.E.Durable.device c.args.self.now.engine in
    let versions = c.in_ok-versions.versions in
    let opened = c.in_ok-versions.ensures in
    are_of_restarted (g.E.Durable.device c.restart.new.self) device.lines (image_of device.words) Standby (g.E.Durable.contents c.restart.new.self) versions.counted.items versions.gapped.items opened.reopens opened.shown opened.durable

pub read_back-requires : goal.read_back-requires
read_back-requires g c = (g.E.Durable.contents c.restart.new.self, sym (ap (λ (r : Record). r.layout) c.record.ensures), sym c.lines.ensures, are_of g (goal.at.read_back-requires g c).After-lines)

pub returns-clause-follows : goal.returns-clause-follows
returns-clause-follows g c =
    c.in_ok-keyspace.ensures.follows (g.E.Durable.contents c.restart.new.self) (sym (ap (λ (r : Record). r.layout) c.record.ensures)) (sym c.lines.ensures) (are_of g (goal.at.returns-clause-follows g c).After-lines)
