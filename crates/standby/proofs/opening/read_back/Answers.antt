use Rattle.std.proofs.Common.{sym, subst}
use Rattle.placing.specs.Read.{AreOf}
use Rattle.model.specs.Group.{Contents}
use Rattle.standby.proofs.Restarted.{follows_rebuilt}
use Rattle.standby.proofs.opening.read_back.Given.{Over}
use Rattle.standby.proofs.opening.read_back.Goals as goal
use Rattle.standby.proofs.opening.read_back.Goals.{After-deref}

-- the lists are those of these contents
are_of : (g : Over) (c : After-deref g) (contents : Contents) → AreOf contents c.args.versions.counted.items c.args.versions.gapped.items → AreOf contents c.args.versions.counted.items c.deref.result.now
are_of g c contents of = subst (AreOf contents c.args.versions.counted.items) (sym c.deref.ensures.value) of

pub rebuild-requires-clause-read : goal.rebuild-requires-clause-read
rebuild-requires-clause-read g c = (c.requires.0, c.requires.1, c.requires.2, are_of g (goal.at.rebuild-requires-clause-read g c).After-deref c.requires.0 c.requires.3)

pub returns-clause-follows : goal.returns-clause-follows
returns-clause-follows g c = λ contents layout lines of.
    let read = are_of g (goal.at.returns-clause-follows g c).After-deref contents of in
    let rebuilt = c.in_ok-room.ensures.ok contents layout lines read in
    follows_rebuilt contents (g.K.Keyspace.table c.rebuild.new.keyspace) c.in_ok-room.room.heap c.in_ok-room.room.ended.items read.lawful rebuilt.0 rebuilt.1
