use Rattle.std.proofs.Common.{arith}
use Rattle.std.proofs.lemmas.Result.{on_ok_weaker}
use Rattle.wbl_engine.proofs.RaisingLemmas.{causes_reached, freed_reached, moved_reached, never_exhausts, stays_reached}
use Rattle.wbl_engine.proofs.unraised.free_unraised.Goals as goal

pub returns-clause-moved : goal.returns-clause-moved
returns-clause-moved g c =
    on_ok_weaker c.free.result
    (λ moved. moved_reached 0 (g.E.Durable.contents c.args.engine.now) (g.E.Durable.contents c.free.new.self) c.args.entries.now (omega arith) moved) c.free.ensures.moved

pub returns-clause-causes : goal.returns-clause-causes
returns-clause-causes g c =
    causes_reached c.free.result c.free.ensures.causes
    (λ exhausted. never_exhausts 0 (g.E.Durable.contents c.args.engine.now).current (omega arith) (c.free.ensures.exhausted exhausted).0)

pub returns-clause-stays : goal.returns-clause-stays
returns-clause-stays g c is sound =
    stays_reached 0 (g.E.Durable.contents c.args.engine.now) (g.E.Durable.contents c.free.new.self) c.args.entries.now (omega arith) (c.free.ensures.stays is sound)

pub returns-clause-moments : goal.returns-clause-moments
returns-clause-moments g c sound = freed_reached 0 (g.E.Durable.contents c.args.engine.now) c.args.entries.now (omega arith) (c.free.ensures.moments sound)
