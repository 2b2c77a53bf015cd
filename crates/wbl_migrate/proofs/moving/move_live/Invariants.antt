use Rattle.std.proofs.Common.{Ok}
use Rattle.wbl_migrate.specs.Moving.{AreMoved, IsStep, MovesLive}
use Rattle.wbl_migrate.proofs.moving.move_live.Given as goal

abbrev pub invariant-loop-index : goal.invariant-loop-index
invariant-loop-index g l = record {
  so_far : IsStep g.E.Durable.device g.E.Durable.contents g.E.Durable.is_faulted {X = Unit {0}} MovesLive l.fn.engine (Ok tt) l.engine;
  moved : AreMoved (g.E.Durable.contents l.engine) l.versions.counted.items l.versions.gapped.items l.cleared l.places.items l.index;
}
