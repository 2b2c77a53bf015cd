use Rattle.std.proofs.Common.{◌≡◌, ◌||◌, ℕ, Ok, length}
use Rattle.wbl_engine.specs.Freeing.{is_listed}
use Rattle.wbl_migrate.specs.Moving.{IsStep, KeepsAllVersions}
use Rattle.wbl_migrate.proofs.clearing.clear_gaps.Given as goal

abbrev pub invariant-loop-alloc : goal.invariant-loop-alloc
invariant-loop-alloc g l = record {
  so_far : IsStep g.E.Durable.device g.E.Durable.contents g.E.Durable.is_faulted {X = Unit {0}} KeepsAllVersions l.fn.engine (Ok tt) l.engine;
  free : (i : ℕ) → (g.E.Durable.contents l.engine).is_free i ≡ ((g.E.Durable.contents l.fn.engine).is_free i || is_listed i l.cleared.items);
}

abbrev pub decreases-loop-alloc : goal.decreases-loop-alloc
decreases-loop-alloc g l = length (g.E.Durable.contents l.engine).current.gaps.items
