use Rattle.std.proofs.Common.{◌≡◌}
use Rattle.redis_core.specs.Sequencing.{Sequencing}
use Rattle.serving.specs.Callers.{answers_of}
use Rattle.serving.specs.Visiting.{floor_of}
use Rattle.serving.proofs.VisitLemmas.{Heeding}
use Rattle.serving.proofs.open_connections.OpenConnections.list_called.Given as goal

abbrev pub invariant-loop : goal.invariant-loop
invariant-loop g l = record {
  arrivals : l.self.callers.arrivals ≡ l.fn.self.callers.arrivals;
  heeds : (s : Sequencing) → Heeding (answers_of l.fn.self.callers.answers) (answers_of l.self.callers.answers) l.counter (floor_of l.fn.self s) (floor_of l.self s);
}
