use Rattle.std.proofs.Common.{◌≡◌, ◌-◌, ◌≤◌}
use Rattle.serving.specs.Serving.{HasRead, Serves, WaitsOnlyFor}
use Rattle.serving.specs.Visiting.{Floor, VisitsFrom, floor_of}
use Rattle.serving.proofs.open_connections.OpenConnections.serve_listed.Given as goal

abbrev pub invariant-loop-done : goal.invariant-loop-done
invariant-loop-done g l = record {
  serves : Serves l.fn.front.sequencer l.front.sequencer;
  read : HasRead l.fn.marks l.marks;
  short : WaitsOnlyFor l.self.is_short l.is_working l.front.sequencer;
  behind : l.passed ≤ l.done;
  callers : l.self.callers ≡ l.fn.self.callers;
  -- whatever those come to that are left
  visits : (last : Floor) → VisitsFrom (l.all - l.done) l.passed (floor_of l.self l.front.sequencer) last → VisitsFrom l.all 0 (floor_of l.fn.self l.fn.front.sequencer) last;
}
