use Rattle.std.proofs.Common.{◌≡◌, ◌+◌, ◌≤◌}
use Rattle.serving.specs.Roomed.{ServesByNeed}
use Rattle.serving.specs.Serving.{Serves, WaitsOnlyFor}
use Rattle.serving.specs.Turns.{TakesTurns}
use Rattle.serving.proofs.TurnsEnd.{count_of}
use Rattle.serving.proofs.turns.take_turns.Given as goal

abbrev pub invariant-loop : goal.invariant-loop
invariant-loop g l =
    TakesTurns l.fn.front.sequencer l.fn.connection l.any l.front.sequencer l.connection
    × Serves l.fn.front.sequencer l.front.sequencer
    × WaitsOnlyFor l.is_short l.is_working l.front.sequencer
    × (l.is_short ≡ l.fn.is_short)
    × (count_of l.connection ≡ count_of l.fn.connection + l.counter)
    × ServesByNeed l.is_working l.fn.is_short l.fn.front.sequencer l.fn.connection l.fn.filling l.front.sequencer l.connection l.filling
    × (l.front.sequencer.position ≤ l.fn.front.sequencer.position + l.share)
