use Rattle.std.proofs.Common.{◌≡◌, ◌++◌, replicate}
use Rattle.simulator.specs.Copy.{AppendsCopies}
use Rattle.simulator.proofs.schedule.Schedule.add.Given as goal

abbrev pub invariant-loop-time : goal.invariant-loop-time
invariant-loop-time l = record {
  events : AppendsCopies l.initial.self.events.items l.self.events.items l._time l.event;
  lines : l.self.lines.items ≡ l.initial.self.lines.items ++ replicate l._time l.line;
}
