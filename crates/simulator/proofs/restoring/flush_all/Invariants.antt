use Rattle.std.proofs.Common.{◌≡◌, vec_len}
use Rattle.simulator.proofs.restoring.flush_all.Given as goal

-- the device keeps its lines
abbrev pub invariant-loop-line : goal.invariant-loop-line
invariant-loop-line l = vec_len l.device.cells.heads ≡ vec_len l.initial.device.cells.heads
