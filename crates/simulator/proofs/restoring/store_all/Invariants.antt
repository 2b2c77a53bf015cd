use Rattle.std.proofs.Common.{◌≡◌, vec_len}
use Rattle.simulator.proofs.restoring.store_all.Given as goal

-- the device keeps its lines
abbrev pub invariant-loop-word : goal.invariant-loop-word
invariant-loop-word l = vec_len l.device.cells.heads ≡ vec_len l.initial.device.cells.heads
