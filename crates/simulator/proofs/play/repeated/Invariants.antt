use Rattle.std.proofs.Common.{◌≡◌, ◌%◌, map, length, slice_index}
use Rattle.std.specs.List.{range_with_len}
use Rattle.simulator.proofs.play.repeated.Given as goal

abbrev pub invariant-loop-i : goal.invariant-loop-i
invariant-loop-i l = l.all.items ≡ map (λ i. slice_index l.fn.picks (i % length l.fn.picks)) (range_with_len 0 l.i)
