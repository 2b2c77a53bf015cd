use Rattle.std.proofs.Common.{◌≡◌, map}
use Rattle.std.specs.List.{range_with_len}
use Rattle.pmem.specs.Device.{newest_at}
use Rattle.simulator.proofs.image.words_of.Given as goal

abbrev pub invariant-loop-word : goal.invariant-loop-word
invariant-loop-word g l = l.words.items ≡ map (newest_at (g.P.Pmem.state l.device)) (range_with_len 0 l.word)
