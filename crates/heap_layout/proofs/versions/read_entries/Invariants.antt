use Rattle.std.proofs.Common.{◌≡◌}
use Rattle.pmem.specs.Crash.{image_of}
use Rattle.heap_layout.specs.Versions.{AreUnder, counted_below, gapped_below}
use Rattle.heap_layout.proofs.versions.read_entries.Given as goal

abbrev pub invariant-loop-i : goal.invariant-loop-i
invariant-loop-i g l =
    let state = g.P.Pmem.state l.device in
    let image = image_of state.words in
    (l.versions.counted.items ≡ counted_below l.current image l.i) × (l.versions.gapped.items ≡ gapped_below l.current image l.i)
    × AreUnder l.current state.lines image l.i
