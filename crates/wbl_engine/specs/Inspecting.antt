-- What is told of an image without changing it.
use Rattle.std.specs.Prelude.{ℕ, zero, suc, ◌+◌, if◌then◌else◌}
use Rattle.heap_layout.specs.Versions.{is_live}
use Rattle.model.specs.declared.record.Record.{Record}
use Rattle.model.specs.Image.{Image}

-- how many entries below this number are live: their begin counts, and their end does not
abbrev pub live_below : Record → Image → ℕ → ℕ
live_below r image zero = 0
live_below r image (suc i) = live_below r image i + (if is_live r image i then 1 else 0)
