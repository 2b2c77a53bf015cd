-- An extent and the run that it touches, as one.
use Rattle.std.specs.Prelude.{◌≡◌, ℕ, ◌+◌, ◌<◌, ◌≤◌, ◌||◌, List}
use Rattle.kv_types.specs.declared.place.Extent.{Extent}
use Rattle.extent_heap.specs.Extents.{is_line_of}
use Rattle.extent_heap.specs.Runs.{has_line, AreRuns, total}

-- The last run, if it ends where the extent begins, is now part of the extent.
pub record JoinsLast (runs : List Extent) (extent : Extent) (rest : List Extent) (joined : Extent) : Type 0 where
  pub lines : (line : ℕ) → (has_line rest line || is_line_of joined line) ≡ (has_line runs line || is_line_of extent line)
  pub ordered : (low : ℕ) → AreRuns low (extent.first_line + 1) runs → low ≤ extent.first_line → AreRuns low joined.first_line rest × (low ≤ joined.first_line)
  pub end : joined.first_line + joined.lines ≡ extent.first_line + extent.lines
  pub no_shorter : extent.lines ≤ joined.lines
  pub count : total rest + joined.lines ≡ total runs + extent.lines

-- The first run, if it begins where the extent ends, is now part of the extent.
pub record JoinsFirst (runs : List Extent) (extent : Extent) (joined : Extent) (rest : List Extent) : Type 0 where
  pub lines : (line : ℕ) → (is_line_of joined line || has_line rest line) ≡ (is_line_of extent line || has_line runs line)
  pub ordered : (high : ℕ) → AreRuns (extent.first_line + extent.lines) high runs → extent.first_line + extent.lines < high
      → AreRuns (joined.first_line + joined.lines + 1) high rest × (joined.first_line + joined.lines < high)
  pub first : joined.first_line ≡ extent.first_line
  pub no_shorter : extent.lines ≤ joined.lines
  pub count : total rest + joined.lines ≡ total runs + extent.lines
