-- One of the runs: the one that has a line, and the one in whose place another stands.
use Rattle.std.specs.Prelude.{◌≡◌, ℕ, false, IsTrue, List, ◌∷◌, ◌++◌, Option, MatchOption}
use Rattle.kv_types.specs.declared.place.Extent.{Extent}
use Rattle.extent_heap.specs.Extents.{is_line_of}
use Rattle.extent_heap.specs.Runs.{has_line, AreRuns}

-- The run is one of these, and has the line.
pub record HasRun (runs : List Extent) (line : ℕ) (run : Extent) : Type 0 where
  pub before : List Extent
  pub behind : List Extent
  pub is : runs ≡ before ++ run ∷ behind
  pub has : IsTrue (is_line_of run line)

-- the answer is the run that has the line: `None` only where no run has it, if the runs are in order
abbrev pub FindsRun : List Extent → ℕ → Option Extent → Type 0
FindsRun runs line found = MatchOption found ((low high : ℕ) → AreRuns low high runs → has_line runs line ≡ false) (HasRun runs line)

-- Another run stands in the place of one of them, and all others are as they were.
pub record Replaces (old : List Extent) (run by : Extent) (new : List Extent) : Type 0 where
  pub before : List Extent
  pub behind : List Extent
  pub is : old ≡ before ++ run ∷ behind
  pub becomes : new ≡ before ++ by ∷ behind
