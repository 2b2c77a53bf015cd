-- Runs of lines in order, no two of which touch.
use Rattle.std.specs.Prelude.{◌≡◌, ℕ, ◌+◌, ◌/◌, ◌^◌, ◌<◌, ◌≤◌, ◌==◌, max, Bool, false, not, ◌&&◌, ◌||◌, IsTrue, if◌then◌else◌, List, [], ◌∷◌, ◌++◌}
use Rattle.kv_types.specs.declared.place.Extent.{Extent}
use Rattle.extent_heap.specs.Extents.{is_line_of}

-- the line is in one of the runs
abbrev pub has_line : List Extent → ℕ → Bool
has_line [] line = false
has_line (run ∷ runs) line = is_line_of run line || has_line runs line

-- Each run has at least one line, and all lie between `low` and `high`. Behind each is at least one line that is in none.
abbrev pub AreRuns : ℕ → ℕ → List Extent → Type 0
AreRuns low high [] = Unit {0}
AreRuns low high (run ∷ runs) = (low ≤ run.first_line) × (0 < run.lines) × (run.first_line + run.lines < high) × AreRuns (run.first_line + run.lines + 1) high runs

-- how many lines the longest run has
abbrev pub longest : List Extent → ℕ
longest [] = 0
longest (run ∷ runs) = max run.lines (longest runs)

-- how many lines all runs have together
abbrev pub total : List Extent → ℕ
total [] = 0
total (run ∷ runs) = run.lines + total runs

-- how many extents of so many lines can be cut from the runs
abbrev pub pieces : ℕ → List Extent → ℕ
pieces lines [] = 0
pieces lines (run ∷ runs) = run.lines / lines + pieces lines runs

-- the run, if it has a line
abbrev pub some_run : Extent → List Extent
some_run run = if run.lines == 0 then [] else run ∷ []

-- The first run that has so many lines: all before it are shorter.
pub record IsFirstFit (lines : ℕ) (runs : List Extent) (run : Extent) : Type 0 where
  pub before : List Extent
  pub after : List Extent
  pub is : runs ≡ before ++ run ∷ after
  pub shorter : longest before < lines
  pub fits : lines ≤ run.lines

-- no line of the extent is in a run
abbrev pub IsApart : List Extent → Extent → Type 0
IsApart runs extent = (line : ℕ) → IsTrue (is_line_of extent line) → has_line runs line ≡ false

-- each line of the extent is in a run
abbrev pub IsPart : List Extent → Extent → Type 0
IsPart runs extent = (line : ℕ) → IsTrue (is_line_of extent line) → IsTrue (has_line runs line)

-- The answer is whether each line of the extent is in a run, where the runs are in order.
pub record TellsPart (runs : List Extent) (extent : Extent) (holds : Bool) : Type 0 where
  pub is : IsTrue holds → IsPart runs extent
  pub only : (low high : ℕ) → AreRuns low high runs → IsPart runs extent → IsTrue holds

-- runs between bounds that a `u64` can be
pub record AreInOrder (runs : List Extent) : Type 0 where
  pub low : ℕ
  pub high : ℕ
  pub small : high ≤ 2 ^ 64
  pub are : AreRuns low high runs

-- The run has all lines of the extent, and stands between the other runs.
pub record IsCut (runs : List Extent) (extent : Extent) (before : List Extent) (run : Extent) (behind : List Extent) : Type 0 where
  pub is : runs ≡ before ++ run ∷ behind
  pub from : run.first_line ≤ extent.first_line
  pub within : extent.first_line + extent.lines ≤ run.first_line + run.lines
  pub small : run.first_line + run.lines < 2 ^ 64

-- The new runs have the lines of the old ones and of the extent.
pub record HasGiven (old : List Extent) (extent : Extent) (new : List Extent) : Type 0 where
  pub lines : (line : ℕ) → has_line new line ≡ (has_line old line || is_line_of extent line)
  pub ordered : (high : ℕ) → AreRuns 0 high old → extent.first_line + extent.lines < high → AreRuns 0 high new
  pub count : total new ≡ total old + extent.lines

-- The new runs have the lines of the old ones without those of the extent.
pub record HasClaimed (old : List Extent) (extent : Extent) (new : List Extent) : Type 0 where
  pub lines : (line : ℕ) → has_line new line ≡ (has_line old line && not (is_line_of extent line))
  pub ordered : (high : ℕ) → AreRuns 0 high old → AreRuns 0 high new
  pub count : total new + extent.lines ≡ total old
