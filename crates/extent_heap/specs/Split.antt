-- Runs that are split in two where a line begins.
use Rattle.std.specs.Prelude.{◌≡◌, ℕ, ◌<◌, ◌≤◌, List, ◌++◌}
use Rattle.std.specs.List.{AllByRecursion}
use Rattle.kv_types.specs.declared.place.Extent.{Extent}
use Rattle.extent_heap.specs.Runs.{AreRuns}

abbrev pub AllBelow : ℕ → List Extent → Type 0
AllBelow line runs = AllByRecursion (λ (run : Extent). run.first_line < line) runs

abbrev pub AllFrom : ℕ → List Extent → Type 0
AllFrom line runs = AllByRecursion (λ (run : Extent). line ≤ run.first_line) runs

-- In order, those that begin below the line come first.
pub record IsSplit (line : ℕ) (runs below rest : List Extent) : Type 0 where
  pub is : runs ≡ below ++ rest
  pub below_begins : (low high : ℕ) → AreRuns low high runs → AllBelow line below
  pub rest_begins : (low high : ℕ) → AreRuns low high runs → AllFrom line rest
