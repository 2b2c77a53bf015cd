-- What the pools of free runs have room for.
use Rattle.std.proofs.Common.{ℕ, ◌+◌, ◌^◌, ◌<◌, ◌≤◌, List, [], ◌∷◌, arith}
use Rattle.kv_types.specs.declared.place.Extent.{Extent}
use Rattle.extent_heap.specs.Runs.{AreRuns, total, HasGiven}
use Rattle.extent_heap.specs.Pool.{AreLines}
use Rattle.extent_heap.specs.declared.spare.Spare.{Spare}
use Rattle.extent_heap.proofs.RunsLemmas.{runs-bound}

-- the lines that are free are no more than there are
total-small : (end : ℕ) (runs : List Extent) → AreRuns 0 (end + 1) runs → total runs ≤ end
total-small end [] ordered = omega arith
total-small end (x ∷ xs) ordered = omega (arith, (runs-bound 0 (end + 1) (x ∷ xs) ordered (omega arith)).1)

pub free_fits : (end : ℕ) (runs new_runs : List Extent) (spare : Spare) (free held : ℕ) (extent : Extent) → AreLines end runs spare free held → extent.first_line + extent.lines ≤ end
    → HasGiven runs extent new_runs → free + extent.lines < 2 ^ 64
free_fits end runs new_runs spare free held extent lines within given =
    omega (arith, lines.count, given.count, lines.pool.small, total-small end new_runs (given.ordered (end + 1) lines.pool.ordered (omega arith)))
