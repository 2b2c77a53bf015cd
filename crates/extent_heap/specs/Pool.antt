-- Free runs with the forks that are spare.
use Rattle.std.specs.Prelude.{◌≡◌, ℕ, ◌+◌, ◌^◌, ◌<◌, ◌≤◌, List, length, vec_len}
use Rattle.std.specs.Vec.{vec_capacity}
use Rattle.kv_types.specs.declared.place.Extent.{Extent}
use Rattle.extent_heap.specs.Runs.{AreRuns, total}
use Rattle.extent_heap.specs.declared.spare.Spare.{Spare}

-- Each fork that was made is in the tree or spare, and the list of spare forks has room for all.
pub record IsPool (end : ℕ) (runs : List Extent) (spare : Spare) : Type 0 where
  pub small : end < 2 ^ 64
  pub ordered : AreRuns 0 (end + 1) runs
  pub counted : spare.made ≡ vec_len spare.forks + length runs
  pub room : spare.made ≤ vec_capacity spare.forks

-- The lines: their number is known, and there is a spare fork for each extent that is out.
pub record AreLines (end : ℕ) (runs : List Extent) (spare : Spare) (free held : ℕ) : Type 0 where
  pub pool : IsPool end runs spare
  pub count : free ≡ total runs
  pub enough : held ≤ vec_len spare.forks
