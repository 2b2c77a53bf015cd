-- What a tree of runs holds.
use Rattle.std.specs.Prelude.{◌≡◌, Option, None, Some, List, [], ◌∷◌, ◌++◌}
use Rattle.std.specs.Prelude.{Box}
use Rattle.std.specs.declared.alloc.Global.{Global}
use Rattle.kv_types.specs.declared.place.Extent.{Extent}
use Rattle.extent_heap.specs.Runs.{longest}
use Rattle.extent_heap.specs.declared.tree.Fork.{Fork}

-- the runs of a fork, in order
abbrev pub runs_at : Fork → List Extent
runs_at fork = fork.left ++ fork.run ∷ fork.right

abbrev pub runs_of : Option (Box Fork Global) → List Extent
runs_of None = []
runs_of (Some fork) = runs_at fork.value

-- the fork knows the length of the longest run at and below it
abbrev pub IsSummed : Option (Box Fork Global) → Type 0
IsSummed None = Unit {0}
IsSummed (Some fork) = fork.value.longest ≡ longest (runs_at fork.value)
