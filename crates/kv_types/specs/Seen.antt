-- How far both nodes hold the list of calls.
use Rattle.std.specs.Prelude.{ℕ, Bool, ◌&&◌, nat_le}
use Rattle.kv_types.specs.declared.seen.Seen.{Seen}

-- both nodes hold this position
abbrev pub covers : Seen → ℕ → Bool
covers seen position = nat_le position seen.local && nat_le position seen.remote
