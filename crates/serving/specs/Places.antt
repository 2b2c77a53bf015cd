-- The connections of the node's thread, each at the place of its seat's number.
use Rattle.std.specs.Prelude.{◌≡◌, ◌≢◌, ℕ, Bool, false, List, length, Option, Some, None, slice_index_or}
use Rattle.pipes.specs.declared.limits.TheConstants.{MAX_SEATS}
use Rattle.serving.specs.declared.open_connection.OpenConnection.{OpenConnection}

-- who is at a place
abbrev pub connection_at : List (Option OpenConnection) → ℕ → Option OpenConnection
connection_at places k = slice_index_or places k None

-- there is a place for each seat, and who is at one is of its seat
pub record AreInPlace (places : List (Option OpenConnection)) : Type 0 where
  pub all : length places ≡ MAX_SEATS
  pub own : (k : ℕ) (connection : OpenConnection) → connection_at places k ≡ Some connection → connection.arrival.seat ≡ k

-- that is at the place now, and at all others who was
pub record PutsAt (at : ℕ) (place : Option OpenConnection) (old new : List (Option OpenConnection)) : Type 0 where
  pub here : connection_at new at ≡ place
  pub others : (k : ℕ) → k ≢ at → connection_at new k ≡ connection_at old k

-- whether who is at a place is served again in the next round
abbrev pub is_again : Option OpenConnection → Bool
is_again (Some connection) = connection.is_again
is_again None = false
