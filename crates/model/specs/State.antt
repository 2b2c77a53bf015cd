-- What one Redis holds between two calls: its keyspace, and a session for each connection.
use Rattle.std.specs.Prelude.{ℕ, []}
use Rattle.kv_types.specs.Keyspace.{Keyspace}
use Rattle.multi_watch.specs.Session.{Session, idle_session}

pub record State : Type 0 where
  pub keyspace : Keyspace
  -- indexed by the connection's number
  pub sessions : ℕ → Session

-- this keyspace, and every session idle
abbrev pub idle_state : Keyspace → State
idle_state keyspace = record { keyspace = keyspace; sessions = λ connection. idle_session }

-- the state before the first call
abbrev pub start_state : State
start_state = idle_state []
