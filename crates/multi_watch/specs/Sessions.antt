-- The sessions of all connections, each under a number.
use Rattle.std.specs.Prelude.{◌≡◌, ◌≢◌, ◌≤◌, ℕ, List, [], vec_len, Option, Some, None, slice_index_or, Bool, if◌then◌else◌}
use Rattle.std.specs.Option.{option_map}
use Rattle.std.specs.Vec.{vec_capacity}
use Rattle.multi_watch.specs.declared.act.Act.{Act}
use Rattle.multi_watch.specs.declared.act.Act.TheVariants as act
use Rattle.multi_watch.specs.Session.{Session, idle_session, is_watched, modified}
use Rattle.multi_watch.specs.Watchers.{Table, watches}
use Rattle.multi_watch.specs.Admission.{Step, act_now}

-- the session of each number from 0 on, and none where the number is not open
abbrev pub Sessions : Type 0
Sessions = List (Option Session)

abbrev pub slot : Sessions → ℕ → Option Session
slot sessions number = slice_index_or sessions number None

-- a number that is not open has an idle session
abbrev pub session_of : Option Session → Session
session_of None = idle_session
session_of (Some session) = session

abbrev pub session_at : Sessions → ℕ → Session
session_at sessions number = session_of (slot sessions number)

-- this number has this afterwards, and every other keeps what it had
pub record Moves (old : Sessions) (number : ℕ) (now : Option Session) (new : Sessions) : Type 0 where
  pub moved : slot new number ≡ now
  pub others : (other : ℕ) → other ≢ number → slot new other ≡ slot old other

-- where requests are to be run, there is room for their replies
abbrev pub HasRoom : Act → Type 0
HasRoom (act.Answer reply) = Unit {0}
HasRoom (act.Run request) = Unit {0}
HasRoom (act.RunAll requests replies) = (replies.items ≡ []) × (vec_len requests ≤ vec_capacity replies)

-- the session of this number has taken this step, and the caller is to do this
pub record Steps (old : Sessions) (number : ℕ) (step : Step) (act : Act) (new : Sessions) : Type 0 where
  pub admission : act_now act ≡ step.admission
  pub session : Moves old number (Some step.session) new
  pub room : HasRoom act

-- the table names for each key the sessions that watch it, and no others
abbrev pub Agree : Table → Sessions → Type 0
Agree table sessions = (key : List ℕ) (number : ℕ) → watches table key number ≡ is_watched key (session_at sessions number).watched

-- a key is marked in some sessions, and the others stay as they were
abbrev pub marked_if : List ℕ → Bool → Option Session → Option Session
marked_if key is_marked slot = if is_marked then option_map (modified key) slot else slot
