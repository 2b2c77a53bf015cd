-- What is promised of every run, in words that name no actor: one sequential Redis, its replies, and what is durable on both nodes.
use Rattle.std.specs.Prelude.{◌≡◌, ◌⊎◌, ℕ, ◌<◌, ◌≤◌, Bool, true, nat_eq, if◌then◌else◌, List, [], ◌∷◌, ◌++◌, length}
use Rattle.kv_types.specs.declared.limits.TheConstants.{REQUEST_LIMITS}
use Rattle.kv_types.specs.Reading.{items_at}
use Rattle.model.specs.declared.call.Call.{Call}
use Rattle.model.specs.Call.{IsLegal, IsPrefix, Serves, position_of, replies_to}
use Rattle.machine.specs.declared.event.Event.{Event}
use Rattle.machine.specs.declared.event.Event.TheVariants.{Feed}
use Rattle.machine.specs.Event.{Allowed, World, Run, start_with, last_world, connection_of}

abbrev pub fed_by : ℕ → Event → Bool → List ℕ
fed_by c (Feed d piece) true = if nat_eq d c then piece else []
fed_by c event did = []

-- the bytes fed to connection c: the pieces of the feeds that did their step, in order
abbrev pub fed_to : ℕ → List Event → List Bool → List ℕ
fed_to c (event ∷ events) (did ∷ done) = fed_by c event did ++ fed_to c events done
fed_to c events done = []

-- The call comes right after this prefix of the list, and the first byte of its reply was written to its connection.
pub record IsReleased (calls : List Call) (released : ℕ → List ℕ) (prefix : List Call) (call : Call) : Type 0 where
  pub rest : List Call
  pub stands : calls ≡ prefix ++ call ∷ rest
  pub written : length (replies_to call.connection prefix) < length (released call.connection)

-- `P` holds of one of the worlds
abbrev pub SomeWorld : (World → Type 0) → List World → Type 0
SomeWorld P [] = ⊥
SomeWorld P (w ∷ worlds) = P w ⊎ SomeWorld P worlds

-- a moment since the call was made at which both marks were at least at its position
pub record HasMarks (prefix : List Call) (call : Call) (w : World) : Type 0 where
  pub made : IsPrefix (prefix ++ call ∷ []) w.primary.calls
  pub local : position_of (prefix ++ call ∷ []) ≤ w.primary.committer.local
  pub remote : position_of (prefix ++ call ∷ []) ≤ w.primary.link.remote

-- the bytes released to each connection in a world
abbrev pub released_in : World → ℕ → List ℕ
released_in w c = (connection_of w c).outbound.released

-- The call is in the world's list, and the first byte of its reply was written.
abbrev pub IsReleasedIn : List Call → Call → World → Type 0
IsReleasedIn prefix call w = IsReleased w.primary.calls (released_in w) prefix call

-- A world has this list of calls, these released bytes, and these positions of the two records. The list is that of the primary which serves now, and the bytes
-- are those of all connections that ever were. Where the standby was promoted, its position is the one at which it was.
pub record Tells (w : World) (calls : List Call) (released : ℕ → List ℕ) (primary standby : ℕ) : Type 0 where
  pub list : calls ≡ w.primary.calls
  pub bytes : (c : ℕ) → released c ≡ released_in w c
  pub primary_position : primary ≡ w.primary.committer.position
  pub standby_position : standby ≡ w.standby.position

-- What is promised of the list of calls and the bytes released to each connection, where `done` says which of these events did their step, and `allowed` what may
-- happen to the nodes: crashes, fences of devices that fail, the fence of the primary, and the promotion of the standby.
pub record IsPromised (allowed : Allowed) (events : List Event) (done : List Bool) (calls : List Call) (released : ℕ → List ℕ) (primary standby : ℕ) : Type 0 where
  -- the machine's run: the world after each event
  pub worlds : List World
  pub run : Run (start_with allowed) events done worlds
  -- the list, the bytes and the positions are those of the last of them
  pub tells : Tells (last_world (start_with allowed) worlds) calls released primary standby
  -- one sequential Redis answers this list
  pub legal : IsLegal calls
  -- it takes the requests of each connection in order
  pub serves : Serves (λ c. items_at REQUEST_LIMITS (fed_to c events done)) calls
  -- what was released begins the replies
  pub begins : (c : ℕ) → IsPrefix (released c) (replies_to c calls)
  -- each released call was covered at one moment since it was made
  pub covered : (prefix : List Call) (call : Call) → IsReleased calls released prefix call → SomeWorld (HasMarks prefix call) (start_with allowed ∷ worlds)
  -- no crash, reopening or failover took it from the list, since it was released
  pub stays : (prefix : List Call) (call : Call) → SomeWorld (IsReleasedIn prefix call) (start_with allowed ∷ worlds) → IsReleased calls released prefix call
  -- and it is in what both nodes hold
  pub held : (prefix : List Call) (call : Call) → IsReleased calls released prefix call → position_of (prefix ++ call ∷ []) ≤ standby
  pub behind : standby ≤ primary
  pub within : primary ≤ position_of calls

-- every run keeps the promise
abbrev pub EveryRunIsPromised : Type 0
EveryRunIsPromised =
    (allowed : Allowed) (events : List Event) (done : List Bool) (worlds : List World) → Run (start_with allowed) events done worlds
    → let w = last_world (start_with allowed) worlds in
    IsPromised allowed events done w.primary.calls (released_in w) w.primary.committer.position w.standby.position
