-- The state of the pair of nodes and their connections (this project's profile), and definitions on it. Calls are appended to the list as the
-- sequencer runs them; groups and frames are named by the positions of the list that they lie between.
pub use Rattle.machine.specs.Newcomer.{Span, Told, Changes, Part, End, Role, Follower, Uncopied, Half, Pinned, Copying, Follows, Awaited, Sending, TakesPart, has_all, is_follower, is_awaited, may_send_copy, told_next, next_of_copy, sent_one, keeps_group, dropped_with, reach_of}
pub use Rattle.machine.specs.Connection.{Inbound, Outbound, Connection, no_connection, new_connection, get_connection, is_open_at, count_open, changed_at, with_inbound, with_outbound, asked, is_closed_by, has_room, is_covered, covered_prefix, uncovered_rest, texts_of}
use Rattle.std.specs.Prelude.{◌≡◌, ℕ, Bool, true, false, List, [], ◌∷◌, ◌++◌, ◌-◌, Option, None}
use Rattle.kv_types.specs.declared.seen.Seen.{Seen}
use Rattle.model.specs.declared.call.Call.{Call}
use Rattle.model.specs.Call.{position_of}
use Rattle.model.specs.declared.record.TheConstants.{FIRST_EPOCH}

-- ---- the state

-- what is sent to the node that follows, with an epoch
pub record Frame : Type 0 where
  pub epoch : ℕ
  pub told : Told

-- what the standby answers: the position of its record, with its epoch
pub record Acknowledgement : Type 0 where
  pub epoch : ℕ
  pub position : ℕ

-- the committer takes a group in three turns
pub data Stage : Type 0 where
  -- it may take the next group
  Ready : Stage
  -- it has committed one, and not shown it yet
  Durable : Span → Stage
  -- it has shown it, and not handed it on yet
  Shown : Span → Stage

-- an item of the committer's queue
pub data Work : Type 0 where
  -- a group to commit
  Commits : Span → Work
  -- the free list at this position: versions that have ended, the newest of them here
  Frees : ℕ → Work

-- the primary's committer
pub record Committer : Type 0 where
  -- groups were closed up to this position
  pub closed : ℕ
  -- what waits for it: groups, and free lists between them
  pub waiting : List Work
  -- free lists that were taken from the queue and wait for the standby, by their positions
  pub aside : List ℕ
  pub stage : Stage
  -- the position of the primary's record
  pub position : ℕ
  -- the local mark
  pub local : ℕ

-- the primary's link to the standby
pub record Link : Type 0 where
  -- what is to be sent before all groups, to a standby that is behind the position at which the primary was opened: the changes up to there
  pub delta : List Span
  -- groups that wait to be sent for the first time
  pub waiting : List Span
  -- groups that were sent and not acknowledged
  pub kept : List Span
  -- those of them that are to be sent again
  pub again : List Span
  -- the highest position of an acknowledgement that arrived
  pub known : ℕ
  -- the remote mark
  pub remote : ℕ
  -- whether it awaits or sends a copy
  pub copying : Copying
  -- where the last group ends that was dropped while a copy was awaited; 0, where none was since the primary was opened
  pub dropped : ℕ

-- what a crash may leave of a node
pub data Remains : Type 0 where
  -- the image of such a node as it was, at this position
  At : ℕ → Remains
  -- of a standby that was being promoted: the image of a primary of the next epoch, at the standby's position
  AsPrimary : Remains
  -- of a newcomer that had its copy: the image of a standby at the copy's position
  AsFollower : ℕ → Remains

-- the condition of a node
pub data Life : Type 0 where
  Running : Life
  -- A fence of its device failed in a call, and it does nothing more until it has crashed and was opened again. These are what a crash may leave of it besides
  -- the image from before that call.
  Stopped : List Remains → Life
  Crashed : Life
  -- Nothing happens to it any more: a primary that was fenced, or a standby that was promoted. These are what its device may hold besides the image at its position, where a
  -- fence had failed in a call before.
  Retired : List Remains → Life

-- the device of a node
pub record Disk : Type 0 where
  -- its place among the devices of a run
  pub number : ℕ
  -- a fence of it was asked to fail, and has not failed yet
  pub failing : Bool

-- the node that serves
pub record Primary : Type 0 where
  pub life : Life
  pub disk : Disk
  pub epoch : ℕ
  -- the position of the list at which it was opened last or, once it crashed, will be
  pub opened : ℕ
  pub connections : List Connection
  -- the list of calls
  pub calls : List Call
  pub committer : Committer
  pub link : Link
  -- how many versions that have ended are in no free list
  pub ended : ℕ
  -- the position at which the newest of them ended
  pub newest : ℕ
  -- how many notices of what was freed wait for the sequencer
  pub notices : ℕ
  -- how many gaps the record has
  pub gaps : ℕ

-- The node that follows it. Of one that was promoted nothing happens any more; its position stays the one at which it was promoted, and its epoch is that of the
-- primary which it became. A newcomer's image has position 0 until it has its copy.
pub record Standby : Type 0 where
  pub life : Life
  pub disk : Disk
  pub epoch : ℕ
  -- frames that arrived and have not been taken yet
  pub waiting : List Frame
  -- the position of its record; of a newcomer the one at or below which all lies that was released before it came, at which the standby before it stood
  pub position : ℕ
  pub role : Role
  -- what a newcomer has of its copy
  pub half : Option Half

-- all that was sent between the two nodes since this one follows, in order, whatever has become of it since
pub record Wire : Type 0 where
  pub frames : List Frame
  pub acknowledgements : List Acknowledgement

-- what may happen to the nodes in a run
pub record Allowed : Type 0 where
  -- they may crash between two events and be opened again
  pub restarts : Bool
  -- the primary may be fenced
  pub fencing : Bool
  -- the standby may be promoted after that
  pub promotions : Bool
  -- fences of their devices may fail
  pub failures : Bool
  -- they may crash inside a call
  pub cuts : Bool
  -- so many newcomers may come: there are as many devices more than two
  pub newcomers : ℕ

pub record World : Type 0 where
  pub allowed : Allowed
  pub primary : Primary
  pub standby : Standby
  pub wire : Wire
  -- how many newcomers have come
  pub came : ℕ

-- ---- the start

-- a committer over an image at this position, to which nothing was handed yet
abbrev pub new_committer : ℕ → Committer
new_committer position = record { closed = position; waiting = []; aside = []; stage = Ready; position = position; local = position }

-- a link that has sent nothing and knows of no acknowledgement
abbrev pub new_link : Link
new_link = record { delta = []; waiting = []; kept = []; again = []; known = 0; remote = 0; copying = Follows; dropped = 0 }

-- the device with this number, of which no fence was asked to fail
abbrev pub new_disk : ℕ → Disk
new_disk number = record { number = number; failing = false }

-- two nodes that were formatted together, with this epoch, the primary on the first device and the standby on the second
abbrev pub start_at : ℕ → Allowed → World
start_at epoch allowed = record {
  allowed = allowed;
  primary = record {
    life = Running;
    disk = new_disk 0;
    epoch = epoch;
    opened = 0;
    connections = [];
    calls = [];
    committer = new_committer 0;
    link = new_link;
    ended = 0;
    newest = 0;
    notices = 0;
    gaps = 0;
  };
  standby = record { life = Running; disk = new_disk 1; epoch = epoch; waiting = []; position = 0; role = Follower; half = None };
  wire = record { frames = []; acknowledgements = [] };
  came = 0;
}

abbrev pub start_with : Allowed → World
start_with allowed = start_at FIRST_EPOCH allowed

abbrev pub none_allowed : Allowed
none_allowed = record { restarts = false; fencing = false; promotions = false; failures = false; cuts = false; newcomers = 0 }

-- over two devices and so many more
abbrev pub allowed_with : ℕ → Allowed
allowed_with newcomers = record { restarts = true; fencing = true; promotions = true; failures = true; cuts = true; newcomers = newcomers }

abbrev pub all_allowed : Allowed
all_allowed = allowed_with 0

-- two nodes of which none crashes, is fenced or is promoted, and whose devices' fences do not fail
abbrev pub start : World
start = start_with none_allowed

-- ---- definitions on it

abbrev pub is_running : Life → Bool
is_running Running = true
is_running (Stopped remains) = false
is_running Crashed = false
is_running (Retired remains) = false

abbrev pub is_stopped : Life → Bool
is_stopped Running = false
is_stopped (Stopped remains) = true
is_stopped Crashed = false
is_stopped (Retired remains) = false

abbrev pub is_crashed : Life → Bool
is_crashed Running = false
is_crashed (Stopped remains) = false
is_crashed Crashed = true
is_crashed (Retired remains) = false

abbrev pub is_retired : Life → Bool
is_retired Running = false
is_retired (Stopped remains) = false
is_retired Crashed = false
is_retired (Retired remains) = true

-- what a crash may leave of a node in this condition besides its image: something only where a fence failed in a call
abbrev pub torn : Life → List Remains
torn Running = []
torn (Stopped remains) = remains
torn Crashed = []
torn (Retired remains) = remains

-- Whatever crash or failover comes, the list keeps its calls up to this position: that of the standby's record, or the one at which it was promoted; and while a
-- newcomer has no copy, the one at which the standby before it stood.
abbrev pub safe_position : World → ℕ
safe_position w = w.standby.position

-- the position of the record of the node that follows
abbrev pub stands_at : Role → ℕ → ℕ
stands_at Follower position = position
stands_at Uncopied position = 0

-- the position at or below which all lies that was sent to the node that follows
abbrev pub reach : World → ℕ
reach w = reach_of w.primary.link.copying w.primary.committer.position

-- connection c, or `no_connection` where there is none
abbrev pub connection_of : World → ℕ → Connection
connection_of w c = get_connection w.primary.connections c

abbrev pub is_open : World → ℕ → Bool
is_open w c = is_open_at w.primary.connections c

abbrev pub with_primary : Primary → World → World
with_primary primary w = record w { primary = primary }

abbrev pub with_connections : List Connection → World → World
with_connections connections w = record w { primary = record w.primary { connections = connections } }

abbrev pub on_inbound : ℕ → (Inbound → Inbound) → World → World
on_inbound c change w = with_connections (changed_at c (with_inbound change) w.primary.connections) w

abbrev pub on_outbound : ℕ → (Outbound → Outbound) → World → World
on_outbound c change w = with_connections (changed_at c (with_outbound change) w.primary.connections) w

abbrev pub with_committer : Committer → World → World
with_committer committer w = record w { primary = record w.primary { committer = committer } }

abbrev pub with_link : Link → World → World
with_link link w = record w { primary = record w.primary { link = link } }

abbrev pub with_standby : Standby → World → World
with_standby standby w = record w { standby = standby }

-- more frames were sent
abbrev pub with_sent : List Frame → World → World
with_sent frames w = record w { wire = record w.wire { frames = w.wire.frames ++ frames } }

-- more acknowledgements were made
abbrev pub with_acknowledged : List Acknowledgement → World → World
with_acknowledged acknowledgements w = record w { wire = record w.wire { acknowledgements = w.wire.acknowledgements ++ acknowledgements } }

-- the marks
abbrev pub seen_of : World → Seen
seen_of w = record { local = w.primary.committer.local; remote = w.primary.link.remote }

-- how many changing commands wait to be closed into a group
abbrev pub open_changes : World → ℕ
open_changes w = position_of w.primary.calls - w.primary.committer.closed

-- the groups among what waits for the committer
abbrev pub spans_of : List Work → List Span
spans_of [] = []
spans_of (Commits group ∷ works) = group ∷ spans_of works
spans_of (Frees position ∷ works) = spans_of works

-- the free lists among it, by their positions
abbrev pub lists_of : List Work → List ℕ
lists_of [] = []
lists_of (Commits group ∷ works) = lists_of works
lists_of (Frees position ∷ works) = position ∷ lists_of works

-- the free lists before the first group; all, where there is none
abbrev pub lists_before : List Work → List ℕ
lists_before [] = []
lists_before (Commits group ∷ works) = []
lists_before (Frees position ∷ works) = position ∷ lists_before works

-- what waits from the first group on; nothing, where there is none
abbrev pub from_group : List Work → List Work
from_group [] = []
from_group (Commits group ∷ works) = Commits group ∷ works
from_group (Frees position ∷ works) = from_group works

abbrev pub is_ready : Stage → Bool
is_ready Ready = true
is_ready (Durable group) = false
is_ready (Shown group) = false

abbrev pub is_durable : Stage → Bool
is_durable Ready = false
is_durable (Durable group) = true
is_durable (Shown group) = false

abbrev pub is_shown : Stage → Bool
is_shown Ready = false
is_shown (Durable group) = false
is_shown (Shown group) = true
