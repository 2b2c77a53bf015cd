-- What holds of the pair of nodes between any two events (this project's profile): the facts from which the promise follows.
use Rattle.std.specs.Prelude.{◌≡◌, ℕ, ◌+◌, ◌<◌, ◌≤◌, max, true, false, nat_eq, if◌then◌else◌, List, [], ◌∷◌, ◌++◌, length, take, All}
use Rattle.kv_types.specs.declared.reply.Held.{Held}
use Rattle.kv_types.specs.declared.seen.Seen.{Seen}
use Rattle.model.specs.declared.call.Call.{Call}
use Rattle.model.specs.State.{State, start_state}
use Rattle.model.specs.Call.{IsLegal, IsPrefix, after_call, is_changing, items_of, position_of}
use Rattle.machine.specs.declared.event.TheConstants.{SEATS, PIPE_ITEMS, OPEN_CHANGES, KEPT_GROUPS}
use Rattle.machine.specs.Event.{Span, Told, Changes, Part, End, Role, Uncopied, Copying, Follows, Awaited, Sending, reach, Frame, Acknowledgement, Stage, Ready, Durable, Shown, Inbound, Outbound, Connection, Committer, Link, Remains, At, AsPrimary, AsFollower, Standby, Wire, World, asked, connection_of, is_open, count_open, safe_position, seen_of, spans_of, texts_of, torn}

-- ---- replies

-- the position of the list after a call that was made at this state and this position
abbrev pub position_with : State → ℕ → Call → ℕ
position_with state p call = p + (if is_changing state call then 1 else 0)

-- the reply of a call of this connection, with the position after the call; nothing for a call of another one
abbrev pub answer_at : State → ℕ → ℕ → Call → List Held
answer_at state p c call = if nat_eq call.connection c then record { reply = call.reply; position = position_with state p call } ∷ [] else []

abbrev pub answers_from : State → ℕ → ℕ → List Call → List Held
answers_from state p c [] = []
answers_from state p c (call ∷ calls) = answer_at state p c call ++ answers_from (after_call state call) (position_with state p call) c calls

-- the replies of one connection's calls, in order, each with the position of the list after its call
abbrev pub answers_to : ℕ → List Call → List Held
answers_to = answers_from start_state 0

-- both marks cover the reply
pub record IsCoveredBy (seen : Seen) (reply : Held) : Type 0 where
  pub on_primary : reply.position ≤ seen.local
  pub on_standby : reply.position ≤ seen.remote

-- ---- groups

-- groups that follow one another from one position to another, each with at least one change
abbrev pub IsChain : ℕ → List Span → ℕ → Type 0
IsChain from [] to = from ≡ to
IsChain from (group ∷ groups) to = (group.before ≡ from) × (from < group.after) × IsChain group.after groups to

-- a group with at least one change, which ends at this position or below
pub record IsGroupWithin (position : ℕ) (group : Span) : Type 0 where
  pub rising : group.before < group.after
  pub within : group.after ≤ position

-- A copy at this position may be taken: it ends at the position up to which all was sent or below, and a newcomer, which stands for another standby at its own
-- position, falls behind that one by it nowhere.
pub record IsCopyWithin (role : Role) (low reach copied : ℕ) : Type 0 where
  pub above : role ≡ Uncopied → low ≤ copied
  pub within : copied ≤ reach

-- changes that end at the position up to which all was sent or below, or something of a copy that may be taken
abbrev pub IsToldOf : Role → ℕ → ℕ → Told → Type 0
IsToldOf role low reach (Changes span) = IsGroupWithin reach span
IsToldOf role low reach (Part position number) = IsCopyWithin role low reach position
IsToldOf role low reach (End position parts) = IsCopyWithin role low reach position

-- a frame of this epoch that tells no more than what was sent, or one of an earlier epoch
pub record IsFrameWithin (epoch : ℕ) (role : Role) (low reach : ℕ) (frame : Frame) : Type 0 where
  pub epoch_is : frame.epoch ≤ epoch
  pub told : frame.epoch ≡ epoch → IsToldOf role low reach frame.told

-- an acknowledgement of this epoch, with this position or one below it, or one of an earlier epoch
pub record IsToldWithin (epoch position : ℕ) (acknowledgement : Acknowledgement) : Type 0 where
  pub epoch_is : acknowledgement.epoch ≤ epoch
  pub within : acknowledgement.epoch ≡ epoch → acknowledgement.position ≤ position

-- the group that the committer has in hand
abbrev pub in_hand : Stage → List Span
in_hand Ready = []
in_hand (Durable group) = group ∷ []
in_hand (Shown group) = group ∷ []

-- the local mark is the primary's position, except while a commit is not shown yet
abbrev pub IsShownUpTo : Stage → ℕ → ℕ → Type 0
IsShownUpTo Ready position local = local ≡ position
IsShownUpTo (Durable group) position local = local ≡ group.before
IsShownUpTo (Shown group) position local = local ≡ position

-- while the committer has a group in hand, the link has room for it
abbrev pub HasRoomFor : Stage → List Span → Type 0
HasRoomFor Ready waiting = length waiting ≤ PIPE_ITEMS
HasRoomFor (Durable group) waiting = length waiting < PIPE_ITEMS
HasRoomFor (Shown group) waiting = length waiting < PIPE_ITEMS

-- ---- each part

-- the items that were handed to the sequencer are those of the connection's calls and then those that wait
pub record SoundInbound (calls : List Call) (c : ℕ) (inbound : Inbound) : Type 0 where
  pub offered : inbound.offered ≤ length (asked inbound.fed)
  pub order : items_of c calls ++ inbound.waiting ≡ take inbound.offered (asked inbound.fed)
  pub few : length inbound.waiting ≤ PIPE_ITEMS

-- of an open connection: the replies to its calls are those that were released and then those that wait, and both marks cover what was released
pub record SoundOutbound (calls : List Call) (c : ℕ) (seen : Seen) (outbound : Outbound) : Type 0 where
  -- what was released
  pub out : List Held
  pub replies : out ++ (outbound.held ++ outbound.made) ≡ answers_to c calls
  pub texts : outbound.released ++ outbound.pending ≡ texts_of out
  pub covered : All (IsCoveredBy seen) out
  pub local_read : outbound.seen.local ≤ seen.local
  pub remote_read : outbound.seen.remote ≤ seen.remote
  pub few : length outbound.made ≤ PIPE_ITEMS

-- the call of the reply is in what an image at this position holds
abbrev pub IsHeldAt : ℕ → Held → Type 0
IsHeldAt position reply = reply.position ≤ position

-- of any connection: what was written to it is of the first replies to its calls, of the last of them perhaps a part only, and these calls lie within the
-- position up to which no call is lost
pub record SoundReleased (calls : List Call) (c : ℕ) (position : ℕ) (outbound : Outbound) : Type 0 where
  -- what was released
  pub out : List Held
  pub replies : IsPrefix out (answers_to c calls)
  pub texts : IsPrefix outbound.released (texts_of out)
  pub held : All (IsHeldAt position) out

-- nothing waits at the connection, on either side
pub record HasNothing (connection : Connection) : Type 0 where
  pub waiting : connection.inbound.waiting ≡ []
  pub made : connection.outbound.made ≡ []
  pub held : connection.outbound.held ≡ []
  pub pending : connection.outbound.pending ≡ []

-- what holds of a connection that is over, and of a number that no connection has yet, given the position up to which no call is lost
pub record SoundOver (calls : List Call) (c : ℕ) (position : ℕ) (connection : Connection) : Type 0 where
  pub nothing : HasNothing connection
  -- its calls take its items in order
  pub items : IsPrefix (items_of c calls) (asked connection.inbound.fed)
  pub released : SoundReleased calls c position connection.outbound

-- what holds of the committer, given the position of the list of calls
pub record SoundCommitter (position : ℕ) (committer : Committer) : Type 0 where
  -- the waiting groups, whatever free lists lie between them, lead from its position to the one up to which groups were closed
  pub waiting : IsChain committer.position (spans_of committer.waiting) committer.closed
  pub closed : committer.closed ≤ position
  pub few_open : position ≤ committer.closed + OPEN_CHANGES
  pub few : length committer.waiting ≤ PIPE_ITEMS
  pub mark : committer.local ≤ committer.position
  pub shown : IsShownUpTo committer.stage committer.position committer.local

-- what holds of the link, given the position at which the primary was opened, the committer's stage, the position of the primary's record, and the one
-- up to which groups were sent
pub record SoundLink (opened : ℕ) (stage : Stage) (position sent : ℕ) (link : Link) : Type 0 where
  -- The kept groups lead to the position up to which groups were sent or dropped: from the one that the link knows, or one below it, or from the one at which the
  -- primary was opened, or to which groups were dropped.
  pub kept_from : ℕ
  pub known : kept_from ≤ max link.known (max opened link.dropped)
  pub kept : IsChain kept_from link.kept sent
  -- those that wait and the one in the committer's hand are the other committed groups
  pub waiting : IsChain sent (link.waiting ++ in_hand stage) position
  -- the groups to be sent again are the last of the kept ones
  pub sent_again : List Span
  pub again : sent_again ++ link.again ≡ link.kept
  pub remote : link.remote ≤ link.known
  -- groups were sent or dropped from the position on at which the primary was opened, and a delta leads no further than they
  pub sent_from : max opened link.dropped ≤ sent
  pub delta : All (IsGroupWithin sent) link.delta
  pub few : HasRoomFor stage link.waiting
  pub few_kept : length link.kept ≤ KEPT_GROUPS

-- what holds of the node that follows, given the epoch of the pair, the position at or below which all lies that was sent, and the one that the link knows
pub record SoundStandby (epoch reach link_knows : ℕ) (standby : Standby) : Type 0 where
  pub epoch_is : standby.epoch ≡ epoch
  pub frames : All (IsFrameWithin epoch standby.role standby.position reach) standby.waiting
  pub behind : standby.position ≤ reach
  pub known : link_knows ≤ standby.position

-- what holds of the wire, given the epoch of the pair, the position at or below which all lies that was sent, and the role and the position of the node that follows
pub record SoundWire (epoch reach : ℕ) (role : Role) (position : ℕ) (wire : Wire) : Type 0 where
  pub frames : All (IsFrameWithin epoch role position reach) wire.frames
  pub acknowledged : All (IsToldWithin epoch position) wire.acknowledgements

-- what is pinned is of the list, given the position up to which groups were closed
abbrev pub IsPinnedWithin : ℕ → Copying → Type 0
IsPinnedWithin closed Follows = Unit {0}
IsPinnedWithin closed Awaited = Unit {0}
IsPinnedWithin closed (Sending pinned) = pinned.position ≤ closed

-- there is a seat for each open connection
pub record SoundConnections (connections : List Connection) : Type 0 where
  pub seats : count_open connections ≤ SEATS

-- what a call of the primary may have left, given the position of its record and that of the list
abbrev pub IsPrimaryLeft : ℕ → ℕ → Remains → Type 0
IsPrimaryLeft low high (At position) = (low ≤ position) × (position ≤ high)
IsPrimaryLeft low high AsPrimary = ⊥
IsPrimaryLeft low high (AsFollower position) = ⊥

-- what a call of the node that follows may have left, given its position and the one at or below which all lies that was sent
abbrev pub IsStandbyLeft : Role → ℕ → ℕ → Remains → Type 0
IsStandbyLeft role low high (At position) = (low ≤ position) × (position ≤ high) × (role ≡ Uncopied → position ≤ low)
IsStandbyLeft role low high AsPrimary = Unit {0}
IsStandbyLeft role low high (AsFollower position) = (low ≤ position) × (position ≤ high)

pub record Sound (w : World) : Type 0 where
  pub connections : SoundConnections w.primary.connections
  pub legal : IsLegal w.primary.calls
  pub inbound : (c : ℕ) → is_open w c ≡ true → SoundInbound w.primary.calls c (connection_of w c).inbound
  pub outbound : (c : ℕ) → is_open w c ≡ true → SoundOutbound w.primary.calls c (seen_of w) (connection_of w c).outbound
  pub over : (c : ℕ) → is_open w c ≡ false → SoundOver w.primary.calls c (safe_position w) (connection_of w c)
  pub committer : SoundCommitter (position_of w.primary.calls) w.primary.committer
  -- groups were sent or dropped up to this position
  pub sent : ℕ
  pub link : SoundLink w.primary.opened w.primary.committer.stage w.primary.committer.position sent w.primary.link
  pub pinned : IsPinnedWithin w.primary.committer.closed w.primary.link.copying
  pub standby : SoundStandby w.primary.epoch (reach w) w.primary.link.known w.standby
  pub wire : SoundWire w.primary.epoch (reach w) w.standby.role w.standby.position w.wire
  pub primary_left : All (IsPrimaryLeft w.primary.committer.position (position_of w.primary.calls)) (torn w.primary.life)
  pub standby_left : All (IsStandbyLeft w.standby.role w.standby.position (reach w)) (torn w.standby.life)
