-- How the connections and the list of calls stand for what came in and went out: the plain connections of `machine`, and the plain list.
use Rattle.std.specs.Prelude.{◌≡◌, ℕ, suc, ◌+◌, ◌-◌, ◌≤◌, Bool, true, false, List, [], ◌∷◌, ◌++◌, length, map, take, slice_get, Option, Some, None, Vec, vec_capacity}
use Rattle.std.specs.Global.{Global}
use Rattle.std.specs.List.{list_any}
use Rattle.kv_types.specs.declared.place.EntryNo.{EntryNo}
use Rattle.kv_types.specs.declared.place.Extent.{Extent}
use Rattle.pipes.specs.declared.limits.TheConstants.{MAX_SEATS}
use Rattle.lobby.specs.Book.{Status, free, taken}
use Rattle.multi_watch.specs.Sessions.{session_at}
use Rattle.model.specs.declared.call.Call.{Call}
use Rattle.model.specs.declared.group.Part.{Part}
use Rattle.model.specs.State.{State, start_state}
use Rattle.model.specs.Call.{MayReply, after_call, items_of, keyspace_after, position_of, state_after}
use Rattle.model.specs.Command.{closes}
use Rattle.model.specs.Group.{Contents, changes_of_part}
use Rattle.model.specs.Position.{changes_at}
use Rattle.mv_keyspace.specs.Table.{records}
use Rattle.redis_core.specs.Sequencing.{Expects, IsAheadOf, Sequencing, is_closed}
use Rattle.machine.specs.Connection.{Connection as MachineConnection, asked, changed_at, get_connection, is_open_at, may_turn, taken_first, with_inbound, with_made, with_outbound}
use Rattle.machine.specs.Sound.{position_with}
use Rattle.connections.specs.Asking.{AskingRefines}
use Rattle.connections.specs.Outbound.{OutboundRefines}
use Rattle.connections.specs.declared.connection.Client.{Client}
use Rattle.connections.specs.declared.connection.Connection.{Connection}
use Rattle.connections.specs.declared.connection.Connection.TheVariants.{Open, Over}
use Rattle.connections.specs.declared.connections.Connections.{Connections}
use Rattle.connections.specs.declared.transcript.Transcript.{Transcript}

-- ---- connections

-- the seat of a connection, which has one while it is open
abbrev pub seat_of : Connection → Option ℕ
seat_of (Open client) = Some client.seat
seat_of Over = None

abbrev pub seats_of : List Connection → List (Option ℕ)
seats_of = map seat_of

-- an open connection
pub record ClientRefines (calls : List Call) (code : Client) (machine : MachineConnection) : Type 0 where
  pub is_open : machine.is_open ≡ true
  pub inbound : AskingRefines code.inbound machine.inbound
  pub outbound : OutboundRefines calls code.outbound machine.outbound

-- one that is over has nothing left
abbrev pub ConnectionRefines : List Call → Connection → MachineConnection → Type 0
ConnectionRefines calls (Open client) machine = ClientRefines calls client machine
ConnectionRefines calls Over machine = machine.is_open ≡ false

-- each of them, the first being connection 0
abbrev pub ConnectionsRefine : List Call → List Connection → List MachineConnection → Type 0
ConnectionsRefine calls [] [] = Unit {0}
ConnectionsRefine calls (code ∷ codes) (machine ∷ machines) = ConnectionRefines calls code machine × ConnectionsRefine calls codes machines
ConnectionsRefine calls _ _ = ⊥

-- ---- seats

-- connection c is open, in this seat
abbrev pub HasSeat : List (Option ℕ) → ℕ → ℕ → Type 0
HasSeat seats c seat = slice_get seats c ≡ Some (Some seat)

-- how many connections have a seat
abbrev pub count_seated : List (Option ℕ) → ℕ
count_seated [] = 0
count_seated (Some seat ∷ seats) = suc (count_seated seats)
count_seated (None ∷ seats) = count_seated seats

-- how many seats are taken
abbrev pub count_taken : List Status → ℕ
count_taken [] = 0
count_taken (taken ∷ statuses) = suc (count_taken statuses)
count_taken (free ∷ statuses) = count_taken statuses

-- A seat is taken exactly where an open connection has it, and no two have one seat.
pub record SeatsRefine (statuses : List Status) (seats : List (Option ℕ)) : Type 0 where
  pub complete : length statuses ≡ MAX_SEATS
  pub are_taken : (c seat : ℕ) → HasSeat seats c seat → slice_get statuses seat ≡ Some taken
  pub are_apart : (c d seat : ℕ) → HasSeat seats c seat → HasSeat seats d seat → c ≡ d
  -- so there is no taken seat beside theirs
  pub count : count_taken statuses ≡ count_seated seats

-- each seat that a connection has it had before
abbrev pub KeepsSeats : List Connection → List Connection → Type 0
KeepsSeats old new = (c seat : ℕ) → HasSeat (seats_of new) c seat → HasSeat (seats_of old) c seat

-- ---- the list of calls

abbrev pub positions_from : State → ℕ → List Call → List ℕ
positions_from state p [] = []
positions_from state p (call ∷ calls) = position_with state p call ∷ positions_from (after_call state call) (position_with state p call) calls

-- for each call the position of the list after it
abbrev pub positions_of : List Call → List ℕ
positions_of = positions_from start_state 0

-- ---- connections and calls

-- the bytes released to each connection
abbrev pub released_of : Transcript → List (List ℕ)
released_of transcript = map (λ bytes. bytes.items) transcript.released.items

-- the list of calls is this one, with the position after each, and the released bytes are those of these connections
pub record TranscriptRefines (code : Transcript) (connections : List MachineConnection) (calls : List Call) : Type 0 where
  pub calls_are : code.calls.items ≡ calls
  pub positions : code.positions.items ≡ positions_of calls
  -- there is room for a position wherever there is room for a call
  pub positions_room : vec_capacity code.calls ≤ vec_capacity code.positions
  pub released : released_of code ≡ map (λ connection. connection.outbound.released) connections

-- the connections and the list of calls are these; no reply is left between two events
pub record SessionsRefine (code : Connections) (transcript : Transcript) (connections : List MachineConnection) (calls : List Call) : Type 0 where
  pub seats : SeatsRefine code.lobby.statuses (seats_of code.connections.items)
  pub connections_stand : ConnectionsRefine calls code.connections.items connections
  pub told : TranscriptRefines transcript connections calls
  pub no_reply : code.replies.items ≡ []

-- the list of calls and the released bytes are as they were
pub record TellsTheSame (old new : Transcript) : Type 0 where
  pub calls : new.calls.items ≡ old.calls.items
  pub released : released_of new ≡ released_of old

-- at most one call was added, in the room that there was
pub record AddsOne (old new : Vec Call Global) : Type 0 where
  pub one : length new.items ≤ length old.items + 1
  pub room : vec_capacity new ≡ vec_capacity old

-- ---- the sequencer

-- each part is the changes of the list at its position, one after another from this position on
abbrev pub AreOpen : List Call → ℕ → List Part → Type 0
AreOpen calls from [] = Unit {0}
AreOpen calls from (part ∷ parts) = (part.position ≡ from + 1) × (changes_of_part part ≡ changes_at calls from) × AreOpen calls (from + 1) parts

-- The sequencer's table is the keyspace after the list, and the parts that wait are its changes since the last group was closed.
pub record SequencerRefines (calls : List Call) (closed : ℕ) (s : Sequencing) : Type 0 where
  pub table : records s.table ≡ keyspace_after calls
  pub position : s.position ≡ position_of calls
  pub before : s.before ≡ closed
  pub waiting : AreOpen calls closed s.waiting
  pub count : closed + length s.waiting ≡ position_of calls

-- Each seat of an open connection follows the calls of this connection, whatever one that had the seat before left there.
pub record SeatsFollow (calls : List Call) (seats : List (Option ℕ)) (s : Sequencing) : Type 0 where
  -- where it is closed, one of them closed it
  pub by_call : (c seat : ℕ) → HasSeat seats c seat → is_closed s seat ≡ true → list_any closes (items_of c calls) ≡ true
  -- it has the session that the list leaves to the connection
  pub session : (c seat : ℕ) → HasSeat seats c seat → session_at s.sessions seat ≡ (state_after calls).sessions c

-- To an engine the sequencer stands as it did, and it has listed what it had listed of versions that have ended.
pub record StandsStill (old new : Sequencing) : Type 0 where
  pub ended : new.ended ≡ old.ended
  pub newest : new.newest ≡ old.newest
  pub stands : (contents : Contents) → IsAheadOf old contents → IsAheadOf new contents
  pub expects : (contents : Contents) (entries : List EntryNo) (extents : List Extent) → IsAheadOf old contents → Expects old contents entries extents → Expects new contents entries extents

-- The list of calls is of these connections: what was handed to the sequencer of an open one is the items of its calls and then those that wait, and one
-- that has not entered has no call.
pub record IsListOf (machines : List MachineConnection) (list : List Call) : Type 0 where
  pub order : (c : ℕ) → is_open_at machines c ≡ true
      → (let inbound = (get_connection machines c).inbound in items_of c list ++ inbound.waiting ≡ take inbound.offered (asked inbound.fed))
  pub none : (c : ℕ) → length machines ≤ c → items_of c list ≡ []

-- the call of a connection's first waiting item, with a reply that may be given after the list
pub record IsNextCall (machines : List MachineConnection) (list : List Call) (c : ℕ) (call : Call) : Type 0 where
  pub connection : call.connection ≡ c
  pub first : take 1 (get_connection machines c).inbound.waiting ≡ call.item ∷ []
  pub reply : MayReply (state_after list) call

-- the item is taken, and the reply waits with the position of the list after the call
abbrev pub called_at : ℕ → Call → List Call → List MachineConnection → List MachineConnection
called_at c call list machines =
    changed_at c (with_outbound (with_made (record { reply = call.reply; position = position_of (list ++ call ∷ []) }))) (changed_at c (with_inbound taken_first) machines)

-- the outcome of a turn: the sequencer ran the first waiting item, or nothing changed
pub record TakesTurn (machines : List MachineConnection) (list : List Call) (closed c : ℕ) (did : Bool) (sessions : Connections) (transcript : Transcript) (old new : Sequencing) : Type 0 where
  pub done : did ≡ may_turn machines c (position_of list - closed)
  pub goes : did ≡ true → (call : Call) × IsNextCall machines list c call × SessionsRefine sessions transcript (called_at c call list machines) (list ++ call ∷ [])
      × SequencerRefines (list ++ call ∷ []) closed new × SeatsFollow (list ++ call ∷ []) (seats_of sessions.connections.items) new
  pub stays : did ≡ false → SessionsRefine sessions transcript machines list × (new ≡ old)
