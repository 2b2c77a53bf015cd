-- What one turn of the sequencer does.
use Rattle.std.specs.Prelude.{◌≡◌, ◌⊎◌, ℕ, ◌+◌, nat_eq, map, List, [], ◌∷◌, ◌++◌, if◌then◌else◌}
use Rattle.kv_types.specs.declared.change.Change.{Change}
use Rattle.kv_types.specs.declared.item.Item.{Item}
use Rattle.kv_types.specs.declared.item.Item.TheVariants.{Fault}
use Rattle.kv_types.specs.declared.item.ProtocolFault.{ProtocolFault}
use Rattle.kv_types.specs.declared.item.ProtocolFault.TheVariants.{ExpectedBulk}
use Rattle.kv_types.specs.declared.reply.Reply.{Reply, Array, Error}
use Rattle.kv_types.specs.Fault.{fault_message}
use Rattle.kv_types.specs.Keyspace.{Keyspace, play_all}
use Rattle.model.specs.declared.call.Call.{Call}
use Rattle.model.specs.declared.group.Part.{Part}
use Rattle.model.specs.declared.group.PlacedChange.{PlacedChange}
use Rattle.multi_watch.specs.Admission.{Run, RunAll}
use Rattle.multi_watch.specs.Sessions.{session_at}
use Rattle.model.specs.Call.{MayReply, admission_at, after_call, changes_of, full_reply, is_changing, made, memory_reply}
use Rattle.model.specs.Group.{change_of}
use Rattle.model.specs.Command.{closes, outcome_of}
use Rattle.extent_heap.specs.Room.{Room}
use Rattle.mv_keyspace.specs.Table.{puts_of, records}
use Rattle.placing.specs.Place.{HasRoomFor, TakesPlaces}
use Rattle.placing.specs.Performs.{Performs}
use Rattle.redis_core.specs.Sequencing.{Sequencing, is_closed, state_of}
use Rattle.redis_core.specs.declared.turn.Turn.{Turn}
use Rattle.redis_core.specs.declared.turn.Turn.TheVariants.{Served, Idle, Blocked, GroupFull, Ended}

-- the call that an item of a seat makes with its reply
abbrev pub call_of : ℕ → Item → Reply → Call
call_of seat item reply = record { connection = seat; item = item; reply = reply }

-- One more part waits: these changes, made at the next position.
pub record AddsPart (old : Sequencing) (part : Part) (changes : List Change) (new : Sequencing) : Type 0 where
  pub performs : Performs old.table old.room (old.position + 1) changes part new.table new.room
  pub position : new.position ≡ part.position
  pub waiting : new.waiting ≡ old.waiting ++ part ∷ []

-- nothing moved
pub record Stays (old new : Sequencing) : Type 0 where
  pub table : new.table ≡ old.table
  pub room : new.room ≡ old.room
  pub position : new.position ≡ old.position
  pub waiting : new.waiting ≡ old.waiting

-- what a call with these changes moved
abbrev pub Moves : List Change → Sequencing → Sequencing → Type 0
Moves [] old new = Stays old new
Moves (change ∷ changes) old new = (part : Part) × AddsPart old part (change ∷ changes) new

-- Changes were made, and each put in turn has its place: this is left of the room.
pub record TakesRoom (room : Room) (changes : List Change) (left : Room) : Type 0 where
  pub placed : List PlacedChange
  pub changes_are : map change_of placed ≡ changes
  pub places : TakesPlaces room (puts_of placed) left

-- Requests of an EXEC are run in order from this keyspace and this room: each is refused for want of room only where those before it left none.
abbrev pub AreFullOnly : Keyspace → Room → List (List (List ℕ)) → List Reply → Room → Type 0
AreFullOnly s room [] replies left = left ≡ room
AreFullOnly s room (words ∷ requests) [] left = Unit {0}
AreFullOnly s room (words ∷ requests) (reply ∷ replies) left =
    (reply ≡ full_reply → ¬ HasRoomFor room (outcome_of s words).changes)
    × (between : Room) × TakesRoom room (made s words reply) between × AreFullOnly (play_all s (made s words reply)) between requests replies left

-- what a fault may be answered: its text or, where that shows a byte and so takes memory, that there was none
abbrev pub MayTell : ProtocolFault → Reply → Type 0
MayTell (ExpectedBulk byte) reply = (reply ≡ memory_reply) ⊎ (reply ≡ Error (fault_message (ExpectedBulk byte)))
MayTell fault reply = reply ≡ Error (fault_message fault)

-- One legal entry of the list: the item with the reply that it got, called at what the sequencer held before it.
pub record Answers (old : Sequencing) (seat : ℕ) (item : Item) (reply : Reply) (new : Sequencing) : Type 0 where
  pub legal : MayReply (state_of old) (call_of seat item reply)
  -- a fault whose text takes no memory is answered by its text
  pub told : (fault : ProtocolFault) → item ≡ Fault fault → MayTell fault reply
  -- a request that is run by itself is refused for want of room only where there is none
  pub full_only : (words : List (List ℕ)) → admission_at (state_of old) seat item ≡ Run words → reply ≡ full_reply
      → ¬ HasRoomFor old.room (outcome_of (records old.table) words).changes
  -- and so is each request of an EXEC, among the others
  pub each_full_only : (requests : List (List (List ℕ))) (replies : List Reply) → admission_at (state_of old) seat item ≡ RunAll requests → reply ≡ Array replies
      → AreFullOnly (records old.table) old.room requests replies new.room
  pub keyspace : records new.table ≡ (after_call (state_of old) (call_of seat item reply)).keyspace
  pub position : new.position ≡ old.position + (if is_changing (state_of old) (call_of seat item reply) then 1 else 0)
  pub moves : Moves (changes_of (state_of old) (call_of seat item reply)) old new
  pub epoch : new.epoch ≡ old.epoch
  pub before : new.before ≡ old.before
  pub ended : new.ended ≡ old.ended
  pub newest : new.newest ≡ old.newest
  pub copy : new.copy ≡ old.copy
  pub sessions : (other : ℕ) → session_at new.sessions other ≡ (after_call (state_of old) (call_of seat item reply)).sessions other
  -- the seat is closed from now on if the item closes its connection
  pub closed : (other : ℕ) → is_closed new other ≡ (if nat_eq seat other then closes item else is_closed old other)

-- a fact that holds where a turn has one particular result
abbrev pub OnServed : Turn → Type 0 → Type 0
OnServed Served P = P
OnServed Idle P = Unit {0}
OnServed Blocked P = Unit {0}
OnServed GroupFull P = Unit {0}
OnServed Ended P = Unit {0}

abbrev pub OnIdle : Turn → Type 0 → Type 0
OnIdle Served P = Unit {0}
OnIdle Idle P = P
OnIdle Blocked P = Unit {0}
OnIdle GroupFull P = Unit {0}
OnIdle Ended P = Unit {0}

abbrev pub OnBlocked : Turn → Type 0 → Type 0
OnBlocked Served P = Unit {0}
OnBlocked Idle P = Unit {0}
OnBlocked Blocked P = P
OnBlocked GroupFull P = Unit {0}
OnBlocked Ended P = Unit {0}

abbrev pub OnGroupFull : Turn → Type 0 → Type 0
OnGroupFull Served P = Unit {0}
OnGroupFull Idle P = Unit {0}
OnGroupFull Blocked P = Unit {0}
OnGroupFull GroupFull P = P
OnGroupFull Ended P = Unit {0}

abbrev pub OnEnded : Turn → Type 0 → Type 0
OnEnded Served P = Unit {0}
OnEnded Idle P = Unit {0}
OnEnded Blocked P = Unit {0}
OnEnded GroupFull P = Unit {0}
OnEnded Ended P = P

-- a fact that holds where a turn has any result but `Served`
abbrev pub OnUnserved : Turn → Type 0 → Type 0
OnUnserved Served P = Unit {0}
OnUnserved Idle P = P
OnUnserved Blocked P = P
OnUnserved GroupFull P = P
OnUnserved Ended P = P
