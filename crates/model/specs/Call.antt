-- The list of calls: one sequential Redis that serves all connections.
use Rattle.std.specs.Prelude.{◌≡◌, ℕ, zero, suc, ◌+◌, ◌<◌, ◌≤◌, Bool, true, false, ◌||◌, ◌⊎◌, nat_eq, if◌then◌else◌, List, [], ◌∷◌, ◌++◌, filter, map, IsTrue, codes}
use Rattle.std.specs.List.{flat_map}
use Rattle.kv_types.specs.declared.change.Change.{Change}
use Rattle.kv_types.specs.declared.change.Change.TheVariants.{Put, Drop, DropKey, Clear}
use Rattle.kv_types.specs.declared.item.Item.{Item}
use Rattle.kv_types.specs.declared.item.Item.TheVariants.{Request, Fault}
use Rattle.kv_types.specs.declared.reply.Reply.{Reply, Simple, Error, Int, Bulk, NullBulk, Array, Array', NullArray, Row_of-Reply, end_of-Reply, more_of-Reply}
use Rattle.kv_types.specs.Keyspace.{Keyspace, play_all}
use Rattle.kv_types.specs.Change.{changes_size}
use Rattle.kv_types.specs.Reply.{text_of}
use Rattle.model.specs.declared.call.Call.{Call}
use Rattle.model.specs.declared.call.TheConstants.{MAX_CHANGE_TEXT_BYTES}
use Rattle.cmd_core.specs.Contents.{same_bytes}
use Rattle.cmd_table.specs.Request.{closes as request_closes}
use Rattle.multi_watch.specs.Session.{Session, idle_session, modified_where}
use Rattle.multi_watch.specs.Admission.{Admission, Answer, Run, RunAll, session_after_request, session_after_refusal}
use Rattle.multi_watch.specs.Modified.{modifies}
use Rattle.model.specs.Command.{Effect, outcome_of, admission_of, closes}
use Rattle.model.specs.State.{State, start_state}

-- the change makes a new version
abbrev pub is_put : Change → Bool
is_put (Put id value) = true
is_put (Drop id) = false
is_put (DropKey key) = false
is_put Clear = false

-- a command with these changes writes: it needs room
abbrev pub writes : List Change → Bool
writes [] = false
writes (change ∷ changes) = is_put change || writes changes

abbrev pub memory_reply : Reply
memory_reply = Error (codes "ERR out of memory")

abbrev pub full_reply : Reply
full_reply = Error (codes "ERR store is full")

abbrev pub too_large_reply : Reply
too_large_reply = Error (codes "ERR change is too large")

-- The replies that may be given where this is the outcome, after this many bytes of change text in the same call. Memory may be refused for any
-- request. Otherwise a change text that comes above the limit with the bytes before it is refused; otherwise the reply is the outcome's own or,
-- for a command that writes, that there was no room.
abbrev pub MayStand : ℕ → Effect → Reply → Type 0
MayStand before outcome reply =
    (reply ≡ memory_reply)
    ⊎ ((MAX_CHANGE_TEXT_BYTES < before + changes_size outcome.changes) × (reply ≡ too_large_reply))
    ⊎ ((before + changes_size outcome.changes ≤ MAX_CHANGE_TEXT_BYTES) × (reply ≡ outcome.reply))
    ⊎ ((before + changes_size outcome.changes ≤ MAX_CHANGE_TEXT_BYTES) × IsTrue (writes outcome.changes) × (reply ≡ full_reply))

-- a command that answers an error changes nothing
abbrev pub unless_error : Reply → List Change → List Change
unless_error (Simple text) changes = changes
unless_error (Error text) changes = []
unless_error (Int n) changes = changes
unless_error (Bulk bytes) changes = changes
unless_error NullBulk changes = changes
unless_error (Array' shape replies) changes = changes
unless_error NullArray changes = changes

-- what a request changed that was run on this keyspace and got this reply
abbrev pub made : Keyspace → List (List ℕ) → Reply → List Change
made s words reply = unless_error reply (outcome_of s words).changes

-- ---- the requests of an EXEC, run one after another

-- Each of them got one of these replies, which may stand where it was run, after this many bytes of change text. One that was refused made no
-- change, and adds nothing to the bytes.
abbrev pub MayStandAll : Keyspace → ℕ → List (List (List ℕ)) → List Reply → Type 0
MayStandAll s before [] [] = Unit {0}
MayStandAll s before (words ∷ requests) (reply ∷ replies) =
    MayStand before (outcome_of s words) reply
    × MayStandAll (play_all s (made s words reply)) (before + changes_size (made s words reply)) requests replies
MayStandAll s before _ _ = ⊥

-- what they changed, in order
abbrev pub all_made : Keyspace → List (List (List ℕ)) → List Reply → List Change
all_made s [] replies = []
all_made s (words ∷ requests) [] = []
all_made s (words ∷ requests) (reply ∷ replies) = made s words reply ++ all_made (play_all s (made s words reply)) requests replies

-- as a plain list
abbrev pub list_of_row : {shape : _} → Row_of-Reply shape → List Reply
list_of_row end_of-Reply = []
list_of_row (more_of-Reply reply replies) = reply ∷ list_of_row replies

-- the replies in an array; a reply of another form has none
abbrev pub replies_in : Reply → List Reply
replies_in (Array' shape replies) = list_of_row replies
replies_in _ = []

-- ---- one call

-- what is to be done for an item of this connection at this state
abbrev pub admission_at : State → ℕ → Item → Admission
admission_at state connection item = admission_of (state.sessions connection) item

-- The replies that may be given where this is to be done. Memory may be refused for any call; for an EXEC, that is for the array of its replies, and
-- then nothing of it is run.
abbrev pub MayAnswer : Keyspace → Admission → Reply → Type 0
MayAnswer s (Answer proper) reply = (reply ≡ memory_reply) ⊎ (reply ≡ proper)
MayAnswer s (Run words) reply = MayStand 0 (outcome_of s words) reply
MayAnswer s (RunAll requests) reply = (reply ≡ memory_reply) ⊎ ((replies : List Reply) × (reply ≡ Array replies) × MayStandAll s 0 requests replies)

-- the call's reply is one that may be given at this state
abbrev pub MayReply : State → Call → Type 0
MayReply state call = MayAnswer state.keyspace (admission_at state call.connection call.item) call.reply

-- what a call changed that was to do this and got this reply
abbrev pub changes_for : Keyspace → Admission → Reply → List Change
changes_for s (Answer proper) reply = []
changes_for s (Run words) reply = made s words reply
changes_for s (RunAll requests) reply = all_made s requests (replies_in reply)

-- what a call made at this state changed
abbrev pub changes_of : State → Call → List Change
changes_of state call = changes_for state.keyspace (admission_at state call.connection call.item) call.reply

-- memory was refused
abbrev pub is_memory : Reply → Bool
is_memory (Error text) = same_bytes text (codes "ERR out of memory")
is_memory _ = false

-- the session of a connection after an item of its own got this reply; nothing is left of that of a connection which the item closes
abbrev pub session_after_item : Session → Item → Reply → Session
session_after_item session (Fault fault) reply = idle_session
session_after_item session (Request words) reply =
    if request_closes words then idle_session
    else (if is_memory reply then session_after_refusal session words else session_after_request session words)

-- The session of a connection after a call, before the changed keys are marked in it.
abbrev pub session_before_marks : State → Call → ℕ → Session
session_before_marks state call connection =
    if nat_eq call.connection connection then session_after_item (state.sessions call.connection) call.item call.reply
    else state.sessions connection

-- The session of a connection after a call, by whichever connection: each key that the call modified is marked where it is watched.
abbrev pub session_after : State → Call → ℕ → Session
session_after state call connection =
    modified_where (modifies state.keyspace (changes_of state call)) (session_before_marks state call connection)

abbrev pub after_call : State → Call → State
after_call state call = record { keyspace = play_all state.keyspace (changes_of state call); sessions = session_after state call }

abbrev pub is_nonempty : {X : Type 0} → List X → Bool
is_nonempty [] = false
is_nonempty (x ∷ xs) = true

-- whether a call, made at this state, modified a key
abbrev pub is_changing : State → Call → Bool
is_changing state call = is_nonempty (changes_of state call)

-- Two calls, each made at a state of its own, that agree in all but the number of the connection: in the keyspace, the session of the
-- calling connection, the item and the reply.
pub record AreAlike (s : State) (a : Call) (t : State) (b : Call) : Type 0 where
  pub keyspace : s.keyspace ≡ t.keyspace
  pub session : s.sessions a.connection ≡ t.sessions b.connection
  pub item : a.item ≡ b.item
  pub reply : a.reply ≡ b.reply

-- ---- the list

-- the reply of each call is one that may be given after the calls before it
abbrev pub IsLegalFrom : State → List Call → Type 0
IsLegalFrom state [] = Unit {0}
IsLegalFrom state (call ∷ calls) = MayReply state call × IsLegalFrom (after_call state call) calls

-- the list is what one sequential Redis answers, from the empty keyspace and with every session idle
abbrev pub IsLegal : List Call → Type 0
IsLegal = IsLegalFrom start_state

abbrev pub state_from : State → List Call → State
state_from state [] = state
state_from state (call ∷ calls) = state_from (after_call state call) calls

-- the state after all the calls
abbrev pub state_after : List Call → State
state_after = state_from start_state

-- the keyspace after all the calls
abbrev pub keyspace_after : List Call → Keyspace
keyspace_after calls = (state_after calls).keyspace

abbrev pub position_from : State → List Call → ℕ
position_from state [] = 0
position_from state (call ∷ calls) = (if is_changing state call then 1 else 0) + position_from (after_call state call) calls

-- The position of the list: how many of its calls changed something. A call counts once, however many changes it made.
abbrev pub position_of : List Call → ℕ
position_of = position_from start_state

-- a changing call and the cut of what follows it, with one change fewer left; nothing where no change is left
abbrev pub cut_changing : Call → (ℕ → List Call) → ℕ → List Call
cut_changing call following zero = []
cut_changing call following (suc p) = call ∷ following p

abbrev pub cut_from : State → List Call → ℕ → List Call
cut_from state [] p = []
cut_from state (call ∷ calls) p =
    if is_changing state call then cut_changing call (cut_from (after_call state call) calls) p
    else call ∷ cut_from (after_call state call) calls p

-- the longest prefix with at most p changing calls
abbrev pub cut_at : List Call → ℕ → List Call
cut_at = cut_from start_state

-- ---- one connection

-- the calls of one connection, in order
abbrev pub calls_of : ℕ → List Call → List Call
calls_of connection = filter (λ call. nat_eq call.connection connection)

abbrev pub items_of : ℕ → List Call → List Item
items_of connection calls = map (λ call. call.item) (calls_of connection calls)

-- the text of the replies to one connection, in order
abbrev pub replies_to : ℕ → List Call → List ℕ
replies_to connection calls = flat_map (λ call. text_of call.reply) (calls_of connection calls)

-- the items up to and including the first that closes the connection
abbrev pub up_to_closing : List Item → List Item
up_to_closing [] = []
up_to_closing (item ∷ items) = if closes item then item ∷ [] else item ∷ up_to_closing items

pub record IsPrefix {X : Type 0} (prefix whole : List X) : Type 0 where
  pub rest : List X
  pub joined : prefix ++ rest ≡ whole

-- The calls of each connection take the items that its bytes ask for, in order, each once. `asked` gives the items of each connection.
abbrev pub Serves : (ℕ → List Item) → List Call → Type 0
Serves asked calls = (connection : ℕ) → IsPrefix (items_of connection calls) (up_to_closing (asked connection))
