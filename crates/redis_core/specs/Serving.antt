-- What the sequencer gets from running the requests of a call, before it is made a reply.
use Rattle.std.specs.Prelude.{◌≡◌, ◌≢◌, ℕ, ◌⊎◌, true, if◌then◌else◌, List, [], ◌∷◌, ◌++◌, Some}
use Rattle.kv_types.specs.declared.refusal.Refusal.{Refusal}
use Rattle.kv_types.specs.declared.refusal.Refusal.TheVariants as refusal
use Rattle.kv_types.specs.declared.reply.Reply.{Reply, Array}
use Rattle.multi_watch.specs.Admission.{Admission, Answer, Run, RunAll, admit, session_after_refusal, session_after_request}
use Rattle.multi_watch.specs.Sessions.{session_at}
use Rattle.model.specs.declared.group.Part.{Part}
use Rattle.model.specs.Call.{is_memory, MayAnswer, MayStandAll, all_made, changes_for, full_reply, memory_reply}
use Rattle.model.specs.Command.{outcome_of}
use Rattle.mv_keyspace.specs.Table.{records}
use Rattle.placing.specs.Place.{HasRoomFor}
use Rattle.redis_core.specs.Marking.{Marks}
use Rattle.redis_core.specs.Sequencing.{Sequencing, MovesSeat}
use Rattle.redis_core.specs.Turn.{AreFullOnly, Moves}

-- the reply to a request that was refused
abbrev pub refusal_reply : Refusal → Reply
refusal_reply refusal.Full = full_reply
refusal_reply _ = memory_reply

-- The requests of a call were run and got these replies. What they changed is marked, and waits as one part.
pub record Runs (old : Sequencing) (requests : List (List (List ℕ))) (replies : List Reply) (new : Sequencing) : Type 0 where
  pub stand : MayStandAll (records old.table) 0 requests replies
  pub full : AreFullOnly (records old.table) old.room requests replies new.room
  pub moves : Moves (all_made (records old.table) requests replies) old new
  pub marks : Marks (records old.table) (all_made (records old.table) requests replies) old.sessions new.sessions
  pub epoch : new.epoch ≡ old.epoch
  pub before : new.before ≡ old.before
  pub ended : new.ended ≡ old.ended
  pub newest : new.newest ≡ old.newest
  pub copy : new.copy ≡ old.copy

-- What was to be done was done, and this is its reply.
pub record Acts (old : Sequencing) (admission : Admission) (reply : Reply) (new : Sequencing) : Type 0 where
  pub legal : MayAnswer (records old.table) admission reply
  pub full_only : (words : List (List ℕ)) → admission ≡ Run words → reply ≡ full_reply → ¬ HasRoomFor old.room (outcome_of (records old.table) words).changes
  pub each_full_only : (requests : List (List (List ℕ))) (replies : List Reply) → admission ≡ RunAll requests → reply ≡ Array replies
      → AreFullOnly (records old.table) old.room requests replies new.room
  pub moves : Moves (changes_for (records old.table) admission reply) old new
  pub marks : Marks (records old.table) (changes_for (records old.table) admission reply) old.sessions new.sessions
  pub epoch : new.epoch ≡ old.epoch
  pub before : new.before ≡ old.before
  pub ended : new.ended ≡ old.ended
  pub newest : new.newest ≡ old.newest
  pub copy : new.copy ≡ old.copy

-- That memory was refused is answered only where the session answers it, or where one request was run.
abbrev pub RefusesMemory : Admission → Reply → Type 0
RefusesMemory admission reply = is_memory reply ≡ true → (admission ≡ Answer reply) ⊎ ((words : List (List ℕ)) × (admission ≡ Run words))

-- A request of a seat was answered: by its session, or by what this had done. The session is what the request, or its refusal, leaves.
pub record AnswersRequest (old : Sequencing) (seat : ℕ) (words : List (List ℕ)) (reply : Reply) (new : Sequencing) : Type 0 where
  pub between : Sequencing
  pub session : MovesSeat old seat (Some (if is_memory reply then session_after_refusal (session_at old.sessions seat) words else session_after_request (session_at old.sessions seat) words)) between
  pub acts : Acts between (admit (session_at old.sessions seat) words) reply new

-- The changes of a call wait as one part, if there are any.
pub record Finishes (position : ℕ) (waiting : List Part) (part : Part) (position' : ℕ) (waiting' : List Part) : Type 0 where
  pub none : part.changes.items ≡ [] → (position' ≡ position) × (waiting' ≡ waiting)
  pub some : part.changes.items ≢ [] → (position' ≡ part.position) × (waiting' ≡ waiting ++ part ∷ [])
