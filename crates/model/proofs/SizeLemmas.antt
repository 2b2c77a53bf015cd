-- How many bytes the changes of calls have: a legal list keeps them within the limit of one call.
use Rattle.std.proofs.Common.{ℕ, zero, suc, ◌+◌, ◌*◌, ◌≤◌, List, [], ◌∷◌, inl, inr, codes, arith}
use Rattle.model.proofs.CallsLemmas.{changes_for-error}
use Rattle.kv_types.specs.declared.change.Change.{Change}
use Rattle.kv_types.specs.declared.reply.Reply.{Reply}
use Rattle.kv_types.specs.Keyspace.{Keyspace, play_all}
use Rattle.kv_types.specs.Change.{changes_size}
use Rattle.kv_types.proofs.ChangeTextLemmas.{changes_size-append}
use Rattle.multi_watch.specs.Admission.{Admission, Answer, Run, RunAll}
use Rattle.model.specs.declared.call.Call.{Call}
use Rattle.model.specs.declared.call.TheConstants.{MAX_CHANGE_TEXT_BYTES}
use Rattle.model.specs.declared.group.TheConstants.{MAX_PARTS}
use Rattle.model.specs.Command.{Effect, outcome_of}
use Rattle.model.specs.State.{State, start_state}
use Rattle.model.specs.Call.{MayStand, MayStandAll, MayAnswer, MayReply, unless_error, made, all_made, changes_for, changes_of, admission_at, after_call, IsLegalFrom, IsLegal}
use Rattle.model.specs.Position.{changes_at_from, changes_at, changes_since}
use Rattle.model.proofs.SessionLemmas.{replies_in-Array}

-- what is left of changes where the reply may be an error has at most their bytes
unless_error_le : (reply : Reply) (changes : List Change) → changes_size (unless_error reply changes) ≤ changes_size changes
unless_error_le reply changes = grind arith

stands_within : (before : ℕ) (outcome : Effect) (reply : Reply) → before ≤ MAX_CHANGE_TEXT_BYTES → MayStand before outcome reply
    → before + changes_size (unless_error reply outcome.changes) ≤ MAX_CHANGE_TEXT_BYTES
stands_within before outcome reply le may = grind (arith, unless_error_le reply outcome.changes)

-- and so do the requests of an EXEC together
all_stand_within : (s : Keyspace) (before : ℕ) (requests : List (List (List ℕ))) (replies : List Reply) → before ≤ MAX_CHANGE_TEXT_BYTES → MayStandAll s before requests replies
    → before + changes_size (all_made s requests replies) ≤ MAX_CHANGE_TEXT_BYTES
all_stand_within s before [] [] le all = omega (arith, le)
all_stand_within s before [] (reply ∷ replies) le all = absurd all
all_stand_within s before (words ∷ requests) [] le all = absurd all
all_stand_within s before (words ∷ requests) (reply ∷ replies) le all =
    let first = stands_within before (outcome_of s words) reply le all.0 in
    let rest = all_stand_within (play_all s (made s words reply)) (before + changes_size (made s words reply)) requests replies first all.1 in
    grind (arith, rest, changes_size-append)

pub changes_for_within : (s : Keyspace) (admission : Admission) (reply : Reply) → MayAnswer s admission reply → changes_size (changes_for s admission reply) ≤ MAX_CHANGE_TEXT_BYTES
changes_for_within s (Answer proper) reply may = omega arith
changes_for_within s (Run words) reply may = let whole = stands_within 0 (outcome_of s words) reply (omega arith) may in omega (arith, whole)
changes_for_within s (RunAll requests) reply (inl is) = rw (is, changes_for-error s (RunAll requests) (codes "ERR out of memory")) (omega arith)
changes_for_within s (RunAll requests) reply (inr (replies, is, all)) = let whole = all_stand_within s 0 requests replies (omega arith) all in rw (is, replies_in-Array replies) (omega (arith, whole))

pub changes_of_within : (s : State) (call : Call) → MayReply s call → changes_size (changes_of s call) ≤ MAX_CHANGE_TEXT_BYTES
changes_of_within s call may = changes_for_within s.keyspace (admission_at s call.connection call.item) call.reply may

-- ---- by position

changes_at_from_within : (s : State) (calls : List Call) (p : ℕ) → IsLegalFrom s calls → changes_size (changes_at_from s calls p) ≤ MAX_CHANGE_TEXT_BYTES
changes_at_from_within s [] p legal = omega arith
changes_at_from_within s (call ∷ calls) zero legal = grind (arith, changes_of_within s call legal.0, changes_at_from_within (after_call s call) calls 0 legal.1)
changes_at_from_within s (call ∷ calls) (suc p) legal = grind (arith, changes_at_from_within (after_call s call) calls p legal.1, changes_at_from_within (after_call s call) calls (suc p) legal.1)

pub changes_at_within : (calls : List Call) (p : ℕ) → IsLegal calls → changes_size (changes_at calls p) ≤ MAX_CHANGE_TEXT_BYTES
changes_at_within calls p legal = changes_at_from_within start_state calls p legal

-- the changes of `count` positions have at most `count` times as many bytes
pub changes_since_within : (calls : List Call) (p count : ℕ) → IsLegal calls → changes_size (changes_since calls p count) ≤ count * MAX_CHANGE_TEXT_BYTES
changes_since_within calls p zero legal = omega arith
changes_since_within calls p (suc count) legal =
    omega (arith, changes_at_within calls p legal, changes_since_within calls (p + 1) count legal, changes_size-append (changes_at calls p) (changes_since calls (p + 1) count))

pub changes_of_group_within : (calls : List Call) (p count : ℕ) → IsLegal calls → count ≤ MAX_PARTS → changes_size (changes_since calls p count) ≤ MAX_PARTS * MAX_CHANGE_TEXT_BYTES
changes_of_group_within calls p count legal few = omega (arith, changes_since_within calls p count legal, few)
