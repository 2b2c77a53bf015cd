-- What a session makes of a request: what is to be done, and the session afterwards (the Redis pages of MULTI, EXEC, DISCARD, WATCH
-- and UNWATCH; the limit of a transaction, and which errors spoil it, are this project's profile).
use Rattle.std.specs.Prelude.{ℕ, Bool, true, false, not, ◌&&◌, if◌then◌else◌, nat_lt, List, [], ◌∷◌, ◌++◌, length, drop, codes}
use Rattle.kv_types.specs.declared.reply.Reply as reply
use Rattle.kv_types.specs.declared.reply.Reply.{Reply}
use Rattle.cmd_table.specs.declared.misuse.Misuse.{Misuse}
use Rattle.cmd_table.specs.declared.misuse.Misuse.TheVariants.{WrongNumberOfWords}
use Rattle.cmd_table.specs.Misuse.{misuse_text}
use Rattle.multi_watch.specs.declared.error.SessionError.{SessionError}
use Rattle.multi_watch.specs.declared.error.SessionError.TheVariants.{NestedMulti, ExecOutside, DiscardOutside, WatchInside, TooLong, Aborted}
use Rattle.multi_watch.specs.declared.verb.Verb.{Verb}
use Rattle.multi_watch.specs.declared.verb.Verb.TheVariants as verb
use Rattle.multi_watch.specs.declared.limits.TheConstants.{MAX_QUEUED_REQUESTS}
use Rattle.multi_watch.specs.declared.act.Act.{Act}
use Rattle.multi_watch.specs.declared.act.Act.TheVariants as code
use Rattle.multi_watch.specs.Session.{Session, idle_session, with_watched, watching, has_modified, spoiled}
use Rattle.multi_watch.specs.Error.{error_text}
use Rattle.multi_watch.specs.Verb.{verb_of}

-- what is to be done for a request
pub data Admission : Type 0 where
  -- the reply is given, and the keyspace is not looked at
  Answer : (reply : Reply) → Admission
  -- the request is run at once
  Run : (words : List (List ℕ)) → Admission
  -- the requests are run in order, and the array of their replies is given
  RunAll : (requests : List (List (List ℕ))) → Admission

pub record Step : Type 0 where
  pub admission : Admission
  -- the session afterwards
  pub session : Session

abbrev pub answers : Reply → Session → Step
answers reply session = record { admission = Answer reply; session = session }

abbrev pub refuses : SessionError → Session → Step
refuses error = answers (reply.Error (error_text error))

abbrev pub ok_reply : Reply
ok_reply = reply.Simple (codes "OK")

abbrev pub runs : List (List ℕ) → Session → Step
runs words session = record { admission = Run words; session = session }

-- ---- one request each

abbrev pub after_misuse : Misuse → Session → Step
after_misuse misuse session = answers (reply.Error (misuse_text misuse)) (spoiled session)

abbrev pub after_multi : Session → Step
after_multi session =
    if session.is_open then refuses NestedMulti session
    else answers ok_reply (record { is_open = true; queue = []; is_spoiled = false; watched = session.watched })

-- A spoiled transaction is not run, and this wins over a modified key.
abbrev pub after_closing : Session → Step
after_closing session =
    if session.is_spoiled then refuses Aborted idle_session
    else (if has_modified session then answers reply.NullArray idle_session
    else record { admission = RunAll session.queue; session = idle_session })

abbrev pub after_exec : Session → Step
after_exec session = if session.is_open then after_closing session else refuses ExecOutside session

abbrev pub after_discard : Session → Step
after_discard session = if session.is_open then answers ok_reply idle_session else refuses DiscardOutside session

abbrev pub after_watch : List (List ℕ) → Session → Step
after_watch keys session =
    if session.is_open then refuses WatchInside session
    else answers ok_reply (with_watched (watching keys session.watched) session)

abbrev pub has_room : Session → Bool
has_room session = nat_lt (length session.queue) MAX_QUEUED_REQUESTS

-- a request that waits for EXEC
abbrev pub after_waiting : List (List ℕ) → Session → Step
after_waiting words session =
    if has_room session then answers (reply.Simple (codes "QUEUED")) (record session { queue = session.queue ++ words ∷ [] })
    else refuses TooLong (spoiled session)

abbrev pub after_unwatch : List (List ℕ) → Session → Step
after_unwatch words session =
    if session.is_open then after_waiting words session
    else answers ok_reply (with_watched [] session)

abbrev pub after_other : List (List ℕ) → Session → Step
after_other words session = if session.is_open then after_waiting words session else runs words session

-- ---- every request

abbrev pub step_of : Verb → List (List ℕ) → Session → Step
step_of (verb.Misused misuse) words session = after_misuse misuse session
step_of verb.Quit words session = runs words session
step_of verb.Multi words session = after_multi session
step_of verb.Exec words session = after_exec session
step_of verb.Discard words session = after_discard session
step_of verb.Watch words session = after_watch (drop 1 words) session
step_of verb.Unwatch words session = after_unwatch words session
step_of verb.Other words session = after_other words session

abbrev pub step : Session → List (List ℕ) → Step
step session words = step_of (verb_of words) words session

abbrev pub admit : Session → List (List ℕ) → Admission
admit session words = (step session words).admission

abbrev pub session_after_request : Session → List (List ℕ) → Session
session_after_request session words = (step session words).session

-- ---- which requests may be refused for memory

-- a misuse whose text is built, since it shows the name
abbrev pub builds_text : Misuse → Bool
builds_text (WrongNumberOfWords command) = true
builds_text _ = false

-- the transaction, once it is closed, runs
abbrev pub will_run : Session → Bool
will_run session = not session.is_spoiled && not (has_modified session)

-- a request is kept, to wait for EXEC
abbrev pub would_wait : Session → Bool
would_wait session = session.is_open && has_room session

abbrev pub may_grow_of : Verb → Session → Bool
may_grow_of (verb.Misused misuse) session = builds_text misuse
may_grow_of verb.Quit session = false
may_grow_of verb.Multi session = false
may_grow_of verb.Exec session = session.is_open && will_run session
may_grow_of verb.Discard session = false
may_grow_of verb.Watch session = not session.is_open
may_grow_of verb.Unwatch session = would_wait session
may_grow_of verb.Other session = would_wait session

-- Every other request is taken without memory.
abbrev pub may_grow : Session → List (List ℕ) → Bool
may_grow session words = may_grow_of (verb_of words) session

-- ---- where memory was refused

-- a request that would have waited spoils the transaction
abbrev pub spoiled_if_waits : Session → Session
spoiled_if_waits session = if would_wait session then spoiled session else session

abbrev pub refused_of : Verb → Session → Session
refused_of verb.Unwatch session = spoiled_if_waits session
refused_of verb.Other session = spoiled_if_waits session
refused_of _ session = session

-- any other leaves the session as it was
abbrev pub session_after_refusal : Session → List (List ℕ) → Session
session_after_refusal session words = refused_of (verb_of words) session

-- ---- as the code has it

abbrev pub act_now : Act → Admission
act_now (code.Answer reply) = Answer reply
act_now (code.Run request) = Run request
act_now (code.RunAll requests replies) = RunAll requests.items
