-- What a session answers by itself is never that memory was refused, and a request that is run at once leaves the session as a refusal would.
use Rattle.std.proofs.Common.{◌≡◌, ℕ, Bool, true, false, ◌&&◌, cond, List, [], ◌∷◌, ◌++◌, drop, codes, refl, ap, sym, ◌∙◌}
use Rattle.kv_types.specs.declared.reply.Reply.{Reply, Simple, Error, NullArray}
use Rattle.cmd_table.specs.declared.misuse.Misuse.{Misuse}
use Rattle.cmd_table.specs.declared.misuse.Misuse.TheVariants.{UnknownName, WrongNumberOfWords, LongKey}
use Rattle.cmd_table.specs.Misuse.{misuse_text}
use Rattle.multi_watch.specs.declared.verb.Verb.{Verb}
use Rattle.multi_watch.specs.declared.verb.Verb.TheVariants as verb
use Rattle.multi_watch.specs.declared.error.SessionError.{SessionError}
use Rattle.multi_watch.specs.declared.error.SessionError.TheVariants.{NestedMulti, ExecOutside, DiscardOutside, WatchInside, TooLong, Aborted}
use Rattle.multi_watch.specs.Session.{Session, idle_session, spoiled, has_modified, with_watched, watching}
use Rattle.multi_watch.specs.Admission.{Answer, Run, RunAll, Step, admit, answers, refuses, runs, ok_reply, step_of, after_misuse, after_multi, after_closing, after_exec, after_discard, after_watch}
use Rattle.multi_watch.specs.Admission.{after_waiting, after_unwatch, has_room, would_wait, refused_of, session_after_request, session_after_refusal}
use Rattle.multi_watch.specs.Verb.{verb_of}
use Rattle.model.specs.Call.{is_memory}

-- ---- what is answered

-- where a step answers, it does not say that memory was refused
abbrev Known : Step → Type 0
Known step = (reply : Reply) → step.admission ≡ Answer reply → is_memory reply ≡ false

answered : (a b : Reply) → Answer a ≡ Answer b → a ≡ b
answered a b e = cc

known_answers : (reply : Reply) (session : Session) → is_memory reply ≡ false → Known (answers reply session)
known_answers reply session known other e = ap is_memory (sym (answered reply other e)) ∙ known

known_if : (b : Bool) (x y : Step) → Known x → Known y → Known (cond b x y)
known_if true x y one other = one
known_if false x y one other = other

known_refuses : (error : SessionError) (session : Session) → Known (refuses error session)
known_refuses NestedMulti session = known_answers _ session refl
known_refuses ExecOutside session = known_answers _ session refl
known_refuses DiscardOutside session = known_answers _ session refl
known_refuses WatchInside session = known_answers _ session refl
known_refuses TooLong session = known_answers _ session refl
known_refuses Aborted session = known_answers _ session refl

known_misuse : (misuse : Misuse) (session : Session) → Known (after_misuse misuse session)
known_misuse UnknownName session = known_answers _ (spoiled session) refl
known_misuse (WrongNumberOfWords command) session = known_answers _ (spoiled session) refl
known_misuse LongKey session = known_answers _ (spoiled session) refl

known_runs : (words : List (List ℕ)) (session : Session) → Known (runs words session)
known_runs words session reply e = cc

known_run_all : (session : Session) → Known (record { admission = RunAll session.queue; session = idle_session })
known_run_all session reply e = cc

known_closing : (session : Session) → Known (after_closing session)
known_closing session =
    known_if session.is_spoiled _ _ (known_refuses Aborted idle_session) (known_if (has_modified session) _ _ (known_answers NullArray idle_session refl) (known_run_all session))

known_waiting : (words : List (List ℕ)) (session : Session) → Known (after_waiting words session)
known_waiting words session = known_if (has_room session) _ _ (known_answers (Simple (codes "QUEUED")) (record session { queue = session.queue ++ words ∷ [] }) refl) (known_refuses TooLong (spoiled session))

known_step : (verb : Verb) (words : List (List ℕ)) (session : Session) → Known (step_of verb words session)
known_step (verb.Misused misuse) words session = known_misuse misuse session
known_step verb.Quit words session = known_runs words session
known_step verb.Multi words session = known_if session.is_open _ _ (known_refuses NestedMulti session) (known_answers ok_reply (record { is_open = true; queue = []; is_spoiled = false; watched = session.watched }) refl)
known_step verb.Exec words session = known_if session.is_open _ _ (known_closing session) (known_refuses ExecOutside session)
known_step verb.Discard words session = known_if session.is_open _ _ (known_answers ok_reply idle_session refl) (known_refuses DiscardOutside session)
known_step verb.Watch words session = known_if session.is_open _ _ (known_refuses WatchInside session) (known_answers ok_reply (with_watched (watching (drop 1 words) session.watched) session) refl)
known_step verb.Unwatch words session = known_if session.is_open _ _ (known_waiting words session) (known_answers ok_reply (with_watched [] session) refl)
known_step verb.Other words session = known_if session.is_open _ _ (known_waiting words session) (known_runs words session)

pub answers-known : (session : Session) (words : List (List ℕ)) (reply : Reply) → admit session words ≡ Answer reply → is_memory reply ≡ false
answers-known session words reply e = known_step (verb_of words) words session reply e

-- ---- what is run at once

-- the step runs no request at once
abbrev NeverRuns : Step → Type 0
NeverRuns step = (words : List (List ℕ)) → step.admission ≡ Run words → ⊥

never_answers : (reply : Reply) (session : Session) → NeverRuns (answers reply session)
never_answers reply session words e = cc

never_refuses : (error : SessionError) (session : Session) → NeverRuns (refuses error session)
never_refuses error session words e = cc

never_run_all : (session : Session) → NeverRuns (record { admission = RunAll session.queue; session = idle_session })
never_run_all session words e = cc

never_if : (b : Bool) (x y : Step) → NeverRuns x → NeverRuns y → NeverRuns (cond b x y)
never_if true x y one other = one
never_if false x y one other = other

never_waiting : (words : List (List ℕ)) (session : Session) → NeverRuns (after_waiting words session)
never_waiting words session =
    never_if (has_room session) _ _ (never_answers (Simple (codes "QUEUED")) (record session { queue = session.queue ++ words ∷ [] })) (never_refuses TooLong (spoiled session))

-- where a step runs these words at once, the session is as a refusal leaves it
abbrev Unmoved : Session → Step → Type 0
Unmoved refused step = (words : List (List ℕ)) → step.admission ≡ Run words → refused ≡ step.session

never_moved : (refused : Session) (step : Step) → NeverRuns step → Unmoved refused step
never_moved refused step never words e = absurd (never words e)

unmoved_other : (b : Bool) (words : List (List ℕ)) (session : Session) → Unmoved (cond (b && has_room session) (spoiled session) session) (cond b (after_waiting words session) (runs words session))
unmoved_other true words session = never_moved (cond (has_room session) (spoiled session) session) (after_waiting words session) (never_waiting words session)
unmoved_other false words session = λ other e. refl

unmoved_step : (verb : Verb) (words : List (List ℕ)) (session : Session) → Unmoved (refused_of verb session) (step_of verb words session)
unmoved_step (verb.Misused misuse) words session = never_moved session (after_misuse misuse session) (never_answers (Error (misuse_text misuse)) (spoiled session))
unmoved_step verb.Quit words session = λ other e. refl
unmoved_step verb.Multi words session = never_moved session (after_multi session) (never_if session.is_open _ _ (never_refuses NestedMulti session) (never_answers ok_reply (record { is_open = true; queue = []; is_spoiled = false; watched = session.watched })))
unmoved_step verb.Exec words session =
    never_moved session (after_exec session) (never_if session.is_open _ _
    (never_if session.is_spoiled _ _ (never_refuses Aborted idle_session) (never_if (has_modified session) _ _ (never_answers NullArray idle_session) (never_run_all session)))
    (never_refuses ExecOutside session))
unmoved_step verb.Discard words session =
    never_moved session (after_discard session) (never_if session.is_open _ _ (never_answers ok_reply idle_session) (never_refuses DiscardOutside session))
unmoved_step verb.Watch words session =
    never_moved session (after_watch (drop 1 words) session)
    (never_if session.is_open _ _ (never_refuses WatchInside session) (never_answers ok_reply (with_watched (watching (drop 1 words) session.watched) session)))
unmoved_step verb.Unwatch words session =
    never_moved (cond (would_wait session) (spoiled session) session) (after_unwatch words session)
    (never_if session.is_open _ _ (never_waiting words session) (never_answers ok_reply (with_watched [] session)))
unmoved_step verb.Other words session = unmoved_other session.is_open words session

pub run-unmoved : (session : Session) (words other : List (List ℕ)) → admit session words ≡ Run other → session_after_refusal session words ≡ session_after_request session words
run-unmoved session words other e = unmoved_step (verb_of words) words session other e
