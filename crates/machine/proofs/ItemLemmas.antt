-- What an item with its reply does to the transaction of its connection.
use Rattle.std.proofs.Common.{◌≡◌, ◌≢◌, Bool, true, false, cond, not, ◌&&◌, ◌||◌, ◌⊎◌, inl, inr, ℕ, ◌+◌, length, nat_lt, List, [], ◌∷◌, ◌++◌, drop, Option, Some, None, Result, Ok, Err, refl, sym, ap, subst, ◌∙◌, append-nil, codes}
use Rattle.std.proofs.Math.Bool.{or-false, or-true}
use Rattle.kv_types.specs.declared.item.Item.TheVariants.{Request}
use Rattle.kv_types.specs.declared.reply.Reply.{Reply, Simple, Error, NullArray}
use Rattle.kv_types.specs.Keyspace.{Keyspace}
use Rattle.kv_types.proofs.OrderLemmas.{same_key}
use Rattle.cmd_core.specs.Shape.{takes, are_short}
use Rattle.kv_types.specs.declared.command_name.CommandName.{CommandName}
use Rattle.kv_types.specs.declared.command_name.CommandName.TheVariants as name
use Rattle.kv_types.specs.declared.command_name.TheConstants.{COMMANDS}
use Rattle.cmd_table.specs.declared.misuse.Misuse.{Misuse}
use Rattle.cmd_table.specs.declared.misuse.Misuse.TheVariants.{WrongNumberOfWords, LongKey}
use Rattle.cmd_table.specs.Misuse.{misuse_text}
use Rattle.kv_types.specs.CommandName.{find}
use Rattle.cmd_table.specs.Row.{row, if_served}
use Rattle.cmd_table.specs.Command.{Command, read_named}
use Rattle.cmd_table.specs.Request.{is_quit, closes as request_closes}
use Rattle.multi_watch.specs.declared.verb.Verb.{Verb}
use Rattle.multi_watch.specs.declared.verb.Verb.TheVariants as verb
use Rattle.multi_watch.specs.declared.error.SessionError.TheVariants.{TooLong}
use Rattle.multi_watch.specs.Error.{error_text}
use Rattle.multi_watch.specs.Verb.{verb_of, verb_of_reading, verb_of_name}
use Rattle.multi_watch.specs.declared.limits.TheConstants.{MAX_QUEUED_REQUESTS}
use Rattle.multi_watch.specs.declared.watch.Watch.{Watch}
use Rattle.multi_watch.specs.Session.{Session, idle_session, watching, has_modified, spoiled}
use Rattle.multi_watch.specs.Admission.{Step, Answer, RunAll, step_of, refused_of, admit, session_after_request, session_after_refusal}
use Rattle.model.specs.Call.{MayAnswer, is_memory, memory_reply, session_after_item}
use Rattle.machine.specs.Transaction.{is_multi, is_exec, is_discard, is_watch, is_unwatch, is_misuse, may_wait, is_error, is_ok, is_queued, is_array, is_null_array, is_aborted}

-- ---- which requests close their connection

only_quit : (c : CommandName) → is_quit (if_served (Some c)) ≡ true → c ≡ name.Quit
only_quit name.Quit e = refl
only_quit _ e = cc

named_quit : (c : CommandName) → verb_of_name c ≡ verb.Quit → c ≡ name.Quit
named_quit name.Quit e = refl
named_quit _ e = cc

closing_named : (found : Option CommandName) → is_quit (if_served found) ≡ true → found ≡ Some name.Quit
closing_named None e = cc
closing_named (Some c) e = ap Some (only_quit c e)

module _ (p : Verb → Bool) (on_quit : p verb.Quit ≡ false) (on_misuse : (misuse : Misuse) → p (verb.Misused misuse) ≡ false) where
  quit_arguments : (a b : Bool) (arguments : List (List ℕ)) → let read : Result Command Misuse = Ok (record { name = name.Quit; arguments = arguments }) in
      p (verb_of_reading (cond a (Err (WrongNumberOfWords name.Quit)) (cond b (Err LongKey) read))) ≡ false
  quit_arguments true b arguments = on_misuse _
  quit_arguments false true arguments = on_misuse _
  quit_arguments false false arguments = on_quit

  -- a request that closes its connection asks nothing else of its session
  pub closing_only : (words : List (List ℕ)) → request_closes words ≡ true → p (verb_of words) ≡ false
  unfolding request_closes verb_of
  closing_only [] e = on_misuse _
  closing_only (word ∷ arguments) e =
      ap (λ found. p (verb_of_reading (read_named found arguments))) (closing_named (find COMMANDS word) e)
      ∙ quit_arguments (not (takes (row name.Quit).words (length arguments + 1))) (not (are_short (row name.Quit).keys arguments)) arguments

quit_read : (c : CommandName) (a b : Bool) (arguments : List (List ℕ)) (m n : Misuse)
    → verb_of_reading (cond a (Err m) (cond b (Err n) (Ok (record { name = c; arguments = arguments })))) ≡ verb.Quit → verb_of_name c ≡ verb.Quit
quit_read c true b arguments m n e = cc
quit_read c false true arguments m n e = cc
quit_read c false false arguments m n e = e

quit_found : (found : Option CommandName) (arguments : List (List ℕ)) → verb_of_reading (read_named found arguments) ≡ verb.Quit → is_quit (if_served found) ≡ true
quit_found None arguments e = cc
quit_found (Some c) arguments e = ap (λ it. is_quit (if_served (Some it))) (named_quit c
    (quit_read c (not (takes (row c).words (length arguments + 1))) (not (are_short (row c).keys arguments)) arguments (WrongNumberOfWords c) LongKey e))

pub quit_closes : (words : List (List ℕ)) → verb_of words ≡ verb.Quit → request_closes words ≡ true
unfolding request_closes verb_of
quit_closes [] e = cc
quit_closes (word ∷ arguments) e = quit_found (find COMMANDS word) arguments e

-- ---- replies

-- the reply that tells of memory is one
pub memory_only : (reply : Reply) → is_memory reply ≡ true → reply ≡ memory_reply
memory_only (Error text) e = ap Error (same_key text _ e)
memory_only _ e = cc

pub memory_is : is_memory memory_reply ≡ true
memory_is = refl

pub proper_only : (reply proper : Reply) → is_memory reply ≡ false → (reply ≡ memory_reply) ⊎ (reply ≡ proper) → reply ≡ proper
proper_only reply proper known (inl e) = let both : true ≡ false = sym memory_is ∙ ap is_memory (sym e) ∙ known in cc
proper_only reply proper known (inr e) = e

-- ---- a request of a kind that leaves its connection open

-- a reply that ends the transaction, where the request asked so
abbrev pub ends_of : Verb → Reply → Bool
ends_of v reply = (is_exec v && (is_array reply || (is_null_array reply || is_aborted reply))) || (is_discard v && is_ok reply)

abbrev pub spoils_of : ℕ → Verb → Reply → Bool
spoils_of waiting v reply =
    (is_misuse v && not (is_memory reply)) || (may_wait v && (is_error (error_text TooLong) reply || (is_memory reply && nat_lt waiting MAX_QUEUED_REQUESTS)))

abbrev pub watched_of : Verb → List (List ℕ) → Reply → List Watch → List Watch
watched_of v words reply watched = cond (is_unwatch v && is_ok reply) [] (cond (is_watch v && is_ok reply) (watching (drop 1 words) watched) watched)

-- the transaction is over, and all is forgotten
pub record Ends (v : Verb) (reply : Reply) (new : Session) : Type 0 where
  pub ends : ends_of v reply ≡ true
  pub over : new ≡ idle_session

-- a transaction has begun
pub record Begins (v : Verb) (words : List (List ℕ)) (reply : Reply) (old new : Session) : Type 0 where
  pub ends : ends_of v reply ≡ false
  pub opens : (is_multi v && is_ok reply) ≡ true
  pub was : old.is_open ≡ false
  pub is_open : new.is_open ≡ true
  pub queue : new.queue ≡ []
  pub spoiled : new.is_spoiled ≡ false
  pub watched : new.watched ≡ watched_of v words reply old.watched

-- the transaction goes on, or none is open
pub record GoesOn (v : Verb) (words : List (List ℕ)) (reply : Reply) (old new : Session) : Type 0 where
  pub ends : ends_of v reply ≡ false
  pub opens : (is_multi v && is_ok reply) ≡ false
  pub is_open : new.is_open ≡ old.is_open
  pub queue : old.is_open ≡ true → new.queue ≡ old.queue ++ cond (is_queued reply) (words ∷ []) []
  pub spoiled : old.is_open ≡ true → new.is_spoiled ≡ (old.is_spoiled || spoils_of (length old.queue) v reply)
  pub watched : new.watched ≡ watched_of v words reply old.watched

abbrev pub Does : Verb → List (List ℕ) → Reply → Session → Session → Type 0
Does v words reply old new = Ends v reply new ⊎ (Begins v words reply old new ⊎ GoesOn v words reply old new)

pub never : {X : Type 0} {x y : X} → false ≡ true → x ≡ y
never e = cc

module _ (words : List (List ℕ)) where
  -- where memory was refused in a transaction, for a request that would have waited or is one too many
  refused_waiting : (queue : List (List (List ℕ))) (sp : Bool) (watched : List Watch) (b : Bool) → nat_lt (length queue) MAX_QUEUED_REQUESTS ≡ b
      → let old : Session = record { is_open = true; queue = queue; is_spoiled = sp; watched = watched } in
      GoesOn verb.Unwatch words memory_reply old (cond b (spoiled old) old) × GoesOn verb.Other words memory_reply old (cond b (spoiled old) old)
  refused_waiting queue sp watched true e = search (sym (append-nil queue), sym (or-true sp) ∙ ap (λ b. sp || b) (sym e))
  refused_waiting queue sp watched false e = search (sym (append-nil queue), sym (or-false sp) ∙ ap (λ b. sp || b) (sym e))

  -- where memory was refused
  refused : (v : Verb) (o : Bool) (queue : List (List (List ℕ))) (sp : Bool) (watched : List Watch)
      → let old : Session = record { is_open = o; queue = queue; is_spoiled = sp; watched = watched } in
      GoesOn v words memory_reply old (refused_of v old)
  refused verb.Unwatch true queue sp watched = (refused_waiting queue sp watched _ refl).0
  refused verb.Other true queue sp watched = (refused_waiting queue sp watched _ refl).1
  refused v o queue sp watched = search (never, sym (append-nil queue), sym (or-false sp))

module _ (k : Keyspace) (words : List (List ℕ)) where
  -- a reply that the session gives, and what holds of it
  given : (v : Verb) (proper : Reply) (old new : Session) → Does v words proper old new → (reply : Reply) → is_memory reply ≡ false
      → (reply ≡ memory_reply) ⊎ (reply ≡ proper) → Does v words reply old new
  given v proper old new is reply known may = subst (λ r. Does v words r old new) (sym (proper_only reply proper known may)) is

  ran : (b : Bool) (sp : Bool) (queue : List (List (List ℕ))) (watched : List Watch) (reply : Reply) → is_memory reply ≡ false
      → let old : Session = record { is_open = true; queue = queue; is_spoiled = false; watched = watched } in
      let taken : Step = cond b (record { admission = Answer NullArray; session = idle_session }) (record { admission = RunAll queue; session = idle_session }) in
      MayAnswer k taken.admission reply → Ends verb.Exec reply taken.session
  ran true sp queue watched reply known may =
      subst (λ r. Ends verb.Exec r idle_session) (sym (proper_only reply NullArray known may)) (record { ends = refl; over = refl })
  ran false sp queue watched reply known (inl e) = let both : true ≡ false = sym memory_is ∙ ap is_memory (sym e) ∙ known in cc
  ran false sp queue watched reply known (inr (replies, e, all)) =
      subst (λ r. Ends verb.Exec r idle_session) (sym e) (record { ends = refl; over = refl })

  -- a request that waits for EXEC, or is one too many
  kept : (v : Verb) (b : Bool) (queue : List (List (List ℕ))) (sp : Bool) (watched : List Watch) (reply : Reply) → is_memory reply ≡ false
      → let old : Session = record { is_open = true; queue = queue; is_spoiled = sp; watched = watched } in
      let taken : Step = cond b (record { admission = Answer (Simple (codes "QUEUED")); session = record old { queue = queue ++ words ∷ [] } })
      (record { admission = Answer (Error (error_text TooLong)); session = spoiled old }) in
      GoesOn v words (Simple (codes "QUEUED")) old (record old { queue = queue ++ words ∷ [] }) → GoesOn v words (Error (error_text TooLong)) old (spoiled old)
      → MayAnswer k taken.admission reply → Does v words reply old taken.session
  kept v true queue sp watched reply known waits full may = given v (Simple (codes "QUEUED")) _ _ (inr (inr waits)) reply known may
  kept v false queue sp watched reply known waits full may = given v (Error (error_text TooLong)) _ _ (inr (inr full)) reply known may

  -- a request that does not close its connection, with an answer other than that of memory
  pub answered : (v : Verb) → v ≢ verb.Quit → (o : Bool) (queue : List (List (List ℕ))) (sp : Bool) (watched : List Watch) (reply : Reply) → is_memory reply ≡ false
      → let old : Session = record { is_open = o; queue = queue; is_spoiled = sp; watched = watched } in
      MayAnswer k (step_of v words old).admission reply → Does v words reply old (step_of v words old).session
  answered verb.Quit stays o queue sp watched reply known may = absurd (stays refl)
  answered (verb.Misused misuse) stays true queue sp watched reply known may =
      let spoils : is_memory (Error (misuse_text misuse)) ≡ false = ap is_memory (sym (proper_only reply _ known may)) ∙ known in
      given (verb.Misused misuse) _ _ _ (inr (inr (search (sym (append-nil queue), sym (ap (λ b. sp || (not b || false)) spoils ∙ or-true sp))))) reply known may
  answered verb.Multi stays false queue sp watched reply known may = given verb.Multi _ _ _ (inr (inl search)) reply known may
  answered verb.Discard stays true queue sp watched reply known may = given verb.Discard _ _ _ (inl search) reply known may
  answered verb.Exec stays true queue true watched reply known may = given verb.Exec _ _ _ (inl search) reply known may
  answered verb.Exec stays true queue false watched reply known may =
      inl (ran (has_modified (record { is_open = true; queue = queue; is_spoiled = false; watched = watched })) false queue watched reply known may)
  answered verb.Unwatch stays true queue sp watched reply known may =
      kept verb.Unwatch (nat_lt (length queue) MAX_QUEUED_REQUESTS) queue sp watched reply known (search (sym (or-false sp))) (search (sym (append-nil queue), sym (or-true sp))) may
  answered verb.Other stays true queue sp watched reply known may =
      kept verb.Other (nat_lt (length queue) MAX_QUEUED_REQUESTS) queue sp watched reply known (search (sym (or-false sp))) (search (sym (append-nil queue), sym (or-true sp))) may
  answered verb.Other stays false queue sp watched reply known may = inr (inr (search never))
  answered v stays true queue sp watched reply known may = given v _ _ _ (inr (inr (search (sym (append-nil queue), sym (or-false sp))))) reply known may
  answered v stays false queue sp watched reply known may = given v _ _ _ (inr (inr (search (never, sym (append-nil queue), sym (or-false sp))))) reply known may

-- ---- an item

-- any other is a request, and does this
pub request_does : (k : Keyspace) (session : Session) (words : List (List ℕ)) (reply : Reply) → request_closes words ≡ false → MayAnswer k (admit session words) reply
    → Does (verb_of words) words reply session (session_after_item session (Request words) reply)
request_does k session words reply stays may =
    elim (is_memory reply) as (λ b. is_memory reply ≡ b → Does (verb_of words) words reply session (session_after_item session (Request words) reply)) [
      | true ↦ λ e. subst (Does (verb_of words) words reply session) (sym (left e))
          (subst (λ r. Does (verb_of words) words r session (session_after_refusal session words)) (sym (memory_only reply e))
          (inr (inr (refused words (verb_of words) session.is_open session.queue session.is_spoiled session.watched))))
      | false ↦ λ e. subst (Does (verb_of words) words reply session) (sym (left e))
          (answered k words (verb_of words) not_quit session.is_open session.queue session.is_spoiled session.watched reply e may)
    ] refl
  where
    left : {b : Bool} → is_memory reply ≡ b → session_after_item session (Request words) reply ≡ cond b (session_after_refusal session words) (session_after_request session words)
    left e = ap (λ b. cond b idle_session (cond (is_memory reply) (session_after_refusal session words) (session_after_request session words))) stays
        ∙ ap (λ b. cond b (session_after_refusal session words) (session_after_request session words)) e

    not_quit : verb_of words ≢ verb.Quit
    not_quit is = let both : true ≡ false = sym (quit_closes words is) ∙ stays in cc
