-- The sessions of the state after a call, and after a list.
use Rattle.std.proofs.Common.{◌≡◌, ◌≢◌, ℕ, true, false, List, [], ◌∷◌, ◌+◌, length, suc, ◌⊎◌, inl, inr, refl, sym, ap, ◌∙◌, eq-eqb, ne_eqb, arith}
use Rattle.kv_types.specs.declared.item.Item.{Item}
use Rattle.kv_types.specs.declared.item.Item.TheVariants.{Request, Fault}
use mathlib.Core.Former.{Count}
use Rattle.kv_types.specs.declared.reply.Reply.{Reply, Array, Array', Row_of-Reply, end_of-Reply, more_of-Reply, items-the_row-Reply, items_hidden-the_row-Reply-0}
use Rattle.kv_types.specs.Keyspace.{Keyspace, play_all}
use Rattle.kv_types.specs.Change.{changes_size}
use Rattle.multi_watch.specs.Session.{Session, idle_session, modified_where}
use Rattle.multi_watch.specs.Admission.{Admission, RunAll, session_after_request, session_after_refusal}
use Rattle.multi_watch.specs.Modified.{modifies}
use Rattle.model.specs.declared.call.Call.{Call}
use Rattle.model.specs.Command.{closes}
use Rattle.model.specs.State.{State, start_state}
use Rattle.model.specs.Call.{MayStandAll, MayAnswer, AreAlike, admission_at, memory_reply, list_of_row, replies_in, all_made, changes_for, made, changes_of, is_memory, items_of, session_after_item, session_after, after_call, state_from, state_after}
use Rattle.model.proofs.CallsLemmas.{changes_of-alike}

-- ---- one call

abbrev pub marks : State → Call → Session → Session
marks s call = modified_where (modifies s.keyspace (changes_of s call))

pub session_after-own : (s : State) (call : Call) → session_after s call call.connection ≡ marks s call (session_after_item (s.sessions call.connection) call.item call.reply)
session_after-own s call = simp (eq-eqb call.connection call.connection refl)

pub session_after-other : (s : State) (call : Call) (connection : ℕ) → call.connection ≢ connection → session_after s call connection ≡ marks s call (s.sessions connection)
session_after-other s call connection differ = simp (ne_eqb call.connection connection differ)

-- what it leaves of its own session depends on nothing else
pub session_after-alike : (s t : State) (a b : Call) → AreAlike s a t b → session_after s a a.connection ≡ session_after t b b.connection
session_after-alike s t a b alike =
    let changes = changes_of-alike s t a b alike in
    let own = session_after-own s a in
    let own' = session_after-own t b in
    cc

-- what it marks in the session of another connection does not depend on who made it
pub session_after-others : (s t : State) (a b : Call) (c d : ℕ) → AreAlike s a t b → a.connection ≢ c → b.connection ≢ d → s.sessions c ≡ t.sessions d → session_after s a c ≡ session_after t b d
session_after-others s t a b c d alike differ differ' same =
    let changes = changes_of-alike s t a b alike in
    let other = session_after-other s a c differ in
    let other' = session_after-other t b d differ' in
    cc

-- ---- one's own session after its item

pub item-closed : (session : Session) (item : Item) (reply : Reply) → closes item ≡ true → session_after_item session item reply ≡ idle_session
item-closed session (Request words) reply e = simp e
item-closed session (Fault fault) reply e = refl

-- nothing is left where the item closes the connection
pub session_after-closed : (s : State) (call : Call) → closes call.item ≡ true → session_after s call call.connection ≡ idle_session
session_after-closed s call e = session_after-own s call ∙ ap (marks s call) (item-closed (s.sessions call.connection) call.item call.reply e)

pub own-answered : (s : State) (call : Call) (words : List (List ℕ)) → call.item ≡ Request words → closes call.item ≡ false → is_memory call.reply ≡ false
    → session_after s call call.connection ≡ marks s call (session_after_request (s.sessions call.connection) words)
own-answered s call words is stays known = simp (eq-eqb call.connection call.connection refl, is, simp is at stays, known)

pub own-refused : (s : State) (call : Call) (words : List (List ℕ)) → call.item ≡ Request words → closes call.item ≡ false → is_memory call.reply ≡ true
    → session_after s call call.connection ≡ marks s call (session_after_refusal (s.sessions call.connection) words)
own-refused s call words is stays known = simp (eq-eqb call.connection call.connection refl, is, simp is at stays, known)

-- ---- a connection that has made no call

first_other : (connection : ℕ) (call : Call) (calls : List Call) → items_of connection (call ∷ calls) ≡ [] → (call.connection ≢ connection) × (items_of connection calls ≡ [])
first_other connection call calls none = grind (arith, eq-eqb call.connection connection)

sessions_from : (s : State) (calls : List Call) (connection : ℕ) → items_of connection calls ≡ [] → s.sessions connection ≡ idle_session → (state_from s calls).sessions connection ≡ idle_session
sessions_from s [] connection none idle = idle
sessions_from s (call ∷ calls) connection none idle =
    let parts = first_other connection call calls none in
    sessions_from (after_call s call) calls connection parts.1 (session_after-other s call connection parts.0 ∙ ap (marks s call) idle)

-- has an idle session
pub session_of_new : (calls : List Call) (connection : ℕ) → items_of connection calls ≡ [] → (state_after calls).sessions connection ≡ idle_session
session_of_new calls connection none = sessions_from start_state calls connection none refl

-- ---- the requests of an EXEC

-- each of them has its reply
pub replies_each : (s : Keyspace) (before : ℕ) (requests : List (List (List ℕ))) (replies : List Reply) → MayStandAll s before requests replies → length replies ≡ length requests
replies_each s before [] [] all = refl
replies_each s before [] (reply ∷ replies) all = absurd all
replies_each s before (words ∷ requests) [] all = absurd all
replies_each s before (words ∷ requests) (reply ∷ replies) all =
    ap suc (replies_each (play_all s (made s words reply)) (before + changes_size (made s words reply)) requests replies all.1)

abbrev row_of : Reply → (n : Count) × Row_of-Reply n
row_of (Array' _ row) = (_, row)
row_of _ = (_, end_of-Reply)

list_of_row-items : (n : _) (row : Row_of-Reply n) → list_of_row row ≡ items-the_row-Reply n row
list_of_row-items n end_of-Reply = refl
list_of_row-items n (more_of-Reply reply rest) = ap (λ replies. reply ∷ replies) (list_of_row-items _ rest)

-- the replies of an array are those that it was made of
pub replies_in-Array : (replies : List Reply) → replies_in (Array replies) ≡ replies
replies_in-Array replies = let row = row_of (Array replies) in list_of_row-items row.0 row.1 ∙ items_hidden-the_row-Reply-0 replies

pub answers_each : (s : Keyspace) (requests : List (List (List ℕ))) (reply : Reply) → MayAnswer s (RunAll requests) reply
    → (reply ≡ memory_reply) ⊎ ((reply ≡ Array (replies_in reply)) × (length (replies_in reply) ≡ length requests))
answers_each s requests reply (inl refused) = inl refused
answers_each s requests reply (inr (replies, is, all)) =
    let same : replies_in reply ≡ replies = ap replies_in is ∙ replies_in-Array replies in
    inr (is ∙ ap Array (sym same), ap length same ∙ replies_each s 0 requests replies all)

pub changes_of-exec : (s : State) (call : Call) (requests : List (List (List ℕ))) → admission_at s call.connection call.item ≡ RunAll requests
    → changes_of s call ≡ all_made s.keyspace requests (replies_in call.reply)
changes_of-exec s call requests is = ap (λ (admission : Admission). changes_for s.keyspace admission call.reply) is
