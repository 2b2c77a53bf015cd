-- What a legal list of calls makes of a connection's transaction, call by call; which call opened it, and what waits in it.
use Rattle.std.proofs.Common.{◌≡◌, ◌≢◌, ℕ, Bool, true, false, cond, ◌&&◌, ◌||◌, ◌⊎◌, inl, inr, List, [], ◌++◌, length, map, drop, nat_eq, refl, sym, ap, ap₂, subst, ◌∙◌, arith, append-nil, eqb-true}
use Rattle.std.proofs.Common.{eq-eqb, ◌∷◌, append_assoc}
use Rattle.std.proofs.Math.Bool.{or-false, or_assoc}
use Rattle.std.proofs.lemmas.Bool.{and_from, or_left, and_parts}
use Rattle.kv_types.specs.declared.item.Item.{Item}
use Rattle.kv_types.specs.declared.item.Item.TheVariants.{Request, Fault}
use Rattle.kv_types.specs.declared.reply.Reply.{Reply}
use Rattle.multi_watch.specs.Verb.{verb_of}
use Rattle.multi_watch.specs.declared.watch.Watch.{Watch}
use Rattle.multi_watch.specs.Session.{Session, watching, marked_where, idle_session}
use Rattle.multi_watch.specs.Modified.{modifies}
use Rattle.model.specs.declared.call.Call.{Call}
use Rattle.model.specs.Command.{closes}
use Rattle.model.specs.State.{State, start_state}
use Rattle.model.specs.Call.{MayReply, changes_of, session_after_item, session_after, IsLegal, IsLegalFrom, after_call, state_from, state_after}
use Rattle.model.proofs.SessionLemmas.{marks, session_after-own, session_after-other, item-closed}
use Rattle.machine.specs.Transaction.{asks, is_watch, is_unwatch, words_of, is_ok, opens_one, ends_it, spoils_it, waits_in_it, is_by, does_by, queued_by, is_multi, NoneDoes, Opened, queue_of}
use Rattle.machine.specs.Transaction.{is_spoiled_from, session_now}
use Rattle.machine.proofs.ItemLemmas.{Does, ends_of, spoils_of, watched_of, request_does, closing_only}
use Rattle.multi_watch.specs.declared.verb.Verb.{Verb}
use Rattle.multi_watch.specs.declared.verb.Verb.TheVariants as verb
use Rattle.model.proofs.CallsLemmas.{state_from-append, IsLegalFrom-rest}

-- ---- one call

-- the keys that its connection watches after a call of its own, before the modified ones are marked
abbrev pub watched_by : ℕ → Call → List Watch → List Watch
watched_by c call watched =
    cond (does_by (λ item reply. asks is_unwatch item && is_ok reply) c call) [] (cond (does_by (λ item reply. asks is_watch item && is_ok reply) c call) (watching (drop 1 (words_of call.item)) watched) watched)

abbrev pub marked_by : State → Call → List Watch → List Watch
marked_by s call = map (marked_where (modifies s.keyspace (changes_of s call)))

-- the call ends the connection's transaction, if there is one
pub record EndsAt (c : ℕ) (call : Call) (new : Session) : Type 0 where
  pub ends : does_by ends_it c call ≡ true
  pub is_open : new.is_open ≡ false
  pub watched : new.watched ≡ []

-- the call opens one
pub record OpensAt (s : State) (c : ℕ) (call : Call) (old new : Session) : Type 0 where
  pub ends : does_by ends_it c call ≡ false
  pub opens : does_by opens_one c call ≡ true
  pub was : old.is_open ≡ false
  pub is_open : new.is_open ≡ true
  pub queue : new.queue ≡ []
  pub spoiled : new.is_spoiled ≡ false
  pub watched : new.watched ≡ marked_by s call (watched_by c call old.watched)

-- the call does neither
pub record GoesAt (s : State) (c : ℕ) (call : Call) (old new : Session) : Type 0 where
  pub ends : does_by ends_it c call ≡ false
  pub opens : does_by opens_one c call ≡ false
  pub is_open : new.is_open ≡ old.is_open
  pub queue : old.is_open ≡ true → new.queue ≡ old.queue ++ queued_by c call
  pub spoiled : old.is_open ≡ true → new.is_spoiled ≡ (old.is_spoiled || does_by (spoils_it (length old.queue)) c call)
  pub watched : new.watched ≡ marked_by s call (watched_by c call old.watched)

abbrev pub DoesAt : State → ℕ → Call → Session → Session → Type 0
DoesAt s c call old new = EndsAt c call new ⊎ (OpensAt s c call old new ⊎ GoesAt s c call old new)

module _ (s : State) (call : Call) where
  -- of another connection
  by_other : (c : ℕ) → is_by c call ≡ false → call.connection ≢ c → GoesAt s c call (s.sessions c) (session_after s call c)
  by_other c other differ =
      let same : watched_by c call (s.sessions c).watched ≡ (s.sessions c).watched = grind (arith, other) in
      subst (GoesAt s c call (s.sessions c)) (sym (session_after-other s call c differ)) (record {
        ends = grind (arith, other);
        opens = grind (arith, other);
        is_open = refl;
        queue = λ h. grind (arith, append-nil, other);
        spoiled = λ h. grind (arith, other);
        watched = ap (marked_by s call) (sym same);
      })

-- ---- a call of the connection's own

module _ (s : State) (c : ℕ) where
  itself : nat_eq c c ≡ true
  itself = eq-eqb c c refl

  -- one that closes its connection
  closing : (item : Item) (reply : Reply) → closes item ≡ true → let call : Call = record { connection = c; item = item; reply = reply } in EndsAt c call (session_after s call c)
  closing item reply shuts =
      let call : Call = record { connection = c; item = item; reply = reply } in
      let over = session_after-own s call ∙ ap (marks s call) (item-closed (s.sessions c) item reply shuts) in
      record {
        ends = and_from (nat_eq c c) (ends_it item reply) itself (or_left (closes item) _ shuts);
        is_open = ap (λ (t : Session). t.is_open) over;
        watched = ap (λ (t : Session). t.watched) over;
      }

  module _ (words : List (List ℕ)) (reply : Reply) (stays : closes (Request words) ≡ false) where
    abbrev own_call : Call
    own_call = record { connection = c; item = Request words; reply = reply }

    abbrev left : Session
    left = session_after_item (s.sessions c) (Request words) reply

    does : (b : Bool) (x : Bool) → x ≡ b → (nat_eq c c && x) ≡ b
    does b x is = ap (λ a. a && x) itself ∙ is

    ends_at : (b : Bool) → ends_of (verb_of words) reply ≡ b → does_by ends_it c own_call ≡ b
    ends_at b is = does b (ends_it (Request words) reply) (ap (λ a. a || ends_of (verb_of words) reply) stays ∙ is)

    watches_at : (watched : List Watch) → left.watched ≡ watched_of (verb_of words) words reply watched → (session_after s own_call c).watched ≡ marked_by s own_call (watched_by c own_call watched)
    watches_at watched is =
        ap (λ (t : Session). t.watched) (session_after-own s own_call) ∙ ap (marked_by s own_call) is
        ∙ ap (λ a. marked_by s own_call (cond (a && (is_unwatch (verb_of words) && is_ok reply)) [] (cond (a && (is_watch (verb_of words) && is_ok reply)) (watching (drop 1 words) watched) watched))) (sym itself)

    spoils_at : (waiting : ℕ) → does_by (spoils_it waiting) c own_call ≡ spoils_of waiting (verb_of words) reply
    spoils_at waiting = ap (λ a. a && spoils_it waiting (Request words) reply) itself

    at_request : Does (verb_of words) words reply (s.sessions c) left → DoesAt s c own_call (s.sessions c) (session_after s own_call c)
    at_request (inl ends) =
        let over = session_after-own s own_call ∙ ap (marks s own_call) ends.over in
        inl (record { ends = ends_at true ends.ends; is_open = ap (λ (t : Session). t.is_open) over; watched = ap (λ (t : Session). t.watched) over })
    at_request (inr (inl begins)) =
        let own = session_after-own s own_call in
        inr (inl (search (
          ends_at false begins.ends,
          does true (opens_one (Request words) reply) begins.opens,
          begins.was,
          ap (λ (t : Session). t.is_open) own ∙ begins.is_open,
          ap (λ (t : Session). t.queue) own ∙ begins.queue,
          ap (λ (t : Session). t.is_spoiled) own ∙ begins.spoiled,
          watches_at (s.sessions c).watched begins.watched,
        )))
    at_request (inr (inr goes)) =
        let own = session_after-own s own_call in
        let queue : (s.sessions c).is_open ≡ true → (session_after s own_call c).queue ≡ (s.sessions c).queue ++ queued_by c own_call =
        λ h. ap (λ (t : Session). t.queue) own ∙ goes.queue h ∙ ap (λ a. (s.sessions c).queue ++ cond a (waits_in_it (Request words) reply) []) (sym itself) in
        let spoiled : (s.sessions c).is_open ≡ true → (session_after s own_call c).is_spoiled ≡ ((s.sessions c).is_spoiled || does_by (spoils_it (length (s.sessions c).queue)) c own_call) =
        λ h. ap (λ (t : Session). t.is_spoiled) own ∙ goes.spoiled h ∙ ap (λ b. (s.sessions c).is_spoiled || b) (sym (spoils_at (length (s.sessions c).queue))) in
        inr (inr (search (ends_at false goes.ends, does false (opens_one (Request words) reply) goes.opens, ap (λ (t : Session). t.is_open) own ∙ goes.is_open, queue, spoiled, watches_at (s.sessions c).watched goes.watched)))

  at_own : (item : Item) (reply : Reply) → let call : Call = record { connection = c; item = item; reply = reply } in
      MayReply s call → DoesAt s c call (s.sessions c) (session_after s call c)
  at_own (Fault fault) reply may = inl (closing (Fault fault) reply refl)
  at_own (Request words) reply may =
      elim (closes (Request words)) as (λ b. closes (Request words) ≡ b → let call : Call = record { connection = c; item = Request words; reply = reply } in DoesAt s c call (s.sessions c) (session_after s call c)) [
        | true ↦ λ shuts. inl (closing (Request words) reply shuts)
        | false ↦ λ stays. at_request words reply stays (request_does s.keyspace (s.sessions c) words reply stays may)
      ] refl

-- any call
pub does_at : (s : State) (call : Call) (c : ℕ) → MayReply s call → DoesAt s c call (s.sessions c) (session_after s call c)
does_at s call c may =
    elim (is_by c call) as (λ b. is_by c call ≡ b → DoesAt s c call (s.sessions c) (session_after s call c)) [
      | true ↦ λ own. subst (λ d. DoesAt s d call (s.sessions d) (session_after s call d)) (eqb-true call.connection c own) (at_own s call.connection call.item call.reply may)
      | false ↦ λ other. inr (inr (by_other s call c other (λ same. let by_it : is_by c call ≡ true = eq-eqb call.connection c same in cc)))
    ] refl

-- ---- which call opened it

pub both : {A : Type 0} {b : Bool} → b ≡ true → b ≡ false → A
both is isnt = cc

-- ---- what opens a transaction ends none

multi_ends_none : (v : Verb) (reply : Reply) → is_multi v ≡ true → ends_of v reply ≡ false
multi_ends_none verb.Multi reply is = refl
multi_ends_none _ reply is = cc

opening : (item : Item) (reply : Reply) → opens_one item reply ≡ true → ends_it item reply ≡ false
opening (Fault fault) reply is = both is refl
opening (Request words) reply is =
    let multi = (and_parts (is_multi (verb_of words)) (is_ok reply) is).0 in
    elim (closes (Request words)) as (λ b. closes (Request words) ≡ b → (b || ends_of (verb_of words) reply) ≡ false) [
      | true ↦ λ shuts. both multi (closing_only is_multi refl (λ misuse. refl) words shuts)
      | false ↦ λ stays. multi_ends_none (verb_of words) reply multi
    ] refl

pub opens_only : (c : ℕ) (call : Call) → does_by opens_one c call ≡ true → does_by ends_it c call ≡ false
opens_only c call is = let parts = and_parts (is_by c call) (opens_one call.item call.reply) is in ap (λ b. b && ends_it call.item call.reply) parts.0 ∙ opening call.item call.reply parts.1

-- ---- an open transaction that none of the calls ends

pub record StaysOpen (c : ℕ) (calls : List Call) (old new : Session) : Type 0 where
  pub is_open : new.is_open ≡ true
  pub queue : new.queue ≡ old.queue ++ queue_of c calls
  pub spoiled : new.is_spoiled ≡ (old.is_spoiled || is_spoiled_from c old.queue calls)

pub stays_open : (c : ℕ) (s : State) (calls : List Call) → IsLegalFrom s calls → (s.sessions c).is_open ≡ true → NoneDoes ends_it c calls
    → StaysOpen c calls (s.sessions c) ((state_from s calls).sessions c)
stays_open c s [] legal is none = record { is_open = is; queue = sym (append-nil (s.sessions c).queue); spoiled = sym (or-false (s.sessions c).is_spoiled) }
stays_open c s (call ∷ calls) legal is none =
    elim (does_at s call c legal.0) [
      | inl ends ↦ both ends.ends none.0
      | inr (inl opens) ↦ both is opens.was
      | inr (inr goes) ↦
          let rest = stays_open c (after_call s call) calls legal.1 (goes.is_open ∙ is) none.1 in
          search (
            rest,
            rest.queue ∙ ap (λ q. q ++ queue_of c calls) (goes.queue is) ∙ append_assoc (s.sessions c).queue (queued_by c call) (queue_of c calls),
            rest.spoiled ∙ ap₂ (λ b q. b || is_spoiled_from c q calls) (goes.spoiled is) (goes.queue is) ∙ or_assoc (s.sessions c).is_spoiled _ _,
          )
    ]

-- ---- which call opened it

pub opened_or : (c : ℕ) (s : State) (calls : List Call) → IsLegalFrom s calls → ((state_from s calls).sessions c).is_open ≡ true
    → Opened c calls ⊎ (((s.sessions c).is_open ≡ true) × NoneDoes ends_it c calls)
opened_or c s [] legal is = inr (is, tt)
opened_or c s (call ∷ calls) legal is =
    elim (opened_or c (after_call s call) calls legal.1 is) [
      | inl o ↦ inl (record { before = call ∷ o.before; multi = o.multi; since = o.since; joined = ap (λ rest. call ∷ rest) o.joined; opens = o.opens; open_still = o.open_still })
      | inr h ↦ elim (does_at s call c legal.0) [
        | inl ends ↦ both h.0 ends.is_open
        | inr (inl opens) ↦ inl (record { before = []; multi = call; since = calls; joined = refl; opens = opens.opens; open_still = h.1 })
        | inr (inr goes) ↦ inr (sym goes.is_open ∙ h.0, (goes.ends, h.1))
      ]
    ]

-- ---- read off the list

after_opening : (c : ℕ) (s : State) (multi : Call) (since : List Call) → IsLegalFrom s (multi ∷ since) → does_by opens_one c multi ≡ true → NoneDoes ends_it c since
    → StaysOpen c since idle_session ((state_from s (multi ∷ since)).sessions c)
after_opening c s multi since legal opens none =
    elim (does_at s multi c legal.0) [
      | inl ends ↦ both ends.ends (opens_only c multi opens)
      | inr (inr goes) ↦ both opens goes.opens
      | inr (inl begun) ↦
          let rest = stays_open c (after_call s multi) since legal.1 begun.is_open none in
          record {
            is_open = rest.is_open;
            queue = rest.queue ∙ ap (λ q. q ++ queue_of c since) begun.queue;
            spoiled = rest.spoiled ∙ ap₂ (λ b q. b || is_spoiled_from c q since) begun.spoiled begun.queue;
          }
    ]

pub read_off : (c : ℕ) (calls : List Call) → IsLegal calls → (o : Opened c calls) → StaysOpen c o.since idle_session (session_now c calls)
read_off c calls legal o =
    let whole : IsLegal (o.before ++ o.multi ∷ o.since) = subst IsLegal (sym o.joined) legal in
    let is = after_opening c (state_after o.before) o.multi o.since (IsLegalFrom-rest start_state o.before (o.multi ∷ o.since) whole) o.opens o.open_still in
    subst (λ l. StaysOpen c o.since idle_session (session_now c l)) o.joined
    (subst (λ (s : State). StaysOpen c o.since idle_session (s.sessions c)) (sym (state_from-append start_state o.before (o.multi ∷ o.since))) is)

pub opened_where : (c : ℕ) (calls : List Call) → IsLegal calls → (session_now c calls).is_open ≡ true → Opened c calls
opened_where c calls legal is = elim (opened_or c start_state calls legal is) [ inl o ↦ o | inr h ↦ both h.0 refl ]
