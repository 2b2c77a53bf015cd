-- The sequencer still refines the list of calls after each step.
use Rattle.std.proofs.Common.{◌≡◌, ◌≢◌, ℕ, zero, suc, ◌+◌, ◌≤◌, ◌++◌, ◌||◌, true, false, not, cond, List, [], ◌∷◌, length, take, Option, is_some, refl, sym, ap, ap₂, subst, ◌∙◌, arith, add-zero, length-append, inl, inr, eq-eqb, ne_eqb}
use Rattle.std.proofs.lemmas.Bool.{cases_eq, or_right}
use Rattle.std.proofs.lemmas.List.Folds.{list_any-append}
use Rattle.std.specs.List.{list_any}
use Rattle.kv_types.specs.declared.change.Change.{Change}
use Rattle.kv_types.specs.declared.item.Item.{Item}
use Rattle.kv_types.specs.declared.place.EntryNo.{EntryNo}
use Rattle.kv_types.specs.declared.place.Extent.{Extent}
use Rattle.kv_types.specs.declared.reply.Reply.{Reply}
use Rattle.kv_types.specs.Keyspace.{play_all}
use Rattle.multi_watch.specs.Session.{Session}
use Rattle.multi_watch.specs.Sessions.{session_at, session_of, slot}
use Rattle.model.specs.declared.call.Call.{Call}
use Rattle.model.specs.declared.group.Part.{Part}
use Rattle.model.specs.State.{State}
use Rattle.model.specs.Call.{AreAlike, changes_of, is_changing, is_nonempty, items_of, position_of, session_after, state_after, up_to_closing}
use Rattle.model.specs.Command.{closes}
use Rattle.model.specs.Group.{Contents, changes_of_part}
use Rattle.model.specs.Position.{changes_at}
use Rattle.model.proofs.CallsLemmas.{changes_of-alike, keyspace_after-push, position_of-push, state_after-push}
use Rattle.model.proofs.PositionsLemmas.{changes_at-append, changes_at-push}
use Rattle.model.proofs.ServesLemmas.{items_of-push_own, items_of-push_other}
use Rattle.model.proofs.SessionLemmas.{session_after-alike, session_after-others}
use Rattle.mv_keyspace.specs.Table.{records}
use Rattle.redis_core.specs.Sequencing.{Expects, Sequencing, IsAheadOf, MovesSeat, is_closed, state_of}
use Rattle.redis_core.specs.Turn.{Answers, Moves, call_of}
use Rattle.connections.specs.Session.{AreOpen, SeatsFollow, StandsStill, HasSeat, SequencerRefines}

-- ---- the parts that wait

-- they stay while the list grows
pub AreOpen-grows : (calls more : List Call) (from : ℕ) (parts : List Part) → from + length parts ≤ position_of calls → AreOpen calls from parts → AreOpen (calls ++ more) from parts
AreOpen-grows calls more from [] le are = tt
AreOpen-grows calls more from (part ∷ parts) le are =
    (are.0, are.1 ∙ sym (changes_at-append calls more from (omega arith)), AreOpen-grows calls more (from + 1) parts (omega arith) are.2)

pub AreOpen-push : (calls : List Call) (from : ℕ) (parts : List Part) (part : Part) → AreOpen calls from parts → part.position ≡ from + length parts + 1
    → changes_of_part part ≡ changes_at calls (from + length parts) → AreOpen calls from (parts ++ part ∷ [])
AreOpen-push calls from [] part are position changes = (omega arith, changes ∙ ap (changes_at calls) (add-zero from), tt)
AreOpen-push calls from (first ∷ parts) part are position changes =
    let same : from + suc (length parts) ≡ from + 1 + length parts = omega arith in
    (are.0, are.1, AreOpen-push calls (from + 1) parts part are.2 (omega (arith, position, same)) (changes ∙ ap (changes_at calls) same))

-- ---- what a turn does to the parts that wait

-- those that wait are the changes from the closed position to that of the list
pub record Wait (calls : List Call) (closed : ℕ) (parts : List Part) : Type 0 where
  pub are : AreOpen calls closed parts
  pub count : closed + length parts ≡ position_of calls

-- by the changes of the call
waits-by : (calls : List Call) (call : Call) (closed : ℕ) (old new : Sequencing) (changes : List Change) → changes_of (state_after calls) call ≡ changes → old.position ≡ position_of calls
    → Moves changes old new → Wait calls closed old.waiting → Wait (calls ++ call ∷ []) closed new.waiting
waits-by calls call closed old new [] changed position moves wait =
    let same : position_of (calls ++ call ∷ []) ≡ position_of calls = position_of-push calls call ∙ ap (λ xs. position_of calls + cond (is_nonempty xs) 1 0) changed ∙ add-zero (position_of calls) in
    subst (λ (parts : List Part). Wait (calls ++ call ∷ []) closed parts) (sym moves.waiting) (record {
      are = AreOpen-grows calls (call ∷ []) closed old.waiting (omega (arith, wait.count)) wait.are;
      count = wait.count ∙ sym same;
    })
waits-by calls call closed old new (change ∷ changes) changed position moves wait =
    let part = moves.0 in
    let calls' = calls ++ call ∷ [] in
    let changing : is_changing (state_after calls) call ≡ true = ap is_nonempty changed in
    let next : position_of calls' ≡ position_of calls + 1 = position_of-push calls call ∙ ap (λ b. position_of calls + cond b 1 0) changing in
    let grown = AreOpen-grows calls (call ∷ []) closed old.waiting (omega (arith, wait.count)) wait.are in
    subst (λ (parts : List Part). Wait calls' closed parts) (sym moves.1.waiting) (record {
      are = AreOpen-push calls' closed old.waiting part grown (omega (arith, moves.1.performs.position_is, position, wait.count))
          (moves.1.performs.changes_are ∙ sym (ap (changes_at calls') wait.count ∙ changes_at-push calls call changing ∙ changed));
      count = omega (arith, length-append old.waiting (part ∷ []), wait.count, next);
    })

-- ---- closed seats

-- where a list begins with these items and one more, and goes no further than one that closes, none of these closes
pub open-before : (n : ℕ) (items xs ys : List Item) (y : Item) → xs ++ y ∷ ys ≡ take n (up_to_closing items) → list_any closes xs ≡ false
open-before n items [] ys y e = refl
open-before zero items (x ∷ xs) ys y e = cc
open-before (suc n) [] (x ∷ xs) ys y e = cc
open-before (suc n) (item ∷ items) (x ∷ xs) ys y e =
    elim (closes item) as (λ b. closes item ≡ b → x ∷ (xs ++ y ∷ ys) ≡ take (suc n) (cond b (item ∷ []) (item ∷ up_to_closing items)) → (closes x || list_any closes xs) ≡ false) [
      | true ↦ λ c h. absurd (no_more n xs ys y (ends x item (xs ++ y ∷ ys) (take n []) h))
      | false ↦ λ c h.
          let same : x ≡ item = first x item (xs ++ y ∷ ys) (take n (up_to_closing items)) h in
          ap₂ (λ a b. a || b) (ap closes same ∙ c) (open-before n items xs ys y (ends x item (xs ++ y ∷ ys) (take n (up_to_closing items)) h))
    ] refl e
  where
    first : (x y : Item) (xs ys : List Item) → x ∷ xs ≡ y ∷ ys → x ≡ y
    first x y xs ys h = cc

    ends : (x y : Item) (xs ys : List Item) → x ∷ xs ≡ y ∷ ys → xs ≡ ys
    ends x y xs ys h = cc

    no_more : (n : ℕ) (xs ys : List Item) (y : Item) → xs ++ y ∷ ys ≡ take n [] → ⊥
    no_more zero [] ys y h = cc
    no_more (suc n) [] ys y h = cc
    no_more zero (x ∷ xs) ys y h = cc
    no_more (suc n) (x ∷ xs) ys y h = cc

-- a call of this connection closed it: one of those before, or the last
closed-own : (calls : List Call) (call : Call) → closes call.item ≡ true → list_any closes (items_of call.connection (calls ++ call ∷ [])) ≡ true
closed-own calls call shut =
    let before = items_of call.connection calls in
    ap (list_any closes) (items_of-push_own call.connection calls call refl) ∙ list_any-append closes before (call.item ∷ [])
    ∙ or_right (list_any closes before) (list_any closes (call.item ∷ [])) (ap (λ b. b || false) shut)

-- ---- seats

-- they follow while each seat of a connection was its own before, and what is there stays
pub follow-same : (calls : List Call) (before after : List (Option ℕ)) (old new : Sequencing)
    → ((c seat : ℕ) → HasSeat after c seat → HasSeat before c seat × (slot new.sessions seat ≡ slot old.sessions seat)) → SeatsFollow calls before old → SeatsFollow calls after new
follow-same calls before after old new same follow =
    record {
      by_call = λ c seat has shut. let own = same c seat has in follow.by_call c seat own.0 (ap (λ (s : Option Session). not (is_some s)) (sym own.1) ∙ shut);
      session = λ c seat has. let own = same c seat has in ap session_of own.1 ∙ follow.session c seat own.0;
    }

-- what the sequencer answers at a seat is a call of its connection, made at the state after the list
pub alike-state : (calls : List Call) (closed : ℕ) (s : Sequencing) (c seat : ℕ) (item : Item) (reply : Reply) → SequencerRefines calls closed s → session_at s.sessions seat ≡ (state_after calls).sessions c
    → AreAlike (state_of s) (call_of seat item reply) (state_after calls) (call_of c item reply)
alike-state calls closed s c seat item reply stands session = record { keyspace = stands.table; session = session; item = refl; reply = refl }

-- No two connections have one seat, so a call closes at most its own, and the session there is that of its connection.
pub follow-answered : (calls : List Call) (closed : ℕ) (seats : List (Option ℕ)) (old new : Sequencing) (c seat : ℕ) (item : Item) (reply : Reply) → HasSeat seats c seat
    → ((c d seat : ℕ) → HasSeat seats c seat → HasSeat seats d seat → c ≡ d) → SequencerRefines calls closed old → SeatsFollow calls seats old → Answers old seat item reply new
    → SeatsFollow (calls ++ call_of c item reply ∷ []) seats new
follow-answered calls closed seats old new c seat item reply own apart stands follow answers = record { by_call = by_call; session = by_session }
  where
    call : Call
    call = call_of c item reply

    alike : AreAlike (state_of old) (call_of seat item reply) (state_after calls) call
    alike = alike-state calls closed old c seat item reply stands (follow.session c seat own)

    one_seat : (other : ℕ) → HasSeat seats c other → other ≡ seat
    one_seat other has = cc

    apart_seats : (d other : ℕ) → HasSeat seats d other → c ≢ d → seat ≢ other
    apart_seats d other has differ = λ same. differ (apart c d other (subst (HasSeat seats c) same own) has)

    shut_before : (other : ℕ) → seat ≢ other → is_closed new other ≡ is_closed old other
    shut_before other differ = answers.closed other ∙ ap (λ b. cond b (closes item) (is_closed old other)) (ne_eqb seat other differ)

    shut_now : is_closed new seat ≡ closes item
    shut_now = answers.closed seat ∙ ap (λ b. cond b (closes item) (is_closed old seat)) (eq-eqb seat seat refl)

    by_call : (d other : ℕ) → HasSeat seats d other → is_closed new other ≡ true → list_any closes (items_of d (calls ++ call ∷ [])) ≡ true
    by_call d other has shut =
        elim (cases_eq c d) [
          | inl same ↦
              let at : other ≡ seat = one_seat other (subst (λ e. HasSeat seats e other) (sym same) has) in
              ap (λ e. list_any closes (items_of e (calls ++ call ∷ []))) (sym same) ∙ closed-own calls call (sym shut_now ∙ ap (is_closed new) (sym at) ∙ shut)
          | inr differ ↦
              ap (list_any closes) (items_of-push_other d calls call differ) ∙ follow.by_call d other has (sym (shut_before other (apart_seats d other has differ)) ∙ shut)
        ]

    moved : (d other : ℕ) → HasSeat seats d other → session_after (state_of old) (call_of seat item reply) other ≡ session_after (state_after calls) call d
    moved d other has =
        elim (cases_eq c d) [
          | inl same ↦
              let at : other ≡ seat = one_seat other (subst (λ e. HasSeat seats e other) (sym same) has) in
              ap (session_after (state_of old) (call_of seat item reply)) at ∙ session_after-alike (state_of old) (state_after calls) (call_of seat item reply) call alike
              ∙ ap (session_after (state_after calls) call) same
          | inr differ ↦ session_after-others (state_of old) (state_after calls) (call_of seat item reply) call other d alike (apart_seats d other has differ) differ (follow.session d other has)
        ]

    by_session : (d other : ℕ) → HasSeat seats d other → session_at new.sessions other ≡ (state_after (calls ++ call ∷ [])).sessions d
    by_session d other has = answers.sessions other ∙ moved d other has ∙ sym (ap (λ (s : State). s.sessions d) (state_after-push calls call))

-- ---- a turn

pub sequencer-answered : (calls : List Call) (closed : ℕ) (old new : Sequencing) (c seat : ℕ) (item : Item) (reply : Reply) → SequencerRefines calls closed old
    → session_at old.sessions seat ≡ (state_after calls).sessions c → Answers old seat item reply new → SequencerRefines (calls ++ call_of c item reply ∷ []) closed new
sequencer-answered calls closed old new c seat item reply stands session answers =
    let call = call_of c item reply in
    let changes : changes_of (state_of old) (call_of seat item reply) ≡ changes_of (state_after calls) call =
    changes_of-alike (state_of old) (state_after calls) (call_of seat item reply) call (alike-state calls closed old c seat item reply stands session) in
    let waits = waits-by calls call closed old new (changes_of (state_after calls) call) refl stands.position
    (subst (λ (made : List Change). Moves made old new) changes answers.moves) (record { are = stands.waiting; count = stands.count }) in
    record {
      table = answers.keyspace ∙ ap₂ play_all stands.table changes ∙ sym (keyspace_after-push calls call);
      position = answers.position ∙ ap₂ (λ p (made : List Change). p + cond (is_nonempty made) 1 0) stands.position changes ∙ sym (position_of-push calls call);
      before = answers.before ∙ stands.before;
      waiting = waits.are;
      count = waits.count;
    }

-- ---- a seat is opened or closed

pub sequencer-moved : (calls : List Call) (closed seat : ℕ) (now : Option Session) (old new : Sequencing) → MovesSeat old seat now new → SequencerRefines calls closed old → SequencerRefines calls closed new
sequencer-moved calls closed seat now old new moves stands =
    record {
      table = ap records moves.table ∙ stands.table;
      position = moves.position ∙ stands.position;
      before = moves.before ∙ stands.before;
      waiting = subst (AreOpen calls closed) (sym moves.waiting) stands.waiting;
      count = ap (λ (parts : List Part). closed + length parts) moves.waiting ∙ stands.count;
    }

-- ---- to an engine it stands as it did

pub still-same : (old new : Sequencing) → new ≡ old → StandsStill old new
still-same old new same = subst (StandsStill old) (sym same) (record { ended = refl; newest = refl; stands = λ contents stands. stands; expects = λ contents entries extents stands expects. expects })

-- what a step keeps of what it stands for and of what it expects
abbrev pub KeepsAhead : Sequencing → Sequencing → Type 0
KeepsAhead old new = (contents : Contents) → IsAheadOf old contents → IsAheadOf new contents

abbrev pub KeepsExpecting : Sequencing → Sequencing → Type 0
KeepsExpecting old new =
    (contents : Contents) (entries : List EntryNo) (extents : List Extent) → IsAheadOf old contents → Expects old contents entries extents → Expects new contents entries extents

pub still-moved : (seat : ℕ) (now : Option Session) (old new : Sequencing) → MovesSeat old seat now new → KeepsAhead old new → KeepsExpecting old new → StandsStill old new
still-moved seat now old new moves stands expects = record { ended = moves.ended; newest = moves.newest; stands = stands; expects = expects }

pub still-answered : (seat : ℕ) (item : Item) (reply : Reply) (old new : Sequencing) → Answers old seat item reply new → KeepsAhead old new → KeepsExpecting old new → StandsStill old new
still-answered seat item reply old new answers stands expects = record { ended = answers.ended; newest = answers.newest; stands = stands; expects = expects }
