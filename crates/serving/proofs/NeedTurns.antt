-- Turns by the room that requests may need.
use Rattle.std.proofs.Common.{◌≡◌, ◌≢◌, ℕ, ◌+◌, ◌-◌, ◌<◌, ◌≤◌, Bool, true, false, true≢false, ◌&&◌, if◌then◌else◌, nat_le, nat_lt, Option, Some, None, is_some, refl, sym, ap, subst, ◌∙◌, arith}
use Rattle.std.proofs.lemmas.Bool.{leb-false, leb-true}
use Rattle.kv_types.specs.declared.item.Item.{Item}
use Rattle.kv_types.specs.declared.reply.Reply.{Reply}
use Rattle.model.specs.Call.{is_changing}
use Rattle.pipes.specs.Ring.{offered_at}
use Rattle.redis_core.specs.declared.turn.Turn.{Turn}
use Rattle.redis_core.specs.declared.turn.Turn.TheVariants as turn
use Rattle.redis_core.specs.Sequencing.{Sequencing, state_of}
use Rattle.redis_core.specs.Turn.{Answers, OnUnserved, call_of}
use Rattle.primary.specs.Settled.{HasNothingOpen}
use Rattle.serving.specs.Ending.{lacks_room}
use Rattle.serving.specs.Filling.{filled, is_too_large}
use Rattle.serving.specs.Need.{need_in_turn, queued_after}
use Rattle.serving.specs.Roomed.{ServesByNeed, TurnsByNeed, asked_next, one_more}
use Rattle.serving.specs.Turns.{LooksAt, Requests, TakesNext, TakesTurn}
use Rattle.serving.specs.declared.filling.Filling.{Filling}
use Rattle.serving.specs.declared.needs.Asked.{Asked}
use Rattle.serving.specs.declared.needs.Need.{Need}
use Rattle.serving.specs.declared.needs.Queued.{Queued}
use Rattle.serving.specs.declared.open_connection.OpenConnection.{OpenConnection}

unserved-is : (P : Type 0) (came : Turn) → came ≢ turn.Served → OnUnserved came P → P
unserved-is P turn.Served other told = absurd (other refl)
unserved-is P turn.Idle other told = told
unserved-is P turn.Blocked other told = told
unserved-is P turn.GroupFull other told = told
unserved-is P turn.Ended other told = told

module _ (is_working is_short : Bool) where
  abbrev Chain : Sequencing → OpenConnection → Filling → Sequencing → OpenConnection → Filling → Type 0
  Chain = ServesByNeed is_working is_short

  pub by-need-one : (old between new : Sequencing) (before at looked turned : OpenConnection) (first second last : Filling) (queued : Queued) (asked : Asked) (need : Need) (came : Turn)
      → Chain old before first between at second → LooksAt at looked → looked.queued ≡ at.queued → asked ≡ asked_next looked → need ≡ need_in_turn looked.queued asked
      → (¬ ((is_working ≡ false) × HasNothingOpen between) → lacks_room need is_short between ≡ false) → (¬ HasNothingOpen between → is_too_large second need ≡ false)
      → came ≡ turn.Served → TakesTurn between looked came new turned → turned.queued ≡ looked.queued
      → queued ≡ queued_after turned.queued asked → last ≡ (if nat_lt between.position new.position then filled second need else second)
      → Chain old before first new (record turned { queued = queued }) last
  by-need-one old between new before at looked turned first second last queued asked need came chain looks same is needs room large served turns still notes fills =
      let noted : queued ≡ queued_after looked.queued (asked_next looked) =
      notes ∙ ap (λ (a : Asked). queued_after turned.queued a) is ∙ ap (λ (q : Queued). queued_after q (asked_next looked)) still
      in
      let need_is : need ≡ need_in_turn looked.queued (asked_next looked) = needs ∙ ap (λ (a : Asked). need_in_turn looked.queued a) is in
      one_more old between new before at (record turned { queued = queued }) first second last chain (record {
        looked = looked;
        turned = turned;
        looks = looks;
        waits_still = same;
        has_room = λ under_way. subst (λ (n : Need). lacks_room n is_short between ≡ false) need_is (room under_way);
        fits = λ under_way. subst (λ (n : Need). is_too_large second n ≡ false) need_is (large under_way);
        turn_is = subst (λ (t : Turn). TakesTurn between looked t new turned) served turns;
        notes = ap (λ (q : Queued). record turned { queued = q }) noted;
        fills = fills ∙ ap (λ (n : Need). if nat_lt between.position new.position then filled second n else second) need_is;
      })

  pub by-need-all : (old between : Sequencing) (before at : OpenConnection) (first last : Filling) → Chain old before first between at last → TurnsByNeed is_working is_short old before first at last
  by-need-all old between before at first last chain = record { between = between; at = at; served = chain; offered = refl; noted = refl }

  pub by-need-looked : (old between : Sequencing) (before at looked : OpenConnection) (first last : Filling) → Chain old before first between at last → LooksAt at looked → looked.queued ≡ at.queued
      → TurnsByNeed is_working is_short old before first looked last
  by-need-looked old between before at looked first last chain looks same =
      record { between = between; at = at; served = chain; offered = ap (λ replies. offered_at replies) looks.2; noted = same }

  pub by-need-tried : (old between new : Sequencing) (before at looked after : OpenConnection) (first last : Filling) (came : Turn) → Chain old before first between at last → LooksAt at looked
      → looked.queued ≡ at.queued → came ≢ turn.Served → TakesTurn between looked came new after → after.queued ≡ looked.queued → TurnsByNeed is_working is_short old before first after last
  by-need-tried old between new before at looked after first last came chain looks same other turned still = record {
    between = between;
    at = at;
    served = chain;
    offered = (unserved-is _ came other turned.1.unserved).1 ∙ ap (λ replies. offered_at replies) looks.2;
    noted = still ∙ same;
  }

-- ---- how many parts are added

answered-adds : (old : Sequencing) (seat : ℕ) (item : Item) (reply : Reply) (new : Sequencing) → Answers old seat item reply new → new.position ≤ old.position + 1
answered-adds old seat item reply new answers = at-most (is_changing (state_of old) (call_of seat item reply)) answers.position
  where
    at-most : (did : Bool) → new.position ≡ old.position + (if did then 1 else 0) → new.position ≤ old.position + 1
    at-most true is = omega (arith, is)
    at-most false is = omega (arith, is)

given-held : {P : Type 0} (held : Option Item) (requests requests' : Requests P) (item : Item) → requests.next ≡ held → TakesNext requests (Some item) requests' → is_some held ≡ true
given-held None requests requests' item is takes = absurd (none-some item (sym is ∙ sym takes.0))
  where
    none-some : (item : Item) → None ≡ Some item → ⊥
    none-some item e = cc
given-held (Some held) requests requests' item is takes = refl

-- A turn that was served adds one part at most, and a request was there for it; so where it was not the case that the share is taken and a request is left, no more is added than the share.
pub adds-within : (first share : ℕ) (between new : Sequencing) (looked turned : OpenConnection) (came : Turn) (is_taken : Bool) → first ≤ between.position
    → is_taken ≡ (nat_le share (between.position - first) && is_some looked.arrival.requests.items.next) → is_taken ≡ false
    → came ≡ turn.Served → TakesTurn between looked came new turned → between.position ≤ first + share → new.position ≤ first + share
adds-within first share between new looked turned came is_taken rises taken not_taken served turns within =
    let one = subst (λ (t : Turn). TakesTurn between looked t new turned) served turns in
    let took = one.1.served in
    let some : is_some looked.arrival.requests.items.next ≡ true = given-held looked.arrival.requests.items.next looked.arrival.requests.items turned.arrival.requests.items took.0 refl took.2 in
    let left : nat_le share (between.position - first) ≡ false =
    sym (and-true (nat_le share (between.position - first))) ∙ ap (λ (b : Bool). nat_le share (between.position - first) && b) (sym some) ∙ sym taken ∙ not_taken
    in
    let one_more = answered-adds between looked.arrival.seat took.0 took.1 new took.4 in
    let below : between.position - first < share = leb-false share (between.position - first) left in
    omega (arith, one_more, below, rises, within)
  where
    and-true : (b : Bool) → (b && true) ≡ b
    and-true true = refl
    and-true false = refl

-- how the share is taken
pub share-taken : (share first : ℕ) (new : Sequencing) (after : OpenConnection) (is_taken : Bool) → is_taken ≡ (nat_le share (new.position - first) && is_some after.arrival.requests.items.next) → is_taken ≡ true
    → (share ≤ new.position - first) × (is_some after.arrival.requests.items.next ≡ true)
share-taken share first new after is_taken is taken = by (nat_le share (new.position - first)) (is_some after.arrival.requests.items.next) refl refl (sym is ∙ taken)
  where
    by : (all some : Bool) → nat_le share (new.position - first) ≡ all → is_some after.arrival.requests.items.next ≡ some → (nat_le share (new.position - first) && is_some after.arrival.requests.items.next) ≡ true
        → (share ≤ new.position - first) × (is_some after.arrival.requests.items.next ≡ true)
    by true true all_is some_is both = (leb-true share (new.position - first) all_is, some_is)
    by true false all_is some_is both = absurd (true≢false (sym both ∙ ap (λ (b : Bool). nat_le share (new.position - first) && b) some_is ∙ ap (λ (a : Bool). a && false) all_is))
    by false some all_is some_is both = absurd (true≢false (sym both ∙ ap (λ (a : Bool). a && is_some after.arrival.requests.items.next) all_is))

-- a turn at which nothing was served adds nothing
pub unserved-stays : (first share : ℕ) (between new : Sequencing) (looked turned : OpenConnection) (came : Turn) → came ≢ turn.Served → TakesTurn between looked came new turned
    → between.position ≤ first + share → new.position ≤ first + share
unserved-stays first share between new looked turned came other turns within =
    subst (λ (s : Sequencing). s.position ≤ first + share) (sym (unserved-is _ came other turns.1.unserved).0) within
