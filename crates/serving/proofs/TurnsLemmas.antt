-- Turns one after the other: what they took, in order, what they offered, and what still waits at the sequencer.
use Rattle.std.proofs.Common.{◌≡◌, ◌≢◌, ◌<◌, ℕ, Bool, true, false, List, [], ◌∷◌, ◌++◌, length, Option, Some, None, refl, sym, ap, subst, ◌∙◌, append_assoc, append-nil, length-append, option_to_list, arith, le_refl}
use Rattle.kv_types.specs.declared.change.Change.{Change}
use Rattle.kv_types.specs.declared.item.Item.{Item}
use Rattle.kv_types.specs.declared.reply.Held.{Held}
use Rattle.kv_types.specs.declared.reply.Reply.{Reply}
use Rattle.model.specs.declared.group.TheConstants.{MAX_PARTS}
use Rattle.model.specs.Call.{changes_of, is_nonempty}
use Rattle.clients.specs.LookAhead.{LooksFrom}
use Rattle.pipes.specs.declared.ring_pipe.RingInlet.{RingInlet}
use Rattle.pipes.specs.Ring.{RingTakes, IsSameOutlet-refl, IsSameOutlet-trans, offered_at, taken_at}
use Rattle.redis_core.specs.declared.turn.Turn.{Turn}
use Rattle.redis_core.specs.declared.turn.Turn.TheVariants as turn
use Rattle.multi_watch.specs.Session.{Session}
use Rattle.redis_core.specs.Sequencing.{MovesSeat, Sequencing, state_of}
use Rattle.redis_core.specs.Turn.{Answers, Moves, OnBlocked, call_of}
use Rattle.primary.specs.Leading.{KeepsLead}
use Rattle.primary.specs.Recalling.{Recollects}
use Rattle.primary.specs.Settled.{HasNothingOpen}
use Rattle.serving.specs.Serving.{Serves, WaitsOnlyFor}
use Rattle.serving.specs.declared.open_connection.OpenConnection.{OpenConnection}
use Rattle.serving.specs.Turns.{Requests, Replies, TakesNext, LooksAhead, LooksAt, TakesInOrder, TakesTurn, TakesTurns, IsTurn, AreAnswered, AreTurns}
use Rattle.serving.proofs.PastLemmas.{MovesOn, goes-on, goes-on-still, goes-on-then, moves-answered, moves-rise, moves-same, moves-seated}

-- ---- what is taken

module _ {P : Type 0} where
  abbrev Takes : RingInlet Item P → Option Item → RingInlet Item P → Type 0
  Takes = RingTakes {T = Item} {P = P} (λ _ _. Unit {0})

  pub takes-one : (before after : Requests P) (item : Item) → TakesNext before (Some item) after → TakesInOrder before (item ∷ []) after
  takes-one before after item takes =
      let held : option_to_list before.next ≡ item ∷ [] = ap (λ (next : Option Item). option_to_list next) (sym takes.0) in
      subst (λ (left : Requests P). TakesInOrder before (item ∷ []) left) (sym takes.1)
      (record { came = []; taken = sym (append-nil _); in_order = append-nil (option_to_list before.next) ∙ held ∙ sym (append-nil (item ∷ [])) })

  pub takes-none : (before after : Requests P) → TakesNext before None after → TakesInOrder before [] after
  takes-none before after takes =
      let held : option_to_list before.next ≡ [] = ap (λ (next : Option Item). option_to_list next) (sym takes.0) in
      subst (λ (left : Requests P). TakesInOrder before [] left) (sym takes.1)
      (record { came = []; taken = sym (append-nil _); in_order = append-nil (option_to_list before.next) ∙ held })

  pub looks-none : (before after : Requests P) → LooksAhead before after → TakesInOrder before [] after
  looks-none before after looks = from before.next refl looks
    where
      found : (next : Option Item) → before.next ≡ None → after.next ≡ next → Takes before.inlet next after.inlet → TakesInOrder before [] after
      found None is now took = record { came = []; taken = took.1 ∙ sym (append-nil _); in_order = rw (is, now) refl }
      found (Some item) is now took = record { came = item ∷ []; taken = took.1; in_order = rw (is, now) refl }

      from : (next : Option Item) → before.next ≡ next → LooksFrom Takes next before after → TakesInOrder before [] after
      from None is look = found after.next is refl look
      from (Some held) is look = record { came = []; taken = rw look (sym (append-nil _)); in_order = rw look (append-nil _) }

  pub takes-then : (before between after : Requests P) (items more : List Item) → TakesInOrder before items between → TakesInOrder between more after → TakesInOrder before (items ++ more) after
  takes-then before between after items more one other = record {
    came = one.came ++ other.came;
    taken = other.taken ∙ ap (λ (xs : List Item). xs ++ other.came) one.taken ∙ append_assoc (taken_at before.inlet) one.came other.came;
    in_order =
        sym (append_assoc (option_to_list before.next) one.came other.came) ∙ ap (λ (xs : List Item). xs ++ other.came) one.in_order
        ∙ append_assoc items (option_to_list between.next) other.came ∙ ap (λ (xs : List Item). items ++ xs) other.in_order
        ∙ sym (append_assoc items more (option_to_list after.next));
  }

  takes-nothing : (before : Requests P) → TakesInOrder before [] before
  takes-nothing before = record { came = []; taken = sym (append-nil _); in_order = append-nil _ }

-- ---- what is answered

answered-more : (seat : ℕ) (old between new : Sequencing) (items : List Item) (made : List Held) (item : Item) (held : Held)
    → AreAnswered seat old items made between → length between.waiting < MAX_PARTS → Answers between seat item held.reply new → held.position ≡ new.position
    → AreAnswered seat old (items ++ item ∷ []) (made ++ held ∷ []) new
answered-more seat old between new [] [] item held are few answers at =
    (new, subst (λ (s : Sequencing). length s.waiting < MAX_PARTS) are few, subst (λ (s : Sequencing). Answers s seat item held.reply new) are answers, at, refl)
answered-more seat old between new (first ∷ items) (one ∷ made) item held are few answers at =
    (are.0, are.1, are.2, are.3, answered-more seat are.0 between new items made item held are.4 few answers at)
answered-more seat old between new [] (one ∷ made) item held are few answers at = absurd are
answered-more seat old between new (first ∷ items) [] item held are few answers at = absurd are

some-more : (made : List Held) (held : Held) → true ≡ is_nonempty (made ++ held ∷ [])
some-more [] held = refl
some-more (one ∷ made) held = refl

-- ---- turns

on_blocked : (came : Turn) {A B : Type 0} → (A → B) → OnBlocked came A → OnBlocked came B
on_blocked turn.Served f fact = tt
on_blocked turn.Idle f fact = tt
on_blocked turn.Blocked f fact = f fact
on_blocked turn.GroupFull f fact = tt
on_blocked turn.Ended f fact = tt

module _ {P Q : Type 0} where
  -- none yet
  pub no-turns : (seat : ℕ) (s : Sequencing) (requests : Requests P) (replies : Replies Q) → AreTurns seat s requests replies false s requests replies
  no-turns seat s requests replies = record {
    items = [];
    made = [];
    taken = takes-nothing requests;
    answered = refl;
    offered = sym (append-nil _);
    some = refl;
    same = IsSameOutlet-refl replies;
  }

  -- a look at the next request takes none
  pub turns-look : (seat : ℕ) (old new : Sequencing) (requests between after : Requests P) (replies now : Replies Q) (any : Bool)
      → AreTurns seat old requests replies any new between now → LooksAhead between after → AreTurns seat old requests replies any new after now
  turns-look seat old new requests between after replies now any turns looks = record {
    items = turns.items;
    made = turns.made;
    taken = subst (λ (items : List Item). TakesInOrder requests items after) (append-nil turns.items) (takes-then requests between after turns.items [] turns.taken (looks-none between after looks));
    answered = turns.answered;
    offered = turns.offered;
    some = turns.some;
    same = turns.same;
  }

  -- one more was served
  pub turns-served : (seat : ℕ) (old between new : Sequencing) (requests then after : Requests P) (replies at now : Replies Q) (any : Bool)
      → AreTurns seat old requests replies any between then at → IsTurn seat between then at turn.Served new after now → AreTurns seat old requests replies true new after now
  turns-served seat old between new requests then after replies at now any turns one =
      let held : Held = record { reply = one.served.1; position = new.position } in
      record {
        items = turns.items ++ one.served.0 ∷ [];
        made = turns.made ++ held ∷ [];
        taken = takes-then requests then after turns.items (one.served.0 ∷ []) turns.taken (takes-one then after one.served.0 one.served.2);
        answered = answered-more seat old between new turns.items turns.made one.served.0 held turns.answered one.served_only.1 one.served.4 refl;
        offered = one.served.3 ∙ ap (λ (xs : List Held). xs ++ held ∷ []) turns.offered ∙ append_assoc (offered_at replies) turns.made (held ∷ []);
        some = some-more turns.made held;
        same = IsSameOutlet-trans replies at now turns.same one.same;
      }

  -- at the last none was served
  pub turns-rest : (seat : ℕ) (old between new : Sequencing) (requests then after : Requests P) (replies at now : Replies Q) (any : Bool) (came : Turn)
      → came ≢ turn.Served → AreTurns seat old requests replies any between then at → IsTurn seat between then at came new after now
      → AreTurns seat old requests replies any new after now
  turns-rest seat old between new requests then after replies at now any came other turns one = record {
    items = turns.items;
    made = turns.made;
    taken = subst (λ (items : List Item). TakesInOrder requests items after) (append-nil turns.items) (takes-then requests then after turns.items [] turns.taken (none-taken came other one));
    answered = rw (kept came other one).0 turns.answered;
    offered = (kept came other one).1 ∙ turns.offered;
    some = turns.some;
    same = IsSameOutlet-trans replies at now turns.same one.same;
  }
    where
      none-taken : (came : Turn) → came ≢ turn.Served → IsTurn seat between then at came new after now → TakesInOrder then [] after
      none-taken turn.Served other one = absurd (other refl)
      none-taken turn.Idle other one = takes-none then after one.idle
      none-taken turn.Blocked other one = subst (λ (requests : Requests P). TakesInOrder then [] requests) (sym one.blocked.1) (takes-nothing then)
      none-taken turn.GroupFull other one = subst (λ (requests : Requests P). TakesInOrder then [] requests) (sym one.group_full.1) (takes-nothing then)
      none-taken turn.Ended other one = subst (λ (requests : Requests P). TakesInOrder then [] requests) (sym one.ended.1) (takes-nothing then)

      kept : (came : Turn) → came ≢ turn.Served → IsTurn seat between then at came new after now → (new ≡ between) × (offered_at now ≡ offered_at at)
      kept turn.Served other one = absurd (other refl)
      kept turn.Idle other one = one.unserved
      kept turn.Blocked other one = one.unserved
      kept turn.GroupFull other one = one.unserved
      kept turn.Ended other one = one.unserved

  -- a turn that is blocked changes nothing of what the next one sees, but the room that is known
  pub turn-again : (seat : ℕ) (old between new : Sequencing) (requests then after : Requests P) (replies at now : Replies Q) (came : Turn)
      → IsTurn seat old requests replies turn.Blocked between then at → IsTurn seat between then at came new after now → IsTurn seat old requests replies came new after now
  turn-again seat old between new requests then after replies at now came first second = record {
    served = rw (first.unserved.0, first.unserved.1, first.blocked.1) at second.served;
    idle = rw first.blocked.1 at second.idle;
    blocked = on_blocked came (λ at_last. (first.blocked.0, at_last.1 ∙ first.blocked.1)) second.blocked;
    group_full = rw (first.unserved.0, first.blocked.1) at second.group_full;
    ended = rw (first.unserved.0, first.blocked.1) at second.ended;
    unserved = rw (first.unserved.0, first.unserved.1) at second.unserved;
    served_only = rw first.unserved.0 at second.served_only;
    otherwise = λ is_open few room some. absurd (omega (arith, room, first.blocked.0));
    same = IsSameOutlet-trans replies at now first.same second.same;
  }

-- ---- turns of one connection

pub connection-none : (s : Sequencing) (before : OpenConnection) → TakesTurns s before false s before
connection-none s before = (refl, no-turns before.arrival.seat s before.arrival.requests.items before.arrival.replies.replies)

pub connection-looks : (old new : Sequencing) (before between after : OpenConnection) (any : Bool) → TakesTurns old before any new between → LooksAt between after → TakesTurns old before any new after
connection-looks old new before between after any turns looks = (
  looks.0 ∙ turns.0,
  rw looks.2 (turns-look before.arrival.seat old new before.arrival.requests.items between.arrival.requests.items after.arrival.requests.items
      before.arrival.replies.replies between.arrival.replies.replies any turns.1 looks.1),
)

pub connection-served : (old between new : Sequencing) (before then after : OpenConnection) (any : Bool) → TakesTurns old before any between then
    → (came : Turn) → came ≡ turn.Served → TakesTurn between then came new after → TakesTurns old before true new after
connection-served old between new before then after any turns came is one = (
  one.0 ∙ turns.0,
  turns-served before.arrival.seat old between new before.arrival.requests.items then.arrival.requests.items after.arrival.requests.items
      before.arrival.replies.replies then.arrival.replies.replies after.arrival.replies.replies any turns.1 (rw (turns.0, is) at one.1),
)

pub connection-again : (old between new : Sequencing) (before then after : OpenConnection) (first last : Turn) → first ≡ turn.Blocked
    → TakesTurn old before first between then → TakesTurn between then last new after → TakesTurn old before last new after
connection-again old between new before then after first last is one other = (
  other.0 ∙ one.0,
  turn-again before.arrival.seat old between new before.arrival.requests.items then.arrival.requests.items after.arrival.requests.items
      before.arrival.replies.replies then.arrival.replies.replies after.arrival.replies.replies last (rw is at one.1) (rw one.0 at other.1),
)

pub connection-rests : (old between new : Sequencing) (before then after : OpenConnection) (any : Bool) → TakesTurns old before any between then
    → (came : Turn) → came ≢ turn.Served → TakesTurn between then came new after → TakesTurns old before any new after
connection-rests old between new before then after any turns came other one = (
  one.0 ∙ turns.0,
  turns-rest before.arrival.seat old between new before.arrival.requests.items then.arrival.requests.items after.arrival.requests.items
      before.arrival.replies.replies then.arrival.replies.replies after.arrival.replies.replies any came other turns.1 (rw turns.0 at one.1),
)

-- ---- what waits to be closed

append-not-nil : {A : Type 0} (xs : List A) (x : A) → xs ++ x ∷ [] ≢ []
append-not-nil xs x none = omega (arith, length-append xs (x ∷ []), ap length none)

moves-waits : (changes : List Change) (old new : Sequencing) → Moves changes old new → new.waiting ≡ [] → old.waiting ≡ []
moves-waits [] old new moves none = sym moves.waiting ∙ none
moves-waits (change ∷ changes) old new moves none = absurd (grind (arith, append-not-nil old.waiting moves.0, moves.1.waiting, none))

-- an answer takes nothing away of what waits
answers-waits : (old new : Sequencing) (seat : ℕ) (item : Item) (reply : Reply) → Answers old seat item reply new → HasNothingOpen new → HasNothingOpen old
answers-waits old new seat item reply answers none = record {
  no_changes = moves-waits (changes_of (state_of old) (call_of seat item reply)) old new answers.moves none.no_changes;
  none_ended = sym answers.ended ∙ none.none_ended;
}

module _ {P Q : Type 0} where
  pub turn-serves : (seat : ℕ) (old new : Sequencing) (requests after : Requests P) (replies now : Replies Q) (came : Turn)
      → KeepsLead old new → Recollects old new → IsTurn seat old requests replies came new after now → Serves old new
  turn-serves seat old new requests after replies now came keeps recollects one = record {
    keeps = keeps;
    waits = waits came one;
    rises = moves-rise old new (moves came one);
    goes_on = goes-on old new keeps recollects (moves came one);
  }
    where
      moves : (came : Turn) → IsTurn seat old requests replies came new after now → MovesOn old new
      moves turn.Served one = moves-answered old new seat one.served.0 one.served.1 one.served.4
      moves turn.Idle one = moves-same old new one.unserved.0
      moves turn.Blocked one = moves-same old new one.unserved.0
      moves turn.GroupFull one = moves-same old new one.unserved.0
      moves turn.Ended one = moves-same old new one.unserved.0

      waits : (came : Turn) → IsTurn seat old requests replies came new after now → HasNothingOpen new → HasNothingOpen old
      waits turn.Served one none = answers-waits old new seat one.served.0 one.served.1 one.served.4 none
      waits turn.Idle one none = subst HasNothingOpen one.unserved.0 none
      waits turn.Blocked one none = subst HasNothingOpen one.unserved.0 none
      waits turn.GroupFull one none = subst HasNothingOpen one.unserved.0 none
      waits turn.Ended one none = subst HasNothingOpen one.unserved.0 none

  -- where the group is full, changes wait
  pub full-waits : (seat : ℕ) (old new : Sequencing) (requests after : Requests P) (replies now : Replies Q)
      → IsTurn seat old requests replies turn.GroupFull new after now → ¬ HasNothingOpen new
  full-waits seat old new requests after replies now one none =
      omega (arith, one.group_full.0, ap length (subst HasNothingOpen one.unserved.0 none).no_changes)

-- ---- serving

pub serves-still : (s : Sequencing) → Serves s s
serves-still s = record { keeps = λ _ _ _ leads. leads; waits = λ none. none; rises = le_refl s.position; goes_on = goes-on-still s }

pub serves-then : (old between new : Sequencing) → Serves old between → Serves between new → Serves old new
serves-then old between new one other = record {
  keeps = λ contents waiting aside leads. other.keeps contents waiting aside (one.keeps contents waiting aside leads);
  waits = λ none. one.waits (other.waits none);
  rises = omega (arith, one.rises, other.rises);
  goes_on = goes-on-then old between new one.rises one.keeps one.goes_on other.goes_on;
}

pub moved-serves : (old new : Sequencing) (seat : ℕ) (now : Option Session) → KeepsLead old new → Recollects old new → MovesSeat old seat now new → Serves old new
moved-serves old new seat now keeps recollects moves = record {
  keeps = keeps;
  waits = λ none. record { no_changes = sym moves.waiting ∙ none.no_changes; none_ended = sym moves.ended ∙ none.none_ended };
  rises = omega (arith, moves.position);
  goes_on = goes-on old new keeps recollects (moves-seated old new seat now moves);
}

-- who waits goes on to wait for something
pub waits-still : (is_short is_working : Bool) (old new : Sequencing) → Serves old new → WaitsOnlyFor is_short is_working old → WaitsOnlyFor is_short is_working new
waits-still is_short is_working old new serves waits = λ is both. waits is (both.0, serves.waits both.1)
