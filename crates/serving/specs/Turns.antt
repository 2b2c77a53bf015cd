-- The turns of one connection: what was taken of its requests, what was offered of replies, and what they did to the sequencer.
use Rattle.std.specs.Prelude.{◌≡◌, ◌≢◌, ℕ, ◌<◌, Bool, true, false, List, [], ◌∷◌, ◌++◌, length, Option, Some, None, option_to_list}
use Rattle.kv_types.specs.declared.item.Item.{Item}
use Rattle.kv_types.specs.declared.reply.Held.{Held}
use Rattle.kv_types.specs.declared.reply.Reply.{Reply}
use Rattle.model.specs.declared.group.TheConstants.{MAX_PARTS}
use Rattle.model.specs.Call.{is_nonempty}
use Rattle.clients.specs.declared.look_ahead.LookAhead.{LookAhead}
use Rattle.clients.specs.LookAhead.{GivesHeld, Looks, held_items}
use Rattle.rtrb.specs.Ring.{known_free}
use Rattle.pipes.specs.declared.ring_pipe.RingInlet.{RingInlet}
use Rattle.pipes.specs.declared.ring_pipe.RingOutlet.{RingOutlet}
use Rattle.pipes.specs.Ring.{RingTakes, IsSameOutlet, offered_at, taken_at}
use Rattle.redis_core.specs.declared.turn.Turn.{Turn}
use Rattle.redis_core.specs.declared.turn.Turn.TheVariants as turn
use Rattle.redis_core.specs.Sequencing.{Sequencing, is_closed}
use Rattle.redis_core.specs.Turn.{Answers, OnServed, OnIdle, OnBlocked, OnGroupFull, OnEnded, OnUnserved}
use Rattle.serving.specs.declared.open_connection.OpenConnection.{OpenConnection}

-- the rings of requests and replies, by what may follow what there
abbrev pub Requests : Type 0 → Type 0
Requests P = LookAhead Item (RingInlet Item P)

abbrev pub Replies : Type 0 → Type 0
Replies Q = RingOutlet Held Q

-- These items were answered one after the other, each once and where the group was not full, and these are the replies, each with the position of the list after it.
abbrev pub AreAnswered : ℕ → Sequencing → List Item → List Held → Sequencing → Type 0
AreAnswered seat old [] [] new = new ≡ old
AreAnswered seat old (item ∷ items) (held ∷ replies) new =
    (between : Sequencing) × (length old.waiting < MAX_PARTS) × Answers old seat item held.reply between × (held.position ≡ between.position) × AreAnswered seat between items replies new
AreAnswered seat old _ _ new = ⊥

module _ {P : Type 0} where
  -- the item that was looked at was taken, or none was: no other is
  abbrev pub TakesNext : Requests P → Option Item → Requests P → Type 0
  TakesNext = GivesHeld

  -- the next item was taken early, unless one was held
  abbrev pub LooksAhead : Requests P → Requests P → Type 0
  LooksAhead = Looks (RingTakes {T = Item} {P = P} (λ _ _. Unit {0}))

  -- What was held, and then what came out of the ring, are these items, and then what is held now.
  pub record TakesInOrder (before : Requests P) (items : List Item) (after : Requests P) : Type 0 where
    pub came : List Item
    pub taken : taken_at after.inlet ≡ taken_at before.inlet ++ came
    pub in_order : option_to_list before.next ++ came ≡ items ++ option_to_list after.next

module _ {P Q : Type 0} where
  -- One turn of a seat: one item was taken and answered, and its reply offered; or nothing was, for a reason.
  pub record IsTurn (seat : ℕ) (old : Sequencing) (requests : Requests P) (replies : Replies Q) (came : Turn) (new : Sequencing) (requests' : Requests P) (replies' : Replies Q) : Type 0 where
    pub served : OnServed came ((item : Item) × (reply : Reply) × TakesNext requests (Some item) requests'
        × (offered_at replies' ≡ offered_at replies ++ record { reply = reply; position = new.position } ∷ [])
        × Answers old seat item reply new)
    pub idle : OnIdle came (TakesNext requests None requests')
    pub blocked : OnBlocked came ((known_free replies.producer ≡ 0) × (requests' ≡ requests))
    pub group_full : OnGroupFull came ((length old.waiting ≡ MAX_PARTS) × (requests' ≡ requests))
    pub ended : OnEnded came ((is_closed old seat ≡ true) × (requests' ≡ requests))
    pub unserved : OnUnserved came ((new ≡ old) × (offered_at replies' ≡ offered_at replies))
    -- it is served only where the seat is open and the group not full, and always where room is known too and an item was looked at
    pub served_only : OnServed came ((is_closed old seat ≡ false) × (length old.waiting < MAX_PARTS))
    pub otherwise : is_closed old seat ≡ false → length old.waiting < MAX_PARTS → 0 < known_free replies.producer → held_items requests ≢ [] → came ≡ turn.Served
    pub same : IsSameOutlet replies replies'

  -- Turns of a seat: items were taken in order and answered, and the replies offered in that order.
  pub record AreTurns (seat : ℕ) (old : Sequencing) (requests : Requests P) (replies : Replies Q) (any : Bool) (new : Sequencing) (requests' : Requests P) (replies' : Replies Q) : Type 0 where
    pub items : List Item
    pub made : List Held
    pub taken : TakesInOrder requests items requests'
    pub answered : AreAnswered seat old items made new
    pub offered : offered_at replies' ≡ offered_at replies ++ made
    -- whether there were any
    pub some : any ≡ is_nonempty made
    pub same : IsSameOutlet replies replies'

-- of one connection, whose seat stays
abbrev pub TakesTurn : Sequencing → OpenConnection → Turn → Sequencing → OpenConnection → Type 0
TakesTurn old before came new after =
    (after.arrival.seat ≡ before.arrival.seat)
    × IsTurn before.arrival.seat old before.arrival.requests.items before.arrival.replies.replies came new after.arrival.requests.items after.arrival.replies.replies

abbrev pub TakesTurns : Sequencing → OpenConnection → Bool → Sequencing → OpenConnection → Type 0
TakesTurns old before any new after =
    (after.arrival.seat ≡ before.arrival.seat)
    × AreTurns before.arrival.seat old before.arrival.requests.items before.arrival.replies.replies any new after.arrival.requests.items after.arrival.replies.replies

-- the next request of a connection was looked at, and nothing else of it changed that is served
abbrev pub LooksAt : OpenConnection → OpenConnection → Type 0
LooksAt before after =
    (after.arrival.seat ≡ before.arrival.seat)
    × LooksAhead before.arrival.requests.items after.arrival.requests.items
    × (after.arrival.replies.replies ≡ before.arrival.replies.replies)
