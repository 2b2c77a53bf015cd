-- A group and then a list, each closed where it is due.
use Rattle.std.proofs.Common.{◌≡◌, ◌<◌, ℕ, Bool, true, false, true≢false, not, ◌&&◌, ◌||◌, List, length, Result, Ok, Err, OnErr, inl, inr, sym, ap, ap₂, subst, ◌∙◌}
use Rattle.kv_types.specs.declared.refusal.Refusal.{Refusal}
use Rattle.model.specs.declared.work.Work.{Work}
use Rattle.pipes.specs.Waiting.{Waiting}
use Rattle.extent_heap.specs.Room.{has_room}
use Rattle.redis_core.specs.Sequencing.{Sequencing}
use Rattle.primary.specs.Ahead.{GoesAhead, MayCloseGroup}
use Rattle.serving.specs.Closing.{AheadIsDue, ClosesBoth, ClosesGroup, ClosesList, LacksBoth, LacksGroup, LacksMemory, is_tight}
use Rattle.serving.specs.Gathering.{is_ahead_due, is_group_due, is_list_due}
use Rattle.serving.specs.declared.ahead.Ahead.{Ahead}
use Rattle.serving.specs.declared.closing.TheConstants.{LINES_OF_AN_ENTRY}
use Rattle.serving.specs.declared.gathering.Gathering.{Gathering}
use Rattle.serving.specs.declared.gathering.TheConstants.{LISTED_AT_ONCE}

-- ---- where room is short

abbrev tight_if : Sequencing → Bool → Bool → Bool
tight_if s is_short is_closed = is_short || (is_closed && not (has_room LISTED_AT_ONCE LINES_OF_AN_ENTRY s.room))

pub tight-short : (is_short is_closed tight : Bool) (s : Sequencing) → is_short ≡ true → tight ≡ true → tight ≡ is_tight is_short is_closed s
tight-short is_short is_closed tight s short is = is ∙ sym (ap (λ (b : Bool). tight_if s b is_closed) short)

pub tight-closed : (is_short is_closed tight ample : Bool) (s : Sequencing) → is_short ≡ false → is_closed ≡ true → ample ≡ has_room LISTED_AT_ONCE LINES_OF_AN_ENTRY s.room → tight ≡ not ample
    → tight ≡ is_tight is_short is_closed s
tight-closed is_short is_closed tight ample s short closed room is = is ∙ ap not room ∙ sym (ap₂ (tight_if s) short closed)

pub tight-open : (is_short is_closed tight : Bool) (s : Sequencing) → is_short ≡ false → is_closed ≡ false → tight ≡ false → tight ≡ is_tight is_short is_closed s
tight-open is_short is_closed tight s short closed is = is ∙ sym (ap₂ (tight_if s) short closed)

-- ---- both

pub both-closed : (gathering noted : Gathering) (remote : ℕ) (is_short is_closed is_listed tight did : Bool) (old between new : Sequencing) (before middle after : Waiting Work)
    → ClosesGroup gathering remote is_short old before between middle noted is_closed → ClosesList noted remote tight between middle new after is_listed
    → tight ≡ is_tight is_short is_closed between → did ≡ (is_closed || is_listed) → ClosesBoth gathering remote is_short old before new after noted did
both-closed gathering noted remote is_short is_closed is_listed tight did old between new before middle after group list same did_is = record {
  between = between;
  middle = middle;
  is_closed = is_closed;
  is_listed = is_listed;
  group = group;
  list = subst (λ (t : Bool). ClosesList noted remote t between middle new after is_listed) same list;
  did_is = did_is;
}

-- ---- where memory was refused

pub lacks-first : (result : Result Bool Refusal) (gathering noted : Gathering) (remote : ℕ) (is_short : Bool) (old new : Sequencing) (before after : Waiting Work)
    → LacksGroup gathering remote is_short old before new after noted → OnErr result (LacksBoth gathering remote is_short old before new after noted)
lacks-first (Ok did) gathering noted remote is_short old new before after lacks = tt
lacks-first (Err refusal) gathering noted remote is_short old new before after lacks = inl lacks

pub lacks-second : (result : Result Bool Refusal) (gathering noted : Gathering) (remote : ℕ) (is_short is_closed tight : Bool) (old between new : Sequencing) (before middle after : Waiting Work)
    → ClosesGroup gathering remote is_short old before between middle noted is_closed → tight ≡ is_tight is_short is_closed between
    → LacksMemory (is_list_due noted between.position remote tight (length between.ended)) between middle new after
    → OnErr result (LacksBoth gathering remote is_short old before new after noted)
lacks-second (Ok did) gathering noted remote is_short is_closed tight old between new before middle after closes same lacks = tt
lacks-second (Err refusal) gathering noted remote is_short is_closed tight old between new before middle after closes same lacks = inr (
  between,
  middle,
  is_closed,
  closes,
  subst (λ (t : Bool). LacksMemory (is_list_due noted between.position remote t (length between.ended)) between middle new after) same lacks,
)

-- ---- ahead

module _ (gathering : Gathering) (remote position : ℕ) (old : Sequencing) (before : Ahead) (found : Bool) (at : position ≡ old.position) (is : found ≡ is_ahead_due gathering position remote) where
  found-due : is_ahead_due gathering old.position remote ≡ found
  found-due = ap (λ (n : ℕ). is_ahead_due gathering n remote) (sym at) ∙ sym is

  pub not-due-ahead : found ≡ false → ¬ AheadIsDue gathering remote old before
  not-due-ahead none due = true≢false (sym due.due ∙ found-due ∙ none)

  pub due-ahead : found ≡ true → 0 < before.room → MayCloseGroup old before.groups → AheadIsDue gathering remote old before
  due-ahead some room may = record { due = found-due ∙ some; room = room; may = may }

pub goes-same : (s : Sequencing) (items : List Work) → GoesAhead s items s items
goes-same s items = record {
  stands = λ device contents all aside notices over. over;
  keeps = λ low past device contents all aside notices over kept. kept;
}
