-- What is closed where it is due.
use Rattle.std.specs.Prelude.{◌≡◌, ◌⊎◌, ◌+◌, ◌<◌, Bool, true, false, not, ◌&&◌, ◌||◌, ℕ, length, Ok, Err, Result}
use Rattle.kv_types.specs.declared.refusal.Refusal.{Refusal}
use Rattle.kv_types.specs.declared.refusal.Refusal.TheVariants as refusal
use Rattle.model.specs.declared.work.Work.{Work}
use Rattle.pipes.specs.Waiting.{Waiting}
use Rattle.extent_heap.specs.Room.{has_room}
use Rattle.redis_core.specs.Sequencing.{Sequencing}
use Rattle.primary.specs.Ahead.{MayCloseGroup}
use Rattle.primary.specs.Closing.{ClosesOne, MayClose}
use Rattle.primary.specs.Closing as one
use Rattle.serving.specs.Gathering.{is_ahead_due, is_group_due, is_list_due}
use Rattle.serving.specs.declared.ahead.Ahead.{Ahead}
use Rattle.serving.specs.declared.closing.TheConstants.{LINES_OF_AN_ENTRY}
use Rattle.serving.specs.declared.gathering.Gathering.{Gathering}
use Rattle.serving.specs.declared.gathering.TheConstants.{LISTED_AT_ONCE}

-- By whether it was closed: it was due, and is; or it was not due, or nothing could be closed, and nothing changed.
abbrev pub ClosesDue : Bool → Sequencing → Waiting Work → Sequencing → Waiting Work → Bool → Type 0
ClosesDue due old before new after true = (due ≡ true) × ClosesOne old before new after
ClosesDue due old before new after false = ((due ≡ false) ⊎ (¬ MayClose old before)) × (new ≡ old) × (after ≡ before)

-- The changes that wait, where they are due to be a group, which is noted then.
abbrev pub ClosesGroup : Gathering → ℕ → Bool → Sequencing → Waiting Work → Sequencing → Waiting Work → Gathering → Bool → Type 0
ClosesGroup gathering remote is_short old before new after noted did =
    ClosesDue (is_group_due gathering old.position remote is_short) old before new after did
    × (noted.quiet_rounds ≡ gathering.quiet_rounds) × (did ≡ true → noted.closed ≡ old.position) × (did ≡ false → noted.closed ≡ gathering.closed) × (noted.lines ≡ gathering.lines) × (noted.is_awaited ≡ gathering.is_awaited)

-- What has ended, where it is due to be a list.
abbrev pub ClosesList : Gathering → ℕ → Bool → Sequencing → Waiting Work → Sequencing → Waiting Work → Bool → Type 0
ClosesList gathering remote is_short old before new after did =
    ClosesDue (is_list_due gathering old.position remote is_short (length old.ended)) old before new after did

-- It was due and might have been closed, and nothing changed.
pub record LacksMemory (due : Bool) (old : Sequencing) (before : Waiting Work) (new : Sequencing) (after : Waiting Work) : Type 0 where
  pub is_due : due ≡ true
  pub may : MayClose old before
  pub stays : new ≡ old
  pub left : after.items ≡ before.items

-- Room is short where a request waits for it, or where a group was closed that leaves less than what a list may keep back.
abbrev pub is_tight : Bool → Bool → Sequencing → Bool
is_tight is_short is_closed s = is_short || (is_closed && not (has_room LISTED_AT_ONCE LINES_OF_AN_ENTRY s.room))

-- First a group and then a list, each where it is due. `did` is whether one of them was closed.
pub record ClosesBoth (gathering : Gathering) (remote : ℕ) (is_short : Bool) (old : Sequencing) (before : Waiting Work) (new : Sequencing) (after : Waiting Work)
    (noted : Gathering) (did : Bool) : Type 0 where
  -- between the two
  pub between : Sequencing
  pub middle : Waiting Work
  pub is_closed : Bool
  pub is_listed : Bool
  pub group : ClosesGroup gathering remote is_short old before between middle noted is_closed
  pub list : ClosesList noted remote (is_tight is_short is_closed between) between middle new after is_listed
  pub did_is : did ≡ (is_closed || is_listed)

-- What a refusal of memory leaves of a group that was due: it is not closed, and nothing is noted.
abbrev pub LacksGroup : Gathering → ℕ → Bool → Sequencing → Waiting Work → Sequencing → Waiting Work → Gathering → Type 0
LacksGroup gathering remote is_short old before new after noted =
    LacksMemory (is_group_due gathering old.position remote is_short) old before new after × (noted ≡ gathering)

-- What a refusal of memory leaves: the group that was due is not closed; or what was due of it is, and the list that was due is not.
abbrev pub LacksBoth : Gathering → ℕ → Bool → Sequencing → Waiting Work → Sequencing → Waiting Work → Gathering → Type 0
LacksBoth gathering remote is_short old before new after noted =
    LacksGroup gathering remote is_short old before new after noted
    ⊎ ((between : Sequencing) × (middle : Waiting Work) × (is_closed : Bool) × ClosesGroup gathering remote is_short old before between middle noted is_closed
    × LacksMemory (is_list_due noted between.position remote (is_tight is_short is_closed between) (length between.ended)) between middle new after)

-- ---- while the job is lent

-- It is due to close a group ahead, and one more may be.
pub record AheadIsDue (gathering : Gathering) (remote : ℕ) (old : Sequencing) (before : Ahead) : Type 0 where
  pub due : is_ahead_due gathering old.position remote ≡ true
  pub room : 0 < before.room
  pub may : MayCloseGroup old before.groups

-- The changes that wait are one group more ahead, where that is due, and this is noted; or nothing changed, since it was not, or memory for it was refused.
abbrev pub ClosesAhead : Gathering → ℕ → Sequencing → Ahead → Sequencing → Ahead → Gathering → Result Bool Refusal → Type 0
ClosesAhead gathering remote old before new after noted (Ok true) =
    AheadIsDue gathering remote old before × one.ClosesGroup old before.groups new after.groups × (before.room ≡ after.room + 1) × (noted ≡ record gathering { closed = old.position })
ClosesAhead gathering remote old before new after noted (Ok false) = (¬ AheadIsDue gathering remote old before) × (new ≡ old) × (after ≡ before) × (noted ≡ gathering)
ClosesAhead gathering remote old before new after noted (Err cause) =
    (cause ≡ refusal.Memory) × AheadIsDue gathering remote old before × (new ≡ old) × (after.groups.items ≡ before.groups.items) × (after.room ≡ before.room) × (noted ≡ gathering)
