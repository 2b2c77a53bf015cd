-- Why a run may end before its last event, and what each cause leaves of the devices.
use Rattle.std.specs.Prelude.{◌≡◌, ◌⊎◌, ℕ, ◌+◌, ◌-◌, ◌<◌, ◌≤◌, Bool, true, false, List, [], Option, Some, None}
use Rattle.world.specs.Words.{Call, COUNTER_LIMIT, EachPosition, Event, Exhausted, ExhaustsReopening, Fault, HasRecord, Holder, Image, IsImage, LeavesOnly, Limit, MAX_LINES, Memory, MIN_LINES, Node, OneStamp, Record, Refusal, Remains, Reopening, row, STAMP_WINDOW, State, WrongSize}
use Rattle.machine.specs.declared.event.Node.TheVariants as node
use Rattle.world.specs.Committing.{OpensAsEither, Rests, NearOnly}
use Rattle.world.specs.Remaining.{Remain}

-- a relation between two states of a holder's device, given the list of calls, a position in it, and the position that the node goes to next
abbrev pub Stretch : Type 1
Stretch = Holder → List Call → ℕ → ℕ → State → State → Type 0

-- ---- before the first event

-- no image may have this device's number of lines
abbrev pub IsWrongSize : State → Type 0
IsWrongSize device = (device.lines < MIN_LINES) ⊎ (MAX_LINES < device.lines)

-- Why the primary and the standby were not formatted. Formatting takes no memory, so where memory was refused neither was touched. The standby is not touched
-- until the primary is formatted, and then no fence of the primary failed.
abbrev pub UnformedBy : Refusal → State → State → State → State → Type 0
UnformedBy Memory primary standby primary' standby' = (primary' ≡ primary) × (standby' ≡ standby)
UnformedBy WrongSize primary standby primary' standby' =
    (standby' ≡ standby) × ((IsWrongSize primary × (primary' ≡ primary)) ⊎ (IsWrongSize standby × (primary'.failures ≡ primary.failures)))
UnformedBy Fault primary standby primary' standby' =
    ((primary.failures < primary'.failures) × (standby' ≡ standby)) ⊎ ((primary'.failures ≡ primary.failures) × (standby.failures < standby'.failures))
UnformedBy refusal primary standby primary' standby' = ⊥

-- ---- in an event

-- each crash between these two states leaves an image that stands at this position of the list, and no fence failed
abbrev pub Resting : Stretch
Resting holder calls position next = Rests holder calls position

-- A fence of the device failed. Each crash between these two states leaves an image that stands at one of these two positions of the list.
pub record Breaks (holder : Holder) (calls : List Call) (position next : ℕ) (old new : State) : Type 0 where
  pub leaves : NearOnly holder calls position next old new
  pub failures : old.failures < new.failures

-- so many stamps, or `more` positions, or one record more would take a counter of the record of an image of `lines` lines to the limit
pub record IsAtLimit (lines stamps more : ℕ) (image : Image) : Type 0 where
  pub current : Record
  pub has_record : HasRecord lines current image
  pub reached : (COUNTER_LIMIT ≤ current.cp + stamps + 1 + STAMP_WINDOW) ⊎ (COUNTER_LIMIT ≤ current.position + more) ⊎ (COUNTER_LIMIT ≤ current.number + 1)

-- Each crash between these two states leaves an image that stands at this position of the list, no fence failed, and a counter is at its limit, with a stamp for
-- each position.
pub record RestsAtLimit (holder : Holder) (calls : List Call) (position next : ℕ) (old new : State) : Type 0 where
  pub rests : Rests holder calls position old new
  pub limit : (image : Image) → IsImage new.words image → IsAtLimit holder.lines (next - position) (next - position) image

-- the same, with one stamp for all of them, as a frame takes
pub record RestsAtFrameLimit (holder : Holder) (calls : List Call) (position next : ℕ) (old new : State) : Type 0 where
  pub rests : Rests holder calls position old new
  pub limit : (image : Image) → IsImage new.words image → IsAtLimit holder.lines 1 (next - position) image

-- Each crash between these two states leaves an image that stands at this position of the list, no fence failed, and the reopening of the image would take a counter
-- of its record to the limit.
pub record RestsBeforeReopening (holder : Holder) (calls : List Call) (position next : ℕ) (old new : State) : Type 0 where
  pub rests : Rests holder calls position old new
  pub current : Record
  pub has_record : (image : Image) → IsImage new.words image → HasRecord holder.lines current image
  pub limit : ExhaustsReopening current

-- so of a device; or a fence that failed before left these, other than where its node stands, and nothing was done to it: the node has stopped
abbrev pub OrLies : Stretch → Holder → List Call → ℕ → ℕ → List Remains → State → State → Type 0
OrLies last holder calls position next others old new =
    last holder calls position next old new ⊎ ((new ≡ old) × Remain holder calls position others new × (others ≡ [] → ⊥))

-- its refusal ends the run
abbrev pub asks_memory : Event → Bool
asks_memory event = (row event).asks_memory

-- what the counter that is at its limit says of the device
abbrev pub AtLimit : Limit → Stretch
AtLimit EachPosition = RestsAtLimit
AtLimit OneStamp = RestsAtFrameLimit
AtLimit Reopening = RestsBeforeReopening

-- so for the device of the node that the event touches, and the other rests
abbrev pub At : Option Node → Stretch → (Stretch → Stretch → Type 0) → Type 0
At None Ends Leads = ⊥
At (Some node.Primary) Ends Leads = Leads Ends Resting
At (Some node.Standby) Ends Leads = Leads Resting Ends

abbrev pub Fails : Bool → Option Node → (Stretch → Stretch → Type 0) → Type 0
Fails false touches Leads = ⊥
Fails true touches Leads = At touches Breaks Leads

abbrev pub ReachesLimit : Option Limit → Option Node → (Stretch → Stretch → Type 0) → Type 0
ReachesLimit None touches Leads = ⊥
ReachesLimit (Some limit) touches Leads = At touches (AtLimit limit) Leads

-- An enabled event ended the run for this cause, with this effect on the primary's device and the standby's: memory was refused, and both rest; or a fence failed, or
-- a counter is at its limit, on the one device that the event is about, and the other rests.
abbrev pub EndsBy : Refusal → Event → (Stretch → Stretch → Type 0) → Type 0
EndsBy Memory event Leads = (asks_memory event ≡ true) × Leads Resting Resting
EndsBy Fault event Leads = Fails (row event).may_fail (row event).touches Leads
EndsBy Exhausted event Leads = ReachesLimit (row event).limit (row event).touches Leads
EndsBy refusal event Leads = ⊥

-- ---- in a promotion

-- Each crash between these two states leaves an image that opens at this position of the list, as the standby's or as that of the primary which it becomes, and no
-- fence failed.
pub record RestsAsEither (holder : Holder) (calls : List Call) (position : ℕ) (old new : State) : Type 0 where
  pub leaves : LeavesOnly old new (OpensAsEither holder calls position)
  pub failures : new.failures ≡ old.failures

-- the same, and a fence failed
pub record BreaksAsEither (holder : Holder) (calls : List Call) (position : ℕ) (old new : State) : Type 0 where
  pub leaves : LeavesOnly old new (OpensAsEither holder calls position)
  pub failures : old.failures < new.failures

-- The same, and no fence failed: the promotion would take a counter of the image's record to the limit; or the image was promoted, and the opening of it would.
pub record LimitsPromotion (holder : Holder) (calls : List Call) (position : ℕ) (old new : State) : Type 0 where
  pub rests : RestsAsEither holder calls position old new
  pub current : Record
  pub has_record : (image : Image) → IsImage new.words image → HasRecord holder.lines current image
  pub limit : (COUNTER_LIMIT ≤ current.number + 1) ⊎ ((COUNTER_LIMIT ≤ current.epoch + 1) ⊎ ExhaustsReopening current)

-- A promotion ended the run for this cause, with this effect on the standby's device.
abbrev pub Promoting : Refusal → Stretch
Promoting Memory holder calls position next = RestsAsEither holder calls position
Promoting Fault holder calls position next = BreaksAsEither holder calls position
Promoting Exhausted holder calls position next = LimitsPromotion holder calls position
Promoting refusal holder calls position next = λ old new. ⊥
