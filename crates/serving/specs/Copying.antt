-- How a copy for a newcomer is made, a step at a time.
use Rattle.std.specs.Prelude.{◌≡◌, ◌≢◌, ◌⊎◌, ℕ, ◌+◌, ◌≤◌, ◌<◌, ◌++◌, ◌∷◌, [], Bool, true, false, ◌||◌, List, Option, Some, None, option_to_list, is_some}
use Rattle.pipes.specs.Ring.{offered_at, taken_at}
use Rattle.pipes.specs.declared.limits.TheConstants.{PIPE_ITEMS}
use Rattle.rtrb.specs.Ring.{known_free}
use Rattle.redis_core.specs.Copying.{CopyOf, begun_copy, copied_at, restarted_copy}
use Rattle.redis_core.specs.Sequencing.{MovesCopy, Sequencing}
use Rattle.primary.specs.Sending.{SendsNext}
use Rattle.primary.specs.declared.frame.CopyFrame.{CopyFrame}
use Rattle.primary.specs.declared.frame.CopyFrame.TheVariants as frame
use Rattle.links.specs.declared.desk.CopyAsk.{CopyAsk}
use Rattle.links.specs.declared.desk.CopyAsk.TheVariants as ask
use Rattle.links.specs.declared.desk.CopyStep.{CopyStep}
use Rattle.links.specs.declared.desk.CopyStep.TheVariants as step
use Rattle.serving.specs.declared.copying.CopyCame.{CopyCame}
use Rattle.serving.specs.declared.copying.CopyCame.TheVariants as came
use Rattle.serving.specs.declared.copying.CopyMade.{CopyMade}
use Rattle.serving.specs.declared.copying.CopyMaker.{CopyMaker}
use Rattle.serving.specs.declared.copying.CopyStage.{CopyStage}
use Rattle.serving.specs.declared.copying.CopyStage.TheVariants as stage

-- ---- how far it has come

-- the attempt that waits for a copy
abbrev pub awaited_by : CopyStage → Option ℕ
awaited_by (stage.Awaited attempt) = Some attempt
awaited_by _ = None

-- the attempt to which the next frame goes
abbrev pub sent_to : CopyStage → Option ℕ
sent_to (stage.Sending attempt) = Some attempt
sent_to _ = None

-- ---- whether anything was done

abbrev pub is_told : CopyCame → Bool
is_told came.Told = true
is_told _ = false

abbrev pub did_make : CopyMade → Bool
did_make made = made.asked || (is_told made.pinned || is_told made.sent)

-- ---- what the link asks for

-- By what is asked: a copy is awaited, by this attempt, and the front is as it was; or the pinned one is given back.
abbrev pub DoesAsked : CopyAsk → Sequencing → Sequencing → CopyStage → Type 0
DoesAsked (ask.Wanted attempt) old new after = (new ≡ old) × (after ≡ stage.Awaited attempt)
DoesAsked ask.Over old new after = MovesCopy old None new × (after ≡ stage.Idle)

-- What is asked for next was taken, and done. Where nothing is, nothing was.
abbrev pub HearsAsk : CopyMaker → Sequencing → CopyMaker → Sequencing → Bool → Type 0
HearsAsk before old after new true =
    (asked : CopyAsk) × (taken_at after.asks ≡ taken_at before.asks ++ asked ∷ []) × DoesAsked asked old new after.stage × (after.copies ≡ before.copies)
HearsAsk before old after new false = (taken_at after.asks ≡ taken_at before.asks) × (after.stage ≡ before.stage) × (after.copies ≡ before.copies) × (new ≡ old)

-- ---- the pin

-- A copy of this position is pinned, whose first frame comes next: the one that was, which begins again; or one of now, where no change waits.
abbrev pub PinsAt : ℕ → Sequencing → Sequencing → Type 0
PinsAt position old new = ((copied_at old.copy ≡ Some position) × MovesCopy old (restarted_copy old.copy) new) ⊎ ((copied_at old.copy ≡ None) × (old.waiting ≡ []) × (position ≡ old.position) × MovesCopy old (Some (begun_copy old.position old.table)) new)

-- one may be pinned
abbrev pub MayPin : Sequencing → Type 0
MayPin s = (copied_at s.copy ≡ None) × (s.waiting ≡ [])

-- none can be pinned, as changes wait to be in a group
abbrev pub IsBarred : Sequencing → Type 0
IsBarred s = (copied_at s.copy ≡ None) × (s.waiting ≢ [])

-- of what it may change, only what it knows of the link's room
pub record StaysMaker (before after : CopyMaker) : Type 0 where
  pub asks : after.asks ≡ before.asks
  pub stage : after.stage ≡ before.stage
  pub offered : offered_at after.copies ≡ offered_at before.copies

-- The link is told of the copy that is awaited. It is not where none is awaited, where there is no room for it, or where changes wait.
abbrev pub TellsPin : CopyMaker → Sequencing → CopyMaker → Sequencing → CopyCame → Type 0
TellsPin before old after new came.Told =
    (attempt : ℕ) × (position : ℕ) × (awaited_by before.stage ≡ Some attempt) × PinsAt position old new × (after.stage ≡ stage.Sending attempt)
    × (offered_at after.copies ≡ offered_at before.copies ++ step.Pinned attempt position ∷ []) × (after.asks ≡ before.asks)
TellsPin before old after new came.Nothing =
    ((awaited_by before.stage ≡ None) ⊎ (known_free after.copies.producer ≡ 0) ⊎ IsBarred old) × StaysMaker before after × (new ≡ old)
TellsPin before old after new came.Lacks = (is_some (awaited_by before.stage) ≡ true) × MayPin old × StaysMaker before after × (new ≡ old)

-- ---- the frames

-- how the link is given a frame
abbrev pub step_of : ℕ → CopyFrame → CopyStep
step_of attempt (frame.Part part) = step.Part attempt part
step_of attempt (frame.End end) = step.End attempt end

-- and what comes then
abbrev pub stage_behind : ℕ → CopyFrame → CopyStage
stage_behind attempt (frame.Part part) = stage.Sending attempt
stage_behind attempt (frame.End end) = stage.Ended attempt

-- a copy is pinned, and all that it is of is durable here, by this local mark
abbrev pub IsDurableHere : ℕ → Sequencing → Type 0
IsDurableHere local s = (position : ℕ) × (copied_at s.copy ≡ Some position) × (position ≤ local)

-- the frame is the next of the copy, and nothing else moved
abbrev pub GivesFrame : Sequencing → CopyFrame → Sequencing → Type 0
GivesFrame old made new = SendsNext old.epoch old.copy made new.copy × MovesCopy old new.copy new

-- The next frame of the pinned copy is given to the link, which has taken all before it.
abbrev pub SendsFrame : ℕ → CopyMaker → Sequencing → CopyMaker → Sequencing → CopyCame → Type 0
SendsFrame local before old after new came.Told =
    (attempt : ℕ) × (made : CopyFrame) × (sent_to before.stage ≡ Some attempt) × IsDurableHere local old × GivesFrame old made new × (after.stage ≡ stage_behind attempt made)
    × (offered_at after.copies ≡ offered_at before.copies ++ step_of attempt made ∷ []) × (after.asks ≡ before.asks)
    × (PIPE_ITEMS ≤ known_free after.copies.producer + 1)
SendsFrame local before old after new came.Nothing =
    ((sent_to before.stage ≡ None) ⊎ (known_free after.copies.producer < PIPE_ITEMS) ⊎ (¬ IsDurableHere local old)) × StaysMaker before after × (new ≡ old)
SendsFrame local before old after new came.Lacks = (is_some (sent_to before.stage) ≡ true) × IsDurableHere local old × StaysMaker before after × (new ≡ old)

-- ---- a round

-- What the link asks for next is done, then it is told of the pin, and then given a frame, each where it is time for it.
pub record MakesCopy (local : ℕ) (before : CopyMaker) (old : Sequencing) (after : CopyMaker) (new : Sequencing) (made : CopyMade) : Type 0 where
  pub heard : CopyMaker
  pub at : Sequencing
  pub hears : HearsAsk before old heard at made.asked
  pub told : CopyMaker
  pub pinned : Sequencing
  pub tells : TellsPin heard at told pinned made.pinned
  pub sends : SendsFrame local told pinned after new made.sent

-- the copy that the sequencer keeps is another one, or none, and nothing else moved
abbrev pub MovesCopyAlone : Sequencing → Sequencing → Type 0
MovesCopyAlone old new = (copy : Option CopyOf) × MovesCopy old copy new
