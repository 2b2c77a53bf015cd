-- What the image of a node may hold in which a fence failed, or a call of which was cut.
use Rattle.std.specs.Prelude.{◌≡◌, ◌⊎◌, ℕ, ◌≤◌, Bool, false, not, ◌&&◌, ◌||◌, List, [], ◌∷◌, ◌++◌, Contains}
use Rattle.world.specs.Words.{AreLawful, AsFollower, AsPrimary, At, Call, Contents, Crash, Cut, Event, Holder, Image, is_between, is_stopped, IsImage, Keeps, LeavesOnly, left_by, life_of, may_remain, Node, position_at, position_of, Remains, safe_position, State, torn, World}
use Rattle.machine.specs.declared.event.Node.TheVariants as node
use Rattle.world.specs.Committing.{AreContentsAt, OpensAt, promoted_holder}
use Rattle.world.specs.Recalling.{RecallsFor, past_of}

-- ---- how an image opens

-- The image opens as what a cut call leaves: at a position of the list, as a copy does too; or where the standby stands, as that of the primary which it becomes.
abbrev pub OpensAs : Holder → List Call → ℕ → Image → Remains → Type 0
OpensAs holder calls position image (At p) = OpensAt holder calls p image
OpensAs holder calls position image (AsFollower p) = OpensAt holder calls p image
OpensAs holder calls position image AsPrimary = OpensAt (promoted_holder holder) calls position image

-- as one of these
abbrev pub OpensAsOne : Holder → List Call → ℕ → List Remains → Image → Type 0
OpensAsOne holder calls position [] image = ⊥
OpensAsOne holder calls position (one ∷ others) image = OpensAs holder calls position image one ⊎ OpensAsOne holder calls position others image

-- the image opens where its node stands, or as one of these
abbrev pub OpensNear : Holder → List Call → ℕ → List Remains → Image → Type 0
OpensNear holder calls position others image = OpensAt holder calls position image ⊎ OpensAsOne holder calls position others image

-- each crash now leaves an image that opens so
abbrev pub Remain : Holder → List Call → ℕ → List Remains → State → Type 0
Remain holder calls position others device = (image : Image) → IsImage device.words image → OpensNear holder calls position others image

-- Each crash between these two states of a device leaves an image that opens at one of these two positions of the list, or as one of these, which a fence that failed before may have left;
-- and no fence failed.
pub record MovesNear (holder : Holder) (calls : List Call) (from to : ℕ) (others : List Remains) (old new : State) : Type 0 where
  pub leaves : LeavesOnly old new (OpensNear holder calls from (At to ∷ others))
  pub failures : new.failures ≡ old.failures

-- ---- in an event

-- what a crash in this event may leave of this node, where it comes inside a call, besides the image from before the call
abbrev pub cut_short : World → Event → Node → List Remains
cut_short w (Crash node.Primary call k picks) node.Primary = left_by w node.Primary call
cut_short w (Crash node.Standby call k picks) node.Standby = left_by w node.Standby call
cut_short w event n = []

-- the event is a crash inside a call
abbrev pub is_cut : Event → Bool
is_cut (Crash n call k picks) = not (is_between call)
is_cut event = false

-- the node stops between these two worlds
abbrev pub stops_between : World → World → Node → Bool
stops_between w w' n = not (is_stopped (life_of w n)) && is_stopped (life_of w' n)

-- Each crash between these two states leaves an image that opens, over the list of the first world, as it may in that world, or as it may in the second one; or as a call that the event cut would have
-- left it. And no fence failed, but perhaps in such a call; or the node stopped.
pub record MovesAs (holder : Holder) (w : World) (event : Event) (w' : World) (n : Node) (old new : State) : Type 0 where
  pub leaves : LeavesOnly old new (λ image. OpensNear holder w.primary.calls (position_at w n) (torn (life_of w n) ++ cut_short w event n) image ⊎ OpensNear holder w.primary.calls (position_at w' n) (torn (life_of w' n)) image)
  pub failures : (is_cut event || stops_between w w' n) ≡ false → new.failures ≡ old.failures

-- ---- what it holds

-- the image holds contents of the list at this position, which obey the rules
pub record KeepsAt (holder : Holder) (calls : List Call) (position : ℕ) (image : Image) : Type 0 where
  pub contents : Contents
  pub contents_at : AreContentsAt holder calls position contents
  pub lawful : AreLawful contents
  pub keeps : Keeps contents image

-- A primary's: it holds lawful contents at a position at which the call may leave it, and they recall what the standby may need to be told.
pub record LeftBy (holder : Holder) (w : World) (call : Cut) (image : Image) : Type 0 where
  pub position : ℕ
  pub one : Contains (may_remain w node.Primary call) (At position)
  pub rises : w.primary.committer.position ≤ position
  pub within : position ≤ position_of w.primary.calls
  pub contents : Contents
  pub contents_at : AreContentsAt holder w.primary.calls position contents
  pub lawful : AreLawful contents
  pub keeps : Keeps contents image
  pub recalls : RecallsFor (safe_position w) position (past_of w.primary.calls) contents

-- The image holds contents of the list at this position as those of the primary which this standby becomes. Its floor is there: a standby has freed what ended.
pub record KeepsPromoted (holder : Holder) (calls : List Call) (position : ℕ) (image : Image) : Type 0 where
  pub kept : KeepsAt (promoted_holder holder) calls position image
  pub floor : kept.contents.current.floor ≡ position

-- A standby's: at this position, or as that of the primary which it becomes.
abbrev pub KeepsAs : Holder → List Call → ℕ → Remains → Image → Type 0
KeepsAs holder calls position (At p) image = KeepsAt holder calls p image
KeepsAs holder calls position (AsFollower p) image = KeepsAt holder calls p image
KeepsAs holder calls position AsPrimary image = KeepsPromoted holder calls position image

-- what it may hold where it stands at this position, and a call may have left one of these
pub record KeepsOne (holder : Holder) (calls : List Call) (position : ℕ) (others : List Remains) (image : Image) : Type 0 where
  pub one : Remains
  pub is_one : Contains (At position ∷ others) one
  pub keeps : KeepsAs holder calls position one image

-- each crash leaves such a one of a standby that stopped
pub record LeavesOne (holder : Holder) (calls : List Call) (position : ℕ) (others : List Remains) (device : State) : Type 0 where
  pub lines_are : device.lines ≡ holder.lines
  pub each : (image : Image) → IsImage device.words image → KeepsOne holder calls position others image
