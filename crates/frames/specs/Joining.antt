-- Frames that follow one another, as one frame.
use Rattle.std.specs.Prelude.{◌≡◌, ◌<◌, ◌++◌}
use Rattle.frames.specs.declared.frame.Frame.{Frame}

-- the next frame is of the same epoch and begins where the first ends, and the position rises in both
pub record JoinsOn (first next : Frame) : Type 0 where
  pub epoch : next.epoch ≡ first.epoch
  pub position : next.before ≡ first.after
  pub rises : first.before < first.after
  pub later : next.before < next.after

-- the whole is the changes of the first and then those of the next, from where the first begins to where the next ends
pub record IsJoined (first next whole : Frame) : Type 0 where
  pub epoch : whole.epoch ≡ first.epoch
  pub before : whole.before ≡ first.before
  pub after : whole.after ≡ next.after
  pub changes : whole.changes.items ≡ first.changes.items ++ next.changes.items
