-- What leads a standby over the frames that are aside: their changes, in order, behind those that lead it to where the first of them begins.
use Rattle.std.specs.Prelude.{◌≡◌, ℕ, Bool, false, ◌||◌, nat_lt, List, [], ◌∷◌, ◌++◌, filter}
use Rattle.kv_types.specs.declared.change.Change.{Change}
use Rattle.kv_types.specs.Keyspace.{Keyspace, play_all}
use Rattle.frames.specs.declared.frame.Frame.{Frame}
use Rattle.standby_stream.specs.declared.opening.Opening.{Opening}
use Rattle.standby_stream.specs.Delta.{delta_changes}

-- those of the frames that end above the position
abbrev pub ending_above : ℕ → List Frame → List Frame
ending_above position = filter (λ frame. nat_lt position frame.after)

-- whether there are such
abbrev pub reaches_above : ℕ → List Frame → Bool
reaches_above position [] = false
reaches_above position (frame ∷ frames) = nat_lt position frame.after || reaches_above position frames

-- these changes, and then those of the frames
abbrev pub followed_by : List Change → List Frame → List Change
followed_by changes [] = changes
followed_by changes (frame ∷ frames) = followed_by (changes ++ frame.changes.items) frames

-- where the last of the frames ends; this position, where there is none
abbrev pub end_of : ℕ → List Frame → ℕ
end_of position [] = position
end_of position (frame ∷ frames) = end_of frame.after frames

-- One frame has these changes, which lead from a position to another, and then those of the frames, which lead on from there.
pub record Leads (epoch from at : ℕ) (changes : List Change) (frames : List Frame) (whole : Frame) : Type 0 where
  pub epoch_is : whole.epoch ≡ epoch
  pub before : whole.before ≡ from
  pub after : whole.after ≡ end_of at frames
  pub changes_are : whole.changes.items ≡ followed_by changes frames

-- The frame that leads a standby behind the opening to the opening's position and over what is aside.
abbrev pub LeadsFromBehind : ℕ → Opening → List Frame → ℕ → Frame → Type 0
LeadsFromBehind epoch opening aside from frame = Leads epoch from opening.position (delta_changes opening from) (ending_above from aside) frame

-- The frame that leads a standby that is at the opening or above over what is aside.
abbrev pub LeadsFrom : ℕ → List Frame → ℕ → Frame → Type 0
LeadsFrom epoch aside from frame = Leads epoch from from [] (ending_above from aside) frame

-- ---- what is promised of it

-- the frames lead on from one to the next, from this position on, in this history of keyspaces
abbrev pub LeadOn : (ℕ → Keyspace) → ℕ → List Frame → Type 0
LeadOn past at [] = Unit {0}
LeadOn past at (frame ∷ frames) = (frame.before ≡ at) × (play_all (past at) frame.changes.items ≡ past frame.after) × LeadOn past frame.after frames

-- Behind the opening, where the opening's delta leads to its own keyspace and the frames lead on from there, the frame leads to where they end.
abbrev pub LeadsOnFromBehind : Type 0
LeadsOnFromBehind =
    (past : ℕ → Keyspace) (epoch from : ℕ) (opening : Opening) (aside : List Frame) (whole : Frame) → play_all (past from) (delta_changes opening from) ≡ past opening.position
    → LeadOn past opening.position (ending_above from aside) → LeadsFromBehind epoch opening aside from whole → play_all (past whole.before) whole.changes.items ≡ past whole.after

-- And so it does at the opening or above, where the frames lead on from the standby's position.
abbrev pub LeadsOnFrom : Type 0
LeadsOnFrom =
    (past : ℕ → Keyspace) (epoch from : ℕ) (aside : List Frame) (whole : Frame) → LeadOn past from (ending_above from aside) → LeadsFrom epoch aside from whole
    → play_all (past whole.before) whole.changes.items ≡ past whole.after
