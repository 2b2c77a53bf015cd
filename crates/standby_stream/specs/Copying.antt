-- A copy that a newcomer at the link's address asks for (this project's profile): which groups it holds, and when it is over.
use Rattle.std.specs.Prelude.{◌≡◌, ℕ, Bool, true, false, nat_le, if◌then◌else◌, List, [], ◌∷◌}
use Rattle.frames.specs.declared.frame.Frame.{Frame}
use Rattle.standby_stream.specs.declared.copying.Copying.{Copying}
use Rattle.standby_stream.specs.declared.copying.Copying.TheVariants.{Follows, Awaited, Sending}

-- The changes of a group that ends at this position are of the copy, or will be: it is not sent as a frame, unless the copy comes to nothing.
abbrev pub goes_aside : Copying → ℕ → Bool
goes_aside Follows after = false
goes_aside Awaited after = true
goes_aside (Sending pinned) after = nat_le after pinned

-- an acknowledgement at this position ends the copy that is sent where it is at or above the copy's own, and else changes nothing
abbrev pub ended_at : ℕ → Copying → Copying
ended_at position Follows = Follows
ended_at position Awaited = Awaited
ended_at position (Sending pinned) = if nat_le pinned position then Follows else Sending pinned

-- the first frames, as far as they end at the position or below it
abbrev pub up_to : ℕ → List Frame → List Frame
up_to position [] = []
up_to position (frame ∷ frames) = if nat_le frame.after position then frame ∷ up_to position frames else []

-- the frames from the first on that ends above the position
abbrev pub above : ℕ → List Frame → List Frame
above position [] = []
above position (frame ∷ frames) = if nat_le frame.after position then above position frames else frame ∷ frames

-- what is true while no standby follows: what is sent next is the first that is kept, and none is while no copy is pinned; and no frame aside ends above the pinned one
abbrev pub IsAside : Copying → List Frame → ℕ → List Frame → Type 0
IsAside Follows kept next aside = Unit {0}
IsAside Awaited kept next aside = (next ≡ 0) × (kept ≡ [])
IsAside (Sending pinned) kept next aside = (next ≡ 0) × (above pinned aside ≡ [])
