-- What a crash leaves of a device that is synced now and then: an image of some moment from its floor on, which is the moment of the last sync or a later one.
-- (A fence orders and a sync makes durable, as F_BARRIERFSYNC and F_FULLFSYNC of macOS's `fcntl` do. This project's profile.)
use Rattle.std.specs.Prelude.{◌≡◌, ◌⊎◌, ◌↔◌, ℕ, ◌≤◌, Bool, true}
use Rattle.pmem.specs.Device.{State, moment}
use Rattle.pmem.specs.Crash.{IsImage, MayLeave}
use Rattle.pmem.specs.Runs.{LeavesOnly}

-- a crash of a device with this floor may leave this image
abbrev pub MayBeLeft : State → ℕ → (ℕ → ℕ) → Type 0
MayBeLeft d floor image = MayLeave d floor image

-- Where the floor is the present moment, a crash leaves an image of the present words.
abbrev pub LeavesPresentWords : Type 0
LeavesPresentWords = (d : State) (image : ℕ → ℕ) → MayBeLeft d (moment d) image ↔ IsImage d.words image

-- A higher floor leaves nothing that a lower one does not.
abbrev pub LeavesNoMore : Type 0
LeavesNoMore = (d : State) (low high : ℕ) (image : ℕ → ℕ) → low ≤ high → MayBeLeft d high image → MayBeLeft d low image

-- What holds of each moment since a state holds of what a crash leaves, where the floor is no earlier than that state: so what is said of the moments of a
-- call is said of a crash in it, wherever the floor is since the call began.
abbrev pub AreEnough : ((ℕ → ℕ) → Type 0) → Type 0
AreEnough P = (old new : State) (floor : ℕ) (image : ℕ → ℕ) → moment old ≤ floor → LeavesOnly old new P → MayBeLeft new floor image → P image

-- (what is decided, as a clause cannot speak of all P of Type 0; `since_the_floor` of the proofs is of all)
abbrev pub MomentsAreEnough : Type 0
MomentsAreEnough = (p : (ℕ → ℕ) → Bool) → AreEnough (λ image. p image ≡ true)

-- Of two calls since the floor a crash leaves what one of them allows.
abbrev pub Chain : ((ℕ → ℕ) → Type 0) → ((ℕ → ℕ) → Type 0) → Type 0
Chain P Q =
    (a b c : State) (floor : ℕ) (image : ℕ → ℕ) → moment a ≤ floor → LeavesOnly a b P → LeavesOnly b c Q → MayBeLeft c floor image → P image ⊎ Q image

abbrev pub CallsChain : Type 0
CallsChain = (p q : (ℕ → ℕ) → Bool) → Chain (λ image. p image ≡ true) (λ image. q image ≡ true)
