-- A device that held A, B, A and C, in this order, where A, B and C are images at the positions 0, 1 and 2 of a list, and two events that moved its node
-- from 0 to 1 and from 1 to 2.
use Rattle.std.specs.Prelude.{◌≡◌, ◌⊎◌, ℕ, false, List, [], ◌∷◌, None}
use Rattle.pmem.specs.Device.{Word, State, settled, moment}
use Rattle.pmem.specs.Device.Fences.{Unsure}
use Rattle.pmem.specs.Runs.{HasPassed, LeavesOnly, words_gone_through}

-- each word has this value, and no other candidate
abbrev pub all : ℕ → ℕ → Word
all x = λ word. settled x

abbrev pub device : (ℕ → Word) → List (ℕ → Word) → State
device words past = record { words = words; past = past; lines = 8; failures = 0; starved = false; fences = Unsure; kept = None }

abbrev pub first : State
first = device (all 0) []

abbrev pub last : State
last = device (all 2) (all 0 ∷ all 1 ∷ all 0 ∷ [])

-- the image stands at one of these two positions
abbrev pub AtEither : ℕ → ℕ → (ℕ → ℕ) → Type 0
AtEither p q image = (image 0 ≡ p) ⊎ (image 0 ≡ q)

-- No state cuts that history into what the one event left and what the other did.
abbrev pub NoCutPasses : Type 0
NoCutPasses = (between : State) → LeavesOnly first between (AtEither 0 1) → LeavesOnly between last (AtEither 1 2) → ⊥

-- A state that a device has passed is told by its moment alone.
abbrev pub CutsAreMoments : Type 0
CutsAreMoments = (a b now : State) → HasPassed a now → HasPassed b now → moment a ≡ moment b → words_gone_through a ≡ words_gone_through b
