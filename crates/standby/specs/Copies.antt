-- What a newcomer does with the frames of a copy, by how far it has come with one.
use Rattle.std.specs.Prelude.{◌≡◌, ◌≢◌, ℕ, ◌<◌, List, [], ◌∷◌, map, Option, None, Some}
use Rattle.kv_types.specs.declared.change.Change.{Change}
use Rattle.kv_types.specs.declared.change.Change.TheVariants as change
use Rattle.kv_types.specs.declared.record_id.RecordId.{RecordId}
use Rattle.wbl_engine.specs.Copying.{Follows}
use Rattle.standby.specs.declared.copies.Half.{Half}
use Rattle.standby.specs.declared.copies.PartStep.{PartStep}
use Rattle.standby.specs.declared.copies.PartStep.TheVariants as part
use Rattle.standby.specs.declared.copies.EndStep.{EndStep}
use Rattle.standby.specs.declared.copies.EndStep.TheVariants as end

-- ---- parts

-- the part is the next one of the copy of which the newcomer has a half
abbrev pub IsNextPart : Option Half → ℕ → ℕ → Type 0
IsNextPart None position number = ⊥
IsNextPart (Some half) position number = (position ≡ half.position) × (number ≡ half.parts)

-- the newcomer has the part
abbrev pub IsHadPart : Option Half → ℕ → ℕ → Type 0
IsHadPart None position number = ⊥
IsHadPart (Some half) position number = (position ≡ half.position) × (number < half.parts)

-- the part begins a copy of which the newcomer has nothing
abbrev pub BeginsCopy : Option Half → ℕ → ℕ → Type 0
BeginsCopy None position number = number ≡ 0
BeginsCopy (Some half) position number = (position ≢ half.position) × (number ≡ 0)

-- what a newcomer does with a part of a copy at this position
abbrev pub IsPartStep : Option Half → (position number : ℕ) → PartStep → Type 0
IsPartStep half position number part.GoesOn = IsNextPart half position number
IsPartStep half position number part.Has = IsHadPart half position number
IsPartStep half position number part.Begins = BeginsCopy half position number
IsPartStep half position number part.Misplaced = (¬ IsNextPart half position number) × (¬ IsHadPart half position number) × (¬ BeginsCopy half position number)

-- ---- ends

-- the newcomer has all the parts of this copy, which are some
abbrev pub HasAll : Option Half → ℕ → ℕ → Type 0
HasAll None position parts = ⊥
HasAll (Some half) position parts = (position ≡ half.position) × (parts ≡ half.parts) × (0 < parts)

-- what a newcomer does with the end of a copy at this position
abbrev pub IsEndStep : Option Half → (position parts : ℕ) → EndStep → Type 0
IsEndStep half position parts end.Completes = HasAll half position parts
IsEndStep half position parts end.Empties = parts ≡ 0
IsEndStep half position parts end.Misplaced = (¬ HasAll half position parts) × (0 < parts)

-- ---- records that rise

-- each record may follow the one before it, and the first one this one
abbrev pub Rise : Option RecordId → List (RecordId × List ℕ) → Type 0
Rise last [] = Unit {0}
Rise last (put ∷ puts) = Follows last put.0 × Rise (Some put.0) puts

-- the record of the last put, or this one where there is none
abbrev pub last_told : Option RecordId → List (RecordId × List ℕ) → Option RecordId
last_told last [] = last
last_told last (put ∷ puts) = last_told (Some put.0) puts

-- the last record of the half copy, if it has one
abbrev pub last_of : Option Half → Option RecordId
last_of None = None
last_of (Some half) = half.last

-- the puts as changes
abbrev pub change_told : RecordId × List ℕ → Change
change_told put = change.Put put.0 put.1

abbrev pub changes_told : List (RecordId × List ℕ) → List Change
changes_told = map change_told
