-- A group that tests commit: `SET a 1` and then `SET a 2`, in an image of 4,096 lines.
use Rattle.std.specs.Prelude.{◌≡◌, ℕ, [], ◌∷◌}
use Rattle.kv_types.specs.declared.record_id.RecordId.TheVariants.{Str}
use Rattle.model.specs.declared.group.Group.{Group}
use Rattle.model.specs.declared.group.Part.{Part}
use Rattle.model.specs.declared.group.PlacedChange.TheVariants as placed
use Rattle.model.specs.declared.group.Put.{Put}
use Rattle.model.specs.declared.record.TheConstants.{FIRST_EPOCH}

-- `a` with this byte as its value, in this entry and this line
abbrev pub set_at : ℕ → ℕ → ℕ → Put
set_at byte entry line =
    record { id = Str (97 ∷ []); value = byte ∷ []; entry = record { 0 = entry }; extent = record { first_line = line; lines = 1 } }

abbrev pub first_set : ℕ → Put
first_set entry = set_at 49 entry 520

abbrev pub second_set : ℕ → Put
second_set entry = set_at 50 entry 521

-- these entries and the first lines are taken, and the second part ends what the first made
pub record IsTwoSets (first_entry second_entry : ℕ) (group : Group) : Type 0 where
  pub epoch : group.epoch ≡ FIRST_EPOCH
  pub before : group.before ≡ 0
  pub first : Part
  pub second : Part
  pub parts : group.parts.items ≡ first ∷ second ∷ []
  pub first_position : first.position ≡ 1
  pub first_changes : first.changes.items ≡ placed.Put (first_set first_entry) ∷ []
  pub first_ended : first.ended.items ≡ []
  pub second_position : second.position ≡ 2
  pub second_changes : second.changes.items ≡ placed.Put (second_set second_entry) ∷ []
  pub second_ended : second.ended.items ≡ record { 0 = first_entry } ∷ []
