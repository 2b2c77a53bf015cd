-- Parts with one more after them, and a part as a group of its own.
use Rattle.std.proofs.Common.{◌≡◌, ℕ, ◌<◌, ◌≤◌, List, [], ◌∷◌, ◌++◌, length, inl, refl, sym, ap, subst, ◌∙◌, arith, append-nil}
use Rattle.std.proofs.lemmas.Grind.{flat_map-append}
use Rattle.std.specs.List.{flat_map, AllByRecursion}
use Rattle.model.specs.declared.group.Group.{Group}
use Rattle.model.specs.declared.group.Part.{Part}
use Rattle.model.specs.declared.group.Put.{Put}
use Rattle.model.specs.declared.group.TheConstants.{MAX_PARTS}
use Rattle.model.specs.Group.{Contents, Versions, IsGroup, puts_of_part, part_versions, parts_versions, AreParts, NamesEnded, last_position, IsPlaced, IsUnused, AreAllApart, HasItsLines, entries_of}

-- ---- one more part

pub parts_versions-append : (versions : Versions) (parts : List Part) (part : Part) → parts_versions versions (parts ++ part ∷ []) ≡ part_versions (parts_versions versions parts) part
parts_versions-append versions [] part = refl
parts_versions-append versions (first ∷ parts) part = parts_versions-append (part_versions versions first) parts part

pub last_position-append : (before : ℕ) (parts : List Part) (part : Part) → last_position before (parts ++ part ∷ []) ≡ part.position
last_position-append before [] part = refl
last_position-append before (first ∷ parts) part = last_position-append first.position parts part

pub AreParts-append : (before : ℕ) (versions : Versions) (parts : List Part) (part : Part) → AreParts before versions parts → last_position before parts < part.position → NamesEnded (parts_versions versions parts) part → AreParts before versions (parts ++ part ∷ [])
AreParts-append before versions [] part are later names = (later, names, tt)
AreParts-append before versions (first ∷ parts) part are later names = (are.0, are.1, AreParts-append first.position (part_versions versions first) parts part are.2 later names)

pub puts_of_parts-append : (parts : List Part) (part : Part) → flat_map puts_of_part (parts ++ part ∷ []) ≡ flat_map puts_of_part parts ++ puts_of_part part
puts_of_parts-append parts part = flat_map-append puts_of_part parts (part ∷ []) ∙ ap (λ puts. flat_map puts_of_part parts ++ puts) (append-nil (puts_of_part part))

-- ---- a part alone

-- the puts of a part are those of the list that has only this part
pub puts_alone : (P : Put → Type 0) (part : Part) → AllByRecursion P (puts_of_part part) → AllByRecursion P (flat_map puts_of_part (part ∷ []))
puts_alone P part h = subst (AllByRecursion P) (sym (append-nil (puts_of_part part))) h

module _ (contents : Contents) (part : Part) (group : Group) (one : group.parts.items ≡ part ∷ []) (before : group.before ≡ contents.current.position) (epoch : group.epoch ≡ contents.current.epoch) where
  all_of_group : (P : Put → Type 0) → AllByRecursion P (puts_of_part part) → AllByRecursion P (flat_map puts_of_part group.parts.items)
  all_of_group P h = subst (λ items. AllByRecursion P (flat_map puts_of_part items)) (sym one) (puts_alone P part h)

  -- the part alone is a group that a commit takes
  pub IsGroup-alone : contents.current.position < part.position → NamesEnded contents.versions part → AllByRecursion (IsPlaced (entries_of contents) contents.lines) (puts_of_part part) → AllByRecursion HasItsLines (puts_of_part part)
      → AllByRecursion (IsUnused contents.versions contents.is_free) (puts_of_part part) → AreAllApart (puts_of_part part) → IsGroup contents group
  IsGroup-alone later names placed fitting unused apart = record {
    epoch = inl epoch;
    before = before;
    some = subst (λ (items : List Part). 0 < length items) (sym one) (omega arith);
    few = subst (λ (items : List Part). length items ≤ MAX_PARTS) (sym one) (omega arith);
    parts = subst (λ first. AreParts first contents.versions group.parts.items) (sym before) (subst (AreParts contents.current.position contents.versions) (sym one) (later, names, tt));
    placed = all_of_group (IsPlaced (entries_of contents) contents.lines) placed;
    fitting = all_of_group HasItsLines fitting;
    unused = all_of_group (IsUnused contents.versions contents.is_free) unused;
    apart = subst (λ items. AreAllApart (flat_map puts_of_part items)) (sym one) (subst AreAllApart (sym (append-nil (puts_of_part part))) apart);
  }
