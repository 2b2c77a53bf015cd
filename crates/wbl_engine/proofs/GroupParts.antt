-- The parts of a group, and those that move versions, may commit under the record after them.
use Rattle.std.proofs.Common.{◌≡◌, ℕ, ◌≤◌, List, [], ◌∷◌, length, refl, sym, ap, subst, ◌∙◌, arith}
use Rattle.std.specs.List.{AllByRecursion}
use Rattle.model.specs.declared.group.Group.{Group}
use Rattle.model.specs.declared.group.Part.{Part}
use Rattle.model.specs.declared.record.Record.{Record}
use Rattle.model.specs.Group.{AreParts, Contents, IsGroup, Versions, after_group, last_position, next_record, part_versions}
use Rattle.wbl_engine.specs.Committing.{AreCommittable, AreNamed, after_parts, at_floor, record_after, under_floor}
use Rattle.wbl_engine.specs.Relocating.{AreMadeAgain, IsRelocation, after_relocation, relocated_record}

-- ---- a group

named : (parts : List Part) (before : ℕ) (versions : Versions) → AreParts before versions parts → AreNamed versions parts
named [] before versions follow = tt
named (part ∷ parts) before versions follow = (follow.1, named parts part.position (part_versions versions part) follow.2)

-- positions rise
last_above : (parts : List Part) (before : ℕ) (versions : Versions) → AreParts before versions parts → before ≤ last_position before parts
last_above [] before versions follow = omega arith
last_above (part ∷ parts) before versions follow =
    omega (arith, follow.0, last_above parts part.position (part_versions versions part) follow.2)

all_below : (parts : List Part) (before : ℕ) (versions : Versions) → AreParts before versions parts
    → AllByRecursion (λ (part : Part). part.position ≤ last_position before parts) parts
all_below [] before versions follow = tt
all_below (part ∷ parts) before versions follow = (
  last_above parts part.position (part_versions versions part) follow.2,
  all_below parts part.position (part_versions versions part) follow.2,
)

group_committable : (contents : Contents) (group : Group) → IsGroup contents group
    → AreCommittable contents group.parts.items (next_record contents.current group).position
group_committable contents group asked =
    let parts : List Part = group.parts.items in
    let follow : AreParts contents.current.position contents.versions parts =
    subst (λ (before : ℕ). AreParts before contents.versions parts) asked.before asked.parts in
    record {
      up = last_above parts contents.current.position contents.versions follow;
      made = all_below parts contents.current.position contents.versions follow;
      few = asked.few;
      names = named parts contents.current.position contents.versions follow;
      placed = asked.placed;
      fitting = asked.fitting;
      unused = asked.unused;
      apart = asked.apart;
    }

module _ (contents : Contents) (group : Group) {parts : List Part} {next : Record} (is_parts : parts ≡ group.parts.items)
    (is_next : next ≡ next_record (at_floor next.floor contents.current) group) where
  pub group_asked : IsGroup contents group → AreCommittable contents parts next.position
  group_asked asked =
      subst (λ (position : ℕ). AreCommittable contents parts position) (sym (ap (λ (q : Record). q.position) is_next))
      (subst (λ (ps : List Part). AreCommittable contents ps (next_record contents.current group).position) (sym is_parts)
      (group_committable contents group asked))

  -- the record, for any floor that it has
  with_parts : (floor : ℕ) (q : Record) → q ≡ next_record (at_floor floor contents.current) group
      → q ≡ record_after contents.current parts q.position q.epoch floor
  with_parts floor q is =
      subst (λ (s : Record). s ≡ record_after contents.current parts s.position s.epoch floor) (sym is)
      (ap (λ (ps : List Part). record_after contents.current ps (next_record contents.current group).position group.epoch floor) (sym is_parts))

  pub group_record : next ≡ record_after contents.current parts next.position next.epoch next.floor
  group_record = with_parts next.floor next is_next

  pub group_contents : after_parts contents parts next.position next.epoch next.floor ≡ after_group (under_floor next.floor contents) group
  group_contents =
      ap (λ (position : ℕ). after_parts contents parts position next.epoch next.floor) (ap (λ (q : Record). q.position) is_next)
      ∙ ap (λ (epoch : ℕ). after_parts contents parts (next_record contents.current group).position epoch next.floor) (ap (λ (q : Record). q.epoch) is_next)
      ∙ ap (λ (ps : List Part). after_parts contents ps (next_record contents.current group).position group.epoch next.floor) is_parts

-- ---- parts that move versions, at a position that the record has

again_below : (position : ℕ) (parts : List Part) (versions : Versions) → AreMadeAgain position versions parts
    → AllByRecursion (λ (part : Part). part.position ≤ position) parts
again_below position [] versions each = tt
again_below position (part ∷ parts) versions each = (each.0, again_below position parts (part_versions versions part) each.3)

again_named : (position : ℕ) (parts : List Part) (versions : Versions) → AreMadeAgain position versions parts → AreNamed versions parts
again_named position [] versions each = tt
again_named position (part ∷ parts) versions each = (each.2, again_named position parts (part_versions versions part) each.3)

relocation_committable : (contents : Contents) (parts : List Part) → IsRelocation contents parts
    → AreCommittable contents parts contents.current.position
relocation_committable contents parts asked =
    record {
      up = omega arith;
      made = again_below contents.current.position parts contents.versions asked.each;
      few = asked.few;
      names = again_named contents.current.position parts contents.versions asked.each;
      placed = asked.placed;
      fitting = asked.fitting;
      unused = asked.unused;
      apart = asked.apart;
    }

module _ (contents : Contents) (parts : List Part) {next : Record} (is_next : next ≡ relocated_record (length parts) contents.current) where
  pub relocation_asked : IsRelocation contents parts → AreCommittable contents parts next.position
  relocation_asked asked =
      subst (λ (q : Record). AreCommittable contents parts q.position) (sym is_next) (relocation_committable contents parts asked)

  pub relocation_record : next ≡ record_after contents.current parts next.position next.epoch next.floor
  relocation_record =
      subst (λ (q : Record). q ≡ record_after contents.current parts q.position q.epoch q.floor) (sym is_next)
      (same (record_after contents.current parts contents.current.position contents.current.epoch contents.current.floor))
    where
      same : (q : Record) → q ≡ q
      same q = refl

  pub relocation_contents : after_parts contents parts next.position next.epoch next.floor ≡ after_relocation contents parts
  relocation_contents = ap (λ (q : Record). after_parts contents parts q.position q.epoch q.floor) is_next
