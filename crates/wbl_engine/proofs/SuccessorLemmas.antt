-- The record after a group.
use Rattle.std.proofs.Common.{◌≡◌, ℕ, suc, ◌+◌, ◌-◌, ◌<◌, ◌≤◌, List, [], ◌∷◌, length, get_or, max, refl, sym, ap, subst, ◌∙◌, arith}
use Rattle.model.specs.declared.group.Part.{Part}
use Rattle.model.specs.declared.image.TheConstants.{COUNTER_LIMIT, STAMP_WINDOW}
use Rattle.model.specs.declared.record.Gap.{Gap}
use Rattle.model.specs.declared.record.Record.{Record}
use Rattle.model.specs.declared.record.Role.TheVariants.{Newcomer, Primary, Standby}
use Rattle.model.specs.Layout.{max_gaps}
use Rattle.model.specs.declared.group.Group.{Group}
use Rattle.model.specs.Floor.{with_floor}
use Rattle.model.specs.Group.{last_position, next_record}
use Rattle.model.specs.Image.{role_number}
use Rattle.wbl_record.specs.Current.{AreGaps, IsLawful}
use Rattle.wbl_engine.specs.Committing.{at_floor}
use Rattle.wbl_engine.proofs.CountLemmas.{AreGaps-later}

-- where its counters are below their limit
pub record AreBelowLimit (r : Record) : Type 0 where
  pub number : r.number < COUNTER_LIMIT
  pub position : r.position < COUNTER_LIMIT
  pub room : r.cd < COUNTER_LIMIT
  pub epoch : r.epoch < COUNTER_LIMIT

-- roles that are none of a newcomer's
pub primary_other : Primary ≡ Newcomer → ⊥
primary_other is = let same : 1 ≡ 3 = ap role_number is in omega (arith, same)

pub standby_other : Standby ≡ Newcomer → ⊥
standby_other is = let same : 2 ≡ 3 = ap role_number is in omega (arith, same)

-- A later record of the same layout with the same gaps obeys the rules.
pub lawful_later : (r next : Record) → IsLawful r → AreBelowLimit next → next.number ≡ r.number + 1 → next.cd ≡ next.cp + 1 + STAMP_WINDOW
    → r.cp ≤ next.cp → r.epoch ≤ next.epoch → next.gaps.items ≡ r.gaps.items → next.layout ≡ r.layout
    → (next.role ≡ Newcomer → next.position ≡ 0) → IsLawful next
lawful_later r next lawful below number limit up epoch gaps layout newcomer =
    record {
      some = omega (arith, number);
      number = below.number;
      position = below.position;
      limit = limit;
      room = below.room;
      some_epoch = omega (arith, lawful.some_epoch, epoch);
      epoch = below.epoch;
      newcomer = newcomer;
      few = omega (arith, ap length gaps, ap max_gaps layout, lawful.few);
      gaps = subst (λ (gs : List Gap). AreGaps 0 gs next.cp) (sym gaps) (AreGaps-later 0 r.gaps.items r.cp next.cp up lawful.gaps);
    }

pub last_position-get : (before : ℕ) (parts : List Part) (d : Part) → 0 < length parts
    → last_position before parts ≡ (get_or parts (length parts - 1) d).position
last_position-get before [] d some = absurd (omega arith)
last_position-get before (part ∷ []) d some = refl
last_position-get before (part ∷ next ∷ parts) d some =
    let e : length (part ∷ next ∷ parts) - 1 ≡ suc (length (next ∷ parts) - 1) = omega arith in
    last_position-get part.position (next ∷ parts) d (omega arith) ∙ ap (λ (i : ℕ). (get_or (part ∷ next ∷ parts) i d).position) (sym e)

-- ---- the floor of the record after a group

module _ (r next : Record) (group : Group) (floor : ℕ) (is : next ≡ next_record (with_floor floor r) group) where
  pub floor_after : next.floor ≡ max r.floor floor
  floor_after = ap (λ (q : Record). q.floor) is

  pub record_at_floor : next ≡ next_record (at_floor next.floor r) group
  record_at_floor = subst (λ (q : Record). q ≡ next_record (at_floor q.floor r) group) (sym is) refl
