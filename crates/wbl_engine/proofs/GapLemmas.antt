-- The oldest gap of a record, the stamps in it, and the record without it.
use Rattle.std.proofs.Common.{◌≡◌, ℕ, zero, suc, ◌+◌, ◌<◌, ◌≤◌, Bool, true, false, not, ◌&&◌, ◌||◌, ◌==◌, IsTrue, List, [], ◌∷◌, length, drop, refl, sym, ap, subst, ◌∙◌, arith}
use Rattle.std.specs.Prelude.{◌↔◌, nat_le, nat_lt, slice_index_or}
use Rattle.std.specs.List.{list_any}
use Rattle.std.proofs.lemmas.Bool.{or_left, or_from, and_parts, and_right, and_left, leb-true, lt-leb, le-ltb, both_ways}
use Rattle.std.proofs.lemmas.List.{length-drop}
use Rattle.pmem.proofs.Staging.{unequal}
use Rattle.model.specs.declared.image.TheConstants.{COUNTER_LIMIT}
use Rattle.model.specs.declared.record.Gap.{Gap}
use Rattle.model.specs.declared.record.Record.{Record}
use Rattle.model.specs.Image.{counts, is_in_gap}
use Rattle.wbl_record.specs.Current.{AreGaps, IsLawful}
use Rattle.wbl_engine.specs.Erasing.{oldest_gap}
use Rattle.wbl_engine.specs.Freeing.{record_after_clearing}

-- ---- the record without its oldest gap

gaps_from : (low lower : ℕ) (gaps : List Gap) (cp : ℕ) → lower ≤ low → AreGaps low gaps cp → AreGaps lower gaps cp
gaps_from low lower [] cp down are = tt
gaps_from low lower (gap ∷ gaps) cp down are = (omega (arith, are.0, down), are.1, are.2, are.3)

gaps_but_one : (gaps : List Gap) (cp : ℕ) → AreGaps 0 gaps cp → AreGaps 0 (drop 1 gaps) cp
gaps_but_one [] cp are = tt
gaps_but_one (gap ∷ gaps) cp are = gaps_from gap.last 0 gaps cp (omega arith) are.3

-- it obeys the rules of records
pub lawful_but_one : (r : Record) → IsLawful r → r.number + 1 < COUNTER_LIMIT → IsLawful (record_after_clearing r)
lawful_but_one r lawful room =
    record {
      some = omega arith;
      number = room;
      position = lawful.position;
      limit = lawful.limit;
      room = lawful.room;
      some_epoch = lawful.some_epoch;
      epoch = lawful.epoch;
      newcomer = lawful.newcomer;
      few = simp length-drop (omega (arith, lawful.few));
      gaps = gaps_but_one r.gaps.items r.cp lawful.gaps;
    }

-- ---- the oldest gap

pub some_gap : (count : ℕ) (none : Bool) → IsTrue none ↔ (count ≡ 0) → none ≡ false → 0 < count
some_gap zero none same not = absurd (both_ways none not (same.1 refl))
some_gap (suc count) none same not = omega arith

pub record IsOldest (r : Record) (gap : Gap) : Type 0 where
  pub is : r.gaps.items ≡ gap ∷ drop 1 r.gaps.items
  pub low : 0 < gap.first
  pub high : gap.last < r.cp

first_and_rest : (gaps : List Gap) (d : Gap) → 0 < length gaps → gaps ≡ slice_index_or gaps 0 d ∷ drop 1 gaps
first_and_rest [] d some = absurd (omega (arith, some))
first_and_rest (gap ∷ gaps) d some = refl

pub oldest : (r : Record) → IsLawful r → 0 < length r.gaps.items → IsOldest r (oldest_gap r)
oldest r lawful some =
    let is : r.gaps.items ≡ oldest_gap r ∷ drop 1 r.gaps.items = first_and_rest r.gaps.items (record { first = 0; last = 0 }) some in
    let are : AreGaps 0 (oldest_gap r ∷ drop 1 r.gaps.items) r.cp = subst (λ (gaps : List Gap). AreGaps 0 gaps r.cp) is lawful.gaps in
    record { is = is; low = are.0; high = are.2 }

-- a stamp in it does not count
pub in_oldest : (r : Record) (gap : Gap) (stamp : ℕ) → IsOldest r gap → IsTrue (is_in_gap stamp gap) → counts r stamp ≡ false
in_oldest r gap stamp first inside =
    let found : list_any (is_in_gap stamp) r.gaps.items ≡ true =
    ap (list_any (is_in_gap stamp)) first.is ∙ or_left (is_in_gap stamp gap) (list_any (is_in_gap stamp) (drop 1 r.gaps.items)) inside in
    and_right (nat_lt 0 stamp && nat_le stamp r.cp) (not (list_any (is_in_gap stamp) r.gaps.items)) (ap not found)

-- and each other stamp counts as it does without the gap
pub not_in_oldest : (r : Record) (gap : Gap) (stamp : ℕ) → IsOldest r gap → is_in_gap stamp gap ≡ false
    → counts (record_after_clearing r) stamp ≡ counts r stamp
not_in_oldest r gap stamp first outside =
    let same : list_any (is_in_gap stamp) r.gaps.items ≡ list_any (is_in_gap stamp) (drop 1 r.gaps.items) =
    ap (list_any (is_in_gap stamp)) first.is
    ∙ ap (λ (b : Bool). b || list_any (is_in_gap stamp) (drop 1 r.gaps.items)) outside in
    ap (λ (b : Bool). nat_lt 0 stamp && nat_le stamp r.cp && not b) (sym same)

-- 0 is no stamp of it, and one of its stamps is neither 0 nor above the last
pub zero_outside : (r : Record) (gap : Gap) → IsOldest r gap → is_in_gap 0 gap ≡ false
zero_outside r gap first = and_left (nat_le gap.first 0) (nat_le 0 gap.last) (lt-leb gap.first 0 first.low)

pub inside_not_free : (r : Record) (gap : Gap) (stamp : ℕ) → IsOldest r gap → IsTrue (is_in_gap stamp gap) → (stamp == 0 || nat_lt r.cp stamp) ≡ false
inside_not_free r gap stamp first inside =
    let parts = and_parts (nat_le gap.first stamp) (nat_le stamp gap.last) inside in
    let from : gap.first ≤ stamp = leb-true gap.first stamp parts.0 in
    let to : stamp ≤ gap.last = leb-true stamp gap.last parts.1 in
    or_from (stamp == 0) (nat_lt r.cp stamp) (unequal stamp 0 (λ e. omega (arith, e, from, first.low)))
    (le-ltb r.cp stamp (omega (arith, to, first.high)))
