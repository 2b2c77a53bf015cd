-- The record that a reopening writes.
use Rattle.std.proofs.Common.{◌≡◌, ℕ, ◌+◌, ◌-◌, ◌<◌, ◌≤◌, Bool, true, false, not, ◌&&◌, ◌||◌, inl, inr, List, [], ◌∷◌, ◌++◌, length, refl, sym, ap, ◌∙◌, arith}
use Rattle.std.specs.Prelude.{nat_lt, nat_le}
use Rattle.std.specs.List.{list_any}
use Rattle.std.proofs.Math.Bool.{or-false}
use Rattle.std.proofs.lemmas.Bool.{le-leb, lt-leb, cases_lt, and_left, and_right, and_from, or_left, or_right}
use Rattle.std.proofs.lemmas.List.{length-append}
use Rattle.std.proofs.lemmas.List.Folds.{list_any-append}
use Rattle.model.specs.declared.image.TheConstants.{COUNTER_LIMIT, STAMP_WINDOW}
use Rattle.model.specs.declared.record.Gap.{Gap}
use Rattle.model.specs.declared.record.Record.{Record}
use Rattle.model.specs.Layout.{max_gaps}
use Rattle.model.specs.Image.{counts, is_in_gap}
use Rattle.wbl_record.specs.Current.{AreGaps, IsLawful}
use Rattle.wbl_engine.specs.Reopening.{open_gap, with_open_gap}
use Rattle.wbl_engine.proofs.CountLemmas.{counts-above}

-- one more gap, above all others
gaps_more : (low : ℕ) (gaps : List Gap) (cp : ℕ) (gap : Gap) (cp' : ℕ) → low < gap.first → cp ≤ gap.first → gap.first ≤ gap.last → gap.last < cp'
    → AreGaps low gaps cp → AreGaps low (gaps ++ gap ∷ []) cp'
gaps_more low [] cp gap cp' above beyond some high are = (above, some, high, tt)
gaps_more low (g ∷ gaps) cp gap cp' above beyond some high are = (
  are.0,
  are.1,
  omega (arith, are.2, beyond, some, high),
  gaps_more g.last gaps cp gap cp' (omega (arith, are.2, beyond)) beyond some high are.3,
)

-- the record with one more gap obeys its rules
pub open_lawful : (r : Record) → IsLawful r → length r.gaps.items < max_gaps r.layout → r.cd + 1 + STAMP_WINDOW < COUNTER_LIMIT → r.number + 1 < COUNTER_LIMIT
    → IsLawful (with_open_gap r)
open_lawful r lawful room limit number =
    record {
      some = omega arith;
      number = number;
      position = lawful.position;
      limit = refl;
      room = limit;
      some_epoch = lawful.some_epoch;
      epoch = lawful.epoch;
      newcomer = lawful.newcomer;
      few = omega (arith, length-append r.gaps.items (open_gap r ∷ []), room);
      gaps = gaps_more 0 r.gaps.items r.cp (open_gap r) r.cd (omega arith) (omega arith) (omega (arith, lawful.limit)) (omega (arith, lawful.limit)) lawful.gaps;
    }

-- the stamps that were given out before it count as they did
pub counts-open : (r : Record) (stamp : ℕ) → stamp < r.cd → counts (with_open_gap r) stamp ≡ counts r stamp
counts-open r stamp below =
    elim (cases_lt r.cp stamp) [
      | inl above ↦
          let within : is_in_gap stamp (open_gap r) ≡ true =
          and_from (nat_le (r.cp + 1) stamp) (nat_le stamp (r.cd - 1)) (le-leb (r.cp + 1) stamp (omega (arith, above))) (le-leb stamp (r.cd - 1) (omega (arith, below))) in
          let gap : list_any (is_in_gap stamp) (r.gaps.items ++ open_gap r ∷ []) ≡ true =
          list_any-append (is_in_gap stamp) r.gaps.items (open_gap r ∷ [])
          ∙ or_right (list_any (is_in_gap stamp) r.gaps.items) (is_in_gap stamp (open_gap r) || false) (or_left (is_in_gap stamp (open_gap r)) false within) in
          and_right (nat_lt 0 stamp && nat_le stamp r.cd) (not (list_any (is_in_gap stamp) (r.gaps.items ++ open_gap r ∷ []))) (ap not gap)
          ∙ sym (counts-above r stamp above)
      | inr low ↦
          let without : is_in_gap stamp (open_gap r) ≡ false =
          and_left (nat_le (r.cp + 1) stamp) (nat_le stamp (r.cd - 1)) (lt-leb (r.cp + 1) stamp (omega (arith, low))) in
          let gaps : list_any (is_in_gap stamp) (r.gaps.items ++ open_gap r ∷ []) ≡ list_any (is_in_gap stamp) r.gaps.items =
          list_any-append (is_in_gap stamp) r.gaps.items (open_gap r ∷ [])
          ∙ ap (λ (b : Bool). list_any (is_in_gap stamp) r.gaps.items || (b || false)) without ∙ or-false (list_any (is_in_gap stamp) r.gaps.items) in
          let new : nat_le stamp r.cd ≡ true = le-leb stamp r.cd (omega (arith, below)) in
          let old : nat_le stamp r.cp ≡ true = le-leb stamp r.cp low in
          ap (λ (b : Bool). nat_lt 0 stamp && b && not (list_any (is_in_gap stamp) (r.gaps.items ++ open_gap r ∷ []))) (new ∙ sym old)
          ∙ ap (λ (b : Bool). nat_lt 0 stamp && nat_le stamp r.cp && not b) gaps
    ]
