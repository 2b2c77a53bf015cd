-- Which stamps count.
use Rattle.std.proofs.Common.{◌≡◌, ℕ, ◌<◌, ◌≤◌, Bool, true, false, not, ◌&&◌, List, [], ◌∷◌, refl, sym, ap, ◌∙◌, arith}
use Rattle.std.specs.Prelude.{nat_lt, nat_le}
use Rattle.std.specs.List.{list_any}
use Rattle.std.proofs.lemmas.Bool.{lt-ltb, le-leb, lt-leb, and_left, and_right, and_from, and_parts, or_from, leb-true, ltb-true}
use Rattle.model.specs.declared.record.Gap.{Gap}
use Rattle.model.specs.declared.record.Record.{Record}
use Rattle.model.specs.Image.{counts, is_in_gap}
use Rattle.wbl_record.specs.Current.{AreGaps}

-- the record with another last stamp
abbrev pub with_cp : Record → ℕ → Record
with_cp r c = record r { cp = c }

-- no gap has the stamp
abbrev pub is_gap_free : Record → ℕ → Bool
is_gap_free r stamp = not (list_any (is_in_gap stamp) r.gaps.items)

pub counts-zero : (r : Record) → counts r 0 ≡ false
counts-zero r = refl

pub counts-above : (r : Record) (stamp : ℕ) → r.cp < stamp → counts r stamp ≡ false
counts-above r stamp above =
    and_left (nat_lt 0 stamp && nat_le stamp r.cp) (is_gap_free r stamp) (and_right (nat_lt 0 stamp) (nat_le stamp r.cp) (lt-leb stamp r.cp above))

-- a stamp that counts is at most the last one
pub counts-below : (r : Record) (stamp : ℕ) → counts r stamp ≡ true → (0 < stamp) × (stamp ≤ r.cp)
counts-below r stamp e =
    let parts = and_parts (nat_lt 0 stamp && nat_le stamp r.cp) (is_gap_free r stamp) e in
    let both = and_parts (nat_lt 0 stamp) (nat_le stamp r.cp) parts.0 in
    (ltb-true 0 stamp both.0, leb-true stamp r.cp both.1)

-- an older stamp counts as before
pub counts-later : (r : Record) (c stamp : ℕ) → stamp ≤ r.cp → r.cp ≤ c → counts (with_cp r c) stamp ≡ counts r stamp
counts-later r c stamp low up =
    let new : nat_le stamp c ≡ true = le-leb stamp c (omega arith) in
    let old : nat_le stamp r.cp ≡ true = le-leb stamp r.cp low in
    ap (λ (b : Bool). nat_lt 0 stamp && b && is_gap_free r stamp) (new ∙ sym old)

-- a new stamp counts
pub counts-new : (r : Record) (c stamp : ℕ) → 0 < stamp → stamp ≤ c → list_any (is_in_gap stamp) r.gaps.items ≡ false
    → counts (with_cp r c) stamp ≡ true
counts-new r c stamp some low free =
    and_from (nat_lt 0 stamp && nat_le stamp c) (is_gap_free r stamp)
    (and_from (nat_lt 0 stamp) (nat_le stamp c) (lt-ltb 0 stamp some) (le-leb stamp c low)) (ap not free)

-- ---- gaps

-- gaps that are in order contain no stamp above the last one
pub no_gap_above : (low : ℕ) (gaps : List Gap) (cp : ℕ) → AreGaps low gaps cp → (stamp : ℕ) → cp < stamp → list_any (is_in_gap stamp) gaps ≡ false
no_gap_above low [] cp are stamp above = refl
no_gap_above low (gap ∷ gaps) cp are stamp above =
    or_from (is_in_gap stamp gap) (list_any (is_in_gap stamp) gaps)
    (and_right (nat_le gap.first stamp) (nat_le stamp gap.last) (lt-leb stamp gap.last (omega (arith, are.2, above))))
    (no_gap_above gap.last gaps cp are.3 stamp above)

-- and are in order below each later stamp
pub AreGaps-later : (low : ℕ) (gaps : List Gap) (cp later : ℕ) → cp ≤ later → AreGaps low gaps cp → AreGaps low gaps later
AreGaps-later low [] cp later up are = tt
AreGaps-later low (gap ∷ gaps) cp later up are =
    (are.0, are.1, omega (arith, are.2, up), AreGaps-later gap.last gaps cp later up are.3)
