-- The moment that the next crash picks from.
use Rattle.std.proofs.Common.{◌≡◌, ℕ, ◌≤◌, Bool, false, nat_le, ◌||◌, List, [], ◌∷◌, length, Option, refl, ap, ◌∙◌, arith}
use Rattle.std.proofs.lemmas.Bool.{cond-false, lt-leb}
use Rattle.pmem.specs.declared.cells.Cells.{Cells}
use Rattle.pmem.specs.declared.history.History.{History}
use Rattle.pmem.specs.declared.keep.Keep.{Keep}
use Rattle.pmem.specs.declared.keep.Keep.TheVariants.{Unasked, Awaited, Kept, Forgotten}
use Rattle.pmem.specs.declared.cells.Candidate.{Candidate}
use Rattle.pmem.specs.Device.{Word}
use Rattle.pmem.specs.Crash.{words_at}
use Rattle.pmem.specs.History.{words_of, past_of}
use Rattle.pmem.specs.Cell.{Holds, HoldsIn}
use Rattle.pmem.specs.Keep.{HoldsCopy, HoldsKept}

-- the words at the present moment, and at any later one, are the present words
pub words_at-now : (now : ℕ → Word) (past : List (ℕ → Word)) (t : ℕ) → length past ≤ t → words_at now past t ≡ now
words_at-now now [] t come = refl
words_at-now now (words ∷ past) t come = cond-false (nat_le t (length past)) _ _ (lt-leb t (length past) come)

-- what is held of an unstarved device is held of a starved one
pub HoldsIn-weaken : {newest : List ℕ} {heads : List (Option ℕ)} {pool : List Candidate} {words : ℕ → Word} (a b : Bool)
    → HoldsIn newest heads pool words a → HoldsIn newest heads pool words (a || b)
HoldsIn-weaken a b holds =
    record {
      sizes = holds.sizes;
      chained = holds.chained;
      newest = holds.newest;
      exact = λ fed. holds.exact (grind arith);
      within = holds.within;
    }

pub HoldsKept-weaken : (keep : Keep) (lines : ℕ) (now : History) (a b : Bool) → HoldsKept keep lines now a → HoldsKept keep lines now (a || b)
HoldsKept-weaken Unasked lines now a b kept = tt
HoldsKept-weaken (Awaited more) lines now a b kept = tt
HoldsKept-weaken (Kept cells after) lines now a b kept =
    record { held = HoldsIn-weaken a b kept.held; lines = kept.lines; before = kept.before; went = kept.went }
HoldsKept-weaken (Forgotten after) lines now a b kept = ap (λ (c : Bool). c || b) kept

-- a copy of the present cells
pub HoldsCopy-now : (cells copy : Cells) (after now : History) (lines : ℕ) (starved : Bool) → after ≡ now
    → copy.newest.items ≡ cells.newest.items → copy.heads.items ≡ cells.heads.items → copy.pool.items ≡ cells.pool.items
    → length cells.heads.items ≡ lines → Holds cells (words_of now) starved → HoldsCopy copy after lines now (starved || false)
HoldsCopy-now cells copy after now lines starved same newest heads pool lines_is holds =
    rw same (record {
      held = rw (newest, heads, pool) (HoldsIn-weaken starved false holds);
      lines = ap length heads ∙ lines_is;
      before = omega arith;
      went = λ word. ap (λ (w : ℕ → Word). w word) (words_at-now (words_of now) (past_of now) (length (past_of now)) (omega arith));
    })
