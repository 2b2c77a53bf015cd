-- A call of the simulated device maintains its invariants.
use Rattle.std.proofs.Common.{◌≡◌, ◌⊎◌, ℕ, arith, Bool, true, false, ◌||◌, is_err, OnOk, OnErr, Result, Ok, Err, refl, inl, inr, sym, ◌∙◌}
use Rattle.std.specs.declared.alloc.AllocError.{AllocError}
use Rattle.pmem.specs.declared.cells.Cells.{Cells}
use Rattle.pmem.specs.declared.keep.Keep.{Keep}
use Rattle.pmem.specs.declared.keep.Keep.TheVariants.{Unasked, Awaited, Kept, Forgotten}
use Rattle.pmem.specs.declared.history.History.{History}
use Rattle.pmem.specs.Device.{Word}
use Rattle.pmem.specs.Cell.{Holds}
use Rattle.pmem.specs.Keep.{HoldsKept, is_forgotten}
use Rattle.pmem.proofs.Keeping.{HoldsIn-weaken}

-- a store, whether or not there was memory for it
pub Holds-stored : (r : Result (Unit {0}) AllocError) (refused : Bool) (cells : Cells) (words : ℕ → Word) (starved : Bool) → refused ≡ is_err r
    → OnOk r (Holds cells words starved) → OnErr r (Holds cells words true) → Holds cells words (starved || refused)
Holds-stored (Ok done) refused cells words starved e ok err = HoldsIn-weaken starved refused ok
Holds-stored (Err error) refused cells words starved e ok err =
    let refusal : refused ≡ true = e in
    let full : (starved || refused) ≡ true = grind arith in
    rw full err

forgotten-starved : (keep : Keep) (lines : ℕ) (now : History) (starved : Bool) → HoldsKept keep lines now starved → is_forgotten keep ≡ true → starved ≡ true
forgotten-starved Unasked lines now starved kept e = cc
forgotten-starved (Awaited more) lines now starved kept e = cc
forgotten-starved (Kept cells after) lines now starved kept e = cc
forgotten-starved (Forgotten after) lines now starved kept e = kept

-- the requested moment may be kept now
pub starves_cases : (starved forgotten : Bool) (keep keep' : Keep) (lines : ℕ) (now : History) → HoldsKept keep lines now starved
    → forgotten ≡ is_forgotten keep' → (is_forgotten keep' ≡ true → (is_forgotten keep ≡ true) ⊎ (keep ≡ Awaited 0))
    → (starved || forgotten) ≡ true → (starved ≡ true) ⊎ ((keep ≡ Awaited 0) × (is_forgotten keep' ≡ true))
starves_cases true forgotten keep keep' lines now kept is forgets e = inl refl
starves_cases false forgotten keep keep' lines now kept is forgets e =
    elim (forgets (sym is ∙ e)) [
      | inl was ↦ inl (forgotten-starved keep lines now false kept was)
      | inr awaited ↦ inr (awaited, sym is ∙ e)
    ]

-- a store may have been refused too
pub store_starves : (starved refused forgotten : Bool) (P Q : Type 0) → (refused ≡ true → P) → ((starved || forgotten) ≡ true → (starved ≡ true) ⊎ Q)
    → ((starved || refused) || forgotten) ≡ true → (starved ≡ true) ⊎ (P ⊎ Q)
store_starves true refused forgotten P Q full awaits e = inl refl
store_starves false true forgotten P Q full awaits e = inr (inl (full refl))
store_starves false false forgotten P Q full awaits e = elim (awaits e) [ inl was ↦ inl was | inr q ↦ inr (inr q) ]

pub err-refused : {P : Type 0} (r : Result (Unit {0}) AllocError) (refused : Bool) → refused ≡ is_err r → OnErr r P → refused ≡ true → P
err-refused (Ok done) refused e p is = absurd (let h : false ≡ true = sym e ∙ is in cc)
err-refused (Err error) refused e p is = p
