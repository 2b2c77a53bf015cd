-- After a change of one view there is still a seat that raises the word.
use Rattle.std.proofs.Common.{◌≡◌, ◌≢◌, ℕ, zero, suc, Bool, true, false, true≢false, List, [], ◌∷◌, set, sym, refl, ap, ◌∙◌, subst}
use mathlib.Core.Option.{some, some-ne-none, some-injective}
use mathlib.Core.Logic.{dite}
use native.Mathlib.Decide.{ℕ_discrete}
use lib.ListN.{get_elem?}
use Rattle.atomic_table.proofs.Lists.{set_else}
use Rattle.marks.specs.declared.view.MarkView.{MarkView}
use Rattle.marks.specs.Rule.{Has}

-- a flag that is not set
pub unset : {X : Type 0} → false ≡ true → X
unset e = absurd (true≢false (sym e))

pub set_at : {A : Type 0} (l : List A) (i : ℕ) (a b : A) → get_elem? l i ≡ some a → get_elem? (set l i b) i ≡ some b
set_at [] i a b e = absurd (some-ne-none a (sym e))
set_at (x ∷ xs) zero a b e = refl
set_at (x ∷ xs) (suc i) a b e = set_at xs i a b e

-- a seat that has the raise still has it after any seat's view changes, if that view has the raise exactly when it had it before
pub has_after : (raise : MarkView → Bool) (views : List MarkView) (own raiser : ℕ) (v w : MarkView) → get_elem? views own ≡ some v → raise w ≡ raise v → Has raise views raiser → Has raise (set views own w) raiser
has_after raise views own raiser v w at same has = dite (ℕ_discrete raiser own)
    (λ (here : raiser ≡ own).
    let known : v ≡ has.0 = some-injective v has.0 (sym at ∙ ap (λ k. get_elem? views k) (sym here) ∙ has.1) in
    (w, subst (λ k. get_elem? (set views own w) k ≡ some w) (sym here) (set_at views own v w at), same ∙ ap raise known ∙ has.2))
    (λ (away : raiser ≢ own). (has.0, set_else views own raiser w away ∙ has.1, has.2))
