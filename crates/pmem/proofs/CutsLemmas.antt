-- No made-up state cuts what a device has gone through.
use Rattle.std.proofs.Common.{◌≡◌, ℕ, ◌≤◌, List, [], ◌∷◌, ◌++◌, length, drop, refl, inl, inr, sym, ap, subst, ◌∙◌, arith, length-append}
use Rattle.std.proofs.Math.Seq.{drop-append_seam}
use Rattle.std.proofs.lemmas.Bool.{cases_lt}
use Rattle.pmem.specs.Device.{Word, State, moment}
use Rattle.pmem.specs.Crash.{IsImage}
use Rattle.pmem.specs.Runs.{words_gone_through}
use Rattle.pmem.specs.Cuts.{last, NoCutPasses, CutsAreMoments}

-- an image of the first of these words
abbrev Newest : List (ℕ → Word) → (ℕ → ℕ) → Type 0
Newest [] image = ⊥
Newest (words ∷ past) image = IsImage words image

-- a state that goes back no less far has the same words
same_words : (between : State) (more : List (ℕ → Word)) (image : ℕ → ℕ) → words_gone_through last ≡ more ++ words_gone_through between → 3 ≤ moment between
    → IsImage last.words image → IsImage between.words image
same_words between [] image goes_on late is = subst (λ (gone : List (ℕ → Word)). Newest gone image) goes_on is
same_words between (newer ∷ more) image goes_on late is = absurd (omega (arith, ap length goes_on, length-append more (words_gone_through between), late))

pub no-cut : NoCutPasses
no-cut between to from =
    elim (cases_lt (moment between) 3) [
      | inl early ↦ elim (from.each (λ word. 0) (inr (inl (omega arith, λ word. inl refl)))) [
        | inl e ↦ absurd (omega (arith, e))
        | inr e ↦ absurd (omega (arith, e))
      ]
      | inr late ↦ elim (to.each (λ word. 2) (inl (same_words between from.passed.more (λ word. 2) from.passed.goes_on late (λ word. inl refl)))) [
        | inl e ↦ absurd (omega (arith, e))
        | inr e ↦ absurd (omega (arith, e))
      ]
    ]

pub cuts-are-moments : CutsAreMoments
cuts-are-moments a b now p q e =
    let same : length p.more ≡ length q.more =
    omega (arith, ap length p.goes_on, ap length q.goes_on, length-append p.more (words_gone_through a), length-append q.more (words_gone_through b), e) in
    sym (drop-append_seam p.more (words_gone_through a)) ∙ ap (drop (length p.more)) (sym p.goes_on) ∙ ap (λ (n : ℕ). drop n (words_gone_through now)) same
    ∙ ap (drop (length q.more)) q.goes_on ∙ drop-append_seam q.more (words_gone_through b)
