-- Stores, flushes and a fence, whether it succeeds or fails.
use Rattle.std.proofs.Common.{◌≡◌, ℕ, cond, ◌==◌, List, [], ◌∷◌, Result, OnOk, OnErr, refl, inl, inr, sym, subst, ◌∙◌}
use Rattle.std.proofs.lemmas.Bool.{cond-true, eq-eqb}
use Rattle.std.proofs.lemmas.Result.{on_ok_weaker, on_err_weaker}
use Rattle.pmem.specs.Device.{State, Word, MayBe}
use Rattle.pmem.specs.Crash.{IsImage, image_of}
use Rattle.pmem.specs.Runs.{LeavesOnly, Stays, Staged, StageFailed, IsPartlyStored, IsStored, IsOutside, written}
use Rattle.pmem.proofs.Chaining.{Stays-then}
use Rattle.pmem.proofs.Staging.{by_test, written-outside}
use Rattle.model.specs.Image.{Image}
use Rattle.wbl_record.proofs.Results.{on_both}
use Rattle.wbl_migrate.specs.Steps.{KeepsOthers}

-- what both have in common
pub record IsStep (old new : State) (pairs : List (ℕ × ℕ)) : Type 0 where
  pub newest : (word : ℕ) → image_of new.words word ≡ written pairs (image_of old.words) word
  pub stays : Stays old new
  pub moments : LeavesOnly old new (IsPartlyStored pairs old.words)

pub either_step : {T E : Type 0} (old new : State) (pairs : List (ℕ × ℕ)) (lines : List ℕ) (r : Result T E)
    → OnOk r (Staged old new pairs lines) → OnErr r (StageFailed old new pairs) → IsStep old new pairs
either_step old new pairs lines r ok err =
    on_both r (on_ok_weaker r (λ staged. record { newest = staged.newest; stays = staged.stays; moments = staged.moments }) ok)
    (on_err_weaker r (λ failed. record { newest = failed.newest; stays = failed.stays; moments = failed.moments }) err)

pub staged_step : {old new : State} {pairs : List (ℕ × ℕ)} {lines : List ℕ} → Staged old new pairs lines → IsStep old new pairs
staged_step staged = record { newest = staged.newest; stays = staged.stays; moments = staged.moments }

pub failed_step : {old new : State} {pairs : List (ℕ × ℕ)} → StageFailed old new pairs → IsStep old new pairs
failed_step failed = record { newest = failed.newest; stays = failed.stays; moments = failed.moments }

-- each candidate of a word is in some image
with_word : (words : ℕ → Word) (word y : ℕ) → MayBe (words word) y → IsImage words (λ w. cond (w == word) y (image_of words w))
with_word words word y may w =
    by_test (λ x. MayBe (words w) x) w word y (image_of words w) (λ e. subst (λ (v : ℕ). MayBe (words v) y) (sym e) may) (λ other. inl refl)

-- a word that no pair stores to has no candidate that it did not have before
left_outside : {old new : State} {pairs : List (ℕ × ℕ)} → IsStep old new pairs → (word y : ℕ) → IsOutside pairs word → MayBe (new.words word) y → MayBe (old.words word) y
left_outside {old} {new} {pairs} step word y out may =
    let image : Image = λ w. cond (w == word) y (image_of new.words w) in
    let is : image word ≡ y = cond-true (word == word) y (image_of new.words word) (eq-eqb word word refl) in
    elim (step.moments.each image (inl (with_word new.words word y may)) word) [
      | inl was ↦ subst (λ (x : ℕ). MayBe (old.words word) x) is was
      | inr stored ↦ absurd (out (image word) stored)
    ]

pub step_keeps : {old new : State} {pairs : List (ℕ × ℕ)} (IsWritten : ℕ → Type 0) → ((word x : ℕ) → IsStored pairs word x → IsWritten word)
    → IsStep old new pairs → KeepsOthers old new IsWritten
step_keeps {old} {new} {pairs} IsWritten within step =
    record {
      newest = λ word other. step.newest word ∙ written-outside pairs (image_of old.words) word (λ x stored. other (within word x stored));
      left = λ word y other may. left_outside step word y (λ x stored. other (within word x stored)) may;
      stays = step.stays;
    }

pub keeps_then : {a b c : State} {IsWritten : ℕ → Type 0} → KeepsOthers a b IsWritten → KeepsOthers b c IsWritten → KeepsOthers a c IsWritten
keeps_then first second =
    record {
      newest = λ word other. second.newest word other ∙ first.newest word other;
      left = λ word y other may. first.left word y other (second.left word y other may);
      stays = Stays-then first.stays second.stays;
    }

-- where one word is stored, and has not the new value, nothing has changed
pub one_word : (words : ℕ → Word) (at value : ℕ) (image : Image) → IsPartlyStored ((at, value) ∷ []) words image → MayBe (words at) (image at) → IsImage words image
one_word words at value image partly may word =
    elim (partly word) [
      | inl was ↦ was
      | inr stored ↦ elim stored [ inl here ↦ subst (λ (w : ℕ). MayBe (words w) (image w)) here.0 may | inr none ↦ absurd none ]
    ]

pub one_stored : (at value word x : ℕ) → IsStored ((at, value) ∷ []) word x → word ≡ at
one_stored at value word x (inl here) = sym here.0
one_stored at value word x (inr none) = absurd none

pub value_stored : (at value word x : ℕ) → IsStored ((at, value) ∷ []) word x → x ≡ value
value_stored at value word x (inl here) = sym here.1
value_stored at value word x (inr none) = absurd none
