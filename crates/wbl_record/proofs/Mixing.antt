-- Images that are partly of one device's words.
use Rattle.std.proofs.Common.{◌≡◌, ◌⊎◌, ℕ, refl, inl, inr}
use Rattle.pmem.specs.Device.{Word, MayBe}
use Rattle.pmem.specs.Crash.{IsImage, image_of}

pick : {A B : Type 0} → A ⊎ B → ℕ → ℕ → ℕ
pick (inl a) x y = x
pick (inr b) x y = y

pick_may : (word : Word) (x : ℕ) (B : Type 0) (which : MayBe word x ⊎ B) → MayBe word (pick which x word.newest)
unfolding pick
pick_may word x B (inl may) = may
pick_may word x B (inr b) = inl refl

pick_is : (A B : Type 0) (which : A ⊎ B) (x y : ℕ) → (x ≡ pick which x y) ⊎ B
unfolding pick
pick_is A B (inl a) x y = inl refl
pick_is A B (inr b) x y = inr b

-- an image of the words that agrees with this one wherever the words may have left it
pub record IsMixed (words : ℕ → Word) (Q : ℕ → Type 0) (image : ℕ → ℕ) : Type 0 where
  pub base : ℕ → ℕ
  pub is : IsImage words base
  pub same : (word : ℕ) → (image word ≡ base word) ⊎ Q word

pub mixed : (words : ℕ → Word) (Q : ℕ → Type 0) (image : ℕ → ℕ) → ((word : ℕ) → MayBe (words word) (image word) ⊎ Q word) → IsMixed words Q image
mixed words Q image which =
    record {
      base = λ word. pick (which word) (image word) (words word).newest;
      is = λ word. pick_may (words word) (image word) (Q word) (which word);
      same = λ word. pick_is (MayBe (words word) (image word)) (Q word) (which word) (image word) (words word).newest;
    }

-- what loads return is an image
pub image_of-is : (words : ℕ → Word) → IsImage words (image_of words)
image_of-is words word = inl refl
