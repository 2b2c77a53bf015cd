-- What the calls of a device do to the candidates of a word.
use Rattle.std.proofs.Common.{◌≡◌, ◌⊎◌, ℕ, Bool, true, false, not, ◌||◌, cond, List, [], ◌∷◌, ◌++◌, map, filter, refl, inl, inr, sym, subst}
use Rattle.pmem.specs.Device.{Older, Word, IsOlder, MayBe, Only, store_word, flush_word, fence_word}

pub or-true : (a b : Bool) → (a || b) ≡ true → (a ≡ true) ⊎ (b ≡ true)
or-true true b e = inl refl
or-true false b e = inr e

pub true-or : (a b : Bool) → b ≡ true → (a || b) ≡ true
true-or true b e = refl
true-or false b e = e

pub IsOlder-append_left : (a b : List Older) (x : ℕ) → IsOlder a x → IsOlder (a ++ b) x
IsOlder-append_left [] b x h = absurd h
IsOlder-append_left (o ∷ a) b x (inl here) = inl here
IsOlder-append_left (o ∷ a) b x (inr there) = inr (IsOlder-append_left a b x there)

pub IsOlder-append_right : (a b : List Older) (x : ℕ) → IsOlder b x → IsOlder (a ++ b) x
IsOlder-append_right [] b x h = h
IsOlder-append_right (o ∷ a) b x h = inr (IsOlder-append_right a b x h)

pub IsOlder-append_cases : (a b : List Older) (x : ℕ) → IsOlder (a ++ b) x → IsOlder a x ⊎ IsOlder b x
IsOlder-append_cases [] b x h = inr h
IsOlder-append_cases (o ∷ a) b x (inl here) = inl (inl here)
IsOlder-append_cases (o ∷ a) b x (inr there) =
    elim (IsOlder-append_cases a b x there) [ inl prefix ↦ inl (inr prefix) | inr back ↦ inr back ]

-- a store keeps each candidate
pub MayBe-store_word : (x : ℕ) (word : Word) (y : ℕ) → MayBe word y → MayBe (store_word x word) y
MayBe-store_word x word y (inl newest) =
    inr (IsOlder-append_right word.older (record { value = word.newest; passed = false } ∷ []) y (inl newest))
MayBe-store_word x word y (inr older) =
    inr (IsOlder-append_left word.older (record { value = word.newest; passed = false } ∷ []) y older)

-- and adds one
pub MayBe-store_word-cases : (x : ℕ) (word : Word) (y : ℕ) → MayBe (store_word x word) y → MayBe word y ⊎ (x ≡ y)
MayBe-store_word-cases x word y (inl newest) = inr (sym newest)
MayBe-store_word-cases x word y (inr older) =
    elim (IsOlder-append_cases word.older (record { value = word.newest; passed = false } ∷ []) y older) [
      | inl before ↦ inl (inr before)
      | inr last ↦ elim last [ inl is ↦ inl (inl is) | inr none ↦ absurd none ]
    ]

pub IsOlder-passed : (older : List Older) (x : ℕ) → IsOlder (map (λ o. record { value = o.value; passed = true }) older) x → IsOlder older x
IsOlder-passed [] x h = h
IsOlder-passed (o ∷ older) x (inl here) = inl here
IsOlder-passed (o ∷ older) x (inr there) = inr (IsOlder-passed older x there)

pub IsOlder-to_passed : (older : List Older) (x : ℕ) → IsOlder older x → IsOlder (map (λ o. record { value = o.value; passed = true }) older) x
IsOlder-to_passed [] x h = h
IsOlder-to_passed (o ∷ older) x (inl here) = inl here
IsOlder-to_passed (o ∷ older) x (inr there) = inr (IsOlder-to_passed older x there)

-- a flush changes no candidate
pub MayBe-flush_word : (word : Word) (x : ℕ) → MayBe (flush_word word) x → MayBe word x
MayBe-flush_word word x (inl newest) = inl newest
MayBe-flush_word word x (inr older) = inr (IsOlder-passed word.older x older)

pub flush_word-MayBe : (word : Word) (x : ℕ) → MayBe word x → MayBe (flush_word word) x
flush_word-MayBe word x (inl newest) = inl newest
flush_word-MayBe word x (inr older) = inr (IsOlder-to_passed word.older x older)

IsOlder-fence : (older : List Older) (x : ℕ) → IsOlder (filter (λ o. not o.passed) older) x → IsOlder older x
IsOlder-fence [] x h = h
IsOlder-fence (o ∷ older) x h =
    (elim (not o.passed) as (λ b. IsOlder (cond b (o ∷ filter (λ o. not o.passed) older) (filter (λ o. not o.passed) older)) x → IsOlder (o ∷ older) x) [
      | true ↦ λ k. elim k [ inl here ↦ inl here | inr there ↦ inr (IsOlder-fence older x there) ]
      | false ↦ λ k. inr (IsOlder-fence older x k)
    ]) h

-- a fence adds no candidate
pub MayBe-fence_word : (word : Word) (x : ℕ) → MayBe (fence_word word) x → MayBe word x
MayBe-fence_word word x (inl newest) = inl newest
MayBe-fence_word word x (inr older) = inr (IsOlder-fence word.older x older)

-- after a flush a fence leaves only the newest candidate
pub none-passed : (older : List Older) → filter (λ (o : Older). not o.passed) (map (λ (o : Older). record { value = o.value; passed = true }) older) ≡ []
none-passed [] = refl
none-passed (o ∷ older) = none-passed older

-- a word with one candidate has no other value
pub MayBe-alone : (word : Word) (x : ℕ) → word.older ≡ [] → MayBe word x → x ≡ word.newest
MayBe-alone word x e (inl newest) = newest
MayBe-alone word x e (inr older) = absurd (subst (λ (older : List Older). IsOlder older x) e older)

pub Only-alone : (word : Word) → word.older ≡ [] → Only word word.newest
Only-alone word e = record { only = λ y may. MayBe-alone word y e may }
