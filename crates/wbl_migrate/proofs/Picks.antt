-- Elements of lists by their indexes.
use Rattle.std.proofs.Common.{◌≡◌, ◌≢◌, ◌⊎◌, ◌+◌, ◌<◌, inl, inr, ℕ, zero, suc, List, [], ◌∷◌, ◌++◌, length, set, Option, None, Some, IfSome, refl, ap, subst, arith}
use Rattle.std.specs.List.{slice_get}

pub none_some : {X : Type 0} {x : X} → None ≡ Some x → ⊥
none_some e = cc

pub picked : {X : Type 0} {x y : X} → Some x ≡ Some y → x ≡ y
picked e = cc

pub of_some : {X : Type 0} (P : X → Type 0) (found : Option X) (x : X) → IfSome found P → found ≡ Some x → P x
of_some P None x told is = absurd (none_some is)
of_some P (Some y) x told is = subst P (picked is) told

pub pick-set_same : {X : Type 0} (xs : List X) (i : ℕ) (y : X) → i < length xs → slice_get (set xs i y) i ≡ Some y
pick-set_same [] i y lt = absurd (omega (arith, lt))
pick-set_same (x ∷ xs) zero y lt = refl
pick-set_same (x ∷ xs) (suc i) y lt = pick-set_same xs i y (omega (arith, lt))

pub pick-set_other : {X : Type 0} (xs : List X) (i j : ℕ) (y : X) → j ≢ i → slice_get (set xs i y) j ≡ slice_get xs j
pick-set_other [] i j y other = refl
pick-set_other (x ∷ xs) zero zero y other = absurd (other refl)
pick-set_other (x ∷ xs) zero (suc j) y other = refl
pick-set_other (x ∷ xs) (suc i) zero y other = refl
pick-set_other (x ∷ xs) (suc i) (suc j) y other = pick-set_other xs i j y (λ same. other (ap suc same))

pub pick_left : {X : Type 0} (xs ys : List X) (k : ℕ) (x : X) → slice_get xs k ≡ Some x → slice_get (xs ++ ys) k ≡ Some x
pick_left [] ys k x at = absurd (none_some at)
pick_left (y ∷ xs) ys zero x at = at
pick_left (y ∷ xs) ys (suc k) x at = pick_left xs ys k x at

pub pick_right : {X : Type 0} (xs ys : List X) (j k : ℕ) → k ≡ length xs + j → slice_get (xs ++ ys) k ≡ slice_get ys j
pick_right [] ys j k is = let same : k ≡ j = omega (arith, is) in ap (slice_get ys) same
pick_right (x ∷ xs) ys j zero is = absurd (omega (arith, is))
pick_right (x ∷ xs) ys j (suc k) is = pick_right xs ys j k (omega (arith, is))

-- an element of one list behind another is of the first or of the second
pub pick_split : {X : Type 0} (xs ys : List X) (k : ℕ) (x : X) → slice_get (xs ++ ys) k ≡ Some x
    → (slice_get xs k ≡ Some x) ⊎ ((j : ℕ) × (k ≡ length xs + j) × (slice_get ys j ≡ Some x))
pick_split [] ys k x at = inr (k, omega arith, at)
pick_split (y ∷ xs) ys zero x at = inl at
pick_split (y ∷ xs) ys (suc k) x at =
    elim (pick_split xs ys k x at) [
      | inl was ↦ inl was
      | inr found ↦ let is = found.1 in inr (found.0, omega (arith, is), found.2)
    ]
