-- Lists of which no two elements pass a test: in another order, behind a function, and sorted.
use Rattle.std.proofs.Common.{◌≡◌, ◌↔◌, ℕ, ◌+◌, ◌<◌, List, [], ◌∷◌, map, length, get_or, Bool, true, false, IsTrue, IsPermutation, refl, sym, ◌∙◌, ap₂, arith, true≢false}
use Rattle.std.proofs.lemmas.List.{get_or-map, length-map}
use Rattle.std.proofs.lemmas.List.Sorted.{IsPermutation-sym, sorted_far}
use Rattle.std.proofs.lemmas.Map.Keys.{apart_from_distinct, IsDistinct-from_apart, IsDistinct-IsPermutation}
use Rattle.std.specs.Cmp.{IsStrictWeakOrder}
use Rattle.std.specs.List.{AllAdjacentBelow, IsAllAdjacentAnswer}
use Rattle.std.specs.List.Sorted.{IsSortedBy}
use Rattle.heap_layout.specs.Versions.{NoTwo}

pub NoTwo-permutation : {X : Type 0} (test : X → X → Bool) → ((x y : X) → test x y ≡ test y x) → (xs ys : List X) → IsPermutation xs ys → NoTwo test xs → NoTwo test ys
NoTwo-permutation test flips xs ys moved none i j d less within =
    apart_from_distinct test ys i j d (IsDistinct-IsPermutation test flips xs ys moved (IsDistinct-from_apart test xs none)) less within

pub NoTwo-moved : {X : Type 0} (test : X → X → Bool) → ((x y : X) → test x y ≡ test y x) → (xs ys : List X) → IsPermutation xs ys → NoTwo test xs ↔ NoTwo test ys
NoTwo-moved test flips xs ys moved =
    (NoTwo-permutation test flips xs ys moved, NoTwo-permutation test flips ys xs (IsPermutation-sym xs ys moved))

-- any element of a list that has one
some_element : {X : Type 0} (xs : List X) (n : ℕ) → n < length xs → X
some_element [] n within = absurd (omega arith)
some_element (x ∷ xs) n within = x

-- Behind a function.
module _ {X Y : Type 0} (f : X → Y) (test : Y → Y → Bool) (xs : List X) where
  pub NoTwo-map : NoTwo (λ x y. test (f x) (f y)) xs → NoTwo test (map f xs)
  NoTwo-map none i j d less within =
      let inside : j < length xs = omega (arith, length-map xs f) in
      let e = some_element xs j inside in
      ap₂ test (get_or-map f xs i e d (omega arith)) (get_or-map f xs j e d inside) ∙ none i j e less inside

  pub NoTwo-unmap : NoTwo test (map f xs) → NoTwo (λ x y. test (f x) (f y)) xs
  NoTwo-unmap none i j d less within =
      let inside : j < length (map f xs) = omega (arith, length-map xs f) in
      sym (ap₂ test (get_or-map f xs i d (f d) (omega arith)) (get_or-map f xs j d (f d) within)) ∙ none i j (f d) less inside

-- A test of neighbours decides it for a sorted list: where two elements pass the test, so do the first of them and the one after it.
module _ {X : Type 0} (lt test fits : X → X → Bool) (order : IsStrictWeakOrder lt)
    (far : (x z y : X) → lt z x ≡ false → lt y z ≡ false → fits x z ≡ true → test x y ≡ false) (xs : List X) (up : IsSortedBy lt xs) where
  NoTwo-from_neighbours : AllAdjacentBelow (λ x y. true ≡ fits x y) xs (length xs) → NoTwo test xs
  NoTwo-from_neighbours all i j d less within =
      let inside : i + 1 < length xs = omega arith in
      far (get_or xs i d) (get_or xs (i + 1) d) (get_or xs j d) (up i d (omega arith) inside) (sorted_far lt order xs up (i + 1) j d (omega arith) within)
      (sym (all i d inside))

  pub NoTwo-decided : ((k : ℕ) (d : X) → k + 1 < length xs → fits (get_or xs k d) (get_or xs (k + 1) d) ≡ false → test (get_or xs k d) (get_or xs (k + 1) d) ≡ true)
      → (b : Bool) → IsAllAdjacentAnswer (λ x y b. b ≡ fits x y) xs b → IsTrue b ↔ NoTwo test xs
  NoTwo-decided near true all = (λ _. NoTwo-from_neighbours all, λ _. refl)
  NoTwo-decided near false found = (
    λ never. absurd (cc),
    λ none.
        let k = found.0 in
        let d = some_element xs (k + 1) found.1 in
        absurd (true≢false (sym (near k d found.1 (sym (found.2 d))) ∙ none k (k + 1) d (omega arith) found.1)),
  )
