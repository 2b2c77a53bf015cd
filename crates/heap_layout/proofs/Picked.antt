-- What is picked by number: the f i of each i below n that passes, in rising order.
use Rattle.std.proofs.Common.{◌≡◌, ◌≢◌, ℕ, zero, suc, ◌<◌, ⊎_elim, List, [], ◌∷◌, ◌++◌, All, length, Bool, true, false, refl, sym, ◌∙◌, subst, ap₂, arith, true≢false, append-nil, length-append}
use Rattle.std.proofs.Math.ListN.{get_or-append}
use Rattle.std.proofs.Math.Seq.{get_or-append_seam}
use Rattle.std.specs.Prelude.{if◌then◌else◌}
use Rattle.std.proofs.lemmas.Bool.{cases_eq, cases_order}
use Rattle.std.proofs.lemmas.List.Elements.{All-push, All-nil}
use Rattle.std.proofs.lemmas.List.Quantifiers.{all_pairs_push}
use Rattle.heap_layout.specs.Versions.{NoTwo}

-- ---- one more element, if b says so

abbrev push_if : {X : Type 0} → Bool → List X → X → List X
push_if b xs y = xs ++ (if b then y ∷ [] else [])

module _ {X : Type 0} (xs : List X) (y : X) where
  All-push_if : (P : X → Type 0) (b : Bool) → All P xs → (b ≡ true → P y) → All P (push_if b xs y)
  All-push_if P true all last = All-push P xs y all (last refl)
  All-push_if P false all last = subst (All P) (sym (append-nil xs)) all

  All-before : (P : X → Type 0) (b : Bool) → All P (push_if b xs y) → All P xs
  All-before P true all k d within =
      subst P (get_or-append xs (y ∷ []) d k within) (all k d (omega (arith, length-append xs (y ∷ []))))
  All-before P false all k d within = subst (All P) (append-nil xs) all k d within

  All-last : (P : X → Type 0) (b : Bool) → All P (push_if b xs y) → b ≡ true → P y
  All-last P true all e = subst P (get_or-append_seam xs y [] y) (all (length xs) y (omega (arith, length-append xs (y ∷ []))))
  All-last P false all e = absurd (true≢false (sym e))

  NoTwo-push_if : (test : X → X → Bool) (b : Bool) → NoTwo test xs → (b ≡ true → All (λ x. test x y ≡ false) xs) → NoTwo test (push_if b xs y)
  NoTwo-push_if test true none last = all_pairs_push (λ x z. test x z ≡ false) xs y none (last refl)
  NoTwo-push_if test false none last = subst (NoTwo test) (sym (append-nil xs)) none

  NoTwo-before : (test : X → X → Bool) (b : Bool) → NoTwo test (push_if b xs y) → NoTwo test xs
  NoTwo-before test true none i j d less within =
      sym (ap₂ test (get_or-append xs (y ∷ []) d i (omega arith)) (get_or-append xs (y ∷ []) d j within))
      ∙ none i j d less (omega (arith, length-append xs (y ∷ [])))
  NoTwo-before test false none i j d less within = subst (NoTwo test) (append-nil xs) none i j d less within

  NoTwo-last : (test : X → X → Bool) (b : Bool) → NoTwo test (push_if b xs y) → b ≡ true → All (λ x. test x y ≡ false) xs
  NoTwo-last test true none e k d within =
      sym (ap₂ test (get_or-append xs (y ∷ []) d k within) (get_or-append_seam xs y [] d))
      ∙ none k (length xs) d within (omega (arith, length-append xs (y ∷ [])))
  NoTwo-last test false none e k d within = absurd (true≢false (sym e))

-- ---- all that pass

module _ {X : Type 0} (passes : ℕ → Bool) (f : ℕ → X) where
  abbrev pub picked : ℕ → List X
  picked zero = []
  picked (suc i) = push_if (passes i) (picked i) (f i)

  pub All-picked : (P : X → Type 0) (n : ℕ) → ((i : ℕ) → i < n → passes i ≡ true → P (f i)) → All P (picked n)
  All-picked P zero each = All-nil P
  All-picked P (suc n) each =
      All-push_if (picked n) (f n) P (passes n) (All-picked P n (λ i less. each i (omega arith))) (each n (omega arith))

  pub at_picked : (P : X → Type 0) (n : ℕ) → All P (picked n) → (i : ℕ) → i < n → passes i ≡ true → P (f i)
  at_picked P zero all i less p = absurd (omega arith)
  at_picked P (suc n) all i less p =
      ⊎_elim (λ same. subst (λ k. P (f k)) (sym same) (All-last (picked n) (f n) P (passes n) all (subst (λ k. passes k ≡ true) same p)))
      (λ other. at_picked P n (All-before (picked n) (f n) P (passes n) all) i (omega (arith, other)) p) (cases_eq i n)

  module _ (test : X → X → Bool) where
    NoTwo-ordered : (n : ℕ) → ((i j : ℕ) → i < j → j < n → passes i ≡ true → passes j ≡ true → test (f i) (f j) ≡ false) → NoTwo test (picked n)
    NoTwo-ordered zero each = λ i j d less within. absurd (omega arith)
    NoTwo-ordered (suc n) each =
        NoTwo-push_if (picked n) (f n) test (passes n) (NoTwo-ordered n (λ i j less below. each i j less (omega arith)))
        (λ last. All-picked (λ x. test x (f n) ≡ false) n (λ i less p. each i n less (omega arith) p last))

    ordered-NoTwo : (n : ℕ) → NoTwo test (picked n) → (i j : ℕ) → i < j → j < n → passes i ≡ true → passes j ≡ true → test (f i) (f j) ≡ false
    ordered-NoTwo zero none i j less below p q = absurd (omega arith)
    ordered-NoTwo (suc n) none i j less below p q =
        ⊎_elim
        (λ same. subst (λ k. test (f i) (f k) ≡ false) (sym same)
        (at_picked (λ x. test x (f n) ≡ false) n (NoTwo-last (picked n) (f n) test (passes n) none (subst (λ k. passes k ≡ true) same q)) i (omega (arith, same)) p))
        (λ other. ordered-NoTwo n (NoTwo-before (picked n) (f n) test (passes n) none) i j less (omega (arith, other)) p q) (cases_eq j n)

    -- in either order
    pub NoTwo-picked : (n : ℕ) → ((i j : ℕ) → i < n → j < n → i ≢ j → passes i ≡ true → passes j ≡ true → test (f i) (f j) ≡ false) → NoTwo test (picked n)
    NoTwo-picked n each = NoTwo-ordered n (λ i j less below. each i j (omega arith) below (λ same. omega (arith, same, less)))

    pub picked-NoTwo : ((x y : X) → test x y ≡ test y x) → (n : ℕ) → NoTwo test (picked n)
        → (i j : ℕ) → i < n → j < n → i ≢ j → passes i ≡ true → passes j ≡ true → test (f i) (f j) ≡ false
    picked-NoTwo flips n none i j below below' apart p q =
        ⊎_elim (λ same. absurd (apart same))
        (λ order. ⊎_elim (λ less. ordered-NoTwo n none i j less below' p q) (λ more. flips (f i) (f j) ∙ ordered-NoTwo n none j i more below q p) order)
        (cases_order i j)
