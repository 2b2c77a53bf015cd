-- Elements of lists, and of what is made of some of them.
use Rattle.std.proofs.Common.{◌≡◌, ◌≢◌, ℕ, zero, suc, ◌<◌, ◌||◌, ◌⊎◌, inl, inr, ⊎_elim, Bool, true, false, cond, IsTrue, List, [], ◌∷◌, ◌++◌, length, map, get_or, Contains, nat_eq, refl, sym, ap, ◌∙◌, arith, eq-eqb}
use Rattle.std.proofs.lemmas.Bool.{true≢false, false_from_ne_true}
use Rattle.kv_types.specs.declared.place.EntryNo.{EntryNo}
use Rattle.model.specs.Group.{is_listed}
use Rattle.mv_keyspace.specs.Row.{numbers_of}
use Rattle.std.specs.declared.cmp.Ordering.TheVariants.{Less}
use Rattle.std.proofs.lemmas.Map.Keys.{IsDistinct-head, IsDistinct-tail, IsDistinct-cons, sorted_head, sorted_tail}
use Rattle.std.specs.List.{AllByRecursion, IsDistinct, flat_map, list_any}
use Rattle.std.specs.List.Sorted.{IsStrictlySortedBy}
use Rattle.std.specs.Ordering.{nat_cmp}

pub here : {X : Type 0} (x : X) (xs : List X) → Contains (x ∷ xs) x
here x xs = (0, omega arith, refl)

pub later : {X : Type 0} (x y : X) (xs : List X) → Contains xs y → Contains (x ∷ xs) y
later x y xs m = (suc m.0, omega (arith, m.1), m.2)

member_at : {X : Type 0} (x y : X) (xs : List X) (k : ℕ) → k < length (x ∷ xs) → get_or (x ∷ xs) k y ≡ y → (x ≡ y) ⊎ Contains xs y
member_at x y xs zero lt e = inl e
member_at x y xs (suc k) lt e = inr (k, omega (arith, lt), e)

pub first_or_later : {X : Type 0} (x y : X) (xs : List X) → Contains (x ∷ xs) y → (x ≡ y) ⊎ Contains xs y
first_or_later x y xs m = member_at x y xs m.0 m.1 m.2

pub no_member : {X : Type 0} (y : X) → Contains {X = X} [] y → ⊥
no_member y m = let lt = m.1 in omega arith

pub mapped_member : {X A : Type 0} (made : X → A) (xs : List X) (x : X) → Contains xs x → Contains (map made xs) (made x)
mapped_member made [] x m = absurd (no_member x m)
mapped_member made (y ∷ xs) x m = grind (arith, first_or_later y x xs m, here (made y) (map made xs), later (made y) (made x) (map made xs), mapped_member made xs x)

pub member-from_map : {X A : Type 0} (made : X → A) (xs : List X) (a : A) → Contains (map made xs) a → (x : X) × Contains xs x × (made x ≡ a)
member-from_map made [] a m = absurd (no_member a m)
member-from_map made (x ∷ xs) a m =
    ⊎_elim (λ (same : made x ≡ a). (x, here x xs, same)) (λ (rest : Contains (map made xs) a). let found = member-from_map made xs a rest in (found.0, later x found.0 xs found.1, found.2)) (first_or_later (made x) a (map made xs) m)

-- ---- entries that a list names

pub member-from_listed : (i : ℕ) (entries : List EntryNo) → IsTrue (is_listed i entries) → Contains (numbers_of entries) i
member-from_listed i [] t = cc
member-from_listed i (entry ∷ entries) t = grind (arith, here entry.0 (numbers_of entries), later entry.0 i (numbers_of entries), member-from_listed i entries)

pub listed-from_member : (i : ℕ) (entries : List EntryNo) → Contains (numbers_of entries) i → IsTrue (is_listed i entries)
listed-from_member i [] m = absurd (no_member i m)
listed-from_member i (entry ∷ entries) m = grind (arith, first_or_later entry.0 i (numbers_of entries) m, listed-from_member i entries)

pub unlisted : (n : ℕ) (entries : List EntryNo) → AllByRecursion (λ m. nat_eq n m ≡ false) (numbers_of entries) → is_listed n entries ≡ false
unlisted n [] apart = refl
unlisted n (entry ∷ entries) apart = ap (λ b. b || is_listed n entries) apart.0 ∙ unlisted n entries apart.1

-- ---- elements that pass a test

pub member-from_any : {X : Type 0} (test : X → Bool) (xs : List X) → IsTrue (list_any test xs) → (x : X) × Contains xs x × IsTrue (test x)
member-from_any test [] t = cc
member-from_any test (x ∷ xs) t =
    elim (test x) as (λ b. test x ≡ b → IsTrue (b || list_any test xs) → (y : _) × Contains (x ∷ xs) y × IsTrue (test y)) [
      | true ↦ λ own h. (x, here x xs, own)
      | false ↦ λ other h. let found = member-from_any test xs h in (found.0, later x found.0 xs found.1, found.2)
    ] refl t

pub any-from_member : {X : Type 0} (test : X → Bool) (xs : List X) (y : X) → Contains xs y → IsTrue (test y) → IsTrue (list_any test xs)
any-from_member test [] y m t = absurd (no_member y m)
any-from_member test (x ∷ xs) y m t = grind (arith, first_or_later x y xs m, any-from_member test xs y)

pub any_false : {X : Type 0} (test : X → Bool) (xs : List X) → ((x : X) → Contains xs x → IsTrue (test x) → ⊥) → list_any test xs ≡ false
any_false test xs none = false_from_ne_true (list_any test xs) (λ some. let found = member-from_any test xs some in none found.0 found.1 found.2)

-- ---- elements with different numbers

pub differ : (m n : ℕ) → nat_eq m n ≡ false → m ≢ n
differ m n none same = true≢false (sym (eq-eqb m n same) ∙ none)

pub distinct_none : {A : Type 0} (same : A → A → Bool) → IsDistinct same []
unfolding IsDistinct
distinct_none same = tt

module _ {X : Type 0} (number : X → ℕ) where
  pub all_other : (P : X → Type 0) (n : ℕ) (xs : List X) → AllByRecursion (λ m. nat_eq n m ≡ false) (map number xs) → ((x : X) → Contains xs x → n ≢ number x → P x) → AllByRecursion P xs
  all_other P n [] apart holds = tt
  all_other P n (x ∷ xs) apart holds = (holds x (here x xs) (differ n (number x) apart.0), all_other P n xs apart.1 (λ y m. holds y (later x y xs m)))

-- ---- what is made of the elements that pass a test

module _ {X A : Type 0} (test : X → Bool) (made : X → A) where
  abbrev pub if_chosen : X → List A
  if_chosen x = cond (test x) (made x ∷ []) []

  abbrev pub chosen : List X → List A
  chosen = flat_map if_chosen

  pub member-from_chosen : (xs : List X) (a : A) → Contains (chosen xs) a → (x : X) × Contains xs x × IsTrue (test x) × (made x ≡ a)
  member-from_chosen [] a m = absurd (no_member a m)
  member-from_chosen (x ∷ xs) a m =
      elim (test x) as (λ b. test x ≡ b → Contains (cond b (made x ∷ []) [] ++ chosen xs) a → (y : X) × Contains (x ∷ xs) y × IsTrue (test y) × (made y ≡ a)) [
        | true ↦ λ own h.
            ⊎_elim (λ (same : made x ≡ a). (x, here x xs, own, same))
            (λ (rest : Contains (chosen xs) a). let found = member-from_chosen xs a rest in (found.0, later x found.0 xs found.1, found.2, found.3))
            (first_or_later (made x) a (chosen xs) h)
        | false ↦ λ other h. let found = member-from_chosen xs a h in (found.0, later x found.0 xs found.1, found.2, found.3)
      ] refl m

  pub chosen-from_member : (xs : List X) (y : X) → Contains xs y → IsTrue (test y) → Contains (chosen xs) (made y)
  chosen-from_member [] y m t = absurd (no_member y m)
  chosen-from_member (x ∷ xs) y m t =
      elim (test x) as (λ b. test x ≡ b → Contains (cond b (made x ∷ []) [] ++ chosen xs) (made y)) [
        | true ↦ λ own. grind (arith, first_or_later x y xs m, here (made x) (chosen xs), later (made x) (made y) (chosen xs), chosen-from_member xs y)
        | false ↦ λ other. ⊎_elim (λ (same : x ≡ y). absurd (true≢false (sym t ∙ ap test (sym same) ∙ other))) (λ (rest : Contains xs y). chosen-from_member xs y rest t) (first_or_later x y xs m)
      ] refl

  pub all_chosen : (P : A → Type 0) (xs : List X) → AllByRecursion (λ x. IsTrue (test x) → P (made x)) xs → AllByRecursion P (chosen xs)
  all_chosen P [] all = tt
  all_chosen P (x ∷ xs) all = grind (arith, all.0, all_chosen P xs all.1)

  -- they differ by any test by which those of elements with different numbers do
  pub distinct_chosen : (number : X → ℕ) (same : A → A → Bool) (all xs : List X) → ((x : X) → Contains xs x → Contains all x) → IsDistinct nat_eq (map number xs)
      → ((x y : X) → Contains all x → Contains all y → IsTrue (test x) → IsTrue (test y) → number x ≢ number y → same (made x) (made y) ≡ false) → IsDistinct same (chosen xs)
  distinct_chosen number same all [] among once apart = distinct_none same
  distinct_chosen number same all (x ∷ xs) among once apart =
      let rest = distinct_chosen number same all xs (λ y m. among y (later x y xs m)) (IsDistinct-tail nat_eq (number x) (map number xs) once) apart in
      elim (test x) as (λ b. test x ≡ b → IsDistinct same (cond b (made x ∷ []) [] ++ chosen xs)) [
        | true ↦ λ own.
            IsDistinct-cons same (made x) (chosen xs)
            (all_chosen (λ a. same (made x) a ≡ false) xs
            (all_other number (λ y. IsTrue (test y) → same (made x) (made y) ≡ false) (number x) xs (IsDistinct-head nat_eq (number x) (map number xs) once)
            (λ y m apart_from t. apart x y (among x (here x xs)) (among y (later x y xs m)) own t apart_from)))
            rest
        | false ↦ λ other. rest
      ] refl

-- ---- numbers that rise

pub rises_none : IsStrictlySortedBy nat_cmp []
unfolding IsStrictlySortedBy
rises_none = tt

pub rises_more : (n : ℕ) (ns : List ℕ) → AllByRecursion (λ m. nat_cmp n m ≡ Less) ns → IsStrictlySortedBy nat_cmp ns → IsStrictlySortedBy nat_cmp (n ∷ ns)
unfolding IsStrictlySortedBy
rises_more n ns below rest = (below, rest)

module _ {X : Type 0} (test : X → Bool) (number : X → ℕ) where
  all_if_chosen : (P : ℕ → Type 0) (xs : List X) → AllByRecursion P (map number xs) → AllByRecursion (λ x. IsTrue (test x) → P (number x)) xs
  all_if_chosen P [] all = tt
  all_if_chosen P (x ∷ xs) all = (λ t. all.0, all_if_chosen P xs all.1)

  -- the numbers of some of the elements rise where those of all do
  pub chosen_rise : (xs : List X) → IsStrictlySortedBy nat_cmp (map number xs) → IsStrictlySortedBy nat_cmp (chosen test number xs)
  chosen_rise [] up = rises_none
  chosen_rise (x ∷ xs) up =
      let rest = chosen_rise xs (sorted_tail nat_cmp (number x) (map number xs) up) in
      elim (test x) as (λ b. test x ≡ b → IsStrictlySortedBy nat_cmp (cond b (number x ∷ []) [] ++ chosen test number xs)) [
        | true ↦ λ own.
            rises_more (number x) (chosen test number xs)
            (all_chosen test number (λ m. nat_cmp (number x) m ≡ Less) xs (all_if_chosen (λ m. nat_cmp (number x) m ≡ Less) xs (sorted_head nat_cmp (number x) (map number xs) up)))
            rest
        | false ↦ λ other. rest
      ] refl
