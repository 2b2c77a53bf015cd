-- Extents that share no line, in the order of their lines: each lies behind the one before it.
use Rattle.std.proofs.Common.{◌≡◌, ℕ, zero, suc, ◌+◌, ◌<◌, ◌≤◌, inl, inr, nat_le, nat_lt, cond, ◌&&◌, IsTrue, List, [], ◌∷◌, length, get_or, refl, sym, ap, subst, ◌∙◌, arith}
use Rattle.std.proofs.lemmas.Bool.{and_parts, cases_lt}
use Rattle.std.proofs.lemmas.Bool.Decides.{nat_tests}
use Rattle.std.proofs.lemmas.List.Sorted.{All-permutation, Contains-permutation, sum_by-IsPermutation}
use Rattle.std.proofs.lemmas.List.Sums.{sum_by-cons}
use Rattle.std.specs.List.{All, AllByRecursion, sum_by}
use Rattle.std.specs.List.Sorted.{IsNonDecreasingBy}
use Rattle.kv_types.specs.declared.place.Extent.{Extent}
use Rattle.packing.specs.declared.placed.Placed.{Placed}
use Rattle.packing.specs.Moves.{are_all_apart, are_apart, is_free}
use Rattle.packing.specs.Sliding.{CanPass, IsInOrder, numbered, total}
use Rattle.packing.proofs.Stack.{Among, Chain, Stack, at, end_of}

-- ---- lists of extents with their indices

among_holds : (P : Placed → Type 0) (ps : List Placed) (p : Placed) → All P ps → Among ps p → P p
among_holds P [] p all among = absurd among
among_holds P (q ∷ qs) p all (inl is) = subst P (sym is) (all 0 q (omega arith))
among_holds P (q ∷ qs) p all (inr among) = among_holds P qs p (λ k d within. all (suc k) d (omega arith)) among

among_at : (ps : List Placed) (k : ℕ) (p : Placed) → k < length ps → get_or ps k p ≡ p → Among ps p
among_at [] k p within is = absurd (omega arith)
among_at (q ∷ qs) zero p within is = inl (sym is)
among_at (q ∷ qs) (suc k) p within is = inr (among_at qs k p (omega arith) is)

length-numbered : (index : ℕ) (xs : List Extent) → length (numbered index xs) ≡ length xs
length-numbered index [] = refl
length-numbered index (x ∷ xs) = ap suc (length-numbered (index + 1) xs)

numbered-at : (index : ℕ) (xs : List Extent) (k : ℕ) (d : Placed) → k < length xs → get_or (numbered index xs) k d ≡ record { index = index + k; extent = at xs k }
numbered-at index [] k d within = absurd (omega arith)
numbered-at index (x ∷ xs) zero d within = ap (λ (i : ℕ). record { index = i; extent = x }) (omega arith)
numbered-at index (x ∷ xs) (suc k) d within =
    numbered-at (index + 1) xs k d (omega arith) ∙ ap (λ (i : ℕ). record { index = i; extent = at xs k }) (omega arith)

-- ---- sums over them

pub total_of : List Placed → ℕ
total_of ps = sum_by (λ (p : Placed). p.extent.lines) ps

pub total_of-cons : (p : Placed) (ps : List Placed) → total_of (p ∷ ps) ≡ p.extent.lines + total_of ps
unfolding total_of
total_of-cons p ps = sum_by-cons (λ (p : Placed). p.extent.lines) p ps

sum-numbered : (f : Extent → ℕ) (index : ℕ) (xs : List Extent) → sum_by (λ (p : Placed). f p.extent) (numbered index xs) ≡ sum_by f xs
sum-numbered f index [] = refl
sum-numbered f index (x ∷ xs) =
    sum_by-cons (λ (p : Placed). f p.extent) (record { index = index; extent = x }) (numbered (index + 1) xs) ∙ ap (λ n. f x + n) (sum-numbered f (index + 1) xs) ∙ sym (sum_by-cons f x xs)

total-sum : (xs : List Extent) → sum_by (λ (e : Extent). e.lines) xs ≡ total xs
total-sum [] = refl
total-sum (x ∷ xs) = sum_by-cons (λ (e : Extent). e.lines) x xs ∙ ap (λ n. x.lines + n) (total-sum xs)

pub total_of-order : (extents : List Extent) (placed : List Placed) → IsInOrder extents placed → total_of placed ≡ total extents
unfolding total_of
total_of-order extents placed order =
    sum_by-IsPermutation (λ (p : Placed). p.extent.lines) (numbered 0 extents) placed order.permutation ∙ sum-numbered (λ (e : Extent). e.lines) 0 extents ∙ total-sum extents

-- whether the line is one of the extent's, as a number
abbrev covers : ℕ → Extent → ℕ
covers line e = cond (nat_le e.first_line line && nat_lt line (end_of e)) 1 0

covers_one : (line : ℕ) (e : Extent) → e.first_line ≤ line → line < end_of e → covers line e ≡ 1
covers_one line e from before = grind (arith, nat_tests)

covers_most : (line : ℕ) (e : Extent) → covers line e ≤ 1
covers_most line e = grind (arith, nat_tests)

-- of extents that are apart from one no other has its lines
not_both : (line : ℕ) (a b : Extent) → IsTrue (are_apart a b) → covers line a + covers line b ≤ 1
not_both line a b apart = grind (arith, nat_tests, apart)

covers_none : (line : ℕ) (x : Extent) (xs : List Extent) → IsTrue (is_free x xs) → covers line x ≡ 1 → sum_by (covers line) xs ≡ 0
covers_none line x [] free is = refl
covers_none line x (y ∷ ys) free is =
    let parts = and_parts (are_apart x y) (is_free x ys) free in
    let both = not_both line x y parts.0 in
    let rest = covers_none line x ys parts.1 is in
    let sum = sum_by-cons (covers line) y ys in
    omega (arith, both, is, rest, sum)

covers_once : (line : ℕ) (xs : List Extent) → IsTrue (are_all_apart xs) → sum_by (covers line) xs ≤ 1
covers_once line [] apart = omega arith
covers_once line (x ∷ xs) apart =
    let parts = and_parts (is_free x xs) (are_all_apart xs) apart in
    let sum = sum_by-cons (covers line) x xs in
    let rest = covers_once line xs parts.1 in
    let most = covers_most line x in
    elim (cases_lt (covers line x) 1) [
      | inl none ↦ omega (arith, none, sum, rest)
      | inr one ↦ let own : covers line x ≡ 1 = omega (arith, one, most) in let others = covers_none line x xs parts.0 own in omega (arith, own, others, sum)
    ]

-- ---- in order

abbrev HeadFrom : ℕ → List Placed → Type 0
HeadFrom low [] = Unit {0}
HeadFrom low (p ∷ ps) = low ≤ p.extent.first_line

module _ (first end lines : ℕ) where
  chain_of : (low : ℕ) (ps : List Placed) → ((p : Placed) → Among ps p → CanPass first end lines p.extent) → IsNonDecreasingBy (λ (p : Placed). p.extent.first_line) ps
      → ((line : ℕ) → sum_by (λ (p : Placed). covers line p.extent) ps ≤ 1) → HeadFrom low ps → Chain first end lines low ps
  chain_of low [] each sorted once from = tt
  chain_of low (p ∷ []) each sorted once from = (from, each p (inl refl), tt)
  chain_of low (p ∷ (q ∷ ps)) each sorted once from =
      let line = q.extent.first_line in
      let behind : p.extent.first_line ≤ line = sorted 0 1 p (omega arith) (omega arith) in
      let some = (each q (inr (inl refl))).some in
      let sum = sum_by-cons (λ (r : Placed). covers line r.extent) p (q ∷ ps) in
      let sum' = sum_by-cons (λ (r : Placed). covers line r.extent) q ps in
      let most = once line in
      let own = covers_one line q.extent (omega arith) (omega (arith, some)) in
      let next : end_of p.extent ≤ line = elim (cases_lt line (end_of p.extent)) [
        | inl reaches ↦ let other = covers_one line p.extent behind reaches in absurd (omega (arith, sum, sum', most, own, other))
        | inr clear ↦ clear
      ] in (
        from,
        each p (inl refl),
        chain_of (end_of p.extent) (q ∷ ps) (λ r among. each r (inr among)) (λ i j d le within. sorted (suc i) (suc j) d (omega (arith, le)) (omega (arith, within)))
            (λ l. let all = once l in let head = sum_by-cons (λ (r : Placed). covers l r.extent) p (q ∷ ps) in omega (arith, all, head)) next,
      )

head_from : (first end lines : ℕ) (ps : List Placed) → ((p : Placed) → Among ps p → CanPass first end lines p.extent) → HeadFrom first ps
head_from first end lines [] each = tt
head_from first end lines (p ∷ ps) each = (each p (inl refl)).from

each-at : (P : Extent → Type 0) (xs : List Extent) (i : ℕ) → AllByRecursion P xs → i < length xs → P (at xs i)
each-at P [] i all within = absurd (omega arith)
each-at P (x ∷ xs) zero all within = all.0
each-at P (x ∷ xs) (suc i) all within = each-at P xs i all.1 (omega arith)

module _ (first end lines : ℕ) (extents : List Extent) (placed : List Placed) (order : IsInOrder extents placed) where
  IsHere : Placed → Type 0
  IsHere p = (p.index < length extents) × (at extents p.index ≡ p.extent)

  here : (p : Placed) → Among placed p → IsHere p
  unfolding IsHere
  here p among =
      among_holds IsHere placed p
      (All-permutation IsHere (numbered 0 extents) placed order.permutation
      (λ k d within.
      let has : k < length extents = subst (λ n. k < n) (length-numbered 0 extents) within in
      subst IsHere (sym (numbered-at 0 extents k d has)) (omega (arith, has), ap (at extents) (omega arith)))) among

  among : (i : ℕ) → i < length extents → Among placed (record { index = i; extent = at extents i })
  among i has =
      let one : Placed = record { index = i; extent = at extents i } in
      let is : get_or (numbered 0 extents) i one ≡ one = numbered-at 0 extents i one has ∙ ap (λ (k : ℕ). record { index = k; extent = at extents i }) (omega arith) in
      let there = Contains-permutation (numbered 0 extents) placed one order.permutation (i, subst (λ n. i < n) (sym (length-numbered 0 extents)) has, is) in
      among_at placed there.0 one there.1 there.2

  pub stack_of : IsTrue (are_all_apart extents) → AllByRecursion (CanPass first end lines) extents → Stack first end lines first placed extents
  unfolding IsHere
  stack_of apart each =
      let passes = λ (p : Placed) (there : Among placed p).
      let is = here p there in subst (CanPass first end lines) is.1 (each-at (CanPass first end lines) extents p.index each is.0) in
      let once = λ (line : ℕ).
      let sum = sum_by-IsPermutation (λ (p : Placed). covers line p.extent) (numbered 0 extents) placed order.permutation in
      let same = sum-numbered (covers line) 0 extents in
      let most = covers_once line extents apart in
      let le : sum_by (λ (p : Placed). covers line p.extent) placed ≤ 1 = omega (arith, sum, same, most) in le in
      record {
        low = omega arith;
        chain = chain_of first end lines first placed passes order.sorted once (head_from first end lines placed passes);
        here = here;
        settled = λ i has. inr (among i has);
      }
