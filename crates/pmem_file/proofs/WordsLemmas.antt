-- Words of which the last are zeros that are not kept.
use Rattle.std.proofs.Common.{◌≡◌, ℕ, zero, suc, ◌+◌, ◌-◌, ◌<◌, ◌≤◌, inl, inr, List, [], ◌∷◌, ◌++◌, length, replicate, take, get_or, refl, sym, ap, ◌∙◌, arith, append_assoc, length-append, Result, Ok, Err, OnOk}
use Rattle.std.proofs.lemmas.Bool.{cases_lt}
use Rattle.std.proofs.lemmas.List.{replicate-append-replicate, replicate_more, length-replicate, length-take, get_or-take, get_or_past, ext_get_or}

-- these words, and zeros behind them, so many in all
abbrev pub whole : List ℕ → ℕ → List ℕ
whole kept count = kept ++ replicate (count - length kept) 0

pub length-filled : (kept : List ℕ) (count : ℕ) → length (whole kept count) ≡ length kept + (count - length kept)
length-filled kept count = length-append kept (replicate (count - length kept) 0) ∙ ap (λ n. length kept + n) (length-replicate (count - length kept) 0)

-- zeros may be kept
pub whole-filled : (kept : List ℕ) (count to : ℕ) → length kept ≤ count → to ≤ count → whole (whole kept to) count ≡ whole kept count
whole-filled kept count to fit less =
    let a = to - length kept in
    let b = count - length (whole kept to) in
    let sum : a + b ≡ count - length kept = omega (arith, length-filled kept to) in
    let zeros : replicate a 0 ++ replicate b 0 ≡ replicate (count - length kept) 0 = replicate-append-replicate a b 0 ∙ ap (λ (n : ℕ). replicate n 0) sum in
    append_assoc kept (replicate a 0) (replicate b 0) ∙ ap (λ (xs : List ℕ). kept ++ xs) zeros

-- zeros behind them
pub whole-longer : (kept : List ℕ) (count more : ℕ) → length kept ≤ count → whole kept (count + more) ≡ whole kept count ++ replicate more 0
whole-longer kept count more fit =
    let a = count - length kept in
    let sum : count + more - length kept ≡ a + more = omega (arith, fit) in
    ap (λ n. kept ++ replicate n 0) sum
    ∙ ap (λ xs. kept ++ xs) (sym (replicate-append-replicate a more 0))
    ∙ sym (append_assoc kept (replicate a 0) (replicate more 0))

-- ---- zeros in front

pub zeros-more : (n : ℕ) (ws : List ℕ) → replicate n 0 ++ 0 ∷ ws ≡ replicate (n + 1) 0 ++ ws
zeros-more n ws = sym (append_assoc (replicate n 0) (0 ∷ []) ws) ∙ ap (λ xs. xs ++ ws) (replicate_more n 0)

get_or-behind : (n w : ℕ) (ws : List ℕ) → get_or (replicate n 0 ++ w ∷ ws) n 0 ≡ w
get_or-behind zero w ws = refl
get_or-behind (suc n) w ws = get_or-behind n w ws

pub get_or-zeros : (m k : ℕ) → ◌≡◌ {A = ℕ} (get_or (replicate m 0) k 0) 0
get_or-zeros zero k = refl
get_or-zeros (suc m) zero = refl
get_or-zeros (suc m) (suc k) = get_or-zeros m k

-- what stands behind zeros, where there are zeros alone, is one
pub zero-behind : (n m w : ℕ) (ws : List ℕ) → replicate n 0 ++ w ∷ ws ≡ replicate m 0 → w ≡ 0
zero-behind n m w ws e = sym (get_or-behind n w ws) ∙ ap (λ xs. get_or xs n 0) e ∙ get_or-zeros m n

-- what is so whatever came of a call
pub always : {X E : Type 0} {P : Type 0} (result : Result X E) → P → OnOk result P
always (Ok x) p = p
always (Err e) p = tt

-- zeros behind words are words
pub fit-front : (xs : List ℕ) (n most : ℕ) → 0 < most → ((k : ℕ) → get_or xs k 0 < most) → (k : ℕ) → get_or (xs ++ replicate n 0) k 0 < most
fit-front [] n most some fits k = rw (get_or-zeros n k) some
fit-front (x ∷ xs) n most some fits zero = fits 0
fit-front (x ∷ xs) n most some fits (suc k) = fit-front xs n most some (λ j. fits (suc j)) k

-- zeros behind words do not matter to a look
pub at-front : (xs : List ℕ) (n k : ℕ) → get_or (xs ++ replicate n 0) k 0 ≡ get_or xs k 0
at-front [] n k = get_or-zeros n k
at-front (x ∷ xs) n zero = refl
at-front (x ∷ xs) n (suc k) = at-front xs n k

pub whole-at : (kept : List ℕ) (count k : ℕ) → get_or (whole kept count) k 0 ≡ get_or kept k 0
whole-at kept count k = at-front kept (count - length kept) k

-- ---- the last that is no zero

pub used-at : (kept : List ℕ) (used : ℕ) → ((word : ℕ) → used ≤ word → get_or kept word 0 ≡ 0) → (word : ℕ)
    → get_or (take used kept) word 0 ≡ get_or kept word 0
used-at kept used zeros word =
    elim (cases_lt word used) [
      | inl below ↦ get_or-take used kept word 0 below
      | inr beyond ↦ get_or_past (take used kept) word 0 (omega (arith, length-take used kept, beyond)) ∙ sym (zeros word beyond)
    ]

-- what is behind it need not be kept
pub whole-used : (kept : List ℕ) (used count : ℕ) → used ≤ length kept → length kept ≤ count
    → ((word : ℕ) → used ≤ word → get_or kept word 0 ≡ 0) → whole (take used kept) count ≡ whole kept count
whole-used kept used count within fit zeros =
    ext_get_or 0 (whole (take used kept) count) (whole kept count)
    (omega (arith, length-filled (take used kept) count, length-filled kept count, length-take used kept, within, fit))
    (λ word _. whole-at (take used kept) count word ∙ used-at kept used zeros word ∙ sym (whole-at kept count word))
