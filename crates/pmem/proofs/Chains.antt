-- The pool of older candidates, chained by line.
use Rattle.std.proofs.Common.{◌≡◌, ◌≢◌, ℕ, zero, suc, ◌*◌, ◌/◌, ◌<◌, ◌≤◌, Bool, true, false, cond, ◌==◌, ◌||◌, List, [], ◌∷◌, ◌++◌, length, get_or, set, Option, Some, None, refl, inl, inr, sym, subst, ap, ◌∙◌, arith, length-append, get_or-set_same, get_or-set_other}
use Rattle.std.proofs.Math.ListN.{get_or-append}
use Rattle.std.proofs.Math.Seq.{get_or-append_seam}
use Rattle.std.proofs.lemmas.Bool.{cond-true, cond-false, eq-eqb, eqb-true}
use Rattle.std.proofs.lemmas.List.{length-set, append-nil}
use Rattle.pmem.specs.declared.cells.Candidate.{Candidate}
use Rattle.pmem.specs.Device.{Older, Word, MayBe, IsOlder, store_at}
use Rattle.pmem.specs.Cell.{at, last_below, older_of, older_below, older_in, IsChained, HoldsIn, is_older, may_be}
use Rattle.pmem.proofs.Words.{or-true, true-or, IsOlder-append_cases}
use Rattle.pmem.proofs.Staging.{same_or_other, unequal, by_test, store_at-cases, store_at-MayBe}

-- Tests and facts

pub is_older-IsOlder : (older : List Older) (x : ℕ) → is_older older x ≡ true → IsOlder older x
is_older-IsOlder [] x h = absurd (cc)
is_older-IsOlder (o ∷ older) x h =
    elim (or-true (x == o.value) (is_older older x) h) [
      | inl here ↦ inl (eqb-true x o.value here)
      | inr there ↦ inr (is_older-IsOlder older x there)
    ]

pub IsOlder-is_older : (older : List Older) (x : ℕ) → IsOlder older x → is_older older x ≡ true
IsOlder-is_older [] x h = absurd h
IsOlder-is_older (o ∷ older) x (inl here) = ap (λ (b : Bool). b || is_older older x) (eq-eqb x o.value here)
IsOlder-is_older (o ∷ older) x (inr there) = true-or (x == o.value) (is_older older x) (IsOlder-is_older older x there)

pub may_be-MayBe : (word : Word) (x : ℕ) → may_be word x ≡ true → MayBe word x
may_be-MayBe word x h =
    elim (or-true (x == word.newest) (is_older word.older x) h) [
      | inl here ↦ inl (eqb-true x word.newest here)
      | inr there ↦ inr (is_older-IsOlder word.older x there)
    ]

pub MayBe-may_be : (word : Word) (x : ℕ) → MayBe word x → may_be word x ≡ true
MayBe-may_be word x (inl here) = ap (λ (b : Bool). b || is_older word.older x) (eq-eqb x word.newest here)
MayBe-may_be word x (inr there) = true-or (x == word.newest) (is_older word.older x) (IsOlder-is_older word.older x there)

-- Pools that agree below n

pub last_below-same : (f h : ℕ → Candidate) (line n : ℕ) → ((k : ℕ) → k < n → (f k).word ≡ (h k).word) → last_below f line n ≡ last_below h line n
last_below-same f h line zero same = refl
last_below-same f h line (suc n) same =
    ap (λ (w : ℕ). cond (w / 8 == line) (Some n) (last_below f line n)) (same n (omega arith))
    ∙ ap (λ (rest : Option ℕ). cond ((h n).word / 8 == line) (Some n) rest) (last_below-same f h line n (λ k below. same k (omega arith)))

pub older_below-same : (f h : ℕ → Candidate) (word n : ℕ) → ((k : ℕ) → k < n → older_of (f k) word ≡ older_of (h k) word)
    → older_below f word n ≡ older_below h word n
older_below-same f h word zero same = refl
older_below-same f h word (suc n) same =
    ap (λ (os : List Older). older_below f word n ++ os) (same n (omega arith))
    ∙ ap (λ (os : List Older). os ++ older_of (h n) word) (older_below-same f h word n (λ k below. same k (omega arith)))

-- One more candidate

pub at-push : (pool : List Candidate) (c : Candidate) (k : ℕ) → k < length pool → at (pool ++ c ∷ []) k ≡ at pool k
at-push pool c k below = get_or-append pool (c ∷ []) (record { word = 0; value = 0; passed = false; next = None }) k below

pub at-pushed : (pool : List Candidate) (c : Candidate) → at (pool ++ c ∷ []) (length pool) ≡ c
at-pushed pool c = get_or-append_seam pool c [] (record { word = 0; value = 0; passed = false; next = None })

pub length-push : (pool : List Candidate) (c : Candidate) → length (pool ++ c ∷ []) ≡ suc (length pool)
length-push pool c = let e = length-append pool (c ∷ []) in omega (arith, e)

pub older_in-push : (pool : List Candidate) (c : Candidate) (word : ℕ) → older_in (pool ++ c ∷ []) word ≡ older_in pool word ++ older_of c word
older_in-push pool c word =
    rw (length-push pool c, at-pushed pool c)
    (ap (λ (os : List Older). os ++ older_of c word)
    (older_below-same (at (pool ++ c ∷ [])) (at pool) word (length pool) (λ k below. ap (λ (x : Candidate). older_of x word) (at-push pool c k below))))

last_below-push : (pool : List Candidate) (c : Candidate) (line n : ℕ) → n ≤ length pool
    → last_below (at (pool ++ c ∷ [])) line n ≡ last_below (at pool) line n
last_below-push pool c line n low =
    last_below-same (at (pool ++ c ∷ [])) (at pool) line n
    (λ k below. ap (λ (x : Candidate). x.word) (at-push pool c k (omega arith)))

last-push : (pool : List Candidate) (c : Candidate) (line : ℕ)
    → last_below (at (pool ++ c ∷ [])) line (length (pool ++ c ∷ [])) ≡ cond (c.word / 8 == line) (Some (length pool)) (last_below (at pool) line (length pool))
last-push pool c line =
    rw (length-push pool c, at-pushed pool c, last_below-push pool c line (length pool) (omega arith))

by_push : (pool : List Candidate) (c : Candidate) (P : ℕ → Candidate → Type 0) → ((k : ℕ) → k < length pool → P k (at pool k)) → P (length pool) c
    → (k : ℕ) → k < length (pool ++ c ∷ []) → P k (at (pool ++ c ∷ []) k)
by_push pool c P old new k in_range =
    elim (same_or_other k (length pool)) [
      | inl e ↦ rw (e, at-pushed pool c) new
      | inr n ↦ let under : k < length pool = omega (arith, length-push pool c) in rw (at-push pool c k under) (old k under)
    ]

-- the head of its line leads to a new candidate, which leads to the previous one
pub IsChained-push : (heads : List (Option ℕ)) (pool : List Candidate) (c : Candidate) → IsChained heads pool → c.word / 8 < length heads
    → c.next ≡ get_or heads (c.word / 8) None → IsChained (set heads (c.word / 8) (Some (length pool))) (pool ++ c ∷ [])
IsChained-push heads pool c chained below next =
    record {
      heads = λ line in_range.
          let inside : line < length heads = omega (arith, length-set heads (c.word / 8) (Some (length pool))) in
          by_test (λ h. get_or (set heads (c.word / 8) (Some (length pool))) line None ≡ h) (c.word / 8) line (Some (length pool)) _
          (λ e. rw (← e) (get_or-set_same heads (c.word / 8) (Some (length pool)) None below))
          (λ n. get_or-set_other heads (c.word / 8) line (Some (length pool)) None (λ e. n (sym e)) ∙ chained.heads line inside)
          ∙ sym (last-push pool c line);
      nexts = by_push pool c (λ k x. x.next ≡ last_below (at (pool ++ c ∷ [])) (x.word / 8) k)
          (λ k old. chained.nexts k old ∙ sym (last_below-push pool c ((at pool k).word / 8) k (omega arith)))
          (next ∙ chained.heads (c.word / 8) below ∙ sym (last_below-push pool c (c.word / 8) (length pool) (omega arith)));
      lines = rw (length-set heads (c.word / 8) (Some (length pool))) (by_push pool c (λ k x. x.word / 8 < length heads) chained.lines below);
    }

-- A store

newest-set : (newest : List ℕ) (words : ℕ → Word) (at' x : ℕ) → at' < length newest → ((word : ℕ) → get_or newest word 0 ≡ (words word).newest)
    → (word : ℕ) → get_or (set newest at' x) word 0 ≡ (store_at at' x words word).newest
newest-set newest words at' x below same word =
    store_at-cases (λ w. get_or (set newest at' x) word 0 ≡ w.newest) at' x words word
    (λ e. rw e (get_or-set_same newest at' x 0 below)) (λ n. get_or-set_other newest at' word x 0 n ∙ same word)

pub older_of-hit : (c : Candidate) (word : ℕ) → word ≡ c.word → older_of c word ≡ record { value = c.value; passed = c.passed } ∷ []
older_of-hit c word e = cond-true (word == c.word) _ _ (eq-eqb word c.word e)

pub older_of-miss : (c : Candidate) (word : ℕ) → word ≢ c.word → older_of c word ≡ []
older_of-miss c word n = cond-false (word == c.word) _ _ (unequal word c.word n)

-- the candidate that a store adds to the pool
abbrev pub overtaken : List ℕ → List (Option ℕ) → ℕ → Candidate
overtaken newest heads word = record { word = word; value = get_or newest word 0; passed = false; next = get_or heads (word / 8) None }

IsOlder-older_of : (c : Candidate) (word y : ℕ) → IsOlder (older_of c word) y → (word ≡ c.word) × (y ≡ c.value)
IsOlder-older_of c word y new =
    by_test (λ os. IsOlder os y → (word ≡ c.word) × (y ≡ c.value)) word c.word (record { value = c.value; passed = c.passed } ∷ []) []
    (λ e h. elim h [ inl is ↦ (e, is) | inr nothing ↦ absurd nothing ]) (λ n h. absurd h) new

pub HoldsIn-store : (newest : List ℕ) (heads : List (Option ℕ)) (pool : List Candidate) (words : ℕ → Word) (starved : Bool) (at' x : ℕ)
    → at' < length newest → HoldsIn newest heads pool words starved
    → HoldsIn (set newest at' x) (set heads (at' / 8) (Some (length pool))) (pool ++ overtaken newest heads at' ∷ []) (store_at at' x words) starved
HoldsIn-store newest heads pool words starved at' x below holds =
    let c : Candidate = overtaken newest heads at' in
    record {
      sizes = length-set newest at' x ∙ holds.sizes ∙ ap (λ (n : ℕ). 8 * n) (sym (length-set heads (at' / 8) (Some (length pool))));
      chained = IsChained-push heads pool c holds.chained (omega (arith, holds.sizes)) refl;
      newest = newest-set newest words at' x below holds.newest;
      exact = λ fed word.
          older_in-push pool c word ∙
          store_at-cases (λ w. older_in pool word ++ older_of c word ≡ w.older) at' x words word
          (λ e.
          let v : get_or newest at' 0 ≡ (words word).newest = ap (λ (w : ℕ). get_or newest w 0) (sym e) ∙ holds.newest word in
          rw (older_of-hit c word e, v, holds.exact fed word))
          (λ n. rw (older_of-miss c word n, append-nil (older_in pool word)) (holds.exact fed word));
      within = λ word y is.
          MayBe-may_be (store_at at' x words word) y
          (store_at-MayBe at' x words word y
          (elim (IsOlder-append_cases (older_in pool word) (older_of c word) y
          (subst (λ (os : List Older). IsOlder os y) (older_in-push pool c word) (is_older-IsOlder (older_in (pool ++ c ∷ []) word) y is))) [
            | inl was ↦ may_be-MayBe (words word) y (holds.within word y (IsOlder-is_older (older_in pool word) y was))
            | inr new ↦
                let p = IsOlder-older_of c word y new in
                inl (p.1 ∙ ap (λ (w : ℕ). get_or newest w 0) (sym p.0) ∙ holds.newest word)
          ]));
    }

-- a store for which there was no memory
pub HoldsIn-starved_store : (newest : List ℕ) (heads : List (Option ℕ)) (pool : List Candidate) (words : ℕ → Word) (starved : Bool) (at' x : ℕ)
    → at' < length newest → HoldsIn newest heads pool words starved → HoldsIn (set newest at' x) heads pool (store_at at' x words) true
HoldsIn-starved_store newest heads pool words starved at' x below holds =
    record {
      sizes = length-set newest at' x ∙ holds.sizes;
      chained = holds.chained;
      newest = newest-set newest words at' x below holds.newest;
      exact = λ fed word. absurd (cc);
      within = λ word y is.
          MayBe-may_be (store_at at' x words word) y
          (store_at-MayBe at' x words word y (may_be-MayBe (words word) y (holds.within word y is)));
    }
