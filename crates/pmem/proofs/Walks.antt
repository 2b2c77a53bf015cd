-- Going along the chain of a line, from its last candidate to its first.
use Rattle.std.proofs.Common.{◌≡◌, ◌≢◌, ◌⊎◌, ℕ, zero, suc, ◌/◌, ◌<◌, ◌≤◌, Bool, true, false, cond, nat_lt, ◌==◌, List, length, map, get_or, set, Option, Some, None, refl, inl, inr, sym, subst, ap, ◌∙◌, arith, get_or-set_same, get_or-set_other}
use Rattle.std.proofs.lemmas.Bool.{cond-true, cond-false, eq-eqb, ltb-true, ltb-false}
use Rattle.std.proofs.lemmas.List.{length-set, map-append, get_or_read_under}
use Rattle.pmem.specs.declared.cells.Candidate.{Candidate}
use Rattle.pmem.specs.Device.{Older, Word, IsOlder, flush_at}
use Rattle.pmem.specs.Cell.{at, last_below, older_of, older_below, older_in, IsChained, HoldsIn}
use Rattle.pmem.proofs.Words.{IsOlder-passed}
use Rattle.pmem.proofs.Staging.{same_or_other, unequal, by_test, flush_at-cases, flush_at-MayBe, newest-flush_at}
use Rattle.pmem.proofs.Chains.{last_below-same, older_below-same, older_of-hit, older_of-miss, is_older-IsOlder, IsOlder-is_older, may_be-MayBe, MayBe-may_be}

-- how many indexes there are up to and including this one
abbrev pub end_of : Option ℕ → ℕ
end_of None = 0
end_of (Some k) = suc k

module _ (f : ℕ → Candidate) (line : ℕ) where
  last_below-cases : (P : Option ℕ → Type 0) (n : ℕ) → ((f n).word / 8 ≡ line → P (Some n)) → ((f n).word / 8 ≢ line → P (last_below f line n))
      → P (last_below f line (suc n))
  last_below-cases P n hit miss = by_test P ((f n).word / 8) line (Some n) (last_below f line n) hit miss

  -- the candidate found is below n and of the line
  pub last_below-found : (n k : ℕ) → last_below f line n ≡ Some k → (k < n) × ((f k).word / 8 ≡ line)
  last_below-found zero k e = absurd (cc)
  last_below-found (suc n) k e =
      last_below-cases (λ p. p ≡ Some k → (k < suc n) × ((f k).word / 8 ≡ line)) n
      (λ hit is. let same : n ≡ k = cc in (omega arith, subst (λ (j : ℕ). (f j).word / 8 ≡ line) same hit))
      (λ no_hit is. let more = last_below-found n k is in (omega (arith, more.0), more.1)) e

  -- no candidate of the line lies between it and n
  pub last_below-gap : (n j : ℕ) → end_of (last_below f line n) ≤ j → j < n → (f j).word / 8 ≢ line
  last_below-gap zero j after below = omega arith
  last_below-gap (suc n) j after below =
      last_below-cases (λ p. end_of p ≤ j → (f j).word / 8 ≢ line) n
      (λ hit past. omega arith)
      (λ no_hit past. elim (same_or_other j n) [ inl e ↦ rw e no_hit | inr other ↦ last_below-gap n j past (omega arith) ]) after

  -- it is also the last candidate among those up to it
  pub last_below-again : (n : ℕ) → last_below f line n ≡ last_below f line (end_of (last_below f line n))
  last_below-again zero = refl
  last_below-again (suc n) =
      last_below-cases (λ p. p ≡ last_below f line (end_of p)) n
      (λ hit. sym (cond-true ((f n).word / 8 == line) _ _ (eq-eqb ((f n).word / 8) line hit))) (λ no_hit. last_below-again n)

  pub end_of-last_below : (n : ℕ) → end_of (last_below f line n) ≤ n
  end_of-last_below zero = omega arith
  end_of-last_below (suc n) =
      last_below-cases (λ p. end_of p ≤ suc n) n (λ hit. omega arith) (λ no_hit. let less = end_of-last_below n in omega (arith, less))

-- A flush

abbrev pub marked : Candidate → Candidate
marked c = record { word = c.word; value = c.value; passed = true; next = c.next }

-- a candidate of the line is passed
abbrev pub passed_at : ℕ → Candidate → Candidate
passed_at line c = cond (c.word / 8 == line) (marked c) c

passed_at-cases : (P : Candidate → Type 0) (line : ℕ) (c : Candidate) → (c.word / 8 ≡ line → P (marked c)) → (c.word / 8 ≢ line → P c) → P (passed_at line c)
passed_at-cases P line c same other = by_test P (c.word / 8) line (marked c) c same other

pub passed_at-other : (line : ℕ) (c : Candidate) → c.word / 8 ≢ line → passed_at line c ≡ c
passed_at-other line c n = cond-false (c.word / 8 == line) _ _ (unequal (c.word / 8) line n)

word-passed_at : (line : ℕ) (c : Candidate) → (passed_at line c).word ≡ c.word
word-passed_at line c = passed_at-cases (λ x. x.word ≡ c.word) line c (λ e. refl) (λ n. refl)

abbrev passed_older : Older → Older
passed_older o = record { value = o.value; passed = true }

older_of-passed : (line : ℕ) (c : Candidate) (word : ℕ) → word / 8 ≡ line → older_of (passed_at line c) word ≡ map passed_older (older_of c word)
older_of-passed line c word e =
    passed_at-cases (λ x. older_of x word ≡ map passed_older (older_of c word)) line c
    (λ hit. by_test (λ os. older_of (marked c) word ≡ map passed_older os) word c.word _ _ (older_of-hit (marked c) word) (older_of-miss (marked c) word))
    (λ miss. rw (older_of-miss c word (λ h. miss (ap (λ (w : ℕ). w / 8) (sym h) ∙ e))))

older_of-unpassed : (line : ℕ) (c : Candidate) (word : ℕ) → word / 8 ≢ line → older_of (passed_at line c) word ≡ older_of c word
older_of-unpassed line c word n =
    passed_at-cases (λ x. older_of x word ≡ older_of c word) line c
    (λ hit.
    let miss : word ≢ c.word = λ h. n (ap (λ (w : ℕ). w / 8) h ∙ hit) in
    older_of-miss (marked c) word miss ∙ sym (older_of-miss c word miss)) (λ other. refl)

pub below_or_past : (a b : ℕ) → (a < b) ⊎ (b ≤ a)
below_or_past a b =
    let go : (t : Bool) → nat_lt a b ≡ t → (a < b) ⊎ (b ≤ a) =
    elim [ true ↦ λ e. inl (ltb-true a b e) | false ↦ λ e. inr (ltb-false a b e) ] in
    go (nat_lt a b) refl

module _ (line : ℕ) (f h : ℕ → Candidate) where
  older_below-passed : (word n : ℕ) → ((k : ℕ) → k < n → h k ≡ passed_at line (f k)) → word / 8 ≡ line → older_below h word n ≡ map passed_older (older_below f word n)
  older_below-passed word zero each e = refl
  older_below-passed word (suc n) each e =
      rw (older_below-passed word n (λ k below. each k (omega arith)) e, each n (omega arith), older_of-passed line (f n) word e)
      (sym (map-append passed_older (older_below f word n) (older_of (f n) word)))

module _ (newest : List ℕ) (heads : List (Option ℕ)) (pool pool' : List Candidate) (line : ℕ)
    (same : length pool' ≡ length pool) (each : (k : ℕ) → k < length pool → at pool' k ≡ passed_at line (at pool k)) where
  older_in-passed : (word : ℕ) → word / 8 ≡ line → older_in pool' word ≡ map passed_older (older_in pool word)
  older_in-passed word e =
      ap (λ (n : ℕ). older_below (at pool') word n) same ∙ older_below-passed line (at pool) (at pool') word (length pool) each e

  older_in-unpassed : (word : ℕ) → word / 8 ≢ line → older_in pool' word ≡ older_in pool word
  older_in-unpassed word other =
      ap (λ (n : ℕ). older_below (at pool') word n) same
      ∙ older_below-same (at pool') (at pool) word (length pool)
      (λ k below. ap (λ (x : Candidate). older_of x word) (each k below) ∙ older_of-unpassed line (at pool k) word other)

  last-passed : (l n : ℕ) → n ≤ length pool → last_below (at pool') l n ≡ last_below (at pool) l n
  last-passed l n low =
      last_below-same (at pool') (at pool) l n
      (λ k below. ap (λ (x : Candidate). x.word) (each k (omega arith)) ∙ word-passed_at line (at pool k))

  pub IsChained-passed : IsChained heads pool → IsChained heads pool'
  IsChained-passed chained =
      record {
        heads = λ l in_range.
            chained.heads l in_range ∙ sym (last-passed l (length pool) (omega arith)) ∙ ap (λ (n : ℕ). last_below (at pool') l n) (sym same);
        nexts = λ k in_range.
            let inside : k < length pool = omega (arith, same) in
            rw (each k inside, last-passed ((passed_at line (at pool k)).word / 8) k (omega arith))
            (passed_at-cases (λ x. x.next ≡ last_below (at pool) (x.word / 8) k) line (at pool k) (λ e. chained.nexts k inside) (λ n. chained.nexts k inside));
        lines = λ k in_range.
            let inside : k < length pool = omega (arith, same) in
            rw (each k inside, word-passed_at line (at pool k)) (chained.lines k inside);
      }

  -- all candidates of the line are passed
  pub HoldsIn-flush : (words : ℕ → Word) (starved : Bool) → HoldsIn newest heads pool words starved
      → HoldsIn newest heads pool' (flush_at line words) starved
  HoldsIn-flush words starved holds =
      record {
        sizes = holds.sizes;
        chained = IsChained-passed holds.chained;
        newest = λ word. holds.newest word ∙ sym (newest-flush_at line words word);
        exact = λ fed word.
            flush_at-cases (λ w. older_in pool' word ≡ w.older) line words word
            (λ e. older_in-passed word e ∙ ap (map passed_older) (holds.exact fed word)) (λ other. older_in-unpassed word other ∙ holds.exact fed word);
        within = λ word x is.
            let older = is_older-IsOlder (older_in pool' word) x is in
            let was : IsOlder (older_in pool word) x =
            elim (same_or_other (word / 8) line) [
              | inl e ↦ IsOlder-passed (older_in pool word) x (rw (older_in-passed word e) at older)
              | inr other ↦ rw (older_in-unpassed word other) at older
            ] in
            MayBe-may_be (flush_at line words word) x
            (flush_at-MayBe line words word x (may_be-MayBe (words word) x (holds.within word x (IsOlder-is_older (older_in pool word) x was))));
      }

-- The loop of a flush: up to `place` the pool is as it was, beyond it all candidates of the line are passed.
pub record Flushing (pool pool' : List Candidate) (line : ℕ) (place : Option ℕ) : Type 0 where
  pub size : length pool' ≡ length pool
  pub before : (k : ℕ) → k < end_of place → at pool' k ≡ at pool k
  pub beyond : (k : ℕ) → end_of place ≤ k → k < length pool → at pool' k ≡ passed_at line (at pool k)
  pub chain : place ≡ last_below (at pool) line (end_of place)
  pub inside : end_of place ≤ length pool

pub Flushing-start : (heads : List (Option ℕ)) (pool : List Candidate) (line : ℕ) → IsChained heads pool → line < length heads
    → (place : Option ℕ) → place ≡ get_or heads line None → Flushing pool pool line place
Flushing-start heads pool line chained below place is =
    let head : place ≡ last_below (at pool) line (length pool) = is ∙ chained.heads line below in
    record {
      size = refl;
      before = λ k under. refl;
      beyond = λ k over under.
          sym (passed_at-other line (at pool k)
          (last_below-gap (at pool) line (length pool) k (subst (λ (p : Option ℕ). end_of p ≤ k) head over) under));
      chain = subst (λ (p : Option ℕ). p ≡ last_below (at pool) line (end_of p)) (sym head) (last_below-again (at pool) line (length pool));
      inside = subst (λ (p : Option ℕ). end_of p ≤ length pool) (sym head) (end_of-last_below (at pool) line (length pool));
    }

-- The loop is at a candidate of the line, and goes on to the previous one, which is closer to the end of the chain.
pub Flushing-turn : (heads : List (Option ℕ)) (pool pool' : List Candidate) (line : ℕ) (place : Option ℕ) (k : ℕ) (c : Candidate) → IsChained heads pool
    → Flushing pool pool' line place → place ≡ Some k → c ≡ get_or pool' k c → Flushing pool (set pool' k (marked c)) line c.next × (end_of c.next < end_of place)
Flushing-turn heads pool pool' line place k c chained flushing is_k read =
    let going : Flushing pool pool' line (Some k) = subst (λ (p : Option ℕ). Flushing pool pool' line p) is_k flushing in
    let unset : Candidate = record { word = 0; value = 0; passed = false; next = None } in
    let in_pool : k < length pool = going.inside in
    let same : c ≡ at pool k =
    get_or_read_under pool' k (length pool') c unset read (omega (arith, in_pool, going.size)) refl ∙ going.before k (omega arith) in
    let here : (at pool k).word / 8 ≡ line = (last_below-found (at pool) line (suc k) k (sym going.chain)).1 in
    let next : c.next ≡ last_below (at pool) line k =
    ap (λ (x : Candidate). x.next) same ∙ chained.nexts k in_pool ∙ ap (λ (l : ℕ). last_below (at pool) l k) here in
    let low : end_of c.next ≤ k = subst (λ (p : Option ℕ). end_of p ≤ k) (sym next) (end_of-last_below (at pool) line k) in
    let elsewhere : (j : ℕ) → j ≢ k → at (set pool' k (marked c)) j ≡ at pool' j = λ j other. get_or-set_other pool' k j (marked c) unset other in (
      record {
        size = length-set pool' k (marked c) ∙ going.size;
        before = λ j under. elsewhere j (omega arith) ∙ going.before j (omega arith);
        beyond = λ j over under.
            elim (same_or_other j k) [
              | inl e ↦
                  rw e (get_or-set_same pool' k (marked c) unset (omega (arith, going.size)) ∙ ap marked same
                  ∙ sym (cond-true ((at pool k).word / 8 == line) _ _ (eq-eqb ((at pool k).word / 8) line here)))
              | inr other ↦
                  elsewhere j other ∙
                  elim (below_or_past j k) [
                    | inl less ↦
                        going.before j (omega arith)
                        ∙ sym (passed_at-other line (at pool j) (last_below-gap (at pool) line k j (subst (λ (p : Option ℕ). end_of p ≤ j) next over) less))
                    | inr more ↦ going.beyond j (omega arith) under
                  ]
            ];
        chain = subst (λ (p : Option ℕ). p ≡ last_below (at pool) line (end_of p)) (sym next) (last_below-again (at pool) line k);
        inside = omega arith;
      },
      subst (λ (p : Option ℕ). end_of c.next < end_of p) (sym is_k) (let l : end_of c.next < suc k = omega arith in l),
    )
