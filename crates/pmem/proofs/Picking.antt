-- A crash picks one of the candidates of each word.
use Rattle.std.proofs.Common.{◌≡◌, ℕ, zero, suc, ◌+◌, ◌-◌, ◌*◌, ◌/◌, ◌%◌, ◌<◌, ◌≤◌, false, List, [], ◌∷◌, ◌++◌, length, map, get_or, set, Option, Some, None, refl, inl, inr, sym, subst, ap, ◌∙◌, arith, length-append, get_or-set_same, get_or-set_other, add-one}
use Rattle.std.proofs.Math.ListN.{get_or-append}
use Rattle.std.proofs.lemmas.List.{length-set, get_or_read_under, append-nil, map-append, length-map}
use Rattle.pmem.specs.declared.cells.Candidate.{Candidate}
use Rattle.pmem.specs.Device.{Older, candidates}
use Rattle.pmem.specs.Crash.{picked, several_below, has_several}
use Rattle.pmem.specs.Cell.{at, last_below, older_of, older_below, older_in, IsChained, held_in}
use Rattle.pmem.proofs.Staging.{same_or_other, by_test}
use Rattle.pmem.proofs.Walks.{end_of, last_below-found, last_below-again, end_of-last_below, below_or_past}
use Rattle.pmem.proofs.Chains.{older_of-hit, older_of-miss}

module _ (f : ℕ → Candidate) (word line : ℕ) (of_line : word / 8 ≡ line) where
  -- no candidate of the word lies between the last candidate of its line and n
  pub older_below-skip : (n : ℕ) → older_below f word n ≡ older_below f word (end_of (last_below f line n))
  older_below-skip zero = refl
  older_below-skip (suc n) =
      by_test (λ p. older_below f word (suc n) ≡ older_below f word (end_of p)) ((f n).word / 8) line (Some n) (last_below f line n)
      (λ hit. refl)
      (λ miss.
      rw (older_of-miss (f n) word (λ h. miss (ap (λ (w : ℕ). w / 8) (sym h) ∙ of_line))) (append-nil (older_below f word n) ∙ older_below-skip n))

length-older_below : (f : ℕ → Candidate) (word n : ℕ) → length (older_below f word n) ≤ n
length-older_below f word zero = omega arith
length-older_below f word (suc n) =
    let less = length-older_below f word n in
    let sum = length-append (older_below f word n) (older_of (f n) word) in
    let one : length (older_of (f n) word) ≤ 1 = by_test (λ os. length os ≤ 1) word (f n).word _ _ (λ e. omega arith) (λ e. omega arith) in
    omega (arith, less, sum, one)

pub length-older_in : (pool : List Candidate) (word : ℕ) → length (older_in pool word) ≤ length pool
length-older_in pool word = length-older_below (at pool) word (length pool)

-- The state of a walk along the chain of the word's line
pub record Walking (pool : List Candidate) (word : ℕ) (place : Option ℕ) : Type 0 where
  pub chain : place ≡ last_below (at pool) (word / 8) (end_of place)
  pub inside : end_of place ≤ length pool

pub Walking-start : (heads : List (Option ℕ)) (pool : List Candidate) (word : ℕ) → IsChained heads pool → word / 8 < length heads
    → (place : Option ℕ) → place ≡ get_or heads (word / 8) place
    → Walking pool word place × (older_below (at pool) word (end_of place) ≡ older_in pool word)
Walking-start heads pool word chained below place read =
    let head : place ≡ last_below (at pool) (word / 8) (length pool) =
    get_or_read_under heads (word / 8) (length heads) place None read below refl ∙ chained.heads (word / 8) below in (
      record {
        chain = rw head (last_below-again (at pool) (word / 8) (length pool));
        inside = rw head (end_of-last_below (at pool) (word / 8) (length pool));
      },
      rw head (sym (older_below-skip (at pool) word (word / 8) refl (length pool))),
    )

-- the walk goes on to the previous candidate
pub Walking-next : (heads : List (Option ℕ)) (pool : List Candidate) (word : ℕ) (place : Option ℕ) (k : ℕ) (c : Candidate) → IsChained heads pool
    → Walking pool word place → place ≡ Some k → c ≡ get_or pool k c
    → Walking pool word c.next × (end_of c.next < end_of place) × (c ≡ at pool k)
    × (older_below (at pool) word (end_of place) ≡ older_below (at pool) word (end_of c.next) ++ older_of c word)
Walking-next heads pool word place k c chained going is_k read =
    let chain : Some k ≡ last_below (at pool) (word / 8) (suc k) =
    rw is_k at going.chain in
    let inside : k < length pool = rw is_k at going.inside in
    let is : c ≡ at pool k = get_or_read_under pool k (length pool) c (record { word = 0; value = 0; passed = false; next = None }) read inside refl in
    let here : (at pool k).word / 8 ≡ word / 8 = (last_below-found (at pool) (word / 8) (suc k) k (sym chain)).1 in
    let next : c.next ≡ last_below (at pool) (word / 8) k =
    ap (λ (x : Candidate). x.next) is ∙ chained.nexts k inside ∙ ap (λ (l : ℕ). last_below (at pool) l k) here in
    let low : end_of c.next ≤ k = subst (λ (p : Option ℕ). end_of p ≤ k) (sym next) (end_of-last_below (at pool) (word / 8) k) in (
      record {
        chain = subst (λ (p : Option ℕ). p ≡ last_below (at pool) (word / 8) (end_of p)) (sym next) (last_below-again (at pool) (word / 8) k);
        inside = omega arith;
      },
      rw is_k (let l : end_of c.next < suc k = omega arith in l),
      is,
      rw is_k (ap (λ (os : List Older). os ++ older_of (at pool k) word)
          (older_below-skip (at pool) word (word / 8) refl k ∙ ap (λ (p : Option ℕ). older_below (at pool) word (end_of p)) (sym next))
          ∙ ap (λ (x : Candidate). older_below (at pool) word (end_of c.next) ++ older_of x word) (sym is)),
    )

-- The walk looks for the word's older candidate with index `number`, which is among the first n of the pool and has `newer` newer ones there
pub record Seeking (pool : List Candidate) (word n number newer : ℕ) : Type 0 where
  pub same : get_or (map (λ o. o.value) (older_below (at pool) word n)) number 0 ≡ get_or (map (λ o. o.value) (older_in pool word)) number 0
  pub left : number + 1 + newer ≡ length (older_below (at pool) word n)

module _ (pool : List Candidate) (word n m number newer : ℕ) (c : Candidate)
    (split : older_below (at pool) word n ≡ older_below (at pool) word m ++ older_of c word) (seeking : Seeking pool word n number newer) where
  split_values : map (λ o. o.value) (older_below (at pool) word n) ≡ map (λ o. o.value) (older_below (at pool) word m) ++ map (λ o. o.value) (older_of c word)
  split_values =
      ap (map (λ o. o.value)) split ∙ map-append (λ (o : Older). o.value) (older_below (at pool) word m) (older_of c word)

  seek-before : number + 1 ≤ length (older_below (at pool) word m)
      → get_or (map (λ o. o.value) (older_below (at pool) word m)) number 0 ≡ get_or (map (λ o. o.value) (older_in pool word)) number 0
  seek-before low =
      sym (get_or-append (map (λ o. o.value) (older_below (at pool) word m)) (map (λ o. o.value) (older_of c word)) 0 number
      (omega (arith, low, length-map (older_below (at pool) word m) (λ o. o.value))))
      ∙ ap (λ (xs : List ℕ). get_or xs number 0) (sym split_values)
      ∙ seeking.same

  -- it skips one
  pub seek-hit : c.word ≡ word → (newer ≡ 0 → ⊥) → Seeking pool word m number (newer - 1)
  seek-hit hit more =
      let one : length (older_of c word) ≡ 1 = ap length (older_of-hit c word (sym hit)) in
      let left : number + 1 + (newer - 1) ≡ length (older_below (at pool) word m) =
      omega (arith, seeking.left, ap length split, length-append (older_below (at pool) word m) (older_of c word), one, more) in
      record { same = seek-before (omega arith); left = left }

  -- or passes a candidate of another word
  pub seek-miss : (c.word ≡ word → ⊥) → Seeking pool word m number newer
  seek-miss miss =
      let nothing : length (older_of c word) ≡ 0 = ap length (older_of-miss c word (λ e. miss (sym e))) in
      let left : number + 1 + newer ≡ length (older_below (at pool) word m) =
      omega (arith, seeking.left, ap length split, length-append (older_below (at pool) word m) (older_of c word), nothing) in
      record { same = seek-before (omega arith); left = left }

pub Seeking-start : (pool : List Candidate) (word n newer : ℕ) → older_below (at pool) word n ≡ older_in pool word
    → newer < length (older_in pool word) → Seeking pool word n (length (older_in pool word) - 1 - newer) newer
Seeking-start pool word n newer all below =
    record {
      same = ap (λ (os : List Older). get_or (map (λ o. o.value) os) (length (older_in pool word) - 1 - newer) 0) all;
      left = let e : length (older_in pool word) - 1 - newer + 1 + newer ≡ length (older_in pool word) = omega arith in e ∙ sym (ap length all);
    }

-- The loop over all words
pub record Picked (newest newest' : List ℕ) (pool : List Candidate) (picks : List ℕ) (n used' : ℕ) : Type 0 where
  pub size : length newest' ≡ length newest
  pub used : used' ≡ several_below (held_in newest pool) n
  pub low : used' ≤ n
  pub done : (word : ℕ) → word < n → get_or newest' word 0 ≡ picked (held_in newest pool) picks word
  pub rest : (word : ℕ) → n ≤ word → get_or newest' word 0 ≡ get_or newest word 0

has_several-none : (older : List Older) → length older ≡ 0 → has_several older ≡ 0
has_several-none [] e = refl
has_several-none (o ∷ older) e = absurd (cc)

older_below-beyond : (f : ℕ → Candidate) (word lines n : ℕ) → ((k : ℕ) → k < n → (f k).word / 8 < lines) → 8 * lines ≤ word → older_below f word n ≡ []
older_below-beyond f word lines zero in_range beyond = refl
older_below-beyond f word lines (suc n) in_range beyond =
    let here = in_range n (omega arith) in
    ap (λ (os : List Older). os ++ older_of (f n) word) (older_below-beyond f word lines n (λ k below. in_range k (omega arith)) beyond)
    ∙ older_of-miss (f n) word (λ e. omega (arith, here, beyond, e))

has_several-positive : (older : List Older) → 0 < length older → has_several older ≡ 1
has_several-positive [] some = absurd (omega arith)
has_several-positive (o ∷ older) some = refl

several-next : (newest : List ℕ) (pool : List Candidate) (n : ℕ)
    → several_below (held_in newest pool) (n + 1) ≡ several_below (held_in newest pool) n + has_several (older_in pool n)
several-next newest pool n = ap (several_below (held_in newest pool)) (add-one n)

length-candidates : (newest : List ℕ) (pool : List Candidate) (n : ℕ) → length (candidates (held_in newest pool n)) ≡ length (older_in pool n) + 1
length-candidates newest pool n =
    length-append (map (λ o. o.value) (older_in pool n)) (get_or newest n 0 ∷ []) ∙ ap (λ (k : ℕ). k + 1) (length-map (older_in pool n) (λ o. o.value))

-- a word with several candidates gets the next pick
pub Picked-hit : (newest newest' newest'' : List ℕ) (pool : List Candidate) (picks : List ℕ) (n used' used'' pick value : ℕ) → n < length newest
    → Picked newest newest' pool picks n used' → 0 < length (older_in pool n) → pick ≡ get_or picks used' 0
    → value ≡ get_or (map (λ o. o.value) (older_in pool n) ++ get_or newest n 0 ∷ []) (pick % (length (older_in pool n) + 1)) 0
    → newest'' ≡ set newest' n value → used'' ≡ used' + 1 → Picked newest newest'' pool picks (n + 1) used''
Picked-hit newest newest' newest'' pool picks n used' used'' pick value below going several pick_is value_is newest_is used_is =
    let right : value ≡ picked (held_in newest pool) picks n =
    value_is
    ∙ ap (λ (k : ℕ). get_or (candidates (held_in newest pool n)) (pick % k) 0) (sym (length-candidates newest pool n))
    ∙ ap (λ (p : ℕ). get_or (candidates (held_in newest pool n)) (p % length (candidates (held_in newest pool n))) 0)
    (pick_is ∙ ap (λ (u : ℕ). get_or picks u 0) going.used) in
    rw newest_is (record {
      size = length-set newest' n value ∙ going.size;
      used = let one = has_several-positive (older_in pool n) several in omega (arith, used_is, going.used, several-next newest pool n, one);
      low = omega (arith, used_is, going.low);
      done = λ word under.
          elim (same_or_other word n) [
            | inl e ↦ rw e (get_or-set_same newest' n value 0 (omega (arith, going.size)) ∙ right)
            | inr other ↦ get_or-set_other newest' n word value 0 other ∙ going.done word (omega arith)
          ];
      rest = λ word over.
          get_or-set_other newest' n word value 0 (omega arith) ∙ going.rest word (omega arith);
    })

alone-picked : (older : List Older) (x k : ℕ) → length older ≡ 0 → get_or (map (λ o. o.value) older ++ x ∷ []) (k % length (map (λ o. o.value) older ++ x ∷ [])) 0 ≡ x
alone-picked [] x k e = let z : k % 1 ≡ 0 = omega arith in ap (λ (i : ℕ). get_or (x ∷ []) i 0) z
alone-picked (o ∷ older) x k e = absurd (cc)

-- a word with one candidate keeps it
pub Picked-miss : (newest newest' newest'' : List ℕ) (pool : List Candidate) (picks : List ℕ) (n used' used'' : ℕ)
    → Picked newest newest' pool picks n used' → length (older_in pool n) ≡ 0
    → newest'' ≡ newest' → used'' ≡ used' → Picked newest newest'' pool picks (n + 1) used''
Picked-miss newest newest' newest'' pool picks n used' used'' going alone newest_is used_is =
    rw newest_is (record {
      size = going.size;
      used = let nothing = has_several-none (older_in pool n) alone in omega (arith, used_is, going.used, several-next newest pool n, nothing);
      low = omega (arith, used_is, going.low);
      done = λ word under.
          elim (same_or_other word n) [
            | inl e ↦ rw e (going.rest n (omega arith)
                ∙ sym (alone-picked (older_in pool n) (get_or newest n 0) (get_or picks (several_below (held_in newest pool) n) 0) alone))
            | inr other ↦ going.done word (omega arith)
          ];
      rest = λ word over. going.rest word (omega arith);
    })

-- beyond the device there is nothing to pick
pub Picked-end : (newest newest' : List ℕ) (heads : List (Option ℕ)) (pool : List Candidate) (picks : List ℕ) (n used' : ℕ) → IsChained heads pool
    → length newest ≡ 8 * length heads → length newest ≤ n → Picked newest newest' pool picks n used'
    → (word : ℕ) → get_or newest' word 0 ≡ picked (held_in newest pool) picks word
Picked-end newest newest' heads pool picks n used' chained sizes all going word =
    elim (below_or_past word n) [
      | inl under ↦ going.done word under
      | inr over ↦
          going.rest word over
          ∙ sym (alone-picked (older_in pool word) (get_or newest word 0) (get_or picks (several_below (held_in newest pool) word) 0)
          (ap length (older_below-beyond (at pool) word (length heads) (length pool) chained.lines (omega (arith, sizes)))))
    ]
