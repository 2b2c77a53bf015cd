-- A fence drops the passed candidates and chains the others anew.
use Rattle.std.proofs.Common.{◌≡◌, ◌⊎◌, ℕ, ◌+◌, ◌/◌, ◌<◌, ◌≤◌, Bool, true, false, not, List, [], ◌∷◌, ◌++◌, length, filter, take, get_or, set, Option, Some, None, refl, inl, inr, sym, subst, ap, ◌∙◌, arith, get_or-set_other, add-one}
use Rattle.std.proofs.lemmas.List.{length-set, take_more_set, length-take-le, append-nil, get_or_past}
use Rattle.std.proofs.lemmas.List.Elements.{filter-append}
use Rattle.pmem.specs.declared.cells.Candidate.{Candidate}
use Rattle.pmem.specs.Device.{Older}
use Rattle.pmem.specs.Cell.{at, last_below, older_of, older_below, older_in, IsChained}
use Rattle.pmem.proofs.Staging.{by_test}
use Rattle.pmem.proofs.Chains.{IsChained-push, older_in-push}
use Rattle.pmem.proofs.Walks.{last_below-found, below_or_past}

-- The loop that empties the chains
pub record Unlinking (heads heads' : List (Option ℕ)) (pool : List Candidate) (i : ℕ) : Type 0 where
  pub size : length heads' ≡ length heads
  pub cleared : (k : ℕ) → k < i → get_or heads' ((at pool k).word / 8) None ≡ None
  pub or_same : (line : ℕ) → (get_or heads' line None ≡ None) ⊎ (get_or heads' line None ≡ get_or heads line None)

pub Unlinking-end : (heads heads' : List (Option ℕ)) (pool : List Candidate) → IsChained heads pool → Unlinking heads heads' pool (length pool)
    → (line : ℕ) → get_or heads' line None ≡ None
Unlinking-end heads heads' pool chained done line =
    elim (done.or_same line) [
      | inl gone ↦ gone
      | inr was ↦
          elim (below_or_past line (length heads)) [
            | inl inside ↦
                (elim (last_below (at pool) line (length pool)) as (λ p. last_below (at pool) line (length pool) ≡ p → get_or heads' line None ≡ None) [
                  | None ↦ λ e. was ∙ chained.heads line inside ∙ e
                  | Some k ↦ λ e. let found = last_below-found (at pool) line (length pool) k e in rw (← found.1) (done.cleared k found.0)
                ]) refl
            | inr past ↦ get_or_past heads' line None (omega (arith, done.size))
          ]
    ]

-- The loop that keeps what is not passed

abbrev unpassed : Older → Bool
unpassed o = not o.passed

pub record Compacting (pool pool' : List Candidate) (heads heads' : List (Option ℕ)) (i kept : ℕ) : Type 0 where
  pub lines : length heads' ≡ length heads
  pub size : length pool' ≡ length pool
  pub behind : kept ≤ i
  pub chained : IsChained heads' (take kept pool')
  pub older : (word : ℕ) → older_in (take kept pool') word ≡ filter unpassed (older_below (at pool) word i)
  pub ahead : (k : ℕ) → i ≤ k → at pool' k ≡ at pool k

filter-passed : (c : Candidate) (word : ℕ) → c.passed ≡ true → filter unpassed (older_of c word) ≡ []
filter-passed c word e =
    by_test (λ os. filter unpassed os ≡ []) word c.word (record { value = c.value; passed = c.passed } ∷ []) [] (λ is. rw e) (λ n. refl)

filter-unpassed : (c : Candidate) (word : ℕ) → c.passed ≡ false → filter unpassed (older_of c word) ≡ older_of c word
filter-unpassed c word e =
    by_test (λ os. filter unpassed os ≡ os) word c.word (record { value = c.value; passed = c.passed } ∷ []) [] (λ is. rw e) (λ n. refl)

-- one more candidate has been looked at
filter-next : (pool : List Candidate) (word i : ℕ) (c : Candidate) → c ≡ at pool i
    → filter unpassed (older_below (at pool) word (i + 1)) ≡ filter unpassed (older_below (at pool) word i) ++ filter unpassed (older_of c word)
filter-next pool word i c is =
    ap (λ (n : ℕ). filter unpassed (older_below (at pool) word n)) (add-one i)
    ∙ filter-append unpassed (older_below (at pool) word i) (older_of (at pool i) word)
    ∙ ap (λ (x : Candidate). filter unpassed (older_below (at pool) word i) ++ filter unpassed (older_of x word)) (sym is)

-- a passed candidate is left out
pub Compacting-drop : (pool pool' : List Candidate) (heads heads' : List (Option ℕ)) (i kept : ℕ) (c : Candidate)
    → Compacting pool pool' heads heads' i kept → c ≡ at pool' i → c.passed ≡ true → Compacting pool pool' heads heads' (i + 1) kept
Compacting-drop pool pool' heads heads' i kept c going is passed =
    let same : c ≡ at pool i = is ∙ going.ahead i (omega arith) in
    record {
      lines = going.lines;
      size = going.size;
      behind = omega (arith, going.behind);
      chained = going.chained;
      older = λ word.
          going.older word
          ∙ sym (filter-next pool word i c same
          ∙ ap (λ (os : List Older). filter unpassed (older_below (at pool) word i) ++ os) (filter-passed c word passed)
          ∙ append-nil (filter unpassed (older_below (at pool) word i)));
      ahead = λ k over. going.ahead k (omega arith);
    }

-- one that is not passed is kept
pub Compacting-keep : (pool pool' : List Candidate) (heads heads' : List (Option ℕ)) (i kept : ℕ) (c : Candidate) (next : Option ℕ)
    → i < length pool → c.word / 8 < length heads'
    → Compacting pool pool' heads heads' i kept → c ≡ at pool' i → c.passed ≡ false → next ≡ get_or heads' (c.word / 8) None
    → Compacting pool (set pool' kept (record { word = c.word; value = c.value; passed = c.passed; next = next })) heads
    (set heads' (c.word / 8) (Some kept)) (i + 1) (kept + 1)
Compacting-keep pool pool' heads heads' i kept c next below line going is unpassed' next_is =
    let same : c ≡ at pool i = is ∙ going.ahead i (omega arith) in
    let linked : Candidate = record { word = c.word; value = c.value; passed = c.passed; next = next } in
    let prefix : List Candidate = take kept pool' in
    let kept_is : length prefix ≡ kept = length-take-le kept pool' (omega (arith, going.behind, going.size)) in
    let grown : take (kept + 1) (set pool' kept linked) ≡ prefix ++ linked ∷ [] =
    take_more_set pool' kept linked (omega (arith, going.behind, going.size)) in
    record {
      lines = length-set heads' (c.word / 8) (Some kept) ∙ going.lines;
      size = length-set pool' kept linked ∙ going.size;
      behind = omega (arith, going.behind);
      chained =
          rw grown (subst (λ (k : ℕ). IsChained (set heads' (c.word / 8) (Some k)) (prefix ++ linked ∷ [])) kept_is
          (IsChained-push heads' prefix linked going.chained line next_is));
      older = λ word.
          ap (λ (p : List Candidate). older_in p word) grown
          ∙ older_in-push prefix linked word
          ∙ ap (λ (os : List Older). os ++ older_of c word) (going.older word)
          ∙ ap (λ (os : List Older). filter unpassed (older_below (at pool) word i) ++ os) (sym (filter-unpassed c word unpassed'))
          ∙ sym (filter-next pool word i c same);
      ahead = λ k over.
          get_or-set_other pool' kept k linked (record { word = 0; value = 0; passed = false; next = None }) (omega (arith, going.behind))
          ∙ going.ahead k (omega arith);
    }
