-- What is left of records that were put in order, each once, and of which those stay that pass a test.
use Rattle.std.proofs.Common.{◌≡◌, ◌↔◌, ⊎_elim, Bool, true, false, cond, List, [], ◌∷◌, Option, Some, None, is_none, filter, Contains, IsPermutation, IsSorted, refl, sym, ap, subst, ◌∙◌}
use Rattle.std.specs.List.{dedup}
use Rattle.std.specs.List.Sorted.{IsStrictlySortedBy}
use Rattle.std.specs.Ordering.{eq_by_cmp}
use Rattle.std.specs.Cmp.{eq_by_cmp_equiv}
use Rattle.std.proofs.lemmas.List.Elements.{All-contains, All-contains_itself, All-filter, filter_passes}
use Rattle.std.proofs.lemmas.List.Kept.{Contains-dedup, Contains-from_dedup, IsStrictlySortedBy-dedup, IsStrictlySortedBy-filter}
use Rattle.std.proofs.lemmas.List.Sorted.{Contains-permutation, IsPermutation-sym}
use Rattle.kv_types.specs.declared.record_id.RecordId.{RecordId}
use Rattle.kv_types.specs.Keyspace.{Keyspace, record_cmp, value_at}
use Rattle.kv_types.specs.Order.{record_cmp_total}
use Rattle.kv_types.proofs.OrderLemmas.{same_record}
use Rattle.placing.proofs.MemberLemmas.{here, later, first_or_later, no_member}

-- ---- in order, each once

module _ (ids moved once : List RecordId) (permutation : IsPermutation ids moved) (is : once ≡ dedup (eq_by_cmp record_cmp) moved) where
  pub ordered-same : (id : RecordId) → Contains once id ↔ Contains ids id
  ordered-same id = (
    λ found. Contains-permutation moved ids id (IsPermutation-sym ids moved permutation) (Contains-from_dedup (eq_by_cmp record_cmp) moved id (subst (λ xs. Contains xs id) is found)),
    λ found. subst (λ xs. Contains xs id) (sym is) (Contains-dedup (eq_by_cmp_equiv record_cmp_total) same_record moved id (Contains-permutation ids moved id permutation found)),
  )

  pub ordered-rising : IsSorted record_cmp moved → IsStrictlySortedBy record_cmp once
  ordered-rising up = subst (IsStrictlySortedBy record_cmp) (sym is) (IsStrictlySortedBy-dedup record_cmp_total (λ x y. refl) moved up)

-- ---- those that pass a test

kept-from : (passes : RecordId → Bool) (ids : List RecordId) (id : RecordId) → Contains (filter passes ids) id → Contains ids id × (passes id ≡ true)
kept-from passes ids id found = (
  All-contains (Contains ids) (filter passes ids) id (All-filter passes (Contains ids) ids (All-contains_itself ids)) found,
  All-contains (λ x. passes x ≡ true) (filter passes ids) id (filter_passes passes ids) found,
)

kept-in : (passes : RecordId → Bool) (ids : List RecordId) (id : RecordId) → Contains ids id → passes id ≡ true → Contains (filter passes ids) id
kept-in passes [] id found e = absurd (no_member id found)
kept-in passes (x ∷ ids) id found e =
    ⊎_elim
    (λ (same : x ≡ id). subst (λ b. Contains (cond b (x ∷ filter passes ids) (filter passes ids)) id) (sym (ap passes same ∙ e)) (subst (Contains (x ∷ filter passes ids)) same (here x (filter passes ids))))
    (λ (rest : Contains ids id).
    let kept = kept-in passes ids id rest e in
    elim (passes x) as (λ b. Contains (cond b (x ∷ filter passes ids) (filter passes ids)) id) [ true ↦ later x id (filter passes ids) kept | false ↦ kept ])
    (first_or_later x id ids found)

-- ---- those that a keyspace does not have

is_none-None : {X : Type 0} (found : Option X) → is_none found ≡ true → found ≡ None
is_none-None None e = refl
is_none-None (Some x) e = cc

module _ (s t : Keyspace) (same : s ≡ t) (ended ordered gone : List RecordId) (all : (id : RecordId) → Contains ordered id ↔ Contains ended id)
    (is : gone ≡ filter (λ id. is_none (value_at s id)) ordered) where
  pub gone-these : (id : RecordId) → Contains gone id ↔ (Contains ended id × (value_at t id ≡ None))
  gone-these id = (
    λ found.
        let kept = kept-from (λ x. is_none (value_at s x)) ordered id (subst (λ xs. Contains xs id) is found) in
        ((all id).0 kept.0, ap (λ u. value_at u id) (sym same) ∙ is_none-None (value_at s id) kept.1),
    λ found. subst (λ xs. Contains xs id) (sym is) (kept-in (λ x. is_none (value_at s x)) ordered id ((all id).1 found.0) (ap is_none (ap (λ u. value_at u id) same ∙ found.1))),
  )

  pub gone-rising : IsStrictlySortedBy record_cmp ordered → IsStrictlySortedBy record_cmp gone
  gone-rising up = subst (IsStrictlySortedBy record_cmp) (sym is) (IsStrictlySortedBy-filter record_cmp (λ id. is_none (value_at s id)) ordered up)
