-- Going once through names, with the set of those that were seen, finds each at its first naming.
use Rattle.std.proofs.Common.{suc, ◌+◌, ◌<◌, ◌++◌, length, drop, get_or, drop-cons, append_assoc, ◌≡◌, ℕ, Bool, true, false, not, cond, ◌&&◌, List, [], ◌∷◌, refl, ap, sym, ◌∙◌, arith}
use Rattle.std.specs.List.{filter}
use Rattle.std.specs.BTreeSet.{BTreeSet, contains, Updates}
use Rattle.std.proofs.lemmas.Map.Text.{is_eq-slice_cmp}
use Rattle.std.proofs.lemmas.Slice.Eq.{bytes_eq-Decides}
use Rattle.kv_types.specs.Keyspace.{bytes_cmp}
use Rattle.cmd_core.specs.Contents.{same_bytes}
use Rattle.cmd_core.specs.Naming.{firsts}

-- those of the names that were not seen
abbrev pub fresh : BTreeSet (List ℕ) → List (List ℕ) → List (List ℕ)
fresh seen names = filter (λ name. not (contains bytes_cmp seen name)) names

filter_twice : {X : Type 0} (p q r : X → Bool) → ((x : X) → r x ≡ (q x && p x)) → (xs : List X) → filter p (filter q xs) ≡ filter r xs
filter_twice p q r both [] = refl
filter_twice p q r both (x ∷ xs) = grind (arith, both x, filter_twice p q r both xs)

filter_all : {X : Type 0} (p : X → Bool) → ((x : X) → p x ≡ true) → (xs : List X) → filter p xs ≡ xs
filter_all p all [] = refl
filter_all p all (x ∷ xs) = grind (arith, all x, filter_all p all xs)

pub none_seen : (seen : BTreeSet (List ℕ)) → seen.keys ≡ [] → (names : List (List ℕ)) → fresh seen names ≡ names
none_seen seen empty names = filter_all (λ name. not (contains bytes_cmp seen name)) (λ name. (rw empty refl)) names

same_is : (x y : List ℕ) → same_bytes x y ≡ true → x ≡ y
same_is x y same = (bytes_eq-Decides x y).0 same

not_again : (seen : List ℕ → Bool) (name x : List ℕ) → seen name ≡ true → not (seen x) ≡ (not (same_bytes name x) && not (seen x))
not_again seen name x was = grind (arith, same_is name x)

seen_again : (name : List ℕ) (names : List (List ℕ)) (seen : BTreeSet (List ℕ)) → contains bytes_cmp seen name ≡ true → fresh seen (firsts (name ∷ names)) ≡ fresh seen (firsts names)
seen_again name names seen was =
    let none : fresh seen (firsts (name ∷ names)) ≡ fresh seen (filter (λ other. not (same_bytes name other)) (firsts names)) = (rw was refl) in
    none ∙ filter_twice _ (λ other. not (same_bytes name other)) _ (λ x. not_again (contains bytes_cmp seen) name x was) (firsts names)

not_after : (same was now : Bool) → now ≡ cond same true was → not now ≡ (not same && not was)
not_after same was now is = grind arith

seen_first : (name : List ℕ) (names : List (List ℕ)) (seen next : BTreeSet (List ℕ))
    → contains bytes_cmp seen name ≡ false → Updates bytes_cmp seen next name true
    → fresh seen (firsts (name ∷ names)) ≡ name ∷ fresh next (firsts names)
seen_first name names seen next was updates =
    let one : fresh seen (firsts (name ∷ names)) ≡ name ∷ fresh seen (filter (λ other. not (same_bytes name other)) (firsts names)) = (rw was refl) in
    let after : (x : List ℕ) → contains bytes_cmp next x ≡ cond (same_bytes name x) true (contains bytes_cmp seen x) = λ x. (updates.0 x ∙ ap (λ b. cond b true (contains bytes_cmp seen x)) (is_eq-slice_cmp name x)) in
    one ∙ ap (λ rest. name ∷ rest)
    (filter_twice _ (λ other. not (same_bytes name other)) _ (λ x. not_after (same_bytes name x) (contains bytes_cmp seen x) (contains bytes_cmp next x) (after x)) (firsts names))

-- the names from the next on
next_and_rest : (names : List (List ℕ)) (i : ℕ) (name : List ℕ) → i < length names → name ≡ get_or names i name → drop i names ≡ name ∷ drop (i + 1) names
next_and_rest names i name within is = let cons = drop-cons names i name within in let e : suc i ≡ i + 1 = omega arith in cons ∙ ap (λ k. k ∷ drop (suc i) names) (sym is) ∙ ap (λ n. name ∷ drop n names) e

module _ (names : List (List ℕ)) (i : ℕ) (name : List ℕ) (seen next : BTreeSet (List ℕ)) (once whole : List (List ℕ)) (within : i < length names) (is : name ≡ get_or names i name) where
  -- a name that was seen adds nothing
  pub passed : contains bytes_cmp seen name ≡ true → next.keys ≡ seen.keys
      → once ++ fresh seen (firsts (drop i names)) ≡ whole → once ++ fresh next (firsts (drop (i + 1) names)) ≡ whole
  passed was same made =
      let left : fresh seen (firsts (drop i names)) ≡ fresh seen (firsts (drop (i + 1) names)) =
      ap (λ ks. fresh seen (firsts ks)) (next_and_rest names i name within is) ∙ seen_again name (drop (i + 1) names) seen was in
      let moved : fresh next (firsts (drop (i + 1) names)) ≡ fresh seen (firsts (drop (i + 1) names)) = (rw same refl) in
      ap (λ ks. once ++ ks) (moved ∙ sym left) ∙ made

  -- a name that was not seen is kept
  pub taken : contains bytes_cmp seen name ≡ false → Updates bytes_cmp seen next name true
      → once ++ fresh seen (firsts (drop i names)) ≡ whole → (once ++ name ∷ []) ++ fresh next (firsts (drop (i + 1) names)) ≡ whole
  taken was updates made =
      let left : fresh seen (firsts (drop i names)) ≡ name ∷ fresh next (firsts (drop (i + 1) names)) =
      ap (λ ks. fresh seen (firsts ks)) (next_and_rest names i name within is) ∙ seen_first name (drop (i + 1) names) seen next was updates in
      append_assoc once (name ∷ []) (fresh next (firsts (drop (i + 1) names))) ∙ ap (λ ks. once ++ ks) (sym left) ∙ made
