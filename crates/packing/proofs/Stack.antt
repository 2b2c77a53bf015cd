-- Extents in the order of their lines: those below the floor have slid down, the others lie where they were.
use Rattle.std.proofs.Common.{◌≡◌, ◌≢◌, ℕ, suc, ◌+◌, ◌<◌, ◌≤◌, ◌⊎◌, inl, inr, IsTrue, List, [], ◌∷◌, length, get_or, set, refl, sym, ap, subst, ◌∙◌, arith}
use Rattle.std.proofs.lemmas.Bool.{cases_eq}
use Rattle.std.proofs.lemmas.Bool.Decides.{nat_tests}
use Rattle.std.proofs.lemmas.List.{get_or-set_other, get_or-set_same, get_or_default, length-set}
use Rattle.kv_types.specs.declared.place.Extent.{Extent}
use Rattle.packing.specs.declared.placed.Placed.{Placed}
use Rattle.packing.specs.Moves.{are_apart, is_free, IsMove}
use Rattle.packing.specs.Sliding.{CanPass}

pub nowhere : Extent
nowhere = record { first_line = 0; lines = 0 }

-- where the extent of this index lies
abbrev pub at : List Extent → ℕ → Extent
at extents i = get_or extents i nowhere

abbrev pub end_of : Extent → ℕ
end_of extent = extent.first_line + extent.lines

-- one of them
abbrev pub Among : List Placed → Placed → Type 0
Among [] p = ⊥
Among (q ∷ qs) p = (p ≡ q) ⊎ Among qs p

pub below_apart : (a b : Extent) → end_of a ≤ b.first_line → IsTrue (are_apart a b)
below_apart a b below = grind (arith, nat_tests)

pub above_apart : (a b : Extent) → end_of b ≤ a.first_line → IsTrue (are_apart a b)
above_apart a b above = grind (arith, nat_tests)

-- apart from each, it is free
pub free_from_each : (wanted : Extent) (extents : List Extent) → ((i : ℕ) → i < length extents → IsTrue (are_apart wanted (at extents i))) → IsTrue (is_free wanted extents)
free_from_each wanted [] each = refl
free_from_each wanted (x ∷ xs) each =
    rw (each 0 (omega arith), free_from_each wanted xs (λ i within. each (suc i) (omega arith))) refl

module _ (first end lines : ℕ) where
  -- in order, each behind the one before it
  abbrev pub Chain : ℕ → List Placed → Type 0
  Chain low [] = Unit {0}
  Chain low (p ∷ ps) = (low ≤ p.extent.first_line) × CanPass first end lines p.extent × Chain (end_of p.extent) ps

  pub chain-lower : (low low' : ℕ) (ps : List Placed) → low' ≤ low → Chain low ps → Chain low' ps
  chain-lower low low' [] less chain = tt
  chain-lower low low' (p ∷ ps) less chain = (omega (arith, chain.0), chain.1, chain.2)

  -- each lies behind the bound
  pub chain-from : (low : ℕ) (ps : List Placed) (p : Placed) → Chain low ps → Among ps p → low ≤ p.extent.first_line
  chain-from low [] p chain among = absurd among
  chain-from low (q ∷ qs) p chain (inl is) = subst (λ (r : Placed). low ≤ r.extent.first_line) (sym is) chain.0
  chain-from low (q ∷ qs) p chain (inr among) = let some = chain.1.some in let rest = chain-from (end_of q.extent) qs p chain.2 among in omega (arith, chain.0, some, rest)

  pub chain-within : (low : ℕ) (ps : List Placed) (p : Placed) → Chain low ps → Among ps p → CanPass first end lines p.extent
  chain-within low [] p chain among = absurd among
  chain-within low (q ∷ qs) p chain (inl is) = subst (λ (r : Placed). CanPass first end lines r.extent) (sym is) chain.1
  chain-within low (q ∷ qs) p chain (inr among) = chain-within (end_of q.extent) qs p chain.2 among

  -- Those that are left lie where they were, in order; all others have slid below the floor.
  pub record Stack (floor : ℕ) (ps : List Placed) (extents : List Extent) : Type 0 where
    pub low : first ≤ floor
    pub chain : Chain floor ps
    pub here : (p : Placed) → Among ps p → (p.index < length extents) × (at extents p.index ≡ p.extent)
    pub settled : (i : ℕ) → i < length extents → (end_of (at extents i) ≤ floor) ⊎ Among ps (record { index = i; extent = at extents i })

  module _ (floor : ℕ) (p : Placed) (ps : List Placed) (extents : List Extent) (stack : Stack floor (p ∷ ps) extents) where
    own : (p.index < length extents) × (at extents p.index ≡ p.extent)
    own = stack.here p (inl refl)

    -- no other has its index
    other : (q : Placed) → Among ps q → q.index ≢ p.index
    other q among same =
        let is : at extents q.index ≡ q.extent = (stack.here q (inr among)).1 in
        let extent : q.extent ≡ p.extent = sym is ∙ ap (at extents) same ∙ own.1 in
        let behind = chain-from (end_of p.extent) ps q stack.chain.2 among in
        let line : q.extent.first_line ≡ p.extent.first_line = ap (λ (e : Extent). e.first_line) extent in
        let some = stack.chain.1.some in
        omega (arith, behind, line, some)

    -- the lines below it, from the floor on, are free of all but itself
    free_of_others : (to : Extent) → floor ≤ to.first_line → end_of to ≤ end_of p.extent → (i : ℕ) → i < length extents → i ≢ p.index → IsTrue (are_apart to (at extents i))
    free_of_others to from within i has is_not = elim (stack.settled i has) [
      | inl below ↦ above_apart to (at extents i) (omega (arith, below, from))
      | inr (inl same) ↦ absurd (is_not (ap (λ (r : Placed). r.index) same))
      | inr (inr among) ↦
          let behind = chain-from (end_of p.extent) ps (record { index = i; extent = at extents i }) stack.chain.2 among in
          below_apart to (at extents i) (omega (arith, within, behind))
    ]

    -- it stays, and is below the floor from then on
    pub stays : Stack (end_of p.extent) ps extents
    stays = record {
      low = let low = stack.low in let from = stack.chain.0 in omega (arith, low, from);
      chain = stack.chain.2;
      here = λ q among. stack.here q (inr among);
      settled = λ i has. elim (stack.settled i has) [
        | inl below ↦ let from = stack.chain.0 in inl (omega (arith, below, from))
        | inr (inl same) ↦ inl (let line : end_of (at extents i) ≡ end_of p.extent = ap (λ (r : Placed). end_of r.extent) same in omega (arith, line))
        | inr (inr among) ↦ inr among
      ];
    }

    -- after it has moved to the floor
    abbrev down : Extent
    down = record { first_line = floor; lines = p.extent.lines }

    settled_down : (moved : List Extent) → length moved ≡ length extents → at moved p.index ≡ down → ((i : ℕ) → i ≢ p.index → at moved i ≡ at extents i)
        → floor + p.extent.lines ≤ end_of p.extent → Stack (floor + p.extent.lines) ps moved
    settled_down moved count there others below = record {
      low = let low = stack.low in omega (arith, low);
      chain = chain-lower (end_of p.extent) (floor + p.extent.lines) ps below stack.chain.2;
      here = λ q among.
          let was = stack.here q (inr among) in
          (subst (λ n. q.index < n) (sym count) was.0, others q.index (other q among) ∙ was.1);
      settled = λ i has. elim (cases_eq i p.index) [
        | inl same ↦ inl (let line : end_of (at moved i) ≡ end_of down = ap (λ j. end_of (at moved j)) same ∙ ap end_of there in omega (arith, line))
        | inr differs ↦
            let kept = others i differs in
            elim (stack.settled i (subst (λ n. i < n) count has)) [
              | inl under ↦ inl (let line : end_of (at moved i) ≡ end_of (at extents i) = ap end_of kept in omega (arith, line, under))
              | inr (inl same) ↦ absurd (differs (ap (λ (r : Placed). r.index) same))
              | inr (inr among) ↦ inr (subst (λ (e : Extent). Among ps (record { index = i; extent = e })) (sym kept) among)
            ]
      ];
    }

    at_set_same : (to : Extent) → at (set extents p.index to) p.index ≡ to
    at_set_same to = get_or-set_same extents p.index to nowhere own.0

    at_set_other : (xs : List Extent) (to : Extent) (i : ℕ) → i ≢ p.index → at (set xs p.index to) i ≡ at xs i
    at_set_other xs to i differs = get_or-set_other xs p.index i to nowhere differs

    -- the lines of the extent at its index, whatever stands for none
    lines_there : (xs : List Extent) (d : Extent) → p.index < length xs → (at xs p.index).lines ≡ p.extent.lines → (get_or xs p.index d).lines ≡ p.extent.lines
    lines_there xs d within is = ap (λ (e : Extent). e.lines) (get_or_default xs p.index d nowhere within) ∙ is

    own_lines : (at extents p.index).lines ≡ p.extent.lines
    own_lines = ap (λ (e : Extent). e.lines) own.1

    -- straight, where the hole below it is long enough
    pub straight : floor + p.extent.lines ≤ p.extent.first_line → IsMove first lines extents (record { index = p.index; to = down }) × Stack (floor + p.extent.lines) ps (set extents p.index down)
    straight fits =
        let spare = stack.chain.1.spare in
        let within = stack.chain.1.within in
        let low = stack.low in (
          record {
            given = own.0;
            lines = lines_there extents down own.0 own_lines;
            from = low;
            within = omega (arith, fits, within, spare);
            free = free_from_each down extents (λ i has. elim (cases_eq i p.index) [
              | inl same ↦ subst (λ (e : Extent). IsTrue (are_apart down e)) (sym (ap (at extents) same ∙ own.1)) (below_apart down p.extent fits)
              | inr differs ↦ free_of_others down (omega arith) (omega (arith, fits)) i has differs
            ]);
          },
          settled_down (set extents p.index down) (length-set extents p.index down) (at_set_same down) (at_set_other extents down) (omega (arith, fits)),
        )

    -- by way of the lines from `end` on, where there is a hole below it
    abbrev up : Extent
    up = record { first_line = end; lines = p.extent.lines }

    all_below_end : (i : ℕ) → i < length extents → end_of (at extents i) ≤ end
    all_below_end i has = elim (stack.settled i has) [
      | inl under ↦ let from = stack.chain.0 in let within = stack.chain.1.within in omega (arith, under, from, within)
      | inr among ↦ (chain-within floor (p ∷ ps) (record { index = i; extent = at extents i }) stack.chain among).within
    ]

    pub around_up : IsMove first lines extents (record { index = p.index; to = up })
    around_up =
        let spare = stack.chain.1.spare in
        let within = stack.chain.1.within in
        let from = stack.chain.1.from in
        record {
          given = own.0;
          lines = lines_there extents up own.0 own_lines;
          from = omega (arith, from, within);
          within = spare;
          free = free_from_each up extents (λ i has. above_apart up (at extents i) (all_below_end i has));
        }

    pub around_down : floor ≤ p.extent.first_line → IsMove first lines (set extents p.index up) (record { index = p.index; to = down })
        × Stack (floor + p.extent.lines) ps (set (set extents p.index up) p.index down)
    around_down above =
        let spare = stack.chain.1.spare in
        let within = stack.chain.1.within in
        let low = stack.low in
        let moved = set extents p.index up in
        let there : p.index < length moved = subst (λ n. p.index < n) (sym (length-set extents p.index up)) own.0 in
        let here : at moved p.index ≡ up = at_set_same up in (
          record {
            given = there;
            lines = lines_there moved down there (ap (λ (e : Extent). e.lines) here);
            from = low;
            within = omega (arith, above, within, spare);
            free = free_from_each down moved (λ i has. elim (cases_eq i p.index) [
              | inl same ↦ subst (λ (e : Extent). IsTrue (are_apart down e)) (sym (ap (at moved) same ∙ here)) (below_apart down up (omega (arith, above, within)))
              | inr differs ↦ subst (λ (e : Extent). IsTrue (are_apart down e)) (sym (at_set_other extents up i differs))
                  (free_of_others down (omega arith) (omega (arith, above)) i (subst (λ n. i < n) (length-set extents p.index up) has) differs)
            ]);
          },
          settled_down (set moved p.index down) (length-set moved p.index down ∙ length-set extents p.index up) (get_or-set_same moved p.index down nowhere there)
              (λ i differs. at_set_other moved down i differs ∙ at_set_other extents up i differs) (omega (arith, above)),
        )
