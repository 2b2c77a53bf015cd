-- Runs of which one is made shorter or longer, and takes no other fork.
use Rattle.std.proofs.Common.{◌≡◌, ℕ, ◌+◌, ◌-◌, ◌^◌, ◌<◌, ◌==◌, false, ◌||◌, List, [], ◌∷◌, ◌++◌, inl, inr, refl, sym, ap, subst, ◌∙◌, append_assoc, append-nil, arith}
use Rattle.std.proofs.lemmas.Bool.{cases_lt, cond_both, or_parts}
use Rattle.std.proofs.lemmas.Bool.Decides.{nat_tests}
use Rattle.kv_types.specs.declared.place.Extent.{Extent}
use Rattle.extent_heap.specs.Extents.{is_line_of}
use Rattle.extent_heap.specs.OneRun.{HasRun, Replaces}
use Rattle.extent_heap.specs.Runs.{has_line, AreRuns, total, some_run, AreInOrder, IsApart, IsCut, HasGiven, HasClaimed}
use Rattle.extent_heap.proofs.CutLemmas.{claimed_is, front_of, back_of, left_of}
use Rattle.extent_heap.proofs.JoinLemmas.{joined_lines, begin_behind}
use Rattle.extent_heap.proofs.RunsLemmas.{has_line-append, total-append, AreRuns-join, at_run, line_bounds, line_within}
use Rattle.extent_heap.proofs.SplitLemmas.{begin_from}

-- the run ends below the highest number that a `u64` can be
pub run_small : (runs : List Extent) (line : ℕ) (run : Extent) → AreInOrder runs → HasRun runs line run → run.first_line + run.lines < 2 ^ 64
run_small runs line run order has =
    let within = (at_run order.low order.high has.before run has.behind (subst (AreRuns order.low order.high) has.is order.are)).within in
    omega (arith, within, order.small)

-- ---- shorter

none_left : (run : Extent) → run.lines ≡ 0 → some_run run ≡ []
none_left run none = cond_both (run.lines == 0) [] (run ∷ []) (λ xs. xs ≡ []) (λ _. refl) (λ some. grind (arith, nat_tests))

some_left : (run : Extent) → 0 < run.lines → some_run run ≡ run ∷ []
some_left run some = cond_both (run.lines == 0) [] (run ∷ []) (λ xs. xs ≡ run ∷ []) (λ none. grind (arith, nat_tests)) (λ _. refl)

pub shortened : (runs new : List Extent) (extent run : Extent) → AreInOrder runs → 0 < extent.lines → extent.first_line ≡ run.first_line → extent.lines < run.lines
    → Replaces runs run (record { first_line = extent.first_line + extent.lines; lines = run.lines - extent.lines }) new → HasClaimed runs extent new
shortened runs new extent run order some first longer by =
    let rest : Extent = record { first_line = extent.first_line + extent.lines; lines = run.lines - extent.lines } in
    let within = (at_run order.low order.high by.before run by.behind (subst (AreRuns order.low order.high) by.is order.are)).within in
    let small = order.small in
    let cut : IsCut runs extent by.before run by.behind = record { is = by.is; from = omega arith; within = omega arith; small = omega arith } in
    let front : some_run (front_of run extent) ≡ [] = none_left (front_of run extent) (omega arith) in
    let same : back_of run extent ≡ rest = ap (λ (n : ℕ). record rest { lines = n }) (omega arith) in
    let back : some_run (back_of run extent) ≡ rest ∷ [] = some_left (back_of run extent) (omega arith) ∙ ap (λ (r : Extent). r ∷ []) same in
    let is : new ≡ left_of by.before run extent by.behind = rw (front, back, append-nil by.before) (by.becomes ∙ sym (append_assoc by.before (rest ∷ []) by.behind)) in
    claimed_is runs extent by.before run by.behind new order cut some is

-- ---- longer

none_beside : (runs before behind : List Extent) (run : Extent) (line : ℕ) → runs ≡ before ++ run ∷ behind → has_line runs line ≡ false
    → (has_line before line ≡ false) × (is_line_of run line ≡ false) × (has_line behind line ≡ false)
none_beside runs before behind run line is none =
    let parts = or_parts (has_line before line) (has_line (run ∷ behind) line) (sym (has_line-append before (run ∷ behind) line) ∙ sym (ap (λ (xs : List Extent). has_line xs line) is) ∙ none) in
    let parts' = or_parts (is_line_of run line) (has_line behind line) parts.1 in
    (parts.0, parts'.0, parts'.1)

-- the run that has the line before an extent ends there, and the one that has the line behind it begins there
pub touches_before : (runs : List Extent) (run extent : Extent) → HasRun runs (extent.first_line - 1) run → IsApart runs extent → 0 < extent.lines → run.first_line + run.lines ≡ extent.first_line
touches_before runs run extent has apart some =
    let bounds = line_bounds run (extent.first_line - 1) has.has in
    let from = bounds.0 in
    let below = bounds.1 in
    let out = (none_beside runs has.before has.behind run extent.first_line has.is (apart extent.first_line (line_within extent extent.first_line (omega arith) (omega arith)))).1 in
    grind (arith, line_within run extent.first_line, out, from, below)

pub touches_behind : (runs : List Extent) (run extent : Extent) → HasRun runs (extent.first_line + extent.lines) run → IsApart runs extent → 0 < extent.lines
    → extent.first_line + extent.lines ≡ run.first_line
touches_behind runs run extent has apart some =
    let last = extent.first_line + extent.lines - 1 in
    let bounds = line_bounds run (extent.first_line + extent.lines) has.has in
    let from = bounds.0 in
    let below = bounds.1 in
    let out = (none_beside runs has.before has.behind run last has.is (apart last (line_within extent last (omega arith) (omega arith)))).1 in
    grind (arith, line_within run last, out, from, below)

-- where the line behind an extent is in no run either, the extent with that line is apart
one_more_apart : (runs : List Extent) (extent : Extent) → IsApart runs extent → has_line runs (extent.first_line + extent.lines) ≡ false
    → IsApart runs (record { first_line = extent.first_line; lines = extent.lines + 1 })
one_more_apart runs extent apart none line of =
    let bounds = line_bounds (record { first_line = extent.first_line; lines = extent.lines + 1 }) line of in
    let from = bounds.0 in
    let below = bounds.1 in
    elim (cases_lt line (extent.first_line + extent.lines)) [
      | inl inside ↦ apart line (line_within extent line from inside)
      | inr beyond ↦ let same : extent.first_line + extent.lines ≡ line = omega arith in subst (λ n. has_line runs n ≡ false) same none
    ]

-- runs that end below the end of an extent end before the line before it, where they have neither that line nor one of the extent's
end_before : (low high : ℕ) (xs : List Extent) (extent : Extent) → AreRuns low high xs → high ≡ extent.first_line + extent.lines → IsApart xs extent → has_line xs (extent.first_line - 1) ≡ false
    → AreRuns low extent.first_line xs
end_before low high [] extent runs ends apart none = tt
end_before low high (x ∷ xs) extent runs ends apart none =
    let last = x.first_line + x.lines - 1 in
    let from = runs.0 in
    let some = runs.1 in
    let within = runs.2 in
    let parts = or_parts (is_line_of x (extent.first_line - 1)) (has_line xs (extent.first_line - 1)) none in
    let has = line_within x last (omega arith) (omega arith) in
    let below : x.first_line + x.lines < extent.first_line = grind (arith, has, apart last, line_within extent last, parts.0, line_within x (extent.first_line - 1)) in
    (from, some, below, end_before (x.first_line + x.lines + 1) high xs extent runs.3 ends (λ line of. (or_parts (is_line_of x line) (has_line xs line) (apart line of)).1) parts.1)

-- a longer run in the place of one, where no other run touches it
grown : (old new : List Extent) (extent run joined : Extent) (by : Replaces old run joined new) → 0 < extent.lines → ((line : ℕ) → is_line_of joined line ≡ (is_line_of run line || is_line_of extent line))
    → joined.lines ≡ run.lines + extent.lines
    → ((high : ℕ) → AreRuns 0 high old → extent.first_line + extent.lines < high
    → AreRuns 0 joined.first_line by.before × (joined.first_line + joined.lines < high) × AreRuns (joined.first_line + joined.lines + 1) high by.behind)
    → HasGiven old extent new
grown old new extent run joined by some lines count ordered = record {
  lines = λ line. grind (
    arith,
    has_line-append by.before (joined ∷ by.behind) line,
    has_line-append by.before (run ∷ by.behind) line,
    ap (λ (xs : List Extent). has_line xs line) by.is,
    ap (λ (xs : List Extent). has_line xs line) by.becomes,
    lines line,
  );
  ordered = λ high runs less.
      let parts = ordered high runs less in
      let within = parts.1 in
      subst (AreRuns 0 high) (sym by.becomes)
      (AreRuns-join 0 joined.first_line joined.first_line high by.before (joined ∷ by.behind) (omega arith) (omega arith) (omega arith) parts.0 (omega arith, omega arith, within, parts.2));
  count = omega (arith, ap total by.is, ap total by.becomes, total-append by.before (run ∷ by.behind), total-append by.before (joined ∷ by.behind));
}

pub longer_behind : (old new : List Extent) (extent run : Extent) → 0 < extent.lines → IsApart old extent → has_line old (extent.first_line + extent.lines) ≡ false
    → run.first_line + run.lines ≡ extent.first_line → Replaces old run (record { first_line = run.first_line; lines = run.lines + extent.lines }) new → HasGiven old extent new
longer_behind old new extent run some apart none touch by =
    grown old new extent run (record { first_line = run.first_line; lines = run.lines + extent.lines }) by some (λ line. sym (joined_lines run extent line touch)) refl
    (λ high ordered less.
    let at = at_run 0 high by.before run by.behind (subst (AreRuns 0 high) by.is ordered) in
    let more : Extent = record { first_line = extent.first_line; lines = extent.lines + 1 } in
    let from = begin_from (run.first_line + run.lines + 1) high extent.first_line by.behind at.behind (omega arith) in
    let behind = begin_behind (run.first_line + run.lines + 1) high by.behind more at.behind from
    (λ line of. (none_beside old by.before by.behind run line by.is (one_more_apart old extent apart none line of)).2) in
    let end : extent.first_line + (extent.lines + 1) ≡ run.first_line + (run.lines + extent.lines) + 1 = omega arith in
    (at.before, omega arith, subst (λ low. AreRuns low high by.behind) end behind))

pub longer_before : (old new : List Extent) (extent run : Extent) → 0 < extent.lines → IsApart old extent → has_line old (extent.first_line - 1) ≡ false
    → extent.first_line + extent.lines ≡ run.first_line → Replaces old run (record { first_line = extent.first_line; lines = extent.lines + run.lines }) new → HasGiven old extent new
longer_before old new extent run some apart none touch by =
    grown old new extent run (record { first_line = extent.first_line; lines = extent.lines + run.lines }) by some (λ line. grind (arith, joined_lines extent run line touch)) (omega arith)
    (λ high ordered less.
    let at = at_run 0 high by.before run by.behind (subst (AreRuns 0 high) by.is ordered) in
    let within = at.within in
    let before = end_before 0 run.first_line by.before extent at.before (sym touch) (λ line of. (none_beside old by.before by.behind run line by.is (apart line of)).0)
    (none_beside old by.before by.behind run (extent.first_line - 1) by.is none).0 in
    let end : run.first_line + run.lines + 1 ≡ extent.first_line + (extent.lines + run.lines) + 1 = omega arith in
    (before, omega arith, subst (λ low. AreRuns low high by.behind) end at.behind))
