-- An extent that is given back, and the runs that it touches.
use Rattle.std.proofs.Common.{◌≡◌, ◌≢◌, ℕ, ◌+◌, ◌<◌, ◌≤◌, Bool, false, ◌||◌, IsTrue, List, [], ◌∷◌, ◌++◌, refl, sym, ap, subst, ◌∙◌, arith}
use Rattle.std.proofs.lemmas.Bool.{or_parts}
use Rattle.std.proofs.lemmas.Bool.Decides.{nat_tests}
use Rattle.kv_types.specs.declared.place.Extent.{Extent}
use Rattle.extent_heap.specs.Extents.{is_line_of}
use Rattle.extent_heap.specs.Joined.{JoinsLast, JoinsFirst}
use Rattle.extent_heap.specs.Runs.{has_line, AreRuns, total, some_run, IsApart, HasGiven}
use Rattle.extent_heap.specs.Split.{IsSplit, AllBelow, AllFrom}
use Rattle.extent_heap.proofs.RunsLemmas.{has_line-append, total-append, AreRuns-join, AreRuns-front, AreRuns-back, at_run, AreRuns-some, total-some, has_line-some, line_within}

-- two extents of which one ends where the other begins are one
pub joined_lines : (first second : Extent) (line : ℕ) → first.first_line + first.lines ≡ second.first_line
    → (is_line_of first line || is_line_of second line) ≡ is_line_of (record { first_line = first.first_line; lines = first.lines + second.lines }) line
joined_lines first second line touch = grind (arith, nat_tests)

-- ---- the last run

pub last_touches : (runs rest : List Extent) (run extent : Extent) → runs ≡ rest ++ run ∷ [] → run.first_line + run.lines ≡ extent.first_line
    → JoinsLast runs extent rest (record { first_line = run.first_line; lines = run.lines + extent.lines })
last_touches runs rest run extent is touch = record {
  lines = λ line. grind (arith, joined_lines run extent line touch, has_line-append rest (run ∷ []) line, ap (λ (xs : List Extent). has_line xs line) is);
  ordered = λ low ordered less. let at = at_run low (extent.first_line + 1) rest run [] (subst (AreRuns low (extent.first_line + 1)) is ordered) in (at.before, at.from);
  end = omega arith;
  no_shorter = omega arith;
  count = let whole = ap total is ∙ total-append rest (run ∷ []) in omega arith;
}

pub last_apart : (runs rest : List Extent) (run extent : Extent) (new : List Extent) → runs ≡ rest ++ run ∷ [] → run.first_line + run.lines ≢ extent.first_line → new ≡ rest ++ some_run run
    → JoinsLast runs extent new extent
last_apart runs rest run extent new is gap is' =
    subst (λ (xs : List Extent). JoinsLast runs extent xs extent) (sym is')
    (record {
      lines = λ line. grind (
        arith,
        has_line-append rest (some_run run) line,
        has_line-some run line,
        has_line-append rest (run ∷ []) line,
        ap (λ (xs : List Extent). has_line xs line) is,
      );
      ordered = λ low ordered less.
          let at = at_run low (extent.first_line + 1) rest run [] (subst (AreRuns low (extent.first_line + 1)) is ordered) in
          (AreRuns-join low run.first_line run.first_line extent.first_line rest (some_run run) (omega arith) at.from (omega (arith, at.within)) at.before (AreRuns-some run.first_line extent.first_line run (omega arith) (omega (arith, at.within))), less);
      end = refl;
      no_shorter = omega arith;
      count = omega (arith, ap total is ∙ total-append rest (run ∷ []), total-append rest (some_run run), total-some run);
    })

-- ---- the first run

pub first_touches : (runs rest : List Extent) (run extent : Extent) → runs ≡ run ∷ rest → extent.first_line + extent.lines ≡ run.first_line
    → JoinsFirst runs extent (record { first_line = extent.first_line; lines = extent.lines + run.lines }) rest
first_touches runs rest run extent is touch = record {
  lines = λ line. grind (arith, joined_lines extent run line touch, ap (λ (xs : List Extent). has_line xs line) is);
  ordered = λ high ordered less.
      let parts = subst (AreRuns (extent.first_line + extent.lines) high) is ordered in
      let within = parts.2 in
      let end : run.first_line + run.lines + 1 ≡ extent.first_line + (extent.lines + run.lines) + 1 = omega arith in
      (subst (λ low. AreRuns low high rest) end parts.3, omega arith);
  first = refl;
  no_shorter = omega arith;
  count = let whole = ap total is in omega arith;
}

pub first_apart : (runs rest : List Extent) (run extent : Extent) (new : List Extent) → runs ≡ run ∷ rest → extent.first_line + extent.lines ≢ run.first_line → new ≡ some_run run ++ rest
    → JoinsFirst runs extent extent new
first_apart runs rest run extent new is gap is' =
    subst (λ (xs : List Extent). JoinsFirst runs extent extent xs) (sym is')
    (record {
      lines = λ line. grind (arith, has_line-append (some_run run) rest line, has_line-some run line, ap (λ (xs : List Extent). has_line xs line) is);
      ordered = λ high ordered less.
          let parts = subst (AreRuns (extent.first_line + extent.lines) high) is ordered in
          let end = run.first_line + run.lines + 1 in (
            AreRuns-join (extent.first_line + extent.lines + 1) end end high (some_run run) rest (omega arith) (omega (arith, parts.0)) (omega (arith, parts.2))
                (AreRuns-some (extent.first_line + extent.lines + 1) end run (omega (arith, parts.0)) (omega arith)) parts.3,
            less,
          );
      first = refl;
      no_shorter = omega arith;
      count = omega (arith, ap total is, total-append (some_run run) rest, total-some run);
    })

-- ---- both

-- runs that begin below a line which is in none of them end at it or below
end_below : (low high line : ℕ) (xs : List Extent) → AreRuns low high xs → AllBelow line xs → has_line xs line ≡ false → AreRuns low (line + 1) xs
end_below low high line [] runs begin none = tt
end_below low high line (x ∷ xs) runs begin none =
    let parts = or_parts (is_line_of x line) (has_line xs line) none in
    let end : x.first_line + x.lines ≤ line = grind (arith, line_within x line, parts.0, begin.0) in
    (runs.0, runs.1, omega arith, end_below (x.first_line + x.lines + 1) high line xs runs.3 begin.1 parts.1)

-- runs that begin at the extent's first line or above, and have none of its lines, begin where it ends or above
pub begin_behind : (low high : ℕ) (xs : List Extent) (extent : Extent) → AreRuns low high xs → AllFrom extent.first_line xs → IsApart xs extent → AreRuns (extent.first_line + extent.lines) high xs
begin_behind low high [] extent runs begin apart = tt
begin_behind low high (x ∷ xs) extent runs begin apart =
    let end : extent.first_line + extent.lines ≤ x.first_line = grind (arith, line_within x x.first_line, apart x.first_line, line_within extent x.first_line, begin.0, runs.1) in
    (end, runs.1, runs.2, runs.3)

-- all of the new runs, from their parts, and the parts of the old ones
all_of : (all front one below rest joined longer old_below old_rest old extent : Bool) → all ≡ (front || rest) → front ≡ (below || one) → one ≡ joined → (joined || rest) ≡ (longer || old_rest)
    → (below || longer) ≡ (old_below || extent) → old ≡ (old_below || old_rest) → all ≡ (old || extent)
all_of all front one below rest joined longer old_below old_rest old extent a b c d e f = grind arith

pub given_is : (runs below rest below' rest' : List Extent) (extent longer joined : Extent) (new : List Extent) → IsSplit extent.first_line runs below rest → JoinsLast below extent below' longer
    → JoinsFirst rest longer joined rest' → 0 < extent.lines → IsApart runs extent → new ≡ (below' ++ some_run joined) ++ rest' → HasGiven runs extent new
given_is runs below rest below' rest' extent longer joined new split last first some apart is =
    subst (HasGiven runs extent) (sym is)
    (record {
      lines = λ line.
          all_of _ _ _ _ _ _ _ _ _ _ (is_line_of extent line) (has_line-append (below' ++ some_run joined) rest' line) (has_line-append below' (some_run joined) line) (has_line-some joined line)
          (first.lines line) (last.lines line) (ap (λ (xs : List Extent). has_line xs line) split.is ∙ has_line-append below rest line);
      ordered = λ high ordered less.
          let runs_are : AreRuns 0 high (below ++ rest) = subst (AreRuns 0 high) split.is ordered in
          let none = λ (line : ℕ) (in_extent : IsTrue (is_line_of extent line)). sym (has_line-append below rest line) ∙ sym (ap (λ (xs : List Extent). has_line xs line) split.is) ∙ apart line in_extent in
          let below_none = or_parts (has_line below extent.first_line) (has_line rest extent.first_line) (none extent.first_line (line_within extent extent.first_line (omega arith) (omega arith))) in
          let low = end_below 0 high extent.first_line below (AreRuns-front 0 high below rest runs_are) (split.below_begins 0 high ordered) below_none.0 in
          let low' = last.ordered 0 low (omega arith) in
          let high_runs = begin_behind 0 high rest extent (AreRuns-back 0 high below rest runs_are) (split.rest_begins 0 high ordered)
          (λ line in_extent. (or_parts (has_line below line) (has_line rest line) (none line in_extent)).1) in
          let end = last.end in
          let high' = first.ordered high (subst (λ from. AreRuns from high rest) (sym end) high_runs) (omega arith) in
          let begins = first.first in
          let within = high'.1 in
          let front = AreRuns-join 0 longer.first_line longer.first_line (joined.first_line + joined.lines + 1) below' (some_run joined) (omega arith) (omega arith) (omega arith) low'.0
          (AreRuns-some longer.first_line (joined.first_line + joined.lines + 1) joined (omega arith) (omega arith)) in
          AreRuns-join 0 (joined.first_line + joined.lines + 1) (joined.first_line + joined.lines + 1) high (below' ++ some_run joined) rest' (omega arith) (omega arith) (omega arith) front high'.0;
      count = let whole = ap total split.is ∙ total-append below rest in
          omega (arith, total-append (below' ++ some_run joined) rest', total-append below' (some_run joined), total-some joined, last.count, first.count);
    })
