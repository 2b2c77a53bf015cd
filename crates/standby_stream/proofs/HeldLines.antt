-- The lines that the versions in some entries hold: no two entries hold the same line, so they are no more than the image has.
use Rattle.std.proofs.Common.{◌≡◌, ◌≢◌, ℕ, zero, suc, ◌+◌, ◌<◌, ◌≤◌, ⊎_elim, false, nat_eq, List, [], ◌∷◌, length, Contains, Option, Some, None, refl, sym, ap, subst, ◌∙◌, arith}
use Rattle.std.specs.List.{AllByRecursion, IsDistinct, flat_map, range_with_len}
use Rattle.std.proofs.lemmas.Bool.{eqb-true}
use Rattle.std.proofs.lemmas.List.Elements.{Contains-append_cases}
use Rattle.std.proofs.lemmas.List.FromFn.{length-range_with_len}
use Rattle.std.proofs.lemmas.Map.Keys.{IsDistinct-head, IsDistinct-tail, IsDistinct-cons}
use Rattle.std.proofs.lemmas.Map.Steps.{length-le_from_distinct_below}
use Rattle.model.specs.Group.{Contents, Versions}
use Rattle.model.specs.Image.{Version}
use Rattle.mv_keyspace.proofs.DistinctLemmas.{distinct-none, distinct-append}
use Rattle.placing.specs.Read.{AreInOrder}
use Rattle.placing.proofs.MemberLemmas.{here, later, first_or_later, no_member, member-from_any, differ}

-- ---- elements

pub all_at : {X : Type 0} (P : X → Type 0) (xs : List X) (x : X) → AllByRecursion P xs → Contains xs x → P x
all_at P [] x all m = absurd (no_member x m)
all_at P (y ∷ xs) x all m = ⊎_elim (λ (same : y ≡ x). subst P same all.0) (λ (rest : Contains xs x). all_at P xs x all.1 rest) (first_or_later y x xs m)

pub one_number : (i : ℕ) → IsDistinct nat_eq (i ∷ [])
one_number i = IsDistinct-cons nat_eq i [] tt distinct-none

-- ---- the lines of a run

run_bounds : (first count line : ℕ) → Contains (range_with_len first count) line → (first ≤ line) × (line < first + count)
run_bounds first zero line m = absurd (no_member line m)
run_bounds first (suc count) line m =
    ⊎_elim (λ (same : first ≡ line). (omega arith, omega arith))
    (λ (rest : Contains (range_with_len (first + 1) count) line). let bounds = run_bounds (first + 1) count line rest in (omega arith, omega arith))
    (first_or_later first line (range_with_len (first + 1) count) m)

first_line_alone : (first count line : ℕ) → Contains (first ∷ []) line → ¬ Contains (range_with_len (first + 1) count) line
first_line_alone first count line m m' =
    let bounds = run_bounds (first + 1) count line m' in
    ⊎_elim (λ (same : first ≡ line). absurd (omega arith)) (λ (none : Contains [] line). no_member line none) (first_or_later first line [] m)

run_once : (first count : ℕ) → IsDistinct nat_eq (range_with_len first count)
run_once first zero = distinct-none
run_once first (suc count) = distinct-append (first ∷ []) (range_with_len (first + 1) count) (one_number first) (run_once (first + 1) count) (first_line_alone first count)

-- ---- the lines of versions

abbrev pub lines_in : Option Version → List ℕ
lines_in None = []
lines_in (Some version) = range_with_len version.first_line version.lines

-- the lines of the versions in these entries
abbrev pub lines_held : Versions → List ℕ → List ℕ
lines_held versions = flat_map (λ i. lines_in (versions i))

pub lines-at : (versions : Versions) (i : ℕ) (version : Version) → versions i ≡ Some version → length (lines_in (versions i)) ≡ version.lines
lines-at versions i version begun = ap (λ (entry : Option Version). length (lines_in entry)) begun ∙ length-range_with_len version.first_line version.lines

-- the version of entry i has this line
record HasLine (versions : Versions) (i line : ℕ) : Type 0 where
  version : Version
  begun : versions i ≡ Some version
  above : version.first_line ≤ line
  within : line < version.first_line + version.lines

has_line : (versions : Versions) (i line : ℕ) (entry : Option Version) → versions i ≡ entry → Contains (lines_in entry) line → HasLine versions i line
has_line versions i line None is m = absurd (no_member line m)
has_line versions i line (Some version) is m =
    let bounds = run_bounds version.first_line version.lines line m in
    record { version = version; begun = is; above = bounds.0; within = bounds.1 }

-- a line that is held is of the version of one of the entries
holder : (versions : Versions) (is : List ℕ) (line : ℕ) → Contains (lines_held versions is) line → (i : ℕ) × Contains is i × HasLine versions i line
holder versions [] line m = absurd (no_member line m)
holder versions (i ∷ is) line m =
    ⊎_elim (λ (own : Contains (lines_in (versions i)) line). (i, here i is, has_line versions i line (versions i) refl own))
    (λ (rest : Contains (lines_held versions is) line). let found = holder versions is line rest in (found.0, later i found.0 is found.1, found.2))
    (Contains-append_cases (lines_in (versions i)) (lines_held versions is) line m)

own_once : (entry : Option Version) → IsDistinct nat_eq (lines_in entry)
own_once None = distinct-none
own_once (Some version) = run_once version.first_line version.lines

module _ (contents : Contents) (lawful : AreInOrder contents) where
  -- versions of two entries share no line
  no_line_shared : (i j line : ℕ) → i ≢ j → HasLine contents.versions i line → HasLine contents.versions j line → ⊥
  no_line_shared i j line other has has' =
      let low = has.above in
      let high = has.within in
      let low' = has'.above in
      let high' = has'.within in
      ⊎_elim (λ (before : has.version.first_line + has.version.lines ≤ has'.version.first_line). absurd (omega arith))
      (λ (behind : has'.version.first_line + has'.version.lines ≤ has.version.first_line). absurd (omega arith))
      (lawful.apart i j has.version has'.version other has.begun has'.begun)

  held_once : (is : List ℕ) → IsDistinct nat_eq is → IsDistinct nat_eq (lines_held contents.versions is)
  held_once [] once = distinct-none
  held_once (i ∷ is) once =
      distinct-append (lines_in (contents.versions i)) (lines_held contents.versions is) (own_once (contents.versions i)) (held_once is (IsDistinct-tail nat_eq i is once))
      (λ line m m'.
      let found = holder contents.versions is line m' in
      no_line_shared i found.0 line (differ i found.0 (all_at (λ j. nat_eq i j ≡ false) is found.0 (IsDistinct-head nat_eq i is once) found.1))
      (has_line contents.versions i line (contents.versions i) refl m) found.2)

  held_within : (is : List ℕ) (line : ℕ) → Contains (lines_held contents.versions is) line → line < contents.lines
  held_within is line m =
      let found = holder contents.versions is line m in
      let has = found.2 in
      let high = has.within in
      let within = (lawful.placed found.0 has.version has.begun).within in
      omega arith

  -- versions of distinct entries have no more lines than the image
  pub lines-fit : (is : List ℕ) → IsDistinct nat_eq is → length (lines_held contents.versions is) ≤ contents.lines
  lines-fit is once =
      length-le_from_distinct_below (lines_held contents.versions is) contents.lines (held_once is once)
      (λ line any.
      let found = member-from_any (nat_eq line) (lines_held contents.versions is) any in
      subst (λ k. k < contents.lines) (sym (eqb-true line found.0 found.2)) (held_within is found.0 found.1))
