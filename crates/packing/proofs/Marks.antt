-- Extents whose lines are taken in a table, and moves that keep them so.
use Rattle.std.proofs.Common.{◌≡◌, ◌≢◌, ℕ, suc, ◌<◌, ◌≤◌, ◌⊎◌, inl, inr, Bool, true, false, IsTrue, List, length, set, sym, ap, subst, ◌∙◌, arith}
use Rattle.std.proofs.lemmas.Bool.{cases_eq, cases_lt, true≢false}
use Rattle.std.proofs.lemmas.Bool.Decides.{nat_tests}
use Rattle.std.proofs.lemmas.List.{get_or-set_other, get_or-set_same, get_or_default, length-set}
use Rattle.kv_types.specs.declared.place.Extent.{Extent}
use Rattle.packing.specs.Moves.{are_apart, is_free}
use Rattle.packing.specs.Taken.{AllTaken, AreTaken, IsAll, IsMarked, Takes, nth}
use Rattle.packing.proofs.Stack.{above_apart, below_apart, end_of, free_from_each, nowhere}
use Rattle.packing.proofs.Apart.{apart_both_ways}

-- no line is both free and taken
no_line : (taken : List Bool) (a b : Extent) → IsAll taken false a → IsAll taken true b → (line : ℕ) → a.first_line ≤ line → line < end_of a → b.first_line ≤ line → line < end_of b → ⊥
no_line taken a b free all line from-a to-a from-b to-b = true≢false (sym (all.marked line from-b to-b) ∙ free.marked line from-a to-a)

-- free lines are apart from those that are taken
pub free_apart : (taken : List Bool) (a b : Extent) → 0 < a.lines → 0 < b.lines → IsAll taken false a → IsAll taken true b → IsTrue (are_apart a b)
free_apart taken a b some-a some-b free all = elim (cases_lt b.first_line (end_of a)) [
  | inr below ↦ below_apart a b below
  | inl over ↦ elim (cases_lt a.first_line (end_of b)) [
    | inr above ↦ above_apart a b above
    | inl under ↦ elim (cases_lt a.first_line b.first_line) [
      | inl first ↦ absurd (no_line taken a b free all b.first_line (omega (arith, first)) over (omega arith) (omega (arith, some-b)))
      | inr first ↦ absurd (no_line taken a b free all a.first_line (omega arith) (omega (arith, some-a)) first under)
    ]
  ]
]

-- lines that are free are in none of the extents
pub free_of_all : (taken : List Bool) (extents : List Extent) (wanted : Extent) → AllTaken taken extents → 0 < wanted.lines → IsAll taken false wanted → IsTrue (is_free wanted extents)
free_of_all taken extents wanted all some free = free_from_each wanted extents (λ i has.
    subst (λ (e : Extent). IsTrue (are_apart wanted e)) (get_or_default extents i _ nowhere has)
    (free_apart taken wanted (nth extents i) some (all.some i has) free (all.each i has)))

apart_either : (a b : Extent) → IsTrue (are_apart a b) → (end_of a ≤ b.first_line) ⊎ (end_of b ≤ a.first_line)
apart_either a b apart = elim (cases_lt b.first_line (end_of a)) [
  | inr below ↦ inl below
  | inl over ↦ inr (grind (arith, nat_tests, apart, over))
]

-- an extent keeps its marks where those of another are changed
keeps : (before after : List Bool) (a b : Extent) (old new : Bool) → IsAll before old a → IsTrue (are_apart a b) → IsMarked before b.first_line (end_of b) new after → IsAll after old a
keeps before after a b old new all apart marked =
    let within = all.within in
    let count = marked.count in
    record {
      within = omega (arith, within, count);
      marked = λ line from to. marked.outside line (elim (apart_either a b apart) [
        | inl below ↦ inl (omega (arith, below, to))
        | inr above ↦ inr (omega (arith, above, from))
      ]) ∙ all.marked line from to;
    }

module _ (before after : List Bool) (to : Extent) (took : Takes before to after) where
  took_is : IsAll after true to
  took_is =
      let within = took.free.within in
      let count = took.marked.count in
      record {
        within = omega (arith, within, count);
        marked = λ line from below. took.marked.inside line from below (omega (arith, within, below));
      }

  took_apart : (e : Extent) → 0 < e.lines → IsAll before true e → IsTrue (are_apart to e)
  took_apart e some all = free_apart before to e took.some some took.free all

  took_keeps : (e : Extent) → 0 < e.lines → IsAll before true e → IsAll after true e
  took_keeps e some all = keeps before after e to true true all (apart_both_ways to e (took_apart e some all)) took.marked

-- one more
pub taken_more : (before after : List Bool) (count : ℕ) (extents : List Extent) → AreTaken before count extents → Takes before (nth extents count) after → AreTaken after (suc count) extents
taken_more before after count extents are took =
    let to = nth extents count in record {
      some = λ i has. elim (cases_eq i count) [
        | inl same ↦ subst (λ (j : ℕ). 0 < (nth extents j).lines) (sym same) took.some
        | inr differs ↦ are.some i (omega (arith, has, differs))
      ];
      each = λ i has. elim (cases_eq i count) [
        | inl same ↦ subst (λ (j : ℕ). IsAll after true (nth extents j)) (sym same) (took_is before after to took)
        | inr differs ↦
            let low : i < count = omega (arith, has, differs) in
            took_keeps before after to took (nth extents i) (are.some i low) (are.each i low)
      ];
      apart = λ i j has-i has-j other. elim (cases_eq i count) [
        | inl same ↦
            let low : j < count = omega (arith, has-j, same, other) in
            subst (λ (k : ℕ). IsTrue (are_apart (nth extents k) (nth extents j))) (sym same) (took_apart before after to took (nth extents j) (are.some j low) (are.each j low))
        | inr differs ↦
            let low : i < count = omega (arith, has-i, differs) in
            elim (cases_eq j count) [
              | inl same ↦ subst (λ (k : ℕ). IsTrue (are_apart (nth extents i) (nth extents k))) (sym same)
                  (apart_both_ways to (nth extents i) (took_apart before after to took (nth extents i) (are.some i low) (are.each i low)))
              | inr differs-j ↦ are.apart i j low (omega (arith, has-j, differs-j)) other
            ]
      ];
    }

-- The extent of this index goes to lines that were free, and leaves those that it had.
module _ (before mid after : List Bool) (extents : List Extent) (at : ℕ) (to : Extent) (all : AllTaken before extents) (has : at < length extents) (took : Takes before to mid)
    (left : IsMarked mid (nth extents at).first_line (end_of (nth extents at)) false after) where
  moved : List Extent
  moved = set extents at to

  there : nth moved at ≡ to
  unfolding moved
  there = get_or-set_same extents at to _ has

  others : (i : ℕ) → i ≢ at → nth moved i ≡ nth extents i
  unfolding moved
  others i differs = get_or-set_other extents at i to _ differs

  within : (i : ℕ) → i < length moved → i < length extents
  unfolding moved
  within i low = subst (λ (n : ℕ). i < n) (length-set extents at to) low

  to_is : IsAll after true to
  to_is = keeps mid after to (nth extents at) true false (took_is before mid to took) (took_apart before mid to took (nth extents at) (all.some at has) (all.each at has)) left

  other_is : (i : ℕ) → i < length extents → i ≢ at → IsAll after true (nth extents i)
  other_is i low differs =
      keeps mid after (nth extents i) (nth extents at) true false (took_keeps before mid to took (nth extents i) (all.some i low) (all.each i low)) (all.apart i at low has differs) left

  to_apart : (i : ℕ) → i < length extents → IsTrue (are_apart to (nth extents i))
  to_apart i low = took_apart before mid to took (nth extents i) (all.some i low) (all.each i low)

  pub taken_moved : AllTaken after (set extents at to)
  unfolding moved
  taken_moved = record {
    some = λ i low. elim (cases_eq i at) [
      | inl same ↦ subst (λ (e : Extent). 0 < e.lines) (sym (ap (nth moved) same ∙ there)) took.some
      | inr differs ↦ subst (λ (e : Extent). 0 < e.lines) (sym (others i differs)) (all.some i (within i low))
    ];
    each = λ i low. elim (cases_eq i at) [
      | inl same ↦ subst (IsAll after true) (sym (ap (nth moved) same ∙ there)) to_is
      | inr differs ↦ subst (IsAll after true) (sym (others i differs)) (other_is i (within i low) differs)
    ];
    apart = λ i j low-i low-j other. elim (cases_eq i at) [
      | inl same ↦
          let differs : j ≢ at = λ is. other (same ∙ sym is) in
          subst (λ (e : Extent). IsTrue (are_apart e (nth moved j))) (sym (ap (nth moved) same ∙ there))
          (subst (λ (e : Extent). IsTrue (are_apart to e)) (sym (others j differs)) (to_apart j (within j low-j)))
      | inr differs ↦ subst (λ (e : Extent). IsTrue (are_apart e (nth moved j))) (sym (others i differs)) (elim (cases_eq j at) [
        | inl same ↦ subst (λ (e : Extent). IsTrue (are_apart (nth extents i) e)) (sym (ap (nth moved) same ∙ there))
            (apart_both_ways to (nth extents i) (to_apart i (within i low-i)))
        | inr differs-j ↦ subst (λ (e : Extent). IsTrue (are_apart (nth extents i) e)) (sym (others j differs-j)) (all.apart i j (within i low-i) (within j low-j) other)
      ])
    ];
  }
