-- A run in whose place another stands.
use Rattle.std.proofs.Common.{◌≡◌, ℕ, ◌&&◌, eqb, IsTrue, List, ◌∷◌, ◌++◌, refl, ap, ap₂, ◌∙◌, append_assoc, sym, arith}
use Rattle.std.proofs.lemmas.Bool.Decides.{nat_tests}
use Rattle.kv_types.specs.declared.place.Extent.{Extent}
use Rattle.extent_heap.specs.OneRun.{Replaces}

-- two extents that `==` finds equal
pub same_extent : (a b : Extent) → IsTrue (eqb a.first_line b.first_line && eqb a.lines b.lines) → a ≡ b
same_extent a b is =
    let first : a.first_line ≡ b.first_line = grind (arith, nat_tests, is) in
    let count : a.lines ≡ b.lines = grind (arith, nat_tests, is) in
    ap₂ (λ (f l : ℕ). record a { first_line = f; lines = l }) first count

module _ (left : List Extent) (own : Extent) (right : List Extent) (run by : Extent) where
  -- the fork's own run
  pub replaced_here : own ≡ run → Replaces (left ++ own ∷ right) run by (left ++ by ∷ right)
  replaced_here same = record { before = left; behind = right; is = ap (λ (r : Extent). left ++ r ∷ right) same; becomes = refl }

  -- one of those before it
  pub replaced_before : (left' : List Extent) → Replaces left run by left' → Replaces (left ++ own ∷ right) run by (left' ++ own ∷ right)
  replaced_before left' inner = record {
    before = inner.before;
    behind = inner.behind ++ own ∷ right;
    is = ap (λ (xs : List Extent). xs ++ own ∷ right) inner.is ∙ append_assoc inner.before (run ∷ inner.behind) (own ∷ right);
    becomes = ap (λ (xs : List Extent). xs ++ own ∷ right) inner.becomes ∙ append_assoc inner.before (by ∷ inner.behind) (own ∷ right);
  }

  -- one of those behind it
  pub replaced_behind : (right' : List Extent) → Replaces right run by right' → Replaces (left ++ own ∷ right) run by (left ++ own ∷ right')
  replaced_behind right' inner = record {
    before = left ++ own ∷ inner.before;
    behind = inner.behind;
    is = ap (λ (xs : List Extent). left ++ own ∷ xs) inner.is ∙ sym (append_assoc left (own ∷ inner.before) (run ∷ inner.behind));
    becomes = ap (λ (xs : List Extent). left ++ own ∷ xs) inner.becomes ∙ sym (append_assoc left (own ∷ inner.before) (by ∷ inner.behind));
  }
