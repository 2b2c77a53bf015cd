-- Extents that slide down leave the run that is wanted.
use Rattle.std.proofs.Common.{◌≡◌, ℕ, ◌+◌, ◌≤◌, inl, inr, nat_le, IsTrue, List, [], ◌∷◌, ◌++◌, refl, sym, ap, subst, arith}
use Rattle.std.proofs.lemmas.Bool.{cond_both}
use Rattle.std.proofs.lemmas.Bool.Decides.{nat_tests}
use Rattle.kv_types.specs.declared.place.Extent.{Extent}
use Rattle.packing.specs.declared.moves.Move.{Move}
use Rattle.packing.specs.declared.placed.Placed.{Placed}
use Rattle.packing.specs.Moves.{AreMoves, after_move, after_moves, is_free}
use Rattle.packing.specs.Sliding.{CanSlide, IsInOrder, LeavesRun, step, to_line, total}
use Rattle.packing.proofs.Stack.{Chain, Stack, above_apart, around_down, around_up, at, below_apart, chain-from, end_of, free_from_each, stays, straight}
use Rattle.packing.proofs.Ordered.{stack_of, total_of, total_of-cons, total_of-order}

-- ---- moves one after another

pub after_moves-append : (extents : List Extent) (xs ys : List Move) → after_moves extents (xs ++ ys) ≡ after_moves (after_moves extents xs) ys
after_moves-append extents [] ys = refl
after_moves-append extents (x ∷ xs) ys = after_moves-append (after_move extents x) xs ys

pub AreMoves-append : (first end : ℕ) (extents : List Extent) (xs ys : List Move) → AreMoves first end extents xs → AreMoves first end (after_moves extents xs) ys → AreMoves first end extents (xs ++ ys)
AreMoves-append first end extents [] ys are more = more
AreMoves-append first end extents (x ∷ xs) ys are more = (are.0, AreMoves-append first end (after_move extents x) xs ys are.1 more)

-- ---- the state between two of them

module _ (first end lines : ℕ) (extents : List Extent) where
  -- These moves have brought all but those that are left below the floor.
  pub record HasSlid (moves : List Move) (floor : ℕ) (left : List Placed) : Type 0 where
    pub are : AreMoves first lines extents moves
    pub stack : Stack first end lines floor left (after_moves extents moves)
    pub count : floor + total_of left ≡ first + total extents

  pub slid_at_first : (placed : List Placed) (need : ℕ) → IsInOrder extents placed → CanSlide first end lines need extents → HasSlid [] first placed
  slid_at_first placed need order can = record {
    are = tt;
    stack = stack_of first end lines extents placed order can.apart can.each;
    count = ap (λ n. first + n) (total_of-order extents placed order);
  }

  module _ (moves : List Move) (floor : ℕ) (p : Placed) (left : List Placed) (slid : HasSlid moves floor (p ∷ left)) where
    abbrev now : List Extent
    now = after_moves extents moves

    -- it lies at the floor
    slid_none : p.extent.first_line ≤ floor → HasSlid (moves ++ []) (end_of p.extent) left
    slid_none lies =
        let from = slid.stack.chain.0 in
        let count = slid.count in
        let sum = total_of-cons p left in
        record {
          are = AreMoves-append first lines extents moves [] slid.are tt;
          stack = subst (λ (xs : List Extent). Stack first end lines (end_of p.extent) left xs) (sym (after_moves-append extents moves []))
              (stays first end lines floor p left now slid.stack);
          count = omega (arith, from, lies, count, sum);
        }

    slid_one : floor + p.extent.lines ≤ p.extent.first_line → HasSlid (moves ++ to_line p floor ∷ []) (floor + p.extent.lines) left
    slid_one fits =
        let went = straight first end lines floor p left now slid.stack fits in
        let count = slid.count in
        let sum = total_of-cons p left in
        record {
          are = AreMoves-append first lines extents moves (to_line p floor ∷ []) slid.are (went.0, tt);
          stack = subst (λ (xs : List Extent). Stack first end lines (floor + p.extent.lines) left xs) (sym (after_moves-append extents moves (to_line p floor ∷ []))) went.1;
          count = omega (arith, count, sum);
        }

    slid_two : floor ≤ p.extent.first_line → HasSlid (moves ++ to_line p end ∷ to_line p floor ∷ []) (floor + p.extent.lines) left
    slid_two above =
        let up = around_up first end lines floor p left now slid.stack in
        let down = around_down first end lines floor p left now slid.stack above in
        let count = slid.count in
        let sum = total_of-cons p left in
        record {
          are = AreMoves-append first lines extents moves (to_line p end ∷ to_line p floor ∷ []) slid.are (up, (down.0, tt));
          stack = subst (λ (xs : List Extent). Stack first end lines (floor + p.extent.lines) left xs) (sym (after_moves-append extents moves (to_line p end ∷ to_line p floor ∷ [])))
              down.1;
          count = omega (arith, count, sum);
        }

    abbrev Slides : List Move × ℕ → Type 0
    Slides s = HasSlid (moves ++ s.0) s.1 left

    pub slid_step : HasSlid (moves ++ (step end floor p).0) (step end floor p).1 left
    slid_step =
        cond_both (nat_le p.extent.first_line floor) _ _ Slides (λ lies. slid_none (grind (arith, nat_tests, lies)))
        (λ above. cond_both (nat_le (floor + p.extent.lines) p.extent.first_line) _ _ Slides (λ fits. slid_one (grind (arith, nat_tests, fits)))
        (λ _. slid_two (grind (arith, nat_tests, above))))

  -- ---- at last

  -- so many lines from the floor on are free where those that are left begin behind them
  run_free : (moves : List Move) (floor need : ℕ) (left : List Placed) → HasSlid moves floor left → Chain first end lines (floor + need) left
      → IsTrue (is_free (record { first_line = floor; lines = need }) (after_moves extents moves))
  run_free moves floor need left slid chain =
      let run : Extent = record { first_line = floor; lines = need } in
      free_from_each run (after_moves extents moves) (λ i has. elim (slid.stack.settled i has) [
        | inl under ↦ above_apart run (at (after_moves extents moves) i) under
        | inr among ↦ below_apart run (at (after_moves extents moves) i) (chain-from first end lines (floor + need) left _ chain among)
      ])

  -- the next one begins so far above the floor
  pub leaves_below : (moves : List Move) (floor need : ℕ) (p : Placed) (left : List Placed) → HasSlid moves floor (p ∷ left) → floor + need ≤ p.extent.first_line
      → LeavesRun first end lines (record { first_line = floor; lines = need }) extents moves
  leaves_below moves floor need p left slid far =
      let within = slid.stack.chain.1.within in
      record {
        are = slid.are;
        from = slid.stack.low;
        within = omega (arith, far, within);
        free = run_free moves floor need (p ∷ left) slid (far, slid.stack.chain.1, slid.stack.chain.2);
      }

  -- none is left
  pub leaves_all : (moves : List Move) (floor need : ℕ) → HasSlid moves floor [] → CanSlide first end lines need extents
      → LeavesRun first end lines (record { first_line = floor; lines = need }) extents moves
  leaves_all moves floor need slid can =
      let count = slid.count in
      let enough = can.enough in
      record {
        are = slid.are;
        from = slid.stack.low;
        within = omega (arith, count, enough);
        free = run_free moves floor need [] slid tt;
      }
