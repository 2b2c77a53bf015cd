-- Extents that are moved to free lines stay apart.
use Rattle.std.proofs.Common.{ℕ, zero, suc, IsTrue, List, [], ◌∷◌, set, refl, arith}
use Rattle.std.proofs.lemmas.Bool.{and_parts}
use Rattle.kv_types.specs.declared.place.Extent.{Extent}
use Rattle.packing.specs.Moves.{are_apart, is_free, are_all_apart, after_moves, AreMoves, MakesRun}
use Rattle.packing.specs.Sliding.{LeavesRun}
use Rattle.packing.specs.declared.moves.Move.{Move}

pub apart_both_ways : (a b : Extent) → IsTrue (are_apart a b) → IsTrue (are_apart b a)
apart_both_ways a b apart = grind (arith, apart)

-- apart from all, also where one of them is another that it is apart from
set_free : (wanted : Extent) (extents : List Extent) (i : ℕ) (to : Extent) → IsTrue (is_free wanted extents) → IsTrue (are_apart wanted to) → IsTrue (is_free wanted (set extents i to))
set_free wanted [] i to free apart = refl
set_free wanted (x ∷ xs) zero to free apart = let parts = and_parts (are_apart wanted x) (is_free wanted xs) free in rw (apart, parts.1) refl
set_free wanted (x ∷ xs) (suc i) to free apart =
    let parts = and_parts (are_apart wanted x) (is_free wanted xs) free in rw (parts.0, set_free wanted xs i to parts.1 apart) refl

set_apart : (extents : List Extent) (i : ℕ) (to : Extent) → IsTrue (are_all_apart extents) → IsTrue (is_free to extents) → IsTrue (are_all_apart (set extents i to))
set_apart [] i to apart free = refl
set_apart (x ∷ xs) zero to apart free =
    let parts = and_parts (is_free x xs) (are_all_apart xs) apart in
    let rest = and_parts (are_apart to x) (is_free to xs) free in
    rw (rest.1, parts.1) refl
set_apart (x ∷ xs) (suc i) to apart free =
    let parts = and_parts (is_free x xs) (are_all_apart xs) apart in
    let rest = and_parts (are_apart to x) (is_free to xs) free in
    rw (set_free x xs i to parts.0 (apart_both_ways to x rest.0), set_apart xs i to parts.1 rest.1) refl

moves_stay_apart : (first end : ℕ) (extents : List Extent) (moves : List Move) → AreMoves first end extents moves → IsTrue (are_all_apart extents) → IsTrue (are_all_apart (after_moves extents moves))
moves_stay_apart first end extents [] are apart = apart
moves_stay_apart first end extents (move ∷ moves) are apart =
    let free = are.0.free in
    moves_stay_apart first end (set extents move.index move.to) moves are.1 (set_apart extents move.index move.to apart free)

-- what is left behind the moves
pub makes_run : (first end lines : ℕ) (run : Extent) (extents : List Extent) (moves : List Move) → LeavesRun first end lines run extents moves → MakesRun first end lines run.lines extents moves
makes_run first end lines run extents moves leaves = record {
  are = leaves.are;
  run = record { start = run.first_line; from = leaves.from; within = leaves.within; free = leaves.free };
  apart = moves_stay_apart first lines extents moves leaves.are;
}
