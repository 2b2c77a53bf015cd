-- Extents that can be cut from the runs below a line.
use Rattle.std.proofs.Common.{◌≡◌, ℕ, zero, suc, ◌+◌, ◌-◌, ◌/◌, ◌<◌, ◌≤◌, IsTrue, List, [], ◌∷◌, ◌++◌, refl, arith}
use Rattle.std.proofs.Math.Nat.{div-eq_of_lt, div-mul-le_self, div-zero}
use Rattle.std.proofs.lemmas.Nat.{le-div}
use Rattle.std.proofs.lemmas.Bool.Decides.{nat_tests}
use Rattle.kv_types.specs.declared.place.Extent.{Extent}
use Rattle.extent_heap.specs.Below.{has_room_below, lines_below, pieces_below}
use Rattle.extent_heap.specs.Room.{Room, has_room}
use Rattle.extent_heap.specs.Runs.{longest, pieces}

pieces_below-append : (lines end : ℕ) (xs ys : List Extent) → pieces_below lines end (xs ++ ys) ≡ pieces_below lines end xs + pieces_below lines end ys
pieces_below-append lines end [] ys = omega arith
pieces_below-append lines end (x ∷ xs) ys = omega (arith, pieces_below-append lines end xs ys)

-- none from runs that are all too short
pub none_short_below : (lines end : ℕ) (xs : List Extent) → longest xs < lines → pieces_below lines end xs ≡ 0
none_short_below lines end [] short = refl
none_short_below lines end (x ∷ xs) short =
    let own : lines_below end x / lines ≡ 0 = div-eq_of_lt (omega arith) in
    omega (arith, own, none_short_below lines end xs (omega arith))

-- those before the fork are counted first, then its own, then those behind it
pub lacks_fork_below : (lines end wanted : ℕ) (left : List Extent) (run : Extent) (right : List Extent)
    → ((wanted - pieces_below lines end left) - lines_below end run / lines) - pieces_below lines end right ≡ wanted - pieces_below lines end (left ++ run ∷ right)
lacks_fork_below lines end wanted left run right = omega (arith, pieces_below-append lines end left (run ∷ right))

quotient-le : (a b lines : ℕ) → a ≤ b → a / lines ≤ b / lines
quotient-le a b zero less = rw (div-zero a, div-zero b) (omega arith)
quotient-le a b (suc n) less = let within = div-mul-le_self a (suc n) in le-div (a / suc n) b (suc n) (omega arith) (omega (arith, within, less))

-- no more than from the whole runs
pieces_below-le : (lines end : ℕ) (runs : List Extent) → pieces_below lines end runs ≤ pieces lines runs
pieces_below-le lines end [] = omega arith
pieces_below-le lines end (run ∷ runs) =
    let own : lines_below end run / lines ≤ run.lines / lines = quotient-le (lines_below end run) run.lines lines (omega arith) in
    omega (arith, own, pieces_below-le lines end runs)

-- what has room below a line has room
pub room_below-is_room : (count lines end : ℕ) (room : Room) → IsTrue (has_room_below count lines end room) → IsTrue (has_room count lines room)
room_below-is_room count lines end room has = grind (arith, nat_tests, pieces_below-le lines end room.lines, has)
