use Rattle.std.proofs.Common.{◌≡◌, ◌<◌, ◌≤◌, ℕ, false, get_or}
use Rattle.packing.proofs.taken.are_free.Given as goal

abbrev pub invariant-loop-line : goal.invariant-loop-line
invariant-loop-line l = (line : ℕ) → l.fn.extent.first_line ≤ line → line < l.line → get_or l.taken line false ≡ false
