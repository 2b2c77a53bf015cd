use Rattle.std.proofs.Common.{ℕ, ◌<◌, List, length, get_or, drop, drop-cons, subst, sym, ◌∙◌, arith}
use Rattle.std.proofs.lemmas.Bool.{true≢false}
use Rattle.kv_types.specs.declared.place.Extent.{Extent}
use Rattle.packing.specs.declared.moves.Move.{Move}
use Rattle.packing.specs.Moves.{AreMoves, IsMove}
use Rattle.packing.proofs.moves.replay.Goals as goal

next : (first end : ℕ) (left : List Extent) (moves : List Move) (i : ℕ) (d : Move) → i < length moves → AreMoves first end left (drop i moves) → IsMove first end left (get_or moves i d)
next first end left moves i d has are = (subst (AreMoves first end left) (drop-cons moves i d has) are).0

pub returns-then-not-is_move-clause-none : goal.returns-then-not-is_move-clause-none
returns-then-not-is_move-clause-none c = λ _ are.
    let has : c.loop-step.step-index < length c.args.moves.now = omega (arith, c.loop-step-test.true) in
    let rest = c.loop-step.invariant.only are in
    let is = c.is_move.ensures.1 (rw c.as_slice.ensures.value (next _ _ _ _ _ _ has rest)) in
    true≢false (sym is ∙ c.if-not-is_move.true)
