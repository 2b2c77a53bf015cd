use Rattle.std.proofs.Common.{◌≡◌, ◌<◌, ◌≤◌, ◌∙◌, Bool, List, [], false, IsTrue, length, drop, sym, ap, subst, arith}
use Rattle.std.proofs.Math.ListN.{drop_of_length-le}
use Rattle.kv_types.specs.declared.place.Extent.{Extent}
use Rattle.packing.specs.declared.moves.Move.{Move}
use Rattle.packing.specs.Moves.{after_moves, is_free}
use Rattle.packing.specs.Taken.{IsAll}
use Rattle.packing.proofs.Marks.{free_of_all}
use Rattle.packing.proofs.taken.shows.Goals as goal

pub returns-clause-free : goal.returns-clause-free
returns-clause-free c = λ shows.
    let all : length c.args.moves.now ≤ c.loop-step.step-index = omega (arith, c.loop-step-test.false) in
    let none : drop c.loop-step.step-index c.args.moves.now ≡ [] = drop_of_length-le c.args.moves.now all in
    let after : c.loop-step.left.items ≡ after_moves c.args.extents.now c.args.moves.now =
    sym (ap (λ (moves : List Move). after_moves c.loop-step.left.items moves) none) ∙ c.loop-step.invariant.after in
    let is = c.are_free.ensures shows in
    let free = subst (λ (taken : List Bool). IsAll taken false c.args.run) c.as_slice.ensures.value is in
    let some : 0 < c.args.run.lines = omega arith in
    subst (λ (extents : List Extent). IsTrue (is_free c.args.run extents)) after
    (free_of_all c.loop-step.taken.items c.loop-step.left.items c.args.run c.loop-step.invariant.taken some free)
