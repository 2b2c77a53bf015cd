use Rattle.std.proofs.Common.{◌≡◌, ◌+◌, ◌≤◌, ◌<◌, ◌∙◌, ℕ, suc, List, length, get_or, drop, drop-cons, refl, ap, sym, arith}
use Rattle.std.proofs.lemmas.Bool.{true≢false}
use Rattle.std.proofs.lemmas.Bool.Decides.{nat_tests}
use Rattle.std.proofs.Math.ListN.{drop_of_length-le}
use Rattle.packing.specs.declared.moves.Move.{Move}
use Rattle.packing.specs.Moves.{lines_moved}
use Rattle.packing.proofs.moves.moves_at_most.Goals as goal

ahead : (moves : List Move) (i : ℕ) (d : Move) → i < length moves → lines_moved (drop i moves) ≡ (get_or moves i d).to.lines + lines_moved (drop (i + 1) moves)
ahead moves i d has =
    let one : suc i ≡ i + 1 = omega arith in
    ap lines_moved (drop-cons moves i d has) ∙ ap (λ (n : ℕ). (get_or moves i d).to.lines + lines_moved (drop n moves)) one

none : (moves : List Move) (i : ℕ) → length moves ≤ i → lines_moved (drop i moves) ≡ 0
none moves i all = ap lines_moved (drop_of_length-le moves all)

pub loop-step-init : goal.loop-step-init
loop-step-init c = refl

pub returns-then-left-step : goal.returns-then-left-step
returns-then-left-step c =
    let next = ahead c.args.moves.now c.loop-step.step-index (record { index = 0; to = record { first_line = 0; lines = 0 } }) c.loop-step-test.true in
    (λ wrong. absurd (true≢false (sym wrong)), λ few. let short = few.short in absurd (omega (arith, next, short, c.loop-step.invariant, c.if-left-step.true)))

pub loop-step-preserved : goal.loop-step-preserved
loop-step-preserved c =
    let next = ahead c.args.moves.now c.loop-step.step-index (record { index = 0; to = record { first_line = 0; lines = 0 } }) c.loop-step-test.true in
    omega (arith, next, c.loop-step.invariant, c.if-left-step.false)

pub returns : goal.returns
returns c =
    let all : length c.args.moves.now ≤ c.loop-step.step-index = omega (arith, c.loop-step-test.false) in
    let rest = none c.args.moves.now c.loop-step.step-index all in
    let short : lines_moved c.args.moves.now ≤ c.args.most = omega (arith, rest, c.loop-step.invariant) in
    (λ is. record { few = grind (arith, nat_tests, is); short = short }, λ few. let most = few.few in grind (arith, nat_tests, most))
