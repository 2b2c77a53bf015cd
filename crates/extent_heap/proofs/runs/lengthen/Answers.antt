use Rattle.std.proofs.Common.{◌+◌, arith}
use Rattle.extent_heap.proofs.InPlaceLemmas.{run_small, touches_before, touches_behind, longer_behind, longer_before}
use Rattle.extent_heap.proofs.runs.lengthen.Goals as goal

pub overflow_add-joined : goal.overflow_add-joined
overflow_add-joined c =
    let has = rw (c.in-Some-None.is-0, c.saturating_sub.ensures) at c.run_at-before.ensures in
    omega (arith, touches_before c.args.runs.now c.in-Some-None.run' c.args.extent has c.requires.apart c.requires.some, c.requires.fits)

pub overflow_add-joined-in-None-Some : goal.overflow_add-joined-in-None-Some
overflow_add-joined-in-None-Some c =
    let extent = c.args.extent in
    let run = c.in-None-Some.run' in
    let has = rw c.in-None-Some.is-1 at c.run_at-behind.ensures in
    omega (arith, touches_behind c.args.runs.now run extent has c.requires.apart c.requires.some, run_small c.args.runs.now (extent.first_line + extent.lines) run c.requires.ordered has)

pub returns-in-Some-None-clause-given : goal.returns-in-Some-None-clause-given
returns-in-Some-None-clause-given c = λ is_there.
    let order = c.requires.ordered in
    let has = rw (c.in-Some-None.is-0, c.saturating_sub.ensures) at c.run_at-before.ensures in
    let none = rw c.in-Some-None.is-1 at c.run_at-behind.ensures in
    longer_behind c.args.runs.now c.replace.new.self c.args.extent c.in-Some-None.run' c.requires.some c.requires.apart (none order.low order.high order.are)
    (touches_before c.args.runs.now c.in-Some-None.run' c.args.extent has c.requires.apart c.requires.some) (c.replace.ensures.replaces is_there)

pub returns-in-None-Some-clause-given : goal.returns-in-None-Some-clause-given
returns-in-None-Some-clause-given c = λ is_there.
    let order = c.requires.ordered in
    let none = rw (c.in-None-Some.is-0, c.saturating_sub.ensures) at c.run_at-before.ensures in
    let has = rw c.in-None-Some.is-1 at c.run_at-behind.ensures in
    longer_before c.args.runs.now c.replace-in-None-Some.new.self c.args.extent c.in-None-Some.run' c.requires.some c.requires.apart (none order.low order.high order.are)
    (touches_behind c.args.runs.now c.in-None-Some.run' c.args.extent has c.requires.apart c.requires.some) (c.replace-in-None-Some.ensures.replaces is_there)
