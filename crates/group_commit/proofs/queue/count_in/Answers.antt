use Rattle.std.proofs.Common.{ap, take, take_all, length-take-le, ◌∙◌, arith}
use Rattle.group_commit.proofs.TakingLemmas.{many_in, many-more, many-within}
use Rattle.group_commit.proofs.queue.count_in.Goals as goal

pub overflow_add-count : goal.overflow_add-count
overflow_add-count c =
    let within = many-within (take c.loop-item.item-index c.args.items.now) in
    let short = length-take-le c.loop-item.item-index c.args.items.now in
    omega (arith, c.loop-item.invariant, within, c.loop-item-test.true, c.groups_in-count.ensures.few)

pub loop-item-preserved : goal.loop-item-preserved
loop-item-preserved c =
    let more = many-more c.args.items.now c.loop-item.item-index c.item-item.result c.loop-item-test.true c.item-item.is in
    omega (arith, c.loop-item.invariant, more, c.groups_in-count.ensures.count)

pub returns : goal.returns
returns c = c.loop-item.invariant ∙ ap many_in (take_all c.loop-item.item-index c.args.items.now (omega (arith, c.loop-item-test.false)))
