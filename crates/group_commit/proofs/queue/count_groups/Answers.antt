use Rattle.std.proofs.Common.{arith}
use Rattle.group_commit.proofs.TakingLemmas.{many-of-two, many-within}
use Rattle.group_commit.proofs.queue.count_groups.Goals as goal

pub overflow_add-result : goal.overflow_add-result
overflow_add-result c =
    let two = many-of-two c.as_slices.result.0.now c.as_slices.result.1.now c.args.work.now.items c.as_slices.ensures in
    let all = many-within c.args.work.now.items in
    omega (arith, c.count_in.ensures, c.count_in-2.ensures, two, all, c.args.work.now.within)

pub returns : goal.returns
returns c =
    let two = many-of-two c.as_slices.result.0.now c.as_slices.result.1.now c.args.work.now.items c.as_slices.ensures in
    omega (arith, c.count_in.ensures, c.count_in-2.ensures, two)
