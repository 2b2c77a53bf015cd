use Rattle.std.proofs.Common.{rules}
use Rattle.packing.specs.Sliding.{LeavesRun}
use Rattle.packing.proofs.Apart.{makes_run}
use Rattle.packing.proofs.plan.checked.Goals as goal

pub returns-then-branch-clause-plan : goal.returns-then-branch-clause-plan
returns-then-branch-clause-plan c =
    let leaves : LeavesRun c.args.bounds.first c.args.bounds.end c.args.bounds.lines c.args.run c.args.extents.now c.args.moves.items = search rules in
    makes_run _ _ _ _ _ _ leaves
