use Rattle.std.proofs.Common.{rules}
use Rattle.kv_types.specs.declared.place.Extent.{Extent}
use Rattle.packing.specs.Sliding.{LeavesRun}
use Rattle.packing.proofs.Apart.{makes_run}
use Rattle.packing.proofs.windows.within.Goals as goal

pub returns-then-branch-clause-run : goal.returns-then-branch-clause-run
returns-then-branch-clause-run c =
    let found = c.in-Some.found in
    let run : Extent = record { first_line = found.floor; lines = c.args.need } in
    let leaves : LeavesRun c.args.bounds.first c.args.bounds.end c.args.bounds.lines run c.args.extents.now found.moves.items = search rules in
    makes_run _ _ _ _ _ _ leaves
