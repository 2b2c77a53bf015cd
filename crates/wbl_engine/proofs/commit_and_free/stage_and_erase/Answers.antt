use Rattle.std.proofs.lemmas.Result.{on_ok_weaker, on_err_weaker}
use Rattle.pmem.proofs.Chaining.{stage_ok, stage_err}
use Rattle.wbl_engine.specs.Erasing.{erase_pairs, erase_lines}
use Rattle.wbl_engine.specs.Stage.{parts_pairs, parts_lines}
use Rattle.std.proofs.Common.{[], ◌++◌}
use Rattle.wbl_engine.proofs.ErasingRuns.{erase_and_store_runs}
use Rattle.wbl_engine.proofs.commit_and_free.stage_and_erase.Goals as goal

pub returns-clause-ok : goal.returns-clause-ok
returns-clause-ok g c =
    let parts = c.args.parts.now in
    let entries = c.args.entries.now in
    on_ok_weaker c.fence.result
    (λ step.
    stage_ok (erase_pairs entries [] ++ parts_pairs c.args.stamp parts) (erase_lines entries [] ++ parts_lines parts)
    (erase_and_store_runs entries (parts_pairs c.args.stamp parts) (parts_lines parts) c.store_zeros.ensures c.store_parts.ensures.stored c.flush_ends.ensures c.flush_parts.ensures) step)
    c.fence.ensures.ok

pub returns-clause-err : goal.returns-clause-err
returns-clause-err g c =
    let parts = c.args.parts.now in
    let entries = c.args.entries.now in
    on_err_weaker c.fence.result
    (λ step.
    stage_err (erase_pairs entries [] ++ parts_pairs c.args.stamp parts) (erase_lines entries [] ++ parts_lines parts)
    (erase_and_store_runs entries (parts_pairs c.args.stamp parts) (parts_lines parts) c.store_zeros.ensures c.store_parts.ensures.stored c.flush_ends.ensures c.flush_parts.ensures) step)
    c.fence.ensures.err
