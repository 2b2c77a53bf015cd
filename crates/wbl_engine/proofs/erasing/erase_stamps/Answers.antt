use Rattle.std.proofs.lemmas.Result.{on_ok_weaker, on_err_weaker}
use Rattle.pmem.proofs.Chaining.{stage_ok, stage_err}
use Rattle.wbl_engine.specs.Erasing.{erase_pairs, erase_lines}
use Rattle.wbl_engine.proofs.ErasingRuns.{erase_runs}
use Rattle.wbl_engine.proofs.erasing.erase_stamps.Goals as goal

pub returns-clause-ok : goal.returns-clause-ok
returns-clause-ok g c =
    let begins = c.args.begins.now in
    let ends = c.args.ends.now in
    on_ok_weaker c.fence.result
    (λ step.
    stage_ok (erase_pairs begins ends) (erase_lines begins ends)
    (erase_runs begins ends c.store_zeros.ensures c.store_zeros-2.ensures c.flush_ends.ensures c.flush_ends-2.ensures) step)
    c.fence.ensures.ok

pub returns-clause-err : goal.returns-clause-err
returns-clause-err g c =
    let begins = c.args.begins.now in
    let ends = c.args.ends.now in
    on_err_weaker c.fence.result
    (λ step.
    stage_err (erase_pairs begins ends) (erase_lines begins ends)
    (erase_runs begins ends c.store_zeros.ensures c.store_zeros-2.ensures c.flush_ends.ensures c.flush_ends-2.ensures) step)
    c.fence.ensures.err
