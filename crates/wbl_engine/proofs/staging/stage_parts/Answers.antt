use Rattle.std.proofs.lemmas.Result.{on_ok_weaker, on_err_weaker}
use Rattle.pmem.proofs.Chaining.{Runs-flushes, stage_ok, stage_err}
use Rattle.wbl_engine.specs.Stage.{parts_pairs, parts_lines}
use Rattle.wbl_engine.proofs.staging.stage_parts.Goals as goal

pub returns-clause-ok : goal.returns-clause-ok
returns-clause-ok g c =
    let lines = parts_lines c.args.parts.now in
    on_ok_weaker c.fence.result
    (λ step.
    stage_ok (parts_pairs c.args.stamp c.args.parts.now) lines
    (Runs-flushes lines c.store_parts.ensures.stored c.flush_parts.ensures) step)
    c.fence.ensures.ok

pub returns-clause-err : goal.returns-clause-err
returns-clause-err g c =
    let lines = parts_lines c.args.parts.now in
    on_err_weaker c.fence.result
    (λ step.
    stage_err (parts_pairs c.args.stamp c.args.parts.now) lines
    (Runs-flushes lines c.store_parts.ensures.stored c.flush_parts.ensures) step)
    c.fence.ensures.err
