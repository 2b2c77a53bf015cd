use Rattle.std.proofs.lemmas.Result.{on_ok_weaker, on_err_weaker}
use Rattle.pmem.proofs.Chaining.{Runs-flushes, stage_ok, stage_err}
use Rattle.pmem.proofs.runs.persist.Goals as goal

pub returns-clause-ok : goal.returns-clause-ok
returns-clause-ok g c =
    on_ok_weaker c.fence.result
    (λ step. stage_ok c.args.pairs.now c.args.lines.now (Runs-flushes c.args.lines.now c.store_all.ensures c.flush_all.ensures) step)
    c.fence.ensures.ok

pub returns-clause-err : goal.returns-clause-err
returns-clause-err g c =
    on_err_weaker c.fence.result
    (λ step. stage_err c.args.pairs.now c.args.lines.now (Runs-flushes c.args.lines.now c.store_all.ensures c.flush_all.ensures) step)
    c.fence.ensures.err
