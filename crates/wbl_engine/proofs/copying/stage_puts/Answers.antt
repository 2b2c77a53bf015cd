use Rattle.std.proofs.lemmas.Result.{on_ok_weaker, on_err_weaker}
use Rattle.pmem.proofs.Chaining.{Runs-flushes, stage_ok, stage_err}
use Rattle.wbl_engine.specs.Stage.{puts_pairs, puts_lines}
use Rattle.wbl_engine.proofs.copying.stage_puts.Goals as goal

pub returns-clause-ok : goal.returns-clause-ok
returns-clause-ok g c =
    let lines = puts_lines c.args.puts.now in
    on_ok_weaker c.fence.result
    (λ step.
    stage_ok (puts_pairs c.args.stamp c.args.position c.args.puts.now) lines
    (Runs-flushes lines c.store_puts.ensures.stored c.flush_puts.ensures) step)
    c.fence.ensures.ok

pub returns-clause-err : goal.returns-clause-err
returns-clause-err g c =
    let lines = puts_lines c.args.puts.now in
    on_err_weaker c.fence.result
    (λ step.
    stage_err (puts_pairs c.args.stamp c.args.position c.args.puts.now) lines
    (Runs-flushes lines c.store_puts.ensures.stored c.flush_puts.ensures) step)
    c.fence.ensures.err
