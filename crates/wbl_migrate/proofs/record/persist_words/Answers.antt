use Rattle.std.proofs.Common.{◌*◌}
use Rattle.std.proofs.lemmas.Result.{on_ok_weaker, on_err_weaker}
use Rattle.pmem.specs.Runs.{pairs_from, lines_from}
use Rattle.pmem.proofs.Chaining.{Runs-flushes, stage_ok, stage_err}
use Rattle.wbl_migrate.proofs.record.persist_words.Goals as goal

pub returns-clause-ok : goal.returns-clause-ok
returns-clause-ok g c =
    on_ok_weaker c.fence.result
    (λ step.
    stage_ok (pairs_from (8 * c.args.line) c.args.words.now) (lines_from c.args.line c.args.lines)
    (Runs-flushes (lines_from c.args.line c.args.lines) c.store_words.ensures c.flush_lines.ensures) step)
    c.fence.ensures.ok

pub returns-clause-err : goal.returns-clause-err
returns-clause-err g c =
    on_err_weaker c.fence.result
    (λ step.
    stage_err (pairs_from (8 * c.args.line) c.args.words.now) (lines_from c.args.line c.args.lines)
    (Runs-flushes (lines_from c.args.line c.args.lines) c.store_words.ensures c.flush_lines.ensures) step)
    c.fence.ensures.err
