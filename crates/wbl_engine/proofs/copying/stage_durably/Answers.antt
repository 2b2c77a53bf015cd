use Rattle.std.proofs.Common.{sym, subst}
use Rattle.std.proofs.lemmas.Result.{on_ok_weaker, on_err_weaker}
use Rattle.pmem.specs.Device.{State}
use Rattle.pmem.specs.Runs.{Staged}
use Rattle.pmem.proofs.Floors.{Staged-unsynced}
use Rattle.wbl_engine.specs.Stage.{puts_pairs, puts_lines}
use Rattle.wbl_engine.proofs.copying.stage_durably.Goals as goal

pub returns-clause-ok : goal.returns-clause-ok
returns-clause-ok g c =
    let pairs = puts_pairs c.args.stamp c.args.position c.args.puts.now in
    let lines = puts_lines c.args.puts.now in
    on_ok_weaker c.sync.result
    (λ same. subst (λ (d : State). Staged (g.P.Pmem.state c.args.device.now) d pairs lines) (sym same) c.in_ok-stage_puts.ensures.ok)
    c.sync.ensures.ok

pub returns-clause-err : goal.returns-clause-err
returns-clause-err g c =
    let pairs = puts_pairs c.args.stamp c.args.position c.args.puts.now in
    let lines = puts_lines c.args.puts.now in
    on_err_weaker c.sync.result (λ e. Staged-unsynced pairs lines c.in_ok-stage_puts.ensures.ok e) c.sync.ensures.err
