use Rattle.std.proofs.Common.{sym, subst}
use Rattle.std.proofs.lemmas.Result.{on_ok_weaker, on_err_weaker}
use Rattle.pmem.specs.Device.{State}
use Rattle.pmem.specs.Runs.{Staged}
use Rattle.pmem.proofs.Floors.{Staged-unsynced}
use Rattle.wbl_engine.specs.Erasing.{erase_pairs, erase_lines}
use Rattle.wbl_engine.proofs.erasing.erase_durably.Goals as goal

pub returns-clause-ok : goal.returns-clause-ok
returns-clause-ok g c =
    let begins = c.args.begins.now in
    let ends = c.args.ends.now in
    on_ok_weaker c.sync.result
    (λ same. subst (λ (d : State). Staged (g.P.Pmem.state c.args.device.now) d (erase_pairs begins ends) (erase_lines begins ends)) (sym same) c.in_ok-erase_stamps.ensures.ok)
    c.sync.ensures.ok

pub returns-clause-err : goal.returns-clause-err
returns-clause-err g c =
    let begins = c.args.begins.now in
    let ends = c.args.ends.now in
    on_err_weaker c.sync.result (λ e. Staged-unsynced (erase_pairs begins ends) (erase_lines begins ends) c.in_ok-erase_stamps.ensures.ok e) c.sync.ensures.err
