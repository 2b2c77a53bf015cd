use Rattle.std.proofs.Common.{sym, subst}
use Rattle.std.proofs.lemmas.Result.{on_ok_weaker, on_err_weaker}
use Rattle.pmem.specs.Device.{State}
use Rattle.pmem.specs.Runs.{Staged}
use Rattle.pmem.proofs.Floors.{Staged-unsynced, cause_unsynced}
use Rattle.pmem.proofs.runs.persist_durably.Goals as goal

pub returns-clause-ok : goal.returns-clause-ok
returns-clause-ok g c =
    on_ok_weaker c.sync.result
    (λ same. subst (λ (d : State). Staged (g.P.Pmem.state c.args.device.now) d c.args.pairs.now c.args.lines.now) (sym same) c.in_ok-persist.ensures.ok) c.sync.ensures.ok

pub returns-clause-err : goal.returns-clause-err
returns-clause-err g c =
    on_err_weaker c.sync.result (λ e. Staged-unsynced c.args.pairs.now c.args.lines.now c.in_ok-persist.ensures.ok e) c.sync.ensures.err

pub returns-clause-unasked : goal.returns-clause-unasked
returns-clause-unasked g c failed =
    cause_unsynced (g.P.Pmem.state c.args.device.now).fences (g.P.Pmem.state c.persist.new.device) (g.P.Pmem.state c.sync.new.self)
    c.in_ok-persist.ensures.ok.fences (c.sync.ensures.unasked failed)
