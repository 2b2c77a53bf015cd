use Rattle.std.proofs.Common.{sym, subst}
use Rattle.std.proofs.lemmas.Result.{on_ok_weaker, on_err_weaker}
use Rattle.pmem.specs.Device.{State}
use Rattle.pmem.proofs.Floors.{LeavesOnly-synced}
use Rattle.wbl_record.specs.Record.{IsEitherRecord, IsRecorded}
use Rattle.wbl_record.proofs.RecordLemmas.{unsynced_fault}
use Rattle.wbl_record.proofs.record.write_durably.Goals as goal

pub returns-clause-ok : goal.returns-clause-ok
returns-clause-ok g c =
    on_ok_weaker c.sync.result
    (λ same. subst (λ (d : State). IsRecorded (g.P.Pmem.state c.args.device.now) d c.args.next.now) (sym same) c.in_ok-write_next.ensures.ok) c.sync.ensures.ok

pub returns-clause-err : goal.returns-clause-err
returns-clause-err g c = on_err_weaker c.sync.result (λ e. unsynced_fault c.args.next.now c.in_ok-write_next.ensures.ok e) c.sync.ensures.err

pub returns-clause-moments : goal.returns-clause-moments
returns-clause-moments g c current succeeded =
    LeavesOnly-synced (IsEitherRecord (g.P.Pmem.state c.args.device.now) current c.args.next.now) c.sync.result (c.write_next.ensures.moments current succeeded)
    c.sync.ensures.ok c.sync.ensures.err
