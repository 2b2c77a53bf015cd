use Rattle.cmd_core.proofs.RecordsLemmas.{has_here, has_elsewhere, has_end}
use Rattle.cmd_core.proofs.record.has_in.Goals as goal

pub returns-then-is_of_key : goal.returns-then-is_of_key
returns-then-is_of_key g c =
    let here = has_here _ g.R.KeptRecord.kept c.args.records.now c.loop-record.record-index c.record-item.result c.loop-record-test.true c.record-item.is c.args.key.now (cc) in cc

pub loop-record-preserved : goal.loop-record-preserved
loop-record-preserved g c =
    let later = has_elsewhere _ g.R.KeptRecord.kept c.args.records.now c.loop-record.record-index c.record-item.result c.loop-record-test.true c.record-item.is c.args.key.now (cc) in cc

pub returns : goal.returns
returns g c = let none = has_end _ g.R.KeptRecord.kept c.args.records.now c.loop-record.record-index c.args.key.now c.loop-record-test.false in cc
