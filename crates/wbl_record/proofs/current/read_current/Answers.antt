use Rattle.std.proofs.Common.{subst}
use Rattle.pmem.specs.Crash.{image_of}
use Rattle.model.proofs.RecordLemmas.{HasRecord-unique}
use Rattle.wbl_record.specs.Current.{IsLawful}
use Rattle.wbl_record.proofs.current.read_current.Goals as goal

pub returns-else-is_lawful-clause-damaged : goal.returns-else-is_lawful-clause-damaged
returns-else-is_lawful-clause-damaged g c r is =
    let state = g.P.Pmem.state c.args.device.now in
    let same = HasRecord-unique state.lines (image_of state.words) r c.in-Some.current is.lawful.few is.version_is c.in-Some.ensures.version_is is.has_record c.in-Some.ensures.has_record in
    let lawful = c.is_lawful.ensures.1 (subst IsLawful same is.lawful) in
    cc
