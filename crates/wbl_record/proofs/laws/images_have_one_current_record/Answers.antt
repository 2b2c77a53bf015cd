use Rattle.model.proofs.RecordLemmas.{HasRecord-unique}
use Rattle.wbl_record.proofs.laws.images_have_one_current_record.Goals as goal

pub returns : goal.returns
returns c = λ lines image r s in_r in_s. HasRecord-unique lines image r s in_r.lawful.few in_r.version_is in_s.version_is in_r.has_record in_s.has_record
