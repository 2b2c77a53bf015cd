use Rattle.std.proofs.Common.{Some, ap, sym}
use Rattle.wbl_engine.proofs.ReadingLemmas.{undamaged_unique}
use Rattle.wbl_engine.proofs.ReopeningLaws.{never_refused}
use Rattle.wbl_engine.proofs.inspecting.read_record.Goals as goal

pub returns-in-Ok-read_super : goal.returns-in-Ok-read_super
returns-in-Ok-read_super g c = λ r many few whole. ap Some (sym (undamaged_unique _ r c.in-Ok.ensures.ok whole))

pub returns-in-Err-read_super : goal.returns-in-Err-read_super
returns-in-Err-read_super g c = λ r many few whole. absurd (never_refused _ r many few c.in-Ok.ensures.ok whole c.in-Err-read_super.ensures.err)
