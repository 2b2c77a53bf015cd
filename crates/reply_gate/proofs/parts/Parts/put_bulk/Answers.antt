use Rattle.reply_gate.proofs.GrowsLemmas.{grows-same}
use Rattle.reply_gate.proofs.parts.Parts.put_bulk.Goals as goal

pub returns-in_err-value-clause-grew : goal.returns-in_err-value-clause-grew
returns-in_err-value-clause-grew c = grows-same _
