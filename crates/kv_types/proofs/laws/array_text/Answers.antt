use Rattle.kv_types.proofs.ReplyLemmas.{text_of-Array}
use Rattle.kv_types.proofs.laws.array_text.Goals as goal

pub returns : goal.returns
returns c = text_of-Array
