use Rattle.std.proofs.Common.{◌∙◌}
use Rattle.kv_types.proofs.OrderLemmas.{same_strings}
use Rattle.kv_types.proofs.record_id.RecordId.is_string_at.Goals as goal

pub returns-in-Str : goal.returns-in-Str
returns-in-Str c = rw c.in-Str.is (c.eq.ensures ∙ same_strings c.in-Str.own c.args.key.now)
