use Rattle.kv_types.proofs.OrderLemmas.{same_strings}
use Rattle.cmd_core.proofs.record.is_string.Goals as goal

pub returns-in-Str : goal.returns-in-Str
returns-in-Str c = rw c.in-Str.is (let same = same_strings c.args.key.now c.in-Str.own in cc)
