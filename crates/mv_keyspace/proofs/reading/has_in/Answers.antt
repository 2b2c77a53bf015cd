use Rattle.std.proofs.Common.{sym, ap, ◌∙◌}
use Rattle.cmd_core.specs.Contents.{has_key}
use Rattle.cmd_core.proofs.RecordsLemmas.{has_none}
use Rattle.mv_keyspace.specs.Row.{records_of}
use Rattle.mv_keyspace.specs.Slot.{rows_of}
use Rattle.mv_keyspace.proofs.StringLemmas.{string-has}
use Rattle.mv_keyspace.proofs.reading.has_in.Goals as goal

pub returns-in-Vacant : goal.returns-in-Vacant
returns-in-Vacant c = let key = c.args.key.now in sym (ap (λ s. has_key (records_of (rows_of key s)) key) c.in-Vacant.is ∙ has_none key)

pub returns-in-Str : goal.returns-in-Str
returns-in-Str c = let key = c.args.key.now in sym (ap (λ s. has_key (records_of (rows_of key s)) key) c.in-Str.is ∙ string-has key c.in-Str.field-1)
