use Rattle.std.proofs.Common.{sym, ap, ◌∙◌}
use Rattle.cmd_core.specs.Contents.{fields_of}
use Rattle.cmd_core.proofs.RecordsLemmas.{fields_none}
use Rattle.mv_keyspace.specs.Row.{records_of}
use Rattle.mv_keyspace.specs.Slot.{rows_of}
use Rattle.mv_keyspace.proofs.StringLemmas.{string-no_fields}
use Rattle.mv_keyspace.proofs.reading.fields_in.Goals as goal

pub returns-in-Vacant : goal.returns-in-Vacant
returns-in-Vacant c =
    let key = c.args.key.now in
    c.new.ensures.items ∙ sym (ap (λ s. fields_of (records_of (rows_of key s)) key) c.in-Vacant.is ∙ fields_none key)

pub returns-in-Str : goal.returns-in-Str
returns-in-Str c =
    let key = c.args.key.now in
    c.new-in-Str.ensures.items ∙ sym (ap (λ s. fields_of (records_of (rows_of key s)) key) c.in-Str.is ∙ string-no_fields key c.in-Str.field-1)
