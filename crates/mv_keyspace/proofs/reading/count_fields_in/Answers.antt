use Rattle.std.proofs.Common.{length, sym, ap, ◌∙◌}
use Rattle.cmd_core.specs.Contents.{fields_of}
use Rattle.cmd_core.proofs.RecordsLemmas.{fields_none}
use Rattle.mv_keyspace.specs.Row.{records_of}
use Rattle.mv_keyspace.specs.Slot.{rows_of}
use Rattle.mv_keyspace.proofs.StringLemmas.{string-no_fields}
use Rattle.mv_keyspace.proofs.reading.count_fields_in.Goals as goal

pub returns-in-Vacant-clause-value : goal.returns-in-Vacant-clause-value
returns-in-Vacant-clause-value c =
    let key = c.args.key.now in
    sym (ap (λ s. length (fields_of (records_of (rows_of key s)) key)) c.in-Vacant.is ∙ ap (λ fields. length fields) (fields_none key))

pub returns-in-Str-clause-value : goal.returns-in-Str-clause-value
returns-in-Str-clause-value c =
    let key = c.args.key.now in
    sym (ap (λ s. length (fields_of (records_of (rows_of key s)) key)) c.in-Str.is ∙ ap (λ fields. length fields) (string-no_fields key c.in-Str.field-1))
