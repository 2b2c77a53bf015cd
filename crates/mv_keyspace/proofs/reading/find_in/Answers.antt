use Rattle.std.proofs.Common.{[], ◌∷◌, Some, sym, ap, ◌∙◌}
use Rattle.kv_types.specs.Keyspace.{key_of}
use Rattle.mv_keyspace.specs.Row.{table_of}
use Rattle.mv_keyspace.specs.Slot.{rows_of}
use Rattle.mv_keyspace.specs.Table.{cell_at}
use Rattle.mv_keyspace.specs.Version.{string_row}
use Rattle.mv_keyspace.proofs.StringLemmas.{string-cell}
use Rattle.mv_keyspace.proofs.reading.find_in.Goals as goal

pub returns-in-Str-id : goal.returns-in-Str-id
returns-in-Str-id c =
    let id = c.args.id.now in
    let version = c.in-Str.version in
    let key = c.in-Str-id.field-0 in
    ap (λ s. cell_at (table_of (rows_of (key_of id) s)) id) c.in-Str.is
    ∙ ap (λ other. cell_at (table_of (string_row (key_of other) version ∷ [])) other) c.in-Str-id.is
    ∙ string-cell key version
    ∙ ap Some (sym (c.shown.ensures key))
