use Rattle.std.proofs.Common.{sym, ap, ◌∙◌}
use Rattle.std.specs.FinMap.Entries.{where_key}
use Rattle.kv_types.specs.Keyspace.{record_cmp}
use Rattle.mv_keyspace.specs.Row.{is_string_of, table_of}
use Rattle.mv_keyspace.specs.Versions.{table_in, with_rows}
use Rattle.mv_keyspace.proofs.PuttingLemmas.{where_none}
use Rattle.mv_keyspace.proofs.gathering.put_string_of.Goals as goal

pub returns-in-Str : goal.returns-in-Str
returns-in-Str c =
    let table = table_of c.args.rows.now in
    let gathered = table_in c.args.gathered.now.entries in
    sym (ap (λ id. with_rows (where_key record_cmp (is_string_of id) table) gathered) c.in-Str.is ∙ ap (λ t. with_rows t gathered) (where_none table))
