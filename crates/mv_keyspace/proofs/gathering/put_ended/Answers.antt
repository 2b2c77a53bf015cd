use Rattle.std.proofs.Common.{◌≡◌, sym, ap, ◌∙◌}
use Rattle.std.proofs.lemmas.Result.{on_ok_weaker}
use Rattle.model.specs.Group.{change_of}
use Rattle.mv_keyspace.specs.Row.{ended_rows, table_of}
use Rattle.mv_keyspace.specs.Versions.{table_in, with_rows}
use Rattle.mv_keyspace.proofs.PuttingLemmas.{where_all}
use Rattle.mv_keyspace.proofs.gathering.put_ended.Goals as goal

pub returns-in-Clear : goal.returns-in-Clear
returns-in-Clear c =
    let table = table_of c.args.rows.now in
    let before = table_in c.args.gathered.now.entries in
    on_ok_weaker c.put_all-in-Clear.result
    (λ (put : table_in c.put_all-in-Clear.new.gathered.entries ≡ with_rows table before).
    put ∙ ap (λ t. with_rows t before) (sym (ap (λ change. ended_rows (change_of change) table) c.in-Clear.is ∙ where_all table)))
    c.put_all-in-Clear.ensures
