use Rattle.std.proofs.Common.{ap, ap₂, ◌∙◌}
use Rattle.mv_keyspace.specs.Row.{cell_of_row}
use Rattle.mv_keyspace.specs.Table.{with_cell}
use Rattle.mv_keyspace.specs.Versions.{table_in}
use Rattle.mv_keyspace.proofs.GatheringLemmas.{table_in-inserted}
use Rattle.mv_keyspace.proofs.gathering.put_shared.Goals as goal

pub returns-in-Ok : goal.returns-in-Ok
returns-in-Ok c =
    let es = c.args.gathered.now.entries in
    ap table_in c.in-Ok.ensures.entries ∙ table_in-inserted c.in_ok-clone.field-0 c.in_ok-shared.field-0 es
    ∙ ap₂ (λ id row. with_cell id (cell_of_row row) (table_in es)) c.in_ok-clone.ensures.cases c.in_ok-shared.ensures
