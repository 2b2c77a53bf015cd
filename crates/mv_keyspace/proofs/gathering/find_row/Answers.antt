use Rattle.std.proofs.Common.{Some, sym, ap, ◌∙◌}
use Rattle.mv_keyspace.proofs.GatheringLemmas.{row-found, row-missed}
use Rattle.mv_keyspace.proofs.gathering.find_row.Goals as goal

pub returns-then-start-end : goal.returns-then-start-end
returns-then-start-end c =
    let range = c.range_of_record-start in
    (row-found c.args.id.now c.args.rows.now c.index-rows-start.result range.result.0 range.result.1 c.if-start-end.true range.ensures.within c.index-rows-start.is range.ensures.rows).1 ∙ ap Some (sym c.shown.ensures)

pub returns-else-start-end : goal.returns-else-start-end
returns-else-start-end c =
    let range = c.range_of_record-start in
    row-missed c.args.id.now c.args.rows.now range.result.0 range.result.1 c.if-start-end.false range.ensures.rows
