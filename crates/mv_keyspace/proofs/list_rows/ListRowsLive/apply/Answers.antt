use Rattle.std.proofs.Common.{◌++◌, ap, ◌∙◌, subst}
use Rattle.mv_keyspace.specs.Table.{AreEnded, place_all}
use Rattle.mv_keyspace.specs.Row.{table_of}
use Rattle.mv_keyspace.proofs.ListLemmas.{in_order-placed}
use Rattle.mv_keyspace.proofs.list_rows.ListRowsLive.apply.Goals as goal

pub returns-clause-ended : goal.returns-clause-ended
returns-clause-ended c =
    let names = c.play-self.ensures.ended c.args.position c.in_ok-staged.ensures.ok in (
      names.0,
      names.1 ∙ ap (λ ended. ended ++ names.0) c.in_ok-reserve-2.ensures.items,
      subst (λ items. AreEnded c.args.position (table_of items) c.args.changes.now names.0) c.in_ok-reserve.ensures.items names.2,
    )

pub invariant_of-self-2 : goal.invariant_of-self-2
invariant_of-self-2 c =
    let changes = c.args.changes.now in
    let placed = c.play-self.ensures.table c.args.position c.in_ok-staged.ensures.ok ∙ ap (λ items. place_all c.args.position (table_of items) changes) c.in_ok-reserve.ensures.items in
    record {
      in_order = in_order-placed c.args.position c.args.self.now.rows.items c.play-self.new.rows.items changes placed c.args.self.now.in_order;
      counted = c.play-self.ensures.counted;
    }
