use Rattle.std.proofs.Common.{◌≡◌, slice_range, sym, ap, ◌∙◌}
use Rattle.std.proofs.lemmas.Result.{on_ok_weaker}
use Rattle.mv_keyspace.specs.Row.{table_of}
use Rattle.mv_keyspace.specs.Versions.{table_in, with_rows}
use Rattle.mv_keyspace.proofs.EndingLemmas.{order-table}
use Rattle.mv_keyspace.proofs.GatheringLemmas.{put-in_two}
use Rattle.mv_keyspace.proofs.gathering.put_replaced.Goals as goal

pub returns : goal.returns
returns c = λ value.
    let rows = c.args.rows.now in
    let range = c.range_of-start in
    let between = table_in c.put_string_of.new.gathered.entries in
    on_ok_weaker c.put_all.result
    (λ (put : table_in c.put_all.new.gathered.entries ≡ with_rows (table_of (slice_range rows range.result.0 range.result.1)) between).
    put-in_two c.args.id.now value rows (table_in c.args.gathered.now.entries) between (table_in c.put_all.new.gathered.entries) (sym (order-table rows) ∙ c.requires.order) c.in_ok-put_string_of.ensures (put ∙ ap (λ t. with_rows t between) range.ensures.inside))
    c.put_all.ensures
