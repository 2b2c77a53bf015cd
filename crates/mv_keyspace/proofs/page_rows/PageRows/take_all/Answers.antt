use Rattle.std.proofs.Common.{◌≡◌, Some, sym, ap, ◌∙◌}
use Rattle.std.proofs.lemmas.Result.{on_ok_weaker}
use Rattle.std.specs.Option.{option_copied}
use Rattle.std.specs.BTreeMap.Range.{entries_between}
use Rattle.std.specs.declared.ops.Bound.TheVariants.{Included, Unbounded}
use Rattle.kv_types.specs.Keyspace.{bytes_cmp}
use Rattle.mv_keyspace.specs.Paging.{filled, rows_after}
use Rattle.mv_keyspace.specs.Row.{table_of}
use Rattle.mv_keyspace.specs.Slots.{Slots, rows_in}
use Rattle.mv_keyspace.specs.Table.{Table}
use Rattle.mv_keyspace.specs.Versions.{begun_at}
use Rattle.mv_keyspace.proofs.PagingLemmas.{slots-all, slots-from}
use Rattle.mv_keyspace.proofs.page_rows.PageRows.take_all.Goals as goal

pub returns-in-Some-clause-rows : goal.returns-in-Some-clause-rows
returns-in-Some-clause-rows c =
    let now = c.args.self.now in
    let es = c.args.slots.now.entries in
    let id = c.in-Some.id.now in
    let after = option_copied c.args.after in
    let is : after ≡ Some id = ap option_copied c.in-Some.is in
    let taken : Table → Table = λ t. filled now.bytes (table_of now.rows.items) (begun_at c.args.position t) in
    let same : rows_after after (table_of (rows_in c.range.result)) ≡ rows_after after (table_of (rows_in es)) =
    ap (λ a. rows_after a (table_of (rows_in c.range.result))) is
    ∙ ap (λ part. rows_after (Some id) (table_of (rows_in part))) (c.range.ensures.between tt ∙ ap (λ key. entries_between bytes_cmp (Included key) Unbounded es) c.key.ensures)
    ∙ slots-from id es c.requires.own
    ∙ ap (λ a. rows_after a (table_of (rows_in es))) (sym is)
    in
    on_ok_weaker c.take_slots.result (λ (e : table_of c.take_slots.new.self.rows.items ≡ taken (rows_after after (table_of (rows_in c.range.result)))). e ∙ ap taken same) c.take_slots.ensures.rows

pub returns-in-None-clause-rows : goal.returns-in-None-clause-rows
returns-in-None-clause-rows c =
    let now = c.args.self.now in
    let es = c.args.slots.now.entries in
    let after = option_copied c.args.after in
    let taken : Slots → Table = λ part. filled now.bytes (table_of now.rows.items) (begun_at c.args.position (rows_after after (table_of (rows_in part)))) in
    on_ok_weaker c.take_slots-in-None.result (λ (e : table_of c.take_slots-in-None.new.self.rows.items ≡ taken c.range-in-None.result). e ∙ ap taken (c.range-in-None.ensures.between tt ∙ slots-all es)) c.take_slots-in-None.ensures.rows
