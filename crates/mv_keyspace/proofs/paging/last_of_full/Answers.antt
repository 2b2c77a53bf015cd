use Rattle.std.proofs.Common.{◌-◌, length, arith}
use Rattle.mv_keyspace.proofs.PagingLemmas.{last-split}
use Rattle.mv_keyspace.proofs.PageSizes.{all-fit, some-over}
use Rattle.mv_keyspace.proofs.paging.last_of_full.Goals as goal

pub returns-then-count_fitting-rows : goal.returns-then-count_fitting-rows
returns-then-count_fitting-rows c = all-fit c.args.bytes c.args.rows.now c.count_fitting.result c.count_fitting.ensures.value c.if-count_fitting-rows.true

pub returns-in-len1-up : goal.returns-in-len1-up
returns-in-len1-up c =
    let rows = c.args.rows.now in
    let counted = c.count_fitting in
    let split = last-split rows (length rows - 1) c.last-item.result (omega (arith, c.in-len1-up.len_at_least)) c.last-item.is in
    (some-over c.args.bytes rows counted.result counted.ensures.value counted.ensures.within c.if-count_fitting-rows.false, split.0, split.1, split.2, split.3)
