use Rattle.std.proofs.Common.{rules}
use Rattle.std.proofs.lemmas.List.Sorted.{answers_always, ranks_by}
use Rattle.std.specs.Ordering.{is_lt}
use Rattle.kv_types.specs.Keyspace.{record_cmp}
use Rattle.kv_types.specs.Order.{record_cmp_total}
use Rattle.mv_keyspace.specs.declared.row.Row.{Row}
use Rattle.mv_keyspace.proofs.LoadingLemmas.{rows-sorted, order-sorted}
use Rattle.mv_keyspace.proofs.loading.sort_rows.Goals as goal

pub returns-clause-rows : goal.returns-clause-rows
returns-clause-rows c =
    let sort = c.sort_unstable_by.ensures in
    let up = sort.sorted (λ (x y : Row). is_lt (record_cmp x.id y.id)) (ranks_by record_cmp_total (λ (row : Row). row.id)) (answers_always _ _ _ (λ f a r next called. search rules)) in
    rows-sorted c.args.rows.now.items c.sort_unstable_by.new.self.items sort.permutation up c.requires

pub returns-clause-order : goal.returns-clause-order
returns-clause-order c =
    let sort = c.sort_unstable_by.ensures in
    let up = sort.sorted (λ (x y : Row). is_lt (record_cmp x.id y.id)) (ranks_by record_cmp_total (λ (row : Row). row.id)) (answers_always _ _ _ (λ f a r next called. search rules)) in
    order-sorted c.args.rows.now.items c.sort_unstable_by.new.self.items sort.permutation up c.requires
