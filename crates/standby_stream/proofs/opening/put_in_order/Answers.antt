use Rattle.std.proofs.Common.{rules}
use Rattle.std.proofs.lemmas.List.Filters.{dedup_is}
use Rattle.std.proofs.lemmas.List.Sorted.{answers_always, ranks_by}
use Rattle.std.specs.Ordering.{eq_by_cmp, is_lt}
use Rattle.kv_types.specs.declared.record_id.RecordId.{RecordId}
use Rattle.kv_types.specs.Keyspace.{record_cmp}
use Rattle.kv_types.specs.Order.{record_cmp_total}
use Rattle.standby_stream.proofs.OpeningLemmas.{ordered-same, ordered-rising}
use Rattle.standby_stream.proofs.opening.put_in_order.Goals as goal

pub returns-clause-same : goal.returns-clause-same
returns-clause-same c =
    let moved = c.sort_unstable_by.new.self.items in
    let once = c.dedup.new.self.items in
    ordered-same c.args.ids.now.items moved once c.sort_unstable_by.ensures.permutation (dedup_is (eq_by_cmp record_cmp) moved once c.dedup.ensures.filtered)

pub returns-clause-rising : goal.returns-clause-rising
returns-clause-rising c =
    let moved = c.sort_unstable_by.new.self.items in
    let once = c.dedup.new.self.items in
    let up = c.sort_unstable_by.ensures.sorted (λ (x y : RecordId). is_lt (record_cmp x y)) (ranks_by record_cmp_total (λ (id : RecordId). id)) (answers_always _ _ _ (λ f a r next called. search rules)) in
    ordered-rising c.args.ids.now.items moved once c.sort_unstable_by.ensures.permutation (dedup_is (eq_by_cmp record_cmp) moved once c.dedup.ensures.filtered) up
