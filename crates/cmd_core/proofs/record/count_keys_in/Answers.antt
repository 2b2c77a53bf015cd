use Rattle.std.proofs.Common.{true, false, length, sym, ap, ◌∙◌, arith}
use Rattle.kv_types.specs.Keyspace.{key_of}
use Rattle.cmd_core.specs.Record.{next_has_key}
use Rattle.cmd_core.proofs.RecordsLemmas.{split_first, keys_counted, no_keys, sorted_later}
use Rattle.cmd_core.proofs.record.count_keys_in.Goals as goal

pub loop-rest-preserved-then-not-begins_with_key : goal.loop-rest-preserved-then-not-begins_with_key
loop-rest-preserved-then-not-begins_with_key g c =
    let split = split_first c.loop-rest.rest.now c.record-item.result (omega (arith, c.in-len1-up.len_at_least)) c.record-item.is in
    let key = c.as_slice.ensures ∙ c.key.ensures ∙ ap key_of c.id.ensures in
    let next = ap (next_has_key _) (sym key) ∙ sym c.begins_with_key.ensures ∙ c.if-not-begins_with_key.true in
    record {
      counted = omega (arith, keys_counted _ g.R.KeptRecord.kept _ _ c.record-item.result split c.loop-rest.invariant.sorted false next, c.loop-rest.invariant.counted);
      sorted = sorted_later _ g.R.KeptRecord.kept _ _ c.record-item.result split c.loop-rest.invariant.sorted;
      few = omega (arith, ap (λ items. length items) split, c.loop-rest.invariant.few);
    }

pub loop-rest-preserved : goal.loop-rest-preserved
loop-rest-preserved g c =
    let split = split_first c.loop-rest.rest.now c.record-item.result (omega (arith, c.in-len1-up.len_at_least)) c.record-item.is in
    let key = c.as_slice.ensures ∙ c.key.ensures ∙ ap key_of c.id.ensures in
    let next = ap (next_has_key _) (sym key) ∙ sym c.begins_with_key.ensures ∙ c.if-not-begins_with_key.false in
    record {
      counted = omega (arith, keys_counted _ g.R.KeptRecord.kept _ _ c.record-item.result split c.loop-rest.invariant.sorted true next, c.loop-rest.invariant.counted);
      sorted = sorted_later _ g.R.KeptRecord.kept _ _ c.record-item.result split c.loop-rest.invariant.sorted;
      few = omega (arith, ap (λ items. length items) split, c.loop-rest.invariant.few);
    }

pub returns-clause-value : goal.returns-clause-value
returns-clause-value g c =
    let none = no_keys _ g.R.KeptRecord.kept c.loop-rest.rest.now c.in_default.len_below in
    omega (arith, none, c.loop-rest.invariant.counted)
