use Rattle.std.proofs.Common.{arith}
use Rattle.kv_types.proofs.OrderLemmas.{record_itself, same_record}
use Rattle.mv_keyspace.proofs.PastLemmas.{shown-more}
use Rattle.mv_keyspace.proofs.past.Past.get.Goals as goal
use Rattle.mv_keyspace.proofs.past.Past.get.Goals.{then-is_shown+then-eq, else-is_shown, else-is_shown-via-then-is_shown+else-eq, else-is_shown-via-else-is_shown}

pub loop-ended-preserved : goal.loop-ended-preserved
loop-ended-preserved c =
    let more = shown-more c.args.position c.deref-ended-items.result.now c.loop-ended.ended-index c.ended-item.result c.args.id.now c.loop-ended-test.true c.ended-item.is in
    let own = record_itself c.args.id.now in
    let same = same_record c.ended-item.result.row.id c.args.id.now in
    let other = same_record c.args.id.now c.ended-item.result.row.id in
    let before = c.loop-ended.invariant in
    elim c.if-is_shown.branch [
      | then-is_shown+then-eq w ↦ grind (arith, more, own, same)
      | else-is_shown w ↦ elim w.else-is_shown.branch [
        | else-is_shown-via-then-is_shown+else-eq w' ↦ grind (arith, more, own, other, before)
        | else-is_shown-via-else-is_shown w' ↦ grind (arith, more, before)
      ]
    ]
