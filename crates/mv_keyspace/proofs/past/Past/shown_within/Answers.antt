use Rattle.std.proofs.Common.{arith}
use Rattle.std.specs.Option.{option_copied}
use Rattle.mv_keyspace.specs.Paging.{is_within}
use Rattle.mv_keyspace.proofs.PagingLemmas.{within-more}
use Rattle.mv_keyspace.proofs.past.Past.shown_within.Goals as goal
use Rattle.mv_keyspace.proofs.past.Past.shown_within.Goals.{then-is_shown_within+in_ok-put_shared, else-is_shown_within}

pub loop-ended-preserved : goal.loop-ended-preserved
loop-ended-preserved c =
    let within = is_within (option_copied c.args.after) (option_copied c.args.until) in
    let more = within-more within c.args.position c.deref-ended-items.result.now c.loop-ended.ended-index c.ended-item.result c.loop-ended-test.true c.ended-item.is in
    let before = c.loop-ended.invariant in
    elim c.if-is_shown_within.branch [
      | then-is_shown_within+in_ok-put_shared w ↦ grind (arith, more, before)
      | else-is_shown_within w ↦ grind (arith, more, before)
    ]
