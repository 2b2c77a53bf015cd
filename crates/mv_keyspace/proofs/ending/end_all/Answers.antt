use Rattle.std.proofs.Common.{true, arith}
use Rattle.mv_keyspace.proofs.EndingLemmas.{cut-all, cut-length, takes_out-cut}
use Rattle.mv_keyspace.proofs.ending.end_all.Goals as goal

pub end_range-requires-clause-room : goal.end_range-requires-clause-room
end_range-requires-clause-room c =
    let rows = c.args.rows.now.items in
    omega (arith, cut-length (λ id. true) rows 0 c.len-end.result (cut-all rows c.len-end.result (omega (arith, c.args.rows.now.ok.0))), c.requires.room)

pub returns : goal.returns
returns c =
    takes_out-cut (λ id. true) c.args.rows.now c.end_range.new.rows c.args.ended.now c.end_range.new.ended 0 c.len-end.result (cut-all c.args.rows.now.items c.len-end.result (omega (arith, c.args.rows.now.ok.0)))
    c.end_range.ensures.left c.end_range.ensures.ended c.end_range.ensures.capacity c.end_range.ensures.capacity_for_ended
