use Rattle.std.proofs.Common.{◌≡◌, ◌<◌, ◌≤◌, [], ◌∷◌, ◌++◌, length, rules, arith}
use Rattle.mv_keyspace.proofs.PuttingLemmas.{numbers-over}
use Rattle.mv_keyspace.proofs.putting.put_over.Goals as goal

pub returns-else-start-end-clause-ended : goal.returns-else-start-end-clause-ended
returns-else-start-end-clause-ended c =
    let rows = c.args.rows.now.items in
    let below : c.args.start < c.args.end = omega arith in
    let within : c.args.end ≤ length rows = omega (arith, c.args.rows.now.ok.0) in
    let pushed : c.push.new.self.items ≡ c.args.ended.now.items ++ c.index.result.now.entry ∷ [] = search rules in
    numbers-over rows c.args.row c.index.result.now c.args.start c.args.end c.args.ended.now.items c.push.new.self.items c.end_range.new.ended.items below within c.index.ensures pushed c.end_range.ensures.ended
