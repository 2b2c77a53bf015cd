use Rattle.std.proofs.Common.{◌∙◌, arith}
use Rattle.mv_keyspace.proofs.PastLemmas.{last-step, up_to-more}
use Rattle.mv_keyspace.proofs.past.Past.reach_rows.Goals as goal

pub loop-row-preserved : goal.loop-row-preserved
loop-row-preserved c =
    let before = c.loop-row.invariant in
    let reached = c.reach.ensures in
    record {
      versions = reached.versions ∙ before.versions;
      pins = reached.pins ∙ before.pins;
      position = last-step c.args.rows.now c.loop-row.row-index c.row-item.result c.loop-row.self.position c.reach.new.self.position c.loop-row-test.true c.row-item.is reached.position ∙ before.position;
      rises = omega arith;
      rows = up_to-more c.args.rows.now c.loop-row.row-index c.row-item.result c.loop-row.self.position c.reach.new.self.position c.loop-row-test.true c.row-item.is reached.rises.0 reached.rises.1 before.rows;
    }
