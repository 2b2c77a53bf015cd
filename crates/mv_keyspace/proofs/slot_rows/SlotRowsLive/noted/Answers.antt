use Rattle.std.proofs.Common.{arith}
use Rattle.mv_keyspace.specs.Row.{table_of}
use Rattle.mv_keyspace.specs.Slots.{rows_in}
use Rattle.mv_keyspace.specs.Versions.{table_in}
use Rattle.mv_keyspace.proofs.NotedLemmas.{gathered-all, slots-ordered}
use Rattle.mv_keyspace.proofs.slot_rows.SlotRowsLive.noted.Goals as goal

pub returns-clause-ok : goal.returns-clause-ok
returns-clause-ok c =
    let es = c.args.self.now.slots.entries in
    gathered-all c.loop-change.change-index c.args.changes.now (table_of (rows_in es)) (table_in c.loop-change.noted.entries) (slots-ordered es c.args.self.now.slotted) (omega (arith, c.loop-change-test.false)) c.loop-change.invariant
