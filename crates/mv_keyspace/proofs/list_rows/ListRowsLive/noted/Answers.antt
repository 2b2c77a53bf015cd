use Rattle.std.proofs.Common.{arith}
use Rattle.mv_keyspace.specs.Row.{table_of}
use Rattle.mv_keyspace.specs.Versions.{table_in}
use Rattle.mv_keyspace.proofs.NotedLemmas.{gathered-all, rows-ordered}
use Rattle.mv_keyspace.proofs.list_rows.ListRowsLive.noted.Goals as goal

pub returns-clause-ok : goal.returns-clause-ok
returns-clause-ok c =
    let rows = c.args.self.now.rows.items in
    gathered-all c.loop-change.change-index c.args.changes.now (table_of rows) (table_in c.loop-change.noted.entries) (rows-ordered rows c.args.self.now.in_order) (omega (arith, c.loop-change-test.false)) c.loop-change.invariant
