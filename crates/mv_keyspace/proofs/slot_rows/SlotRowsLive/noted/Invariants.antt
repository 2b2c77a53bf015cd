use Rattle.std.proofs.Common.{◌≡◌, [], drop}
use Rattle.mv_keyspace.specs.Row.{table_of}
use Rattle.mv_keyspace.specs.Slots.{rows_in}
use Rattle.mv_keyspace.specs.Versions.{table_in}
use Rattle.mv_keyspace.proofs.NotedLemmas.{gather}
use Rattle.mv_keyspace.proofs.slot_rows.SlotRowsLive.noted.Given as goal

abbrev pub invariant-loop-change : goal.invariant-loop-change
invariant-loop-change l = gather (drop l.change-index l.changes) (table_of (rows_in l.self.slots.entries)) (table_in l.noted.entries) ≡ gather l.changes (table_of (rows_in l.self.slots.entries)) []
