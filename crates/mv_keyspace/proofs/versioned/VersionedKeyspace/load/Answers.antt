use Rattle.std.proofs.Common.{◌≤◌, List, sym, subst}
use Rattle.std.specs.List.{AllByRecursion}
use Rattle.kv_types.specs.declared.record_id.RecordId.{RecordId}
use Rattle.mv_keyspace.specs.declared.row.Row.{Row}
use Rattle.mv_keyspace.specs.Table.{Cell}
use Rattle.mv_keyspace.specs.Row.{table_of}
use Rattle.mv_keyspace.specs.Versions.{past_of, IsUpTo}
use Rattle.mv_keyspace.proofs.ShownLemmas.{up_to-load}
use Rattle.mv_keyspace.proofs.versioned.VersionedKeyspace.load.Goals as goal

pub invariant_of-self : goal.invariant_of-self
invariant_of-self g c =
    let old = c.args.self.now in
    let n = c.reach_rows.new.self.position in
    let reached = c.reach_rows.ensures in
    let loaded = c.load.ensures in
    record {
      passed =
          subst (IsUpTo n (g.L.Live.table c.load.new.self)) (sym reached.versions)
          (up_to-load old.past.position n (table_of c.args.rows.items) (g.L.Live.table c.load.new.self) (g.L.Live.table old.live) (past_of old.past) c.load.result reached.rises (subst (λ (rows : List Row). AllByRecursion (λ (row : RecordId × Cell). row.1.position ≤ n) (table_of rows)) c.deref.ensures.value reached.rows) loaded.ok loaded.err old.passed);
    }
