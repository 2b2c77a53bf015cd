use Rattle.std.proofs.Common.{◌≡◌, ◌+◌, ◌≤◌, map, length, IsTrue}
use Rattle.std.specs.FinMap.Entries.{is_sorted}
use Rattle.kv_types.specs.Keyspace.{record_cmp}
use Rattle.cmd_core.specs.Contents.{keys_of}
use Rattle.cmd_core.proofs.record.count_keys_in.Given as goal

abbrev pub invariant-loop-rest : goal.invariant-loop-rest
invariant-loop-rest g l = record {
  counted : length (keys_of (map g.R.KeptRecord.kept l.fn.records)) ≡ l.count + length (keys_of (map g.R.KeptRecord.kept l.rest));
  sorted : IsTrue (is_sorted record_cmp (map g.R.KeptRecord.kept l.rest));
  few : l.count + length l.rest ≤ length l.fn.records;
}

abbrev pub decreases-loop-rest : goal.decreases-loop-rest
decreases-loop-rest g l = length l.rest
