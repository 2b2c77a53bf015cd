use Rattle.std.proofs.Common.{◌≡◌, ◌+◌, ◌≤◌, map, drop, length}
use Rattle.cmd_core.specs.Contents.{fields_of}
use Rattle.cmd_core.proofs.record.count_fields_in.Given as goal

abbrev pub invariant-loop-record : goal.invariant-loop-record
invariant-loop-record g l =
    (length (fields_of (map g.R.KeptRecord.kept l.records) l.key) ≡ l.count + length (fields_of (map g.R.KeptRecord.kept (drop l.record-index l.records)) l.key)) × (l.count ≤ l.record-index)
