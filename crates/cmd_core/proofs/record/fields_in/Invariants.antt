use Rattle.std.proofs.Common.{◌≡◌, ◌++◌, map, drop}
use Rattle.cmd_core.specs.Contents.{fields_of}
use Rattle.cmd_core.proofs.record.fields_in.Given as goal

abbrev pub invariant-loop-record : goal.invariant-loop-record
invariant-loop-record g l =
    fields_of (map g.R.KeptRecord.kept l.records) l.key ≡ l.fields.items ++ fields_of (map g.R.KeptRecord.kept (drop l.record-index l.records)) l.key
