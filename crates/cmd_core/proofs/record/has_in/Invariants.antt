use Rattle.std.proofs.Common.{◌≡◌, map, drop}
use Rattle.cmd_core.specs.Contents.{has_key}
use Rattle.cmd_core.proofs.record.has_in.Given as goal

abbrev pub invariant-loop-record : goal.invariant-loop-record
invariant-loop-record g l = has_key (map g.R.KeptRecord.kept l.records) l.key ≡ has_key (map g.R.KeptRecord.kept (drop l.record-index l.records)) l.key
