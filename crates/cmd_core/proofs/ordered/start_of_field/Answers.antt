use Rattle.std.proofs.Common.{rules}
use Rattle.std.proofs.lemmas.List.Sorted.{IsPartitionPoint-from_clause}
use Rattle.kv_types.specs.declared.record_id.RecordId.TheVariants.{Field}
use Rattle.cmd_core.specs.Record.{comes_before}
use Rattle.cmd_core.proofs.OrderedLemmas.{parted, earlier-comes_before}
use Rattle.cmd_core.proofs.ordered.start_of_field.Goals as goal

pub returns : goal.returns
returns g c =
    let kept = g.R.KeptRecord.kept in
    let sorted = parted kept (comes_before (Field c.args.key.now c.args.field.now)) (earlier-comes_before (Field c.args.key.now c.args.field.now)) c.args.records.now c.requires.order in
    (c.partition_point.ensures.bound, IsPartitionPoint-from_clause (λ x. comes_before (Field c.args.key.now c.args.field.now) (kept x).0) _ _ c.partition_point.ensures.partitioned sorted (λ a r q k. search rules))
