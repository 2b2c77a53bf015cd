use Rattle.std.proofs.Common.{rules}
use Rattle.std.proofs.lemmas.List.Sorted.{IsPartitionPoint-from_clause}
use Rattle.kv_types.specs.declared.record_id.RecordId.TheVariants.{Field}
use Rattle.cmd_core.specs.Record.{is_up_to}
use Rattle.cmd_core.proofs.OrderedLemmas.{parted, earlier-is_up_to}
use Rattle.cmd_core.proofs.ordered.end_of_field.Goals as goal

pub returns : goal.returns
returns g c =
    let kept = g.R.KeptRecord.kept in
    let sorted = parted kept (is_up_to (Field c.args.key.now c.args.field.now)) (earlier-is_up_to (Field c.args.key.now c.args.field.now)) c.args.records.now c.requires.order in
    (c.partition_point.ensures.bound, IsPartitionPoint-from_clause (λ x. is_up_to (Field c.args.key.now c.args.field.now) (kept x).0) _ _ c.partition_point.ensures.partitioned sorted (λ a r q k. search rules))
