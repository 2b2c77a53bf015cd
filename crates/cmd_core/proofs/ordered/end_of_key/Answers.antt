use Rattle.std.proofs.Common.{rules}
use Rattle.std.proofs.lemmas.List.Sorted.{IsPartitionPoint-from_clause}
use Rattle.cmd_core.specs.Record.{has_key_up_to}
use Rattle.cmd_core.proofs.OrderedLemmas.{parted, earlier-has_key_up_to}
use Rattle.cmd_core.proofs.ordered.end_of_key.Goals as goal

pub returns : goal.returns
returns g c =
    let kept = g.R.KeptRecord.kept in
    let sorted = parted kept (has_key_up_to c.args.key.now) (earlier-has_key_up_to c.args.key.now) c.args.records.now c.requires.order in
    (c.partition_point.ensures.bound, IsPartitionPoint-from_clause (λ x. has_key_up_to c.args.key.now (kept x).0) _ _ c.partition_point.ensures.partitioned sorted (λ a r q k. search rules))
