use Rattle.std.proofs.Common.{◌≡◌, map}
use Rattle.kv_types.specs.declared.change.Change.TheVariants.{Drop}
use Rattle.kv_types.specs.declared.record_id.RecordId.TheVariants.{Field}
use Rattle.cmd_hash.proofs.writing.drops_of.Given as goal

abbrev pub invariant-loop-field : goal.invariant-loop-field
invariant-loop-field l = l.drops.items ≡ map (λ field. Drop (Field l.key field)) l.yielded
