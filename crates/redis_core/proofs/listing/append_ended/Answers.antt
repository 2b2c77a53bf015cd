use Rattle.std.proofs.Common.{take, ◌∙◌}
use Rattle.redis_core.specs.Sequencing.{ended_by_parts}
use Rattle.redis_core.proofs.listing.append_ended.Goals as goal

pub returns-in_err-extend_from_slice-clause-kept : goal.returns-in_err-extend_from_slice-clause-kept
returns-in_err-extend_from_slice-clause-kept c = (ended_by_parts (take c.loop-part.part-index c.args.parts.now), c.in_err-extend_from_slice.ensures.items ∙ c.loop-part.invariant)
