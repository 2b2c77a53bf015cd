use Rattle.std.proofs.Common.{ℕ, sym, subst}
use Rattle.std.specs.List.{AllByRecursion}
use Rattle.pmem.proofs.Chaining.{Runs-none}
use Rattle.model.specs.Layout.{directory_room}
use Rattle.model.specs.Group.{IsPlaced, puts_of_part}
use Rattle.wbl_engine.proofs.StagingLemmas.{all_of_item, parts_flushed}
use Rattle.wbl_engine.proofs.staging.flush_parts.Goals as goal

pub loop-part-init : goal.loop-part-init
loop-part-init g c = Runs-none (g.P.Pmem.state c.args.device.now)

pub flush_part-requires-clause-placed : goal.flush_part-requires-clause-placed
flush_part-requires-clause-placed g c =
    subst (λ (lines : ℕ). AllByRecursion (IsPlaced (directory_room lines) lines) (puts_of_part c.part-item.result)) (sym c.loop-part.invariant.stays.lines)
    (all_of_item (IsPlaced (directory_room (g.P.Pmem.state c.args.device.now).lines) (g.P.Pmem.state c.args.device.now).lines) puts_of_part
    c.args.parts.now c.loop-part.part-index c.part-item.result
    c.loop-part-test.true c.part-item.is c.requires.placed)

pub loop-part-preserved : goal.loop-part-preserved
loop-part-preserved g c =
    parts_flushed c.args.parts.now c.loop-part.part-index c.part-item.result c.loop-part-test.true c.part-item.is c.loop-part.invariant
    c.flush_part.ensures
