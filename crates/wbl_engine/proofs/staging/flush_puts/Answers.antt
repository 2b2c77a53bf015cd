use Rattle.std.proofs.Common.{ℕ, sym, subst}
use Rattle.std.specs.List.{AllByRecursion}
use Rattle.pmem.proofs.Chaining.{Runs-none}
use Rattle.model.specs.Layout.{directory_room}
use Rattle.model.specs.Group.{IsPlaced, put_of}
use Rattle.wbl_engine.proofs.StagingLemmas.{all_of_item, changes_flushed}
use Rattle.wbl_engine.proofs.staging.flush_puts.Goals as goal

pub loop-change-init : goal.loop-change-init
loop-change-init g c = Runs-none (g.P.Pmem.state c.args.device.now)

pub flush_change-requires : goal.flush_change-requires
flush_change-requires g c =
    subst (λ (lines : ℕ). AllByRecursion (IsPlaced (directory_room lines) lines) (put_of c.change-item.result)) (sym c.loop-change.invariant.stays.lines)
    (all_of_item (IsPlaced (directory_room (g.P.Pmem.state c.args.device.now).lines) (g.P.Pmem.state c.args.device.now).lines) put_of
    c.args.changes.now c.loop-change.change-index c.change-item.result
    c.loop-change-test.true c.change-item.is c.requires)

pub loop-change-preserved : goal.loop-change-preserved
loop-change-preserved g c =
    changes_flushed c.args.changes.now c.loop-change.change-index c.change-item.result c.loop-change-test.true c.change-item.is
    c.loop-change.invariant c.flush_change.ensures
