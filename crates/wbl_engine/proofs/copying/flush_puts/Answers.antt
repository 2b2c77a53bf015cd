use Rattle.std.proofs.Common.{ℕ, sym, subst}
use Rattle.pmem.proofs.Chaining.{Runs-none}
use Rattle.model.specs.Layout.{directory_room}
use Rattle.model.specs.Group.{IsPlaced}
use Rattle.wbl_engine.proofs.StagingLemmas.{all_item, next_put_flushed}
use Rattle.wbl_engine.proofs.copying.flush_puts.Goals as goal

pub loop-put-init : goal.loop-put-init
loop-put-init g c = Runs-none (g.P.Pmem.state c.args.device.now)

pub flush_entry-requires : goal.flush_entry-requires
flush_entry-requires g c =
    record {
      placed = subst (λ (lines : ℕ). IsPlaced (directory_room lines) lines c.put-item.result) (sym c.loop-put.invariant.stays.lines)
          (all_item (IsPlaced (directory_room (g.P.Pmem.state c.args.device.now).lines) (g.P.Pmem.state c.args.device.now).lines)
          c.args.puts.now c.loop-put.put-index c.put-item.result c.loop-put-test.true c.put-item.is c.requires);
    }

pub loop-put-preserved : goal.loop-put-preserved
loop-put-preserved g c =
    next_put_flushed c.args.puts.now c.loop-put.put-index c.put-item.result c.loop-put-test.true c.put-item.is c.loop-put.invariant c.flush_entry.ensures
