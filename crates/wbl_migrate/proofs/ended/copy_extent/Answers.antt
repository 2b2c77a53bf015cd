use Rattle.std.proofs.Common.{ℕ, ◌<◌, List, length, subst, arith}
use Rattle.pmem.specs.Device.{Steps, store_at}
use Rattle.pmem.specs.Crash.{image_of}
use Rattle.pmem.proofs.Chaining.{Runs-none, Runs-next_store, Runs-all_stored}
use Rattle.wbl_migrate.specs.Ended.{extent_copy}
use Rattle.wbl_migrate.proofs.EndedRuns.{copied_pair, length-extent_copy}
use Rattle.wbl_migrate.proofs.ended.copy_extent.Goals as goal

pub loop-i-init : goal.loop-i-init
loop-i-init g c = Runs-none (g.P.Pmem.state c.args.device.now)

pub loop-i-preserved : goal.loop-i-preserved
loop-i-preserved g c =
    let image = image_of (g.P.Pmem.state c.args.device.now).words in
    let pairs : List (ℕ × ℕ) = extent_copy image c.args.line c.args.to_line c.args.count in
    let below : c.loop-i.i < length pairs = omega (arith, length-extent_copy image c.args.line c.args.to_line c.args.count, c.loop-i-test.true) in
    let old = g.P.Pmem.state c.loop-i.device in
    Runs-next_store pairs c.loop-i.i below c.loop-i.invariant
    (subst (λ (pair : ℕ × ℕ). Steps old (g.P.Pmem.state c.store.new.self) (store_at pair.0 pair.1 old.words) old.failures old.fences)
    (copied_pair c.args.line c.args.to_line c.args.count c.loop-i.i c.load-value.result c.loop-i-test.true c.requires.apart c.loop-i.invariant c.load-value.ensures)
    c.store.ensures.steps)

pub returns : goal.returns
returns g c =
    let image = image_of (g.P.Pmem.state c.args.device.now).words in
    let pairs : List (ℕ × ℕ) = extent_copy image c.args.line c.args.to_line c.args.count in
    Runs-all_stored pairs c.loop-i.i
    (omega (arith, length-extent_copy image c.args.line c.args.to_line c.args.count, c.loop-i-test.false)) c.loop-i.invariant
