use Rattle.std.proofs.Common.{ℕ, ◌<◌, length, subst, arith}
use Rattle.pmem.specs.Device.{Steps, store_at}
use Rattle.pmem.specs.Runs.{pairs_from}
use Rattle.pmem.proofs.Chaining.{Runs-none, Runs-next_store, Runs-all_stored}
use Rattle.wbl_engine.proofs.NewImage.{zeros}
use Rattle.wbl_engine.proofs.FormatRuns.{length-zero_pairs, zero_pair}
use Rattle.wbl_engine.proofs.format.clear_words.Goals as goal

pub loop-i-init : goal.loop-i-init
loop-i-init g c = Runs-none (g.P.Pmem.state c.args.device.now)

pub loop-i-preserved : goal.loop-i-preserved
loop-i-preserved g c =
    let pairs = pairs_from c.args.first (zeros c.args.count) in
    let below : c.loop-i.i < length pairs = omega (arith, length-zero_pairs c.args.first c.args.count, c.loop-i-test.true) in
    let old = g.P.Pmem.state c.loop-i.device in
    Runs-next_store pairs c.loop-i.i below c.loop-i.invariant
    (subst (λ (pair : ℕ × ℕ). Steps old (g.P.Pmem.state c.store.new.self) (store_at pair.0 pair.1 old.words) old.failures old.fences)
    (zero_pair c.args.first c.args.count c.loop-i.i c.loop-i-test.true) c.store.ensures.steps)

pub returns : goal.returns
returns g c =
    Runs-all_stored (pairs_from c.args.first (zeros c.args.count)) c.loop-i.i
    (omega (arith, length-zero_pairs c.args.first c.args.count, c.loop-i-test.false)) c.loop-i.invariant
