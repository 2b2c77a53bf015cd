use Rattle.std.proofs.Common.{ℕ, ◌≤◌, ◌<◌, length, sym, subst}
use Rattle.pmem.specs.Device.{Steps, store_at}
use Rattle.pmem.specs.Runs.{pairs_from}
use Rattle.pmem.proofs.Chaining.{Runs-none, Runs-next_store, Runs-all_stored}
use Rattle.pmem.proofs.Staging.{length-pairs_from, get_or-pairs_from}
use Rattle.pmem.proofs.runs.store_words.Goals as goal

pub loop-i-init : goal.loop-i-init
loop-i-init g c = Runs-none (g.P.Pmem.state c.args.device.now)

pub loop-i-preserved : goal.loop-i-preserved
loop-i-preserved g c =
    let below : c.loop-i.i < length (pairs_from c.args.first c.args.values.now) =
    subst (λ (n : ℕ). c.loop-i.i < n) (sym (length-pairs_from c.args.first c.args.values.now)) c.loop-i-test.true in
    let old = g.P.Pmem.state c.loop-i.device in
    Runs-next_store (pairs_from c.args.first c.args.values.now) c.loop-i.i below c.loop-i.invariant
    (subst (λ (pair : ℕ × ℕ). Steps old (g.P.Pmem.state c.store.new.self) (store_at pair.0 pair.1 old.words) old.failures old.fences)
    (sym (get_or-pairs_from c.args.first c.args.values.now c.loop-i.i c.loop-i-test.true)) c.store.ensures.steps)

pub returns : goal.returns
returns g c =
    Runs-all_stored (pairs_from c.args.first c.args.values.now) c.loop-i.i
    (subst (λ (n : ℕ). n ≤ c.loop-i.i) (sym (length-pairs_from c.args.first c.args.values.now)) c.loop-i-test.false) c.loop-i.invariant
