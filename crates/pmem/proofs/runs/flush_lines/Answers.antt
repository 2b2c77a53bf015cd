use Rattle.std.proofs.Common.{ℕ, ◌≤◌, ◌<◌, length, sym, subst}
use Rattle.pmem.specs.Device.{Steps, flush_at}
use Rattle.pmem.specs.Runs.{lines_from}
use Rattle.pmem.proofs.Chaining.{Runs-none, Runs-next_flush, Runs-all_flushed}
use Rattle.pmem.proofs.Staging.{length-lines_from, get_or-lines_from}
use Rattle.pmem.proofs.runs.flush_lines.Goals as goal

pub loop-i-init : goal.loop-i-init
loop-i-init g c = Runs-none (g.P.Pmem.state c.args.device.now)

pub loop-i-preserved : goal.loop-i-preserved
loop-i-preserved g c =
    let below : c.loop-i.i < length (lines_from c.args.first c.args.count) =
    subst (λ (n : ℕ). c.loop-i.i < n) (sym (length-lines_from c.args.first c.args.count)) c.loop-i-test.true in
    let old = g.P.Pmem.state c.loop-i.device in
    Runs-next_flush (lines_from c.args.first c.args.count) c.loop-i.i below c.loop-i.invariant
    (subst (λ (line : ℕ). Steps old (g.P.Pmem.state c.flush.new.self) (flush_at line old.words) old.failures old.fences)
    (sym (get_or-lines_from c.args.first c.args.count c.loop-i.i c.loop-i-test.true)) c.flush.ensures.steps)

pub returns : goal.returns
returns g c =
    Runs-all_flushed (lines_from c.args.first c.args.count) c.loop-i.i
    (subst (λ (n : ℕ). n ≤ c.loop-i.i) (sym (length-lines_from c.args.first c.args.count)) c.loop-i-test.false) c.loop-i.invariant
