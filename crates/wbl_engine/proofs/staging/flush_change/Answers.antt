use Rattle.std.proofs.Common.{List, sym, subst}
use Rattle.pmem.specs.Runs.{Runs, flushes}
use Rattle.pmem.proofs.Chaining.{Runs-none}
use Rattle.model.specs.declared.group.Put.{Put}
use Rattle.wbl_engine.specs.Stage.{puts_lines}
use Rattle.wbl_engine.proofs.StagingLemmas.{no_put}
use Rattle.wbl_engine.proofs.staging.flush_change.Goals as goal

pub returns-in_default : goal.returns-in_default
returns-in_default g c =
    let d = g.P.Pmem.state c.args.device.now in
    subst (λ (puts : List Put). Runs d d (flushes (puts_lines puts) d.words)) (sym (no_put c.args.change.now c.in_default.not-Put)) (Runs-none d)
