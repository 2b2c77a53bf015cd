use Rattle.std.proofs.Common.{List, sym, subst}
use Rattle.std.specs.List.{AllByRecursion}
use Rattle.pmem.specs.Runs.{Runs, stores}
use Rattle.pmem.proofs.Chaining.{Runs-none}
use Rattle.model.specs.declared.group.Put.{Put}
use Rattle.wbl_engine.specs.Stage.{IsWritable, puts_pairs}
use Rattle.wbl_engine.proofs.StagingLemmas.{no_put}
use Rattle.wbl_engine.proofs.staging.store_change.Goals as goal

pub returns-in_default : goal.returns-in_default
returns-in_default g c =
    let none = no_put c.args.change.now c.in_default.not-Put in
    let d = g.P.Pmem.state c.args.device.now in
    record {
      stored = subst (λ (puts : List Put). Runs d d (stores (puts_pairs c.args.stamp c.args.position puts) d.words)) (sym none) (Runs-none d);
      writable = subst (AllByRecursion IsWritable) (sym none) tt;
    }
