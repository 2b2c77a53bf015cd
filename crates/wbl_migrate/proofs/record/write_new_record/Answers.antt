use Rattle.std.proofs.Common.{subst}
use Rattle.pmem.proofs.Leaving.{none_leaves}
use Rattle.model.specs.declared.layout.Layout.TheVariants.{Halfway}
use Rattle.model.specs.declared.record.Record.{Record}
use Rattle.model.specs.Image.{HasRecord}
use Rattle.wbl_migrate.specs.Stage.{IsMovable}
use Rattle.wbl_migrate.specs.Steps.{Leaves}
use Rattle.wbl_migrate.proofs.record.write_new_record.Goals as goal

pub returns-then-is_last-clause-moments : goal.returns-then-is_last-clause-moments
returns-then-is_last-clause-moments g c r s all =
    let d = g.P.Pmem.state c.args.device.now in none_leaves d (IsMovable Halfway d.lines r s) all

pub returns-in-Ok-clause-ok : goal.returns-in-Ok-clause-ok
returns-in-Ok-clause-ok g c =
    subst (λ (next : Record). Leaves (g.P.Pmem.state c.write_record.new.device) (HasRecord (g.P.Pmem.state c.args.device.now).lines next)) c.renewed.ensures
    c.in-Ok.ensures.ok
