use Rattle.kv_types.specs.Keyspace.{Keyspace}
use Rattle.kv_types.specs.declared.refusal.Refusal.TheVariants.{Exhausted}
use Rattle.pmem.specs.Runs.{LeavesOnly}
use Rattle.model.specs.declared.layout.Layout.TheVariants.{Halfway}
use Rattle.wbl_migrate.specs.Stage.{IsMovable}
use Rattle.wbl_migrate.specs.Steps.{Leaves, IsHalfwayOrNew, IsRenewed}
use Rattle.wbl_migrate.proofs.StepLemmas.{ok_no_error}
use Rattle.wbl_migrate.proofs.SwitchLemmas.{record_moments, renewed_images, new_images, mark_moments, halfway_map}
use Rattle.wbl_migrate.proofs.switching.go_on.Goals as goal
use Rattle.wbl_migrate.proofs.switching.go_on.Given.{Over}
use Rattle.wbl_migrate.proofs.switching.go_on.Goals.{After-mark_new}

pub returns-in_err-write_new_record-clause-moments : goal.returns-in_err-write_new_record-clause-moments
returns-in_err-write_new_record-clause-moments g c s all =
    let a = g.P.Pmem.state c.args.device.now in
    let b = g.P.Pmem.state c.write_new_record.new.device in
    let current = c.args.current.now in
    record_moments a b a.lines current s (c.write_new_record.ensures.moments current s all)

pub returns-in_err-write_new_record-clause-map : goal.returns-in_err-write_new_record-clause-map
returns-in_err-write_new_record-clause-map g c s all =
    let a = g.P.Pmem.state c.args.device.now in
    let b = g.P.Pmem.state c.write_new_record.new.device in
    halfway_map a b a.lines c.args.current.now s (returns-in_err-write_new_record-clause-moments g c s all)

-- the record was written
renews : (g : Over) (c : After-mark_new g) (s : Keyspace) → Leaves (g.P.Pmem.state c.args.device.now) (IsMovable Halfway (g.P.Pmem.state c.args.device.now).lines c.args.current.now s)
    → Leaves (g.P.Pmem.state c.write_new_record.new.device) (IsRenewed (g.P.Pmem.state c.write_new_record.new.device).lines c.args.current.now s)
renews g c s all =
    let a = g.P.Pmem.state c.args.device.now in
    let current = c.args.current.now in
    renewed_images a (g.P.Pmem.state c.write_new_record.new.device) a.lines current s c.write_new_record.ensures.elsewhere.stays.lines
    (c.write_new_record.ensures.moments current s all) c.in_ok-write_new_record.ensures.ok
    (λ last. ok_no_error c.in_ok-write_new_record.field-0 Exhausted (c.in_ok-write_new_record.ensures.exhausts last))

moments : (g : Over) (c : After-mark_new g) (s : Keyspace) → Leaves (g.P.Pmem.state c.args.device.now) (IsMovable Halfway (g.P.Pmem.state c.args.device.now).lines c.args.current.now s)
    → LeavesOnly (g.P.Pmem.state c.args.device.now) (g.P.Pmem.state c.mark_new.new.device) (IsHalfwayOrNew (g.P.Pmem.state c.args.device.now).lines c.args.current.now s)
moments g c s all =
    let a = g.P.Pmem.state c.args.device.now in
    let current = c.args.current.now in
    mark_moments a (g.P.Pmem.state c.write_new_record.new.device) (g.P.Pmem.state c.mark_new.new.device) a.lines current s
    c.write_new_record.ensures.elsewhere.stays.lines (c.write_new_record.ensures.moments current s all) (c.mark_new.ensures.moments current s (renews g c s all))

pub returns-in-Ok-clause-ok : goal.returns-in-Ok-clause-ok
returns-in-Ok-clause-ok g c s all =
    let a = g.P.Pmem.state c.args.device.now in
    let b = g.P.Pmem.state c.write_new_record.new.device in
    let current = c.args.current.now in
    new_images b (g.P.Pmem.state c.mark_new.new.device) a.lines current s c.write_new_record.ensures.elsewhere.stays.lines
    (c.in-Ok.ensures.ok current s (renews g (goal.at.returns-in-Ok-clause-ok g c).After-mark_new s all))

pub returns-in-Ok-clause-moments : goal.returns-in-Ok-clause-moments
returns-in-Ok-clause-moments g c s all = moments g (goal.at.returns-in-Ok-clause-moments g c).After-mark_new s all

pub returns-in-Ok-clause-map : goal.returns-in-Ok-clause-map
returns-in-Ok-clause-map g c s all =
    let a = g.P.Pmem.state c.args.device.now in
    halfway_map a (g.P.Pmem.state c.mark_new.new.device) a.lines c.args.current.now s (returns-in-Ok-clause-moments g c s all)

pub returns-in-Err-clause-moments : goal.returns-in-Err-clause-moments
returns-in-Err-clause-moments g c s all = moments g (goal.at.returns-in-Err-clause-moments g c).After-mark_new s all

pub returns-in-Err-clause-map : goal.returns-in-Err-clause-map
returns-in-Err-clause-map g c s all =
    let a = g.P.Pmem.state c.args.device.now in
    halfway_map a (g.P.Pmem.state c.mark_new.new.device) a.lines c.args.current.now s (returns-in-Err-clause-moments g c s all)
