use Rattle.std.proofs.Common.{◌⊎◌, inl}
use Rattle.std.proofs.lemmas.Result.{on_ok_weaker}
use Rattle.pmem.proofs.Leaving.{none_leaves}
use Rattle.pmem.specs.Crash.{IsImage}
use Rattle.wbl_migrate.specs.Steps.{IsAtSomeStage, IsHalfwayOrNew}
use Rattle.wbl_migrate.proofs.SwitchLemmas.{all_moments, all_unmarked, first_mark_moments, first_mark_unmarked, halfway_images, new_images, some_stage_map}
use Rattle.wbl_migrate.proofs.switching.switch.Goals as goal

pub returns-then-is_last-clause-moments : goal.returns-then-is_last-clause-moments
returns-then-is_last-clause-moments g c s all =
    let a = g.P.Pmem.state c.args.device.now in
    none_leaves a (IsAtSomeStage a.lines c.args.current.now s) (λ image is. inl (all image is))

pub returns-then-is_last-clause-unmarked : goal.returns-then-is_last-clause-unmarked
returns-then-is_last-clause-unmarked g c s all =
    let a = g.P.Pmem.state c.args.device.now in
    none_leaves a (λ image. IsImage a.words image ⊎ IsHalfwayOrNew a.lines c.args.current.now s image) (λ image is. inl is)

pub returns-then-is_last-clause-map : goal.returns-then-is_last-clause-map
returns-then-is_last-clause-map g c s all =
    let a = g.P.Pmem.state c.args.device.now in
    some_stage_map a a a.lines c.args.current.now s (returns-then-is_last-clause-moments g c s all)

pub returns-in_default-clause-moments : goal.returns-in_default-clause-moments
returns-in_default-clause-moments g c s all =
    let a = g.P.Pmem.state c.args.device.now in
    let b = g.P.Pmem.state c.mark_halfway.new.device in
    first_mark_moments a b a.lines c.args.current.now s (c.mark_halfway.ensures.moments c.args.current.now s all)

pub returns-in_default-clause-unmarked : goal.returns-in_default-clause-unmarked
returns-in_default-clause-unmarked g c s all =
    let a = g.P.Pmem.state c.args.device.now in
    first_mark_unmarked a (g.P.Pmem.state c.mark_halfway.new.device) a.lines c.args.current.now s (c.mark_halfway.ensures.unmarked c.args.current.now s all)

pub returns-in_default-clause-map : goal.returns-in_default-clause-map
returns-in_default-clause-map g c s all =
    let a = g.P.Pmem.state c.args.device.now in
    some_stage_map a (g.P.Pmem.state c.mark_halfway.new.device) a.lines c.args.current.now s (returns-in_default-clause-moments g c s all)

pub returns-clause-ok : goal.returns-clause-ok
returns-clause-ok g c =
    let a = g.P.Pmem.state c.args.device.now in
    let b = g.P.Pmem.state c.mark_halfway.new.device in
    let d = g.P.Pmem.state c.go_on.new.device in
    let current = c.args.current.now in
    let lines = c.mark_halfway.ensures.elsewhere.stays.lines in
    on_ok_weaker c.go_on.result
    (λ done s all. new_images b d a.lines current s lines (done s (halfway_images b a.lines current s lines (c.in-Ok.ensures.ok current s all))))
    c.go_on.ensures.ok

pub returns-clause-moments : goal.returns-clause-moments
returns-clause-moments g c s all =
    let a = g.P.Pmem.state c.args.device.now in
    let b = g.P.Pmem.state c.mark_halfway.new.device in
    let current = c.args.current.now in
    let lines = c.mark_halfway.ensures.elsewhere.stays.lines in
    let halfway = halfway_images b a.lines current s lines (c.in-Ok.ensures.ok current s all) in
    all_moments a b (g.P.Pmem.state c.go_on.new.device) a.lines current s lines (c.mark_halfway.ensures.moments current s all)
    (c.go_on.ensures.moments s halfway)

pub returns-clause-unmarked : goal.returns-clause-unmarked
returns-clause-unmarked g c s all =
    let a = g.P.Pmem.state c.args.device.now in
    let b = g.P.Pmem.state c.mark_halfway.new.device in
    let current = c.args.current.now in
    let lines = c.mark_halfway.ensures.elsewhere.stays.lines in
    let halfway = halfway_images b a.lines current s lines (c.in-Ok.ensures.ok current s all) in
    all_unmarked a b (g.P.Pmem.state c.go_on.new.device) a.lines current s lines (c.mark_halfway.ensures.unmarked current s all)
    (c.go_on.ensures.moments s halfway)

pub returns-clause-map : goal.returns-clause-map
returns-clause-map g c s all =
    let a = g.P.Pmem.state c.args.device.now in
    some_stage_map a (g.P.Pmem.state c.go_on.new.device) a.lines c.args.current.now s (returns-clause-moments g c s all)
