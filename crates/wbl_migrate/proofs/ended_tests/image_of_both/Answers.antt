use Rattle.std.proofs.Common.{refl, arith}
use Rattle.pmem.specs.Sim.{fresh, state_of}
use Rattle.wbl_migrate.proofs.TwoSetsLemmas.{current_at, ended_version, moving_at, new_at, two_sets_asked, two_sets_moving}
use Rattle.wbl_migrate.proofs.ended_tests.image_of_both.Goals as goal

pub commit-requires : goal.commit-requires
commit-requires c =
    let device = state_of c.in_ok-new.field-0 in
    two_sets_asked (new_at {d = device} {e = fresh 4096} c.in_ok-new.ensures c.in-Ok.ensures.new) c.in_ok-group.ensures
    (λ same. omega (arith, same)) (omega arith) (omega arith)

pub returns-in-Ok : goal.returns-in-Ok
returns-in-Ok c =
    let device = state_of c.in_ok-new.field-0 in
    let held = state_of c.commit.new.self.device in
    let taken = state_of c.into_device-device.result in
    let same = c.into_device-device.ensures in (
      _,
      ended_version,
      moving_at {d = held} {e = taken} same
          (two_sets_moving (new_at {d = device} {e = fresh 4096} c.in_ok-new.ensures c.in-Ok.ensures.new) c.in_ok-group.ensures held
          c.in_ok-commit-in-Ok.ensures.moved c.in_ok-commit-in-Ok.ensures.durable refl
          (current_at {d = held} {e = taken} same c.in_ok-current-in-Ok.ensures.ok)),
    )
