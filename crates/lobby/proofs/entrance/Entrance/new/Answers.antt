use Rattle.std.proofs.Common.{[], sym, subst, arith}
use Rattle.lobby.specs.Attendance.{AreEachOnce, numbers_of}
use Rattle.lobby.proofs.Waiting.{each_once_from_waits, waits-empty}
use Rattle.lobby.proofs.entrance.Entrance.new.Goals as goal

pub invariant_of-result : goal.invariant_of-result
invariant_of-result g c =
    let book = c.in_ok-lobby.lobby in (
      subst (λ arrivals. AreEachOnce book.statuses (numbers_of arrivals)) (sym c.in_ok-arrivals.ensures.items)
          (each_once_from_waits book.statuses [] book.complete (waits-empty book.statuses)),
      (omega (arith, c.in_ok-arrivals.ensures.exact), tt),
    )
