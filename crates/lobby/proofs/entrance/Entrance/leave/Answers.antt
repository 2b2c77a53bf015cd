use Rattle.std.proofs.Common.{sym, subst}
use Rattle.lobby.specs.Attendance.{IsHeld}
use Rattle.lobby.proofs.AttendanceLemmas.{leave-waits}
use Rattle.lobby.proofs.entrance.Entrance.leave.Goals as goal

pub invariant_of-self-inside : goal.invariant_of-self-inside
invariant_of-self-inside g c =
    let held = subst (λ a. IsHeld a c.args.seat) (sym c.self.view_is) (c.is_held.ensures.0 search) in (
      leave-waits c.self.inside.lobby c.self.inside.arrivals.items c.self.inside.each_once _ _ (c.leave.ensures.moves held.0) held.1,
      (c.self.inside.has_room, tt),
    )
