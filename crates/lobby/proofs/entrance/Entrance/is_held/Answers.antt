use Rattle.std.proofs.Common.{not, IsTrue, subst}
use Rattle.lobby.specs.Attendance.{IsHeld}
use Rattle.lobby.proofs.AttendanceLemmas.{held-iff}
use Rattle.lobby.proofs.entrance.Entrance.is_held.Goals as goal

pub returns-then-is_taken : goal.returns-then-is_taken
returns-then-is_taken g c =
    subst (λ a. (IsTrue (not c.is_waiting.result) → IsHeld a c.args.seat.now) × (IsHeld a c.args.seat.now → IsTrue (not c.is_waiting.result))) c.self.view_is
    (held-iff (record { book = c.self.inside.lobby; arrivals = c.self.inside.arrivals.items; each_once = c.self.inside.each_once }) _ _ _ c.is_waiting.ensures c.number.ensures.value (c.is_taken.ensures.0 c.if-is_taken.true))
