use Rattle.std.proofs.Common.{sym, subst, arith}
use Rattle.lobby.specs.Attendance.{IsHeld}
use Rattle.lobby.proofs.AttendanceLemmas.{arrive-fits, arrive-waits}
use Rattle.lobby.proofs.entrance.Entrance.arrive.Goals as goal

pub push_back_reserved-requires : goal.push_back_reserved-requires
push_back_reserved-requires g c =
    let held = subst (λ a. IsHeld a c.args.arrival.seat) (sym c.self.view_is) (c.is_held.ensures.0 search) in
    omega (arith, arrive-fits c.self.inside.lobby c.self.inside.arrivals.items c.self.inside.each_once c.args.arrival held, c.self.inside.has_room)

pub invariant_of-self-inside : goal.invariant_of-self-inside
invariant_of-self-inside g c =
    let held = subst (λ a. IsHeld a c.args.arrival.seat) (sym c.self.view_is) (c.is_held.ensures.0 search) in (
      arrive-waits c.self.inside.lobby c.self.inside.arrivals.items c.self.inside.each_once c.args.arrival held c.push_back_reserved.new.self.items c.push_back_reserved.ensures.items,
      (omega (arith, c.push_back_reserved.ensures.capacity, c.self.inside.has_room), tt),
    )
