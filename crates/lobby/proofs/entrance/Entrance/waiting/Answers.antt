use Rattle.std.proofs.Common.{refl, ap, arith}
use Rattle.lobby.proofs.AttendanceLemmas.{waiting-waits, waiting-held, waiting-oldest}
use Rattle.lobby.proofs.entrance.Entrance.waiting.Goals as goal

pub invariant_of-self-inside : goal.invariant_of-self-inside
invariant_of-self-inside g c = (
  waiting-waits c.self.inside.lobby c.self.inside.arrivals.items c.self.inside.each_once c.pop_front.result c.pop_front.new.self.items c.pop_front.ensures.items,
  (omega (arith, c.pop_front.ensures.capacity, c.self.inside.has_room), tt),
)

pub returns-clause-oldest : goal.returns-clause-oldest
returns-clause-oldest g c =
    waiting-oldest _ _ _ _ _ c.pop_front.ensures.items c.pop_front.ensures.rest (ap (λ a. a.arrivals) c.self.view_is) refl (ap (λ a. a.book) c.self.view_is)

pub returns-clause-held : goal.returns-clause-held
returns-clause-held g c =
    waiting-held c.self.inside.lobby c.self.inside.arrivals.items c.self.inside.each_once c.pop_front.result c.pop_front.new.self.items c.pop_front.ensures.items
