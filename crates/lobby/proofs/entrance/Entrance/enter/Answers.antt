use Rattle.std.proofs.Common.{refl, ap}
use Rattle.lobby.proofs.AttendanceLemmas.{enter-waits, enter-err}
use Rattle.lobby.proofs.entrance.Entrance.enter.Goals as goal

pub invariant_of-self-inside : goal.invariant_of-self-inside
invariant_of-self-inside g c = (
  enter-waits c.self.inside.lobby c.self.inside.arrivals.items c.self.inside.each_once _ _ c.enter.ensures.moves c.enter.ensures.err,
  (c.self.inside.has_room, tt),
)

pub returns-clause-err : goal.returns-clause-err
returns-clause-err g c =
    enter-err _ _ _ _ _ c.enter.ensures.err (ap (λ a. a.book) c.self.view_is) refl (ap (λ a. a.arrivals) c.self.view_is)
