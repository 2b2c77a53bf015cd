use Rattle.std.proofs.Common.{◌≡◌, ◌∙◌, sym, Some, None}
use Rattle.multi_watch.specs.Sessions.{Moves}
use Rattle.redis_core.specs.Seats.{number_at, by_seat}
use Rattle.redis_core.proofs.SeatsLemmas.{closed_seat, closed_seats, read_number, moves_as}
use Rattle.redis_core.proofs.seats.Seats.close.Goals as goal

pub invariant_of-self : goal.invariant_of-self
invariant_of-self c =
    let numbers = c.self.inside.numbers.items in
    let seat = c.number.result in
    let at : number_at numbers seat ≡ Some c.in-Some.number = read_number c.self.inside.sessions numbers c.self.invariant seat c.number.ensures.bound _ c.index_mut.ensures.value ∙ sym c.take.ensures.value ∙ c.in-Some.is in
    closed_seats c.self.inside.sessions numbers c.self.invariant seat c.close.new.self c.in-Some.number at c.close.ensures c.take.new.self c.take.ensures.after c.number.ensures.bound

pub returns-in-Some : goal.returns-in-Some
returns-in-Some c =
    let numbers = c.self.inside.numbers.items in
    let seat = c.number.result in
    let at : number_at numbers seat ≡ Some c.in-Some.number = read_number c.self.inside.sessions numbers c.self.invariant seat c.number.ensures.bound _ c.index_mut.ensures.value ∙ sym c.take.ensures.value ∙ c.in-Some.is in
    let moves : Moves (by_seat c.self.inside.sessions numbers) seat None _ = closed_seat c.self.inside.sessions numbers c.self.invariant seat c.close.new.self c.in-Some.number at c.close.ensures c.take.new.self c.take.ensures.after c.number.ensures.bound in
    moves_as c.self.view_is c.number.ensures.value moves
