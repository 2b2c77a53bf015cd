use Rattle.std.proofs.Common.{◌≡◌, ◌∙◌, sym, Some, None}
use Rattle.redis_core.specs.Seats.{number_at}
use Rattle.redis_core.proofs.SeatsLemmas.{opened_seat, opened_seats, reopened_seat, reopened_seats, moves_as, read_number}
use Rattle.redis_core.proofs.seats.Seats.open.Goals as goal

pub invariant_of-self-in-Some : goal.invariant_of-self-in-Some
invariant_of-self-in-Some c =
    let old = c.self.inside.sessions in
    let numbers = c.self.inside.numbers.items in
    let seat = c.number.result in
    let at : number_at numbers seat ≡ Some c.in-Some.before = read_number old numbers c.self.invariant seat c.number.ensures.bound _ c.index_mut.ensures.value ∙ sym c.replace-before.ensures.value ∙ c.in-Some.is in
    reopened_seats old numbers c.self.invariant seat c.open.new.self c.in_ok-number.number c.in_ok-number.ensures.fresh c.in_ok-number.ensures.opened c.replace-before.new.dest c.replace-before.ensures.after c.number.ensures.bound
    c.close.new.self c.in-Some.before at c.close.ensures

pub invariant_of-self-in_default : goal.invariant_of-self-in_default
invariant_of-self-in_default c =
    let old = c.self.inside.sessions in
    let numbers = c.self.inside.numbers.items in
    let seat = c.number.result in
    let at : number_at numbers seat ≡ None = read_number old numbers c.self.invariant seat c.number.ensures.bound _ c.index_mut.ensures.value ∙ sym c.replace-before.ensures.value ∙ c.in_default.is in
    opened_seats old numbers c.self.invariant seat c.open.new.self c.in_ok-number.number c.in_ok-number.ensures.fresh c.in_ok-number.ensures.opened c.replace-before.new.dest
    c.replace-before.ensures.after c.number.ensures.bound at

pub returns-in-Some-clause-ok : goal.returns-in-Some-clause-ok
returns-in-Some-clause-ok c =
    let old = c.self.inside.sessions in
    let numbers = c.self.inside.numbers.items in
    let seat = c.number.result in
    let at : number_at numbers seat ≡ Some c.in-Some.before = read_number old numbers c.self.invariant seat c.number.ensures.bound _ c.index_mut.ensures.value ∙ sym c.replace-before.ensures.value ∙ c.in-Some.is in
    moves_as c.self.view_is c.number.ensures.value
    (reopened_seat old numbers c.self.invariant seat c.open.new.self c.in_ok-number.number c.in_ok-number.ensures.fresh c.in_ok-number.ensures.opened c.replace-before.new.dest c.replace-before.ensures.after c.number.ensures.bound
    c.close.new.self c.in-Some.before at c.close.ensures)

pub returns-in_default-clause-ok : goal.returns-in_default-clause-ok
returns-in_default-clause-ok c =
    let old = c.self.inside.sessions in
    let numbers = c.self.inside.numbers.items in
    let seat = c.number.result in
    let at : number_at numbers seat ≡ None = read_number old numbers c.self.invariant seat c.number.ensures.bound _ c.index_mut.ensures.value ∙ sym c.replace-before.ensures.value ∙ c.in_default.is in
    moves_as c.self.view_is c.number.ensures.value
    (opened_seat old numbers c.self.invariant seat c.open.new.self c.in_ok-number.number c.in_ok-number.ensures.fresh c.in_ok-number.ensures.opened c.replace-before.new.dest
    c.replace-before.ensures.after c.number.ensures.bound at)
