use Rattle.std.proofs.Common.{◌≡◌, ◌∙◌, Some}
use Rattle.std.proofs.lemmas.Result.{IfOk-weaker, on_err_weaker}
use Rattle.multi_watch.specs.Session.{Session}
use Rattle.multi_watch.specs.Admission.{Step, step, session_after_refusal}
use Rattle.redis_core.specs.Seats.{number_at}
use Rattle.redis_core.proofs.SeatsLemmas.{moved_from, steps_from, moves_from, steps_as, read_number}
use Rattle.redis_core.proofs.seats.Seats.call.Goals as goal

pub returns-clause-ok : goal.returns-clause-ok
returns-clause-ok c =
    let old = c.self.inside.sessions in
    let numbers = c.self.inside.numbers.items in
    let seat = c.number.result in
    let number = c.in-Some.number in
    let at : number_at numbers seat ≡ Some number = read_number old numbers c.self.invariant seat c.number.ensures.bound _ c.index.ensures ∙ c.in-Some.is in
    let taken : Session → Step = λ session. step session c.args.request in
    IfOk-weaker c.call.result _ _ (λ act steps. steps_as taken act c.self.view_is c.number.ensures.value (steps_from old numbers c.self.invariant seat c.call.new.self number at taken act steps)) c.call.ensures.ok

pub returns-clause-err : goal.returns-clause-err
returns-clause-err c =
    let old = c.self.inside.sessions in
    let numbers = c.self.inside.numbers.items in
    let seat = c.number.result in
    let number = c.in-Some.number in
    let at : number_at numbers seat ≡ Some number = read_number old numbers c.self.invariant seat c.number.ensures.bound _ c.index.ensures ∙ c.in-Some.is in
    let after : Session → Session = λ session. session_after_refusal session c.args.request in
    on_err_weaker c.call.result (λ moves. moves_from after c.self.view_is c.number.ensures.value (moved_from old numbers c.self.invariant seat c.call.new.self number at after moves)) c.call.ensures.err
