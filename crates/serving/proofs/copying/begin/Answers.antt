use Rattle.std.proofs.Common.{inr, rules}
use Rattle.std.proofs.lemmas.Bool.{both_ways}
use Rattle.serving.proofs.PinLemmas.{at-refusal, none-waits}
use Rattle.serving.proofs.copying.begin.Goals as goal

pub begin_copy-requires : goal.begin_copy-requires
begin_copy-requires g c =
    record { none = none-waits c.args.front.now.sequencer.waiting (λ others. both_ways c.has_open.result c.if-has_open.false (c.has_open.ensures.1 others)) }

pub returns-in_err-position-clause-err : goal.returns-in_err-position-clause-err
returns-in_err-position-clause-err g c =
    let none = none-waits c.args.front.now.sequencer.waiting (λ others. both_ways c.has_open.result c.if-has_open.false (c.has_open.ensures.1 others)) in
    at-refusal _ c.from_residual.result ((search rules, none), search rules)

pub returns-clause-ok : goal.returns-clause-ok
returns-clause-ok g c =
    let none = none-waits c.args.front.now.sequencer.waiting (λ others. both_ways c.has_open.result c.if-has_open.false (c.has_open.ensures.1 others)) in
    inr (search rules, none, c.in_ok-position.ensures.ok, c.in_ok-position.ensures.begins)
