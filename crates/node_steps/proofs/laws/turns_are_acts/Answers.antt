use Rattle.node_steps.proofs.CommitterTurns.{turns-come, turns-refused}
use Rattle.node_steps.proofs.laws.turns_are_acts.Goals as goal

pub returns-clause-came : goal.returns-clause-came
returns-clause-came g c = λ seats s notices room remote old before link came new after link' took.
    let E = g.E.Durable in
    let O = g.O.Outlet in
    turns-come E.device E.contents E.is_faulted O.offered O.known_room seats s notices old new before after link link' room remote came took

pub returns-clause-refused : goal.returns-clause-refused
returns-clause-refused g c = λ seats s notices room remote old before link new after link' took aside.
    let E = g.E.Durable in
    let O = g.O.Outlet in
    turns-refused E.device E.contents E.is_faulted O.offered O.known_room seats s notices old new before after link link' room remote took aside
