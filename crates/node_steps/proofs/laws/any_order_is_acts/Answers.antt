use Rattle.node_steps.proofs.OrderLemmas.{any-order, turns-back}
use Rattle.node_steps.proofs.laws.any_order_is_acts.Goals as goal

pub returns-clause-order : goal.returns-clause-order
returns-clause-order g c = any-order

pub returns-clause-backs : goal.returns-clause-backs
returns-clause-backs g c =
    let E = g.E.Durable in
    let O = g.O.Outlet in
    turns-back E.device E.contents E.is_faulted O.offered O.known_room
