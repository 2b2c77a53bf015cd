use Rattle.std.proofs.Common.{ℕ, List, subst}
use Rattle.serving.specs.Again.{Lists}
use Rattle.serving.proofs.open_connections.OpenConnections.come_last.Goals as goal

pub returns-clause-listed : goal.returns-clause-listed
returns-clause-listed c s =
    let listed = c.serve_again.ensures.listed s in
    (listed.0, listed.1, subst (λ (xs : List ℕ). Lists c.args.connection.arrival.seat xs c.serve_again.new.self.again listed.0) c.take_out.ensures listed.2)
