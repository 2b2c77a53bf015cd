use Rattle.serving.proofs.RoundActs.{rounds-are}
use Rattle.serving.proofs.laws.rounds_are_acts.Goals as goal

pub returns : goal.returns
returns g c =
    let E = g.E.Durable in
    rounds-are E.device E.contents E.is_faulted
