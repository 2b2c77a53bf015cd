use Rattle.images.specs.declared.pair.TheConstants.{PAIR_WORD}
use Rattle.images.proofs.PairSteps.{settled_after}
use Rattle.images.proofs.pair.into_pair.Goals as goal

pub returns-clause-settled : goal.returns-clause-settled
returns-clause-settled g c =
    settled_after c.requires.settled c.in_ok-adopt_pair.ensures.elsewhere (c.in_ok-adopt_pair.ensures.certain (c.requires.settled PAIR_WORD))
