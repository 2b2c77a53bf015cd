use Rattle.std.proofs.Common.{sym, subst, ◌∙◌}
use Rattle.std.proofs.lemmas.Result.{on_ok_weaker}
use Rattle.pmem.specs.Device.{Only}
use Rattle.images.specs.declared.pair.TheConstants.{PAIR_WORD}
use Rattle.images.proofs.PairSteps.{newest_is, none_moments}
use Rattle.images.proofs.pair.adopt_pair.Goals as goal

pub returns-then-own-pair-clause-moments : goal.returns-then-own-pair-clause-moments
returns-then-own-pair-clause-moments g c = none_moments (g.P.Pmem.state c.args.device.now) c.args.pair

pub returns-then-own-pair-clause-certain : goal.returns-then-own-pair-clause-certain
returns-then-own-pair-clause-certain g c =
    λ only. subst (Only ((g.P.Pmem.state c.args.device.now).words PAIR_WORD)) (sym c.pair_of-own.ensures ∙ c.if-own-pair.true) only

pub returns-then-own-ne-NO_PAIR-clause-moments : goal.returns-then-own-ne-NO_PAIR-clause-moments
returns-then-own-ne-NO_PAIR-clause-moments g c = none_moments (g.P.Pmem.state c.args.device.now) c.args.pair

pub returns-clause-adopted : goal.returns-clause-adopted
returns-clause-adopted g c = on_ok_weaker c.write_pair.result (λ only. newest_is only) c.write_pair.ensures.written

pub returns-clause-certain : goal.returns-clause-certain
returns-clause-certain g c = λ _. c.write_pair.ensures.written
