use Rattle.std.proofs.Common.{ℕ, subst, sym}
use Rattle.cmd_table.specs.Request.{outcome_of_words}
use Rattle.serving.specs.Need.{IsEnough}
use Rattle.serving.proofs.NeedLemmas.{is_enough}
use Rattle.serving.proofs.needs.need_of.Goals as goal

pub returns-clause-enough : goal.returns-clause-enough
returns-clause-enough c =
    λ s. subst (λ (lines : ℕ). IsEnough (record { count = c.most_puts-most.result.count; lines = lines }) (outcome_of_words s c.args.request.now).changes)
    (sym c.lines_of_bytes.ensures) (is_enough c.most_puts-most.result (outcome_of_words s c.args.request.now).changes (c.most_puts-most.ensures.enough s))
