use Rattle.serving.proofs.NeedLemmas.{enough-behind}
use Rattle.serving.proofs.needs.Need.and.Goals as goal

pub returns-clause-enough : goal.returns-clause-enough
returns-clause-enough c = λ changes more countable first second. rw (c.saturating_add.ensures, c.max.ensures) (enough-behind c.args.self c.args.other changes more countable first second)
