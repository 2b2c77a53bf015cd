use Rattle.std.proofs.Common.{subst, sym}
use Rattle.cmd_core.specs.declared.puts.PutBound.{PutBound}
use Rattle.cmd_core.specs.Puts.{PutsWithin}
use Rattle.cmd_table.specs.Request.{outcome_of_words}
use Rattle.cmd_table.proofs.PutsLemmas.{request-within}
use Rattle.cmd_table.proofs.puts.most_puts.Goals as goal

pub returns-clause-enough : goal.returns-clause-enough
returns-clause-enough c =
    λ s. subst (λ (bound : PutBound). PutsWithin bound (outcome_of_words s c.args.request.now).changes) (sym cc) (request-within s c.args.request.now)
