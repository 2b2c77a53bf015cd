use Rattle.std.proofs.Common.{Ok, ap, ◌∙◌}
use Rattle.links.specs.Serving.{ends_by}
use Rattle.links.proofs.GatheredParts.{same_ok}
use Rattle.links.proofs.copying.take.Goals as goal

pub returns-in-Ok-clause-part : goal.returns-in-Ok-clause-part
returns-in-Ok-clause-part g c = λ is. c.in-Ok.ensures.part (ap Ok (same_ok is))

pub returns-in-Err-clause-awaits : goal.returns-in-Err-clause-awaits
returns-in-Err-clause-awaits g c = λ goes_on. c.in-Err.ensures.awaits (λ is. goes_on (c.ends_by.ensures ∙ ap ends_by is))
