use Rattle.std.proofs.Common.{[], refl}
use Rattle.standby_stream.specs.Delta.{delta_changes}
use Rattle.standby_stream.specs.Leading.{ending_above}
use Rattle.standby_stream.proofs.LeadLemmas.{leads_on}
use Rattle.standby_stream.proofs.laws.aside_leads_on.Goals as goal

pub returns-clause-behind : goal.returns-clause-behind
returns-clause-behind c = λ past epoch from opening aside whole. leads_on past epoch from opening.position (delta_changes opening from) (ending_above from aside) whole

pub returns-clause-level : goal.returns-clause-level
returns-clause-level c = λ past epoch from aside whole. leads_on past epoch from from [] (ending_above from aside) whole refl
