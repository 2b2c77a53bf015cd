use Rattle.standby_stream.proofs.DeltaLemmas.{delta_leads_on}
use Rattle.standby_stream.proofs.FitLemmas.{deltas_fit}
use Rattle.standby_stream.proofs.laws.deltas_lead_on.Goals as goal

pub returns-clause-leads : goal.returns-clause-leads
returns-clause-leads c = λ contents opening. delta_leads_on contents opening (λ i. Unit {0})

pub returns-clause-fits : goal.returns-clause-fits
returns-clause-fits c = deltas_fit
