use Rattle.std.proofs.Common.{IsErrOf, ap}
use Rattle.kv_types.specs.declared.refusal.Refusal.TheVariants.{Fault}
use Rattle.links.proofs.following.tidy.Goals as goal

pub returns-clause-stands : goal.returns-clause-stands
returns-clause-stands g c = λ goes_on.
    let no_fault : ¬ IsErrOf c.tidy.result Fault = λ is. goes_on (c.only_fault.ensures.fault.1 is) in
    record { follows = c.tidy.ensures.still no_fault; sound = (c.tidy.ensures.sound no_fault).0; durable = c.tidy.ensures.durable no_fault }

pub returns-clause-tidied : goal.returns-clause-tidied
returns-clause-tidied g c = record { rearranged = c.tidy.ensures.rearranged; table_is = ap g.K.Keyspace.table c.tidy.ensures.keyspace }
