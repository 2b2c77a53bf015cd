use Rattle.kv_types.specs.declared.refusal.Refusal.TheVariants.{Fault}
use Rattle.links.proofs.GatheredParts.{IfErr-of, IfSome-into, IsGathered-stopped}
use Rattle.links.proofs.copied.copy_next.Goals as goal

pub returns-in-Err-came-clause-awaits : goal.returns-in-Err-came-clause-awaits
returns-in-Err-came-clause-awaits g c = λ none.
    IfErr-of _ c.in-Ok.met.came c.in-Err-came.end c.in-Err-came.is c.in-Ok.ensures.awaits (c.stopped_by.ensures.none none Fault)

pub returns-in-Err-came-clause-found : goal.returns-in-Err-came-clause-found
returns-in-Err-came-clause-found g c =
    let cause = IfErr-of _ c.in-Ok.met.came c.in-Err-came.end c.in-Err-came.is c.in-Ok.ensures.cause in
    IfSome-into _ _ c.stopped_by.result (λ found is. IsGathered-stopped c.args.own.now found c.in-Err-came.end _ cause is) c.stopped_by.ensures.some
