use Rattle.links.proofs.GatheredParts.{IsGathered-copy}
use Rattle.links.proofs.copied.take_copy.Goals as goal

pub returns-in-Copy-clause-adopts : goal.returns-in-Copy-clause-adopts
returns-in-Copy-clause-adopts g c = λ number is.
    IsGathered-copy c.args.own.now _ c.in-Copy.link _ c.in-Copy.is c.in_ok-refusal.ensures number (c.serve_behind-left.ensures.adopts number is)
