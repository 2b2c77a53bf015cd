use Rattle.std.proofs.Common.{◌≡◌, Option, Some, Result, Ok, ap, ◌∙◌}
use Rattle.kv_types.specs.declared.refusal.Refusal.TheVariants.{Fault}
use Rattle.links.specs.declared.left.Left.{Left}
use Rattle.links.specs.declared.left.Left.TheVariants.{Adopts, Stopped}
use Rattle.links.proofs.following.follow.Goals as goal

same : (found : Option Left) (first second : Left) → found ≡ Some first → found ≡ Some second → first ≡ second
same found first second a b = cc

same_left : {E : Type 0} {first second : Left} → ◌≡◌ {A = Result Left E} (Ok first) (Ok second) → first ≡ second
same_left is = cc

pub returns-in-Some-left : goal.returns-in-Some-left
returns-in-Some-left g c = record {
  stands = λ isnt. c.serve_next-later.ensures.stands (λ is. isnt (ap Ok (same _ c.in-Some-left.left (Stopped Fault) c.in-Some-left.is is)));
  adopts = λ number is. (_, c.serve_next-later.ensures.adopts number (c.in-Some-left.is ∙ ap Some (same_left is)));
}
