-- Each event keeps what holds of the pair of nodes.
pub use Rattle.machine.proofs.SoundNodes.{applies-well}
pub use Rattle.machine.proofs.SoundCrashes.{sound-promoted}
use Rattle.std.proofs.Common.{Bool, true, false, refl, sym, subst}
use Rattle.machine.specs.declared.event.Event.{Event}
use Rattle.machine.specs.Event.{World, Step}
use Rattle.machine.specs.Sound.{Sound}
use Rattle.machine.proofs.EventLaws.{owed-step}

pub sound-step : (old : World) (event : Event) (did : Bool) (new : World) → Step old event did new → Sound old → Sound new
sound-step old event true new step s = (owed-step old event new step).sound s
sound-step old event false new step s = subst Sound (sym (step.stands refl)) s
