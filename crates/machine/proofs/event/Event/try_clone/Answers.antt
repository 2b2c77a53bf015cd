use Rattle.std.proofs.Common.{refl, subst, sym}
use Rattle.std.proofs.lemmas.List.Elements.{same_from_all_zip}
use Rattle.machine.specs.Copy.{IsCopy}
use Rattle.machine.specs.declared.event.Event.{Event}
use Rattle.machine.specs.declared.event.Event.TheVariants.{Crash}
use Rattle.machine.proofs.event.Event.try_clone.Goals as goal

pub returns-in_ok-clone-in-Crash : goal.returns-in_ok-clone-in-Crash
returns-in_ok-clone-in-Crash c =
    let copied = c.in_ok-clone-in-Crash in
    subst (λ (e : Event). IsCopy e (Crash c.in-Crash.node c.in-Crash.cut c.in-Crash.after copied.field-0)) (sym c.in-Crash.is)
    (copied.field-0, refl, same_from_all_zip _ c.in-Crash.picks.items copied.field-0.items copied.ensures.cases.0 (λ x y is. is))
