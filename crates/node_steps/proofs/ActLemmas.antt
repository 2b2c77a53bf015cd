-- What has something to do in a world whose primary runs is a step of the machine there.
use Rattle.std.proofs.Common.{◌≡◌, true, sym, ap, ◌∙◌, true≢false}
use Rattle.std.proofs.lemmas.Bool.{and_from}
use Rattle.machine.specs.declared.event.Event.{Event}
use Rattle.machine.specs.Event.{Happens, Running, Step, World, is_running, may_happen, nodes_run}

pub primary-steps : (event : Event) (w w' : World) → nodes_run w event ≡ is_running w.primary.life → w.primary.life ≡ Running → may_happen w event ≡ true → Happens w event w' → Step w event true w'
primary-steps event w w' own running may happens =
    record {
      done = sym (and_from (nodes_run w event) (may_happen w event) (own ∙ ap is_running running) may);
      happens = λ did. happens;
      stands = λ did. absurd (true≢false did);
    }
