use Rattle.std.proofs.Common.{◌≡◌, Err, IsErrOf, refl, subst, ◌∙◌}
use Rattle.kv_types.specs.declared.refusal.Refusal.{Refusal}
use Rattle.kv_types.specs.declared.refusal.Refusal.TheVariants.{Full}
use Rattle.model.specs.declared.group.Put.{Put}
use Rattle.placing.proofs.PlacesLemmas.{no_places}
use Rattle.placing.proofs.places.place.Goals as goal

pub returns-in-Err-clause-full_only : goal.returns-in-Err-clause-full_only
returns-in-Err-clause-full_only c = λ full placed left same.
    let same_cause : c.in-Err.refusal ≡ Full = cc full in
    no_places c.args.heap.now c.in-Put.id c.in-Put.value (c.in-Err.ensures.full_only (subst (λ (x : Refusal). IsErrOf {T = Put} {E = Refusal} (Err c.in-Err.refusal) x) same_cause refl)) placed left (same ∙ c.in-Put.is)
