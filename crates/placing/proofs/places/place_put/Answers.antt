use Rattle.std.proofs.Common.{◌≡◌, ◌+◌, length, Err, IsErrOf, refl, sym, ap, subst, ◌∙◌}
use Rattle.kv_types.specs.declared.refusal.Refusal.{Refusal}
use Rattle.kv_types.specs.declared.refusal.Refusal.TheVariants.{Full}
use Rattle.kv_types.specs.declared.place.Extent.{Extent}
use Rattle.model.specs.Image.{lines_of_bytes}
use Rattle.model.specs.Group.{bytes_of_id}
use Rattle.extent_heap.specs.Room.{TakesEntry}
use Rattle.extent_heap.proofs.Rooms.{out_entry_again}
use Rattle.placing.proofs.PlacesLemmas.{no_place}
use Rattle.placing.proofs.places.place_put.Goals as goal

pub returns-in-Err-clause-full_only : goal.returns-in-Err-clause-full_only
returns-in-Err-clause-full_only c = λ full put left id value.
    let same_cause : c.in-Err.refusal ≡ Full = cc full in
    let bytes : bytes_of_id c.args.id + length c.args.value ≡ bytes_of_id put.id + length put.value = cc in
    no_place c.args.heap.now c.in_ok-entry.entry c.take_entry.new.self c.lines_for.result c.in_ok-entry.ensures.ok (c.in-Err.ensures.full_only (subst (λ (x : Refusal). IsErrOf {T = Extent} {E = Refusal} (Err c.in-Err.refusal) x) same_cause refl)) put left (c.lines_for.ensures ∙ ap lines_of_bytes bytes)

pub give_entry-requires : goal.give_entry-requires
give_entry-requires c =
    out_entry_again c.args.heap.now c.in_ok-entry.entry c.take.new.self (subst (TakesEntry c.args.heap.now c.in_ok-entry.entry) (sym c.in-Err.ensures.err) c.in_ok-entry.ensures.ok)
