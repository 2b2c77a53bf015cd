use Rattle.std.proofs.Common.{◌≡◌, [], ◌∷◌, ◌++◌, List, refl, sym, ap, subst, ◌∙◌}
use Rattle.model.specs.declared.group.Put.{Put}
use Rattle.model.specs.declared.group.PlacedChange.{PlacedChange}
use Rattle.model.specs.declared.group.PlacedChange.TheVariants as placed
use Rattle.mv_keyspace.specs.Table.{AreFresh, puts_of}
use Rattle.mv_keyspace.proofs.PartTables.{lawful-from_table}
use Rattle.standby.specs.Moving.{ClaimsPlace}
use Rattle.standby.proofs.MovedLemmas.{alike-given, claimed-some, entry_out, extent_out, fresh-claimed}
use Rattle.standby.proofs.standby.Standby.place_again.Given.{Over}
use Rattle.standby.proofs.standby.Standby.place_again.Goals as goal
use Rattle.standby.proofs.standby.Standby.place_again.Goals.{After-deref}

abbrev the_put : (g : Over) (c : After-deref g) → Put
the_put g c = record { id = c.in_ok-id.id; value = c.in_ok-value.value; entry = c.in-Some-2.entry; extent = c.in-Some-2.extent }

claims : (g : Over) (c : After-deref g) → ClaimsPlace c.args.self.now.heap (the_put g c) c.claim_place.new.heap
claims g c = claimed-some c.args.self.now.heap c.claim_place.new.heap c.in_ok-entry.field-0 c.in-Some-2.entry c.in-Some-2.extent c.in_ok-entry.ensures.claims c.in-Some-2.is (the_put g c) refl refl

changes_are : (g : Over) (c : After-deref g) → c.deref.result.now ≡ placed.Put (the_put g c) ∷ []
changes_are g c =
    c.deref.ensures.value ∙ c.push_reserved.ensures.items ∙ ap (λ (changes : List PlacedChange). changes ++ placed.Put (the_put g c) ∷ []) (c.reserve.ensures.items ∙ c.empty_part-part.ensures.changes)

pub apply-requires-clause-lawful : goal.apply-requires-clause-lawful
apply-requires-clause-lawful g c = lawful-from_table c.requires.beside.versions (g.K.Keyspace.table c.args.self.now.keyspace) c.requires.beside.table_is

pub apply-requires-clause-fresh : goal.apply-requires-clause-fresh
apply-requires-clause-fresh g c =
    let prefix = (goal.at.apply-requires-clause-fresh g c).After-deref in
    subst (λ (changes : List PlacedChange). AreFresh (g.K.Keyspace.table c.args.self.now.keyspace) (puts_of changes)) (sym (changes_are g prefix))
    (fresh-claimed c.requires.beside.versions (g.K.Keyspace.table c.args.self.now.keyspace) c.args.self.now.heap (the_put g prefix) c.claim_place.new.heap c.requires.beside.table_is
    c.requires.beside.empty (claims g prefix))

pub give-requires : goal.give-requires
give-requires g c =
    let prefix = (goal.at.give-requires g c).After-deref in
    extent_out c.args.self.now.heap (the_put g prefix) c.claim_place.new.heap (claims g prefix)

pub give_entry-requires : goal.give_entry-requires
give_entry-requires g c =
    let prefix = (goal.at.give_entry-requires g c).After-deref in
    entry_out c.args.self.now.heap (the_put g prefix) c.claim_place.new.heap (claims g prefix) c.give.new.self c.give.ensures.after

pub returns-in-Err-clause-heap : goal.returns-in-Err-clause-heap
returns-in-Err-clause-heap g c =
    let prefix = (goal.at.returns-in-Err-clause-heap g c).After-deref in
    alike-given c.args.self.now.heap (the_put g prefix) c.claim_place.new.heap (claims g prefix) c.give.new.self c.give.ensures.after c.give_entry.new.self c.give_entry.ensures.after
