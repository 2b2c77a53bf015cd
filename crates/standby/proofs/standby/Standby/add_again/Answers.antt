use Rattle.std.proofs.Common.{ap, ◌∙◌, ◌++◌, ◌∷◌, [], List}
use Rattle.kv_types.specs.declared.place.EntryNo.{EntryNo}
use Rattle.model.specs.declared.group.Part.{Part}
use Rattle.standby.specs.Moving.{IsMadeAgain}
use Rattle.standby.proofs.MadeAgain.{ended_few}
use Rattle.standby.proofs.MovingLemmas.{of_some}
use Rattle.standby.proofs.standby.Standby.add_again.Goals as goal

pub add-requires-clause-one : goal.add-requires-clause-one
add-requires-clause-one g c =
    let again = of_some (λ (part : Part). IsMadeAgain (g.K.Keyspace.table c.args.self.now.keyspace) c.args.self.now.heap c.args.id.now part (g.K.Keyspace.table c.place_again.new.self.keyspace) c.place_again.new.self.heap) c.in_ok-part.field-0 c.in-Some.part c.in_ok-part.ensures.placed c.in-Some.is in
    ended_few (g.K.Keyspace.table c.args.self.now.keyspace) c.args.self.now.heap c.args.id.now c.in-Some.part (g.K.Keyspace.table c.place_again.new.self.keyspace) c.place_again.new.self.heap again c.requires.beside

pub returns-clause-added : goal.returns-clause-added
returns-clause-added g c = λ _.
    record {
      part = c.in-Some.part;
      made = of_some (λ (part : Part). IsMadeAgain (g.K.Keyspace.table c.args.self.now.keyspace) c.args.self.now.heap c.args.id.now part (g.K.Keyspace.table c.place_again.new.self.keyspace) c.place_again.new.self.heap) c.in_ok-part.field-0 c.in-Some.part c.in_ok-part.ensures.placed c.in-Some.is;
      parts_are = c.add.ensures.parts ∙ ap (λ (parts : List Part). parts ++ c.in-Some.part ∷ []) c.in_ok-reserve.ensures.items;
      ended_are = c.add.ensures.ended ∙ ap (λ (entries : List EntryNo). entries ++ c.in-Some.part.ended.items) c.in_ok-reserve-2.ensures.items;
    }
