use Rattle.std.proofs.Common.{◌≡◌, ◌<◌, ◌≤◌, List, [], ◌∷◌, ◌++◌, length, Ok, true, refl, sym, ap, subst, subst₂, ◌∙◌, arith, length-append}
use Rattle.kv_types.specs.declared.place.EntryNo.{EntryNo}
use Rattle.model.specs.declared.group.Part.{Part}
use Rattle.standby.specs.Moving.{AreMadeInTurn, ended_of}
use Rattle.standby.proofs.MadeAgain.{AreMadeInTurn-append, beside-again, ended_of-append}
use Rattle.standby.proofs.standby.Standby.gather.Goals as goal

not_none : (parts : List Part) (part : Part) → parts ++ part ∷ [] ≡ [] → ⊥
not_none [] part is = cc
not_none (first ∷ parts) part is = cc

pub loop-step-preserved : goal.loop-step-preserved
loop-step-preserved g c =
    let before = c.loop-step.invariant in
    let told = c.in-Ok-true.ensures in
    let added = told.added (ap Ok c.in-Ok-true.field-0-test) in
    let table = g.K.Keyspace.table c.args.self.now.keyspace in
    let between = g.K.Keyspace.table c.loop-step.self.keyspace in
    let after = g.K.Keyspace.table c.add_again.new.self.keyspace in
    record {
      engine = told.engine ∙ before.engine;
      ended = told.ended ∙ before.ended;
      beside = beside-again between c.loop-step.self.heap c.in-Some.row.now.id added.part after c.add_again.new.self.heap added.made before.beside;
      made =
          subst (λ (parts : List Part). AreMadeInTurn table c.args.self.now.heap parts after c.add_again.new.self.heap) (sym added.parts_are)
          (AreMadeInTurn-append c.loop-step.batch.parts.items table c.args.self.now.heap between c.loop-step.self.heap before.made c.in-Some.row.now.id added.part after c.add_again.new.self.heap added.made);
      named =
          added.ended_are ∙ ap (λ (entries : List EntryNo). entries ++ added.part.ended.items) before.named
          ∙ sym (ended_of-append c.loop-step.batch.parts.items added.part) ∙ ap ended_of (sym added.parts_are);
      few =
          let more = ap length added.parts_are in
          let one = length-append c.loop-step.batch.parts.items (added.part ∷ []) in
          omega (arith, c.if-len-most.false, c.len.ensures, c.loop-step.batch.parts.ok.0, more, one);
      stays = λ none. absurd (not_none c.loop-step.batch.parts.items added.part (sym added.parts_are ∙ none));
    }
