use Rattle.std.proofs.Common.{◌≡◌, ◌-◌, ◌++◌, length, take, drop, refl, sym, ap, subst, ◌∙◌, arith}
use Rattle.std.proofs.lemmas.List.{length-drop, take_all}
use Rattle.mv_keyspace.specs.Table.{AreEnded, AreFresh, place_all, puts_of}
use Rattle.mv_keyspace.specs.Versions.{kept}
use Rattle.placing.specs.Left.{IsBeside}
use Rattle.placing.proofs.BesideLemmas.{beside_lawful, beside_fresh, beside_after}
use Rattle.placing.proofs.PlacesLemmas.{added}
use Rattle.placing.proofs.performing.perform.Given.{Over}
use Rattle.placing.proofs.performing.perform.Goals as goal
use Rattle.placing.proofs.performing.perform.Goals.{After-deref}

pub apply-requires-clause-lawful : goal.apply-requires-clause-lawful
apply-requires-clause-lawful g c = beside_lawful (g.K.Keyspace.table c.args.keyspace.now) c.args.heap.now c.requires

-- the changes that the keyspace is given are those that were added
given : (g : Over) (c : After-deref g) → take (length c.deref.result.now - c.len-from.result) (drop c.len-from.result c.deref.result.now) ≡ c.in_ok-place_all.ensures.ok.placed
given g c =
    take_all (length c.deref.result.now - c.len-from.result) (drop c.len-from.result c.deref.result.now) (omega (arith, length-drop c.len-from.result c.deref.result.now))
    ∙ ap (drop c.len-from.result) c.deref.ensures.value
    ∙ added c.args.heap.now c.args.part.now.changes.items c.args.changes.items c.place_all.new.placed.items c.place_all.new.heap c.in_ok-place_all.ensures.ok c.len-from.result
    (omega (arith, c.len-from.ensures, c.args.part.now.changes.ok.0))

pub apply-requires-clause-fresh : goal.apply-requires-clause-fresh
apply-requires-clause-fresh g c =
    let table = g.K.Keyspace.table c.args.keyspace.now in
    let places = c.in_ok-place_all.ensures.ok in
    subst (λ changes. AreFresh table (puts_of changes)) (sym (given g (goal.at.apply-requires-clause-fresh g c).After-deref))
    (beside_fresh table c.args.heap.now c.requires places.placed c.place_all.new.heap places.places)

pub returns-in-Ok-clause-ok : goal.returns-in-Ok-clause-ok
returns-in-Ok-clause-ok g c =
    let table = g.K.Keyspace.table c.args.keyspace.now in
    let same = given g (goal.at.returns-in-Ok-clause-ok g c).After-deref in
    let names = c.in-Ok.ensures.ended in
    record {
      position = refl;
      places = c.in_ok-place_all.ensures.ok;
      table_is = c.in-Ok.ensures.table ∙ ap (place_all c.args.part.now.position table) same;
      more = names.0;
      ended_are = names.1;
      ended = subst (λ changes. AreEnded c.args.part.now.position table changes names.0) same names.2;
    }

pub returns-in-Ok-clause-beside : goal.returns-in-Ok-clause-beside
returns-in-Ok-clause-beside g c =
    let table = g.K.Keyspace.table c.args.keyspace.now in
    let same = given g (goal.at.returns-in-Ok-clause-beside g c).After-deref in
    let places = c.in_ok-place_all.ensures.ok in
    subst (λ after. IsBeside after c.place_all.new.heap) (sym (c.in-Ok.ensures.table ∙ ap (place_all c.args.part.now.position table) same))
    (beside_after table c.args.heap.now c.requires places.placed c.place_all.new.heap places.places c.args.part.now.position)

pub returns-in-Ok-clause-past : goal.returns-in-Ok-clause-past
returns-in-Ok-clause-past g c =
    let keyspace = c.args.keyspace.now in
    let past = g.K.Keyspace.past keyspace in
    let same = given g (goal.at.returns-in-Ok-clause-past g c).After-deref in
    let places = c.in_ok-place_all.ensures.ok in (
      places.placed,
      places.after_is,
      c.in-Ok.ensures.past ∙ ap (λ changes. past ++ kept (g.K.Keyspace.pins keyspace) c.args.part.now.position changes (g.K.Keyspace.table keyspace)) same,
    )
