use Rattle.std.proofs.Common.{◌≡◌, ◌++◌, List, rules, sym, ap, subst, ◌∙◌}
use Rattle.std.proofs.lemmas.Bool.{true≢false}
use Rattle.std.proofs.lemmas.List.Elements.{same_from_all_zip}
use Rattle.model.specs.declared.group.PlacedChange.{PlacedChange}
use Rattle.mv_keyspace.specs.Table.{puts_of}
use Rattle.placing.specs.Below.{are_below}
use Rattle.placing.specs.Place.{HasRoomFor}
use Rattle.placing.proofs.BelowLemmas.{below_same, HasRoomBelow-fits}
use Rattle.placing.proofs.below.has_room_below_for.Goals as goal

pub returns-in-Ok-clause-room : goal.returns-in-Ok-clause-room
returns-in-Ok-clause-room c =
    let after = c.in-Ok.ensures.ok in
    let copied : c.in_ok-copy.copy.items ≡ c.args.changes.now.items = same_from_all_zip _ c.args.changes.now.items c.in_ok-copy.copy.items c.in_ok-copy.ensures.cases.0 (λ x y is. is) in
    let here : c.deref.result.now ≡ after.placed = c.deref.ensures.value ∙ after.after_is ∙ ap (λ (before : List PlacedChange). before ++ after.placed) c.new-placed.ensures.items in
    let told : c.are_below-below.result ≡ are_below c.args.end (puts_of after.placed) = c.are_below-below.ensures ∙ ap (λ (placed : List PlacedChange). are_below c.args.end (puts_of placed)) here in (
      λ below. record { placed = after.placed; left = c.place_all.new.heap; these = after.changes_are ∙ copied; places = after.places; below = sym told ∙ below },
      λ has. told ∙ below_same c.args.end c.args.heap.now after.placed has.placed c.place_all.new.heap has.left (after.changes_are ∙ copied ∙ sym has.these) after.places has.places ∙ has.below,
    )

pub returns-in-Err-Full-clause-room : goal.returns-in-Err-Full-clause-room
returns-in-Err-Full-clause-room c =
    let copied : c.in_ok-copy.copy.items ≡ c.args.changes.now.items = same_from_all_zip _ c.args.changes.now.items c.in_ok-copy.copy.items c.in_ok-copy.ensures.cases.0 (λ x y is. is) in
    (λ is. absurd (true≢false (sym is)), λ has. absurd (c.in-Err-Full.ensures.full_only (search rules) (subst (HasRoomFor c.args.heap.now) (sym copied) (HasRoomBelow-fits c.args.heap.now c.args.changes.now.items c.args.end has))))
