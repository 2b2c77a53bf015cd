-- Changes that are added to a part are changes of one part with those that it had.
use Rattle.std.proofs.Common.{◌≡◌, ℕ, List, [], ◌++◌, map, refl, sym, ap, subst, subst₂, ◌∙◌}
use Rattle.std.proofs.lemmas.List.{map-append}
use Rattle.kv_types.specs.declared.change.Change.{Change}
use Rattle.kv_types.specs.declared.place.EntryNo.{EntryNo}
use Rattle.model.specs.declared.group.Part.{Part}
use Rattle.model.specs.declared.group.PlacedChange.{PlacedChange}
use Rattle.model.specs.Group.{change_of, changes_of_part}
use Rattle.extent_heap.specs.Room.{Room}
use Rattle.mv_keyspace.specs.Table.{Table, place_all, puts_of, AreEnded, AreNumbersEnded}
use Rattle.mv_keyspace.proofs.EndedLemmas.{none-ended}
use Rattle.mv_keyspace.proofs.AppendedLemmas.{ended-append, place_all-append, puts_of-append}
use Rattle.placing.specs.Left.{IsBeside}
use Rattle.placing.specs.Place.{TakesPlaces}
use Rattle.placing.specs.Performs.{Performs, AddsTo}
use Rattle.placing.proofs.BesideLemmas.{beside_lawful, beside_fresh}
use Rattle.placing.proofs.PlacesLemmas.{TakesPlaces-append}

-- a part without changes has made none, on any table and heap
pub performs-none : (part : Part) (position : ℕ) (table : Table) (room : Room) → part.position ≡ position → part.changes.items ≡ [] → part.ended.items ≡ [] → Performs table room position [] part table room
performs-none part position table room at changes ended = record {
  changes_are = ap (map change_of) changes;
  position_is = at;
  places = subst (λ items. TakesPlaces room (puts_of items) room) (sym changes) refl;
  table_is = subst (λ items. table ≡ place_all part.position table items) (sym changes) refl;
  ended = subst₂ (λ items named. AreEnded part.position table items named) (sym changes) (sym ended) (none-ended part.position table);
}

-- the changes of a part, once some were added
pub changes-added : (old : Part) (table : Table) (room : Room) (changes : List Change) (new : Part) (after : Table) (left : Room) → AddsTo old table room changes new after left
    → changes_of_part new ≡ changes_of_part old ++ changes
changes-added old table room changes new after left adds =
    ap (map change_of) adds.places.after_is
    ∙ map-append change_of old.changes.items adds.places.placed
    ∙ ap (λ xs. changes_of_part old ++ xs) adds.places.changes_are

-- What was added to a part, which was made on some table and heap, is made on them with all that the part had.
module _ (first : Table) (free : Room) (before : List Change) (old : Part) (table : Table) (room : Room) (changes : List Change) (new : Part) (after : Table) (left : Room)
    (beside : IsBeside first free) (had : Performs first free old.position before old table room) (adds : AddsTo old table room changes new after left) where
  abbrev whole : List PlacedChange
  whole = old.changes.items ++ adds.places.placed

  places_whole : TakesPlaces free (puts_of whole) left
  places_whole =
      subst (λ puts. TakesPlaces free puts left) (sym (puts_of-append old.changes.items adds.places.placed))
      (TakesPlaces-append free (puts_of old.changes.items) (puts_of adds.places.placed) room left had.places adds.places.places)

  table_whole : after ≡ place_all old.position first whole
  table_whole =
      adds.table_is
      ∙ ap (λ t. place_all old.position t adds.places.placed) had.table_is
      ∙ sym (place_all-append old.position first old.changes.items adds.places.placed)

  ended_whole : AreEnded old.position first whole (old.ended.items ++ adds.more)
  ended_whole =
      subst (AreNumbersEnded old.position first whole) (sym (map-append (λ (entry : EntryNo). entry.0) old.ended.items adds.more))
      (ended-append old.position first old.changes.items adds.places.placed (beside_lawful first free beside) (beside_fresh first free beside whole left places_whole)
      (map (λ entry. entry.0) old.ended.items) (map (λ entry. entry.0) adds.more) had.ended
      (subst (λ t. AreEnded old.position t adds.places.placed adds.more) had.table_is adds.ended))

  pub performs-more : Performs first free old.position (before ++ changes) new after left
  performs-more = record {
    changes_are = changes-added old table room changes new after left adds ∙ ap (λ xs. xs ++ changes) had.changes_are;
    position_is = adds.position;
    places = subst (λ items. TakesPlaces free (puts_of items) left) (sym adds.places.after_is) places_whole;
    table_is = subst₂ (λ position items. after ≡ place_all position first items) (sym adds.position) (sym adds.places.after_is) table_whole;
    ended =
        subst (λ position. AreEnded position first new.changes.items new.ended.items) (sym adds.position)
        (subst₂ (λ items named. AreEnded old.position first items named) (sym adds.places.after_is) (sym adds.ended_are) ended_whole);
  }
