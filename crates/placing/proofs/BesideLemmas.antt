-- A table and a heap stay beside each other where changes take places from the heap.
use Rattle.std.proofs.Common.{◌≡◌, ℕ, List, [], None, refl, sym, subst}
use Rattle.model.specs.declared.group.PlacedChange.{PlacedChange}
use Rattle.model.specs.Group.{changes_versions}
use Rattle.model.proofs.GroupsLemmas.{changes_versions-none}
use Rattle.extent_heap.specs.Room.{Room}
use Rattle.mv_keyspace.specs.Table.{Table, IsLawful, AreFresh, puts_of, place_all}
use Rattle.mv_keyspace.proofs.VersionTables.{AreEmpty}
use Rattle.mv_keyspace.proofs.PartTables.{AreDistinct, IsTable-changes, lawful-from_table, fresh-from_table, table-none}
use Rattle.placing.specs.Left.{IsBeside}
use Rattle.placing.specs.Place.{TakesPlaces}
use Rattle.placing.proofs.TakenLemmas.{All-map, IsFree, places_within, places_free, places_taken, places_apart, not_put_at, AreDistinct-from_apart}

-- an empty table is beside any heap
pub beside_none : (room : Room) → IsBeside [] room
beside_none room = record { versions = λ i. None; table_is = table-none (λ i. None) (λ i. refl); empty = λ i free. refl }

pub beside-empty : (table : Table) (room : Room) → table ≡ [] → IsBeside table room
beside-empty table room empty = subst (λ (t : Table). IsBeside t room) (sym empty) (beside_none room)

pub beside_lawful : (table : Table) (room : Room) → IsBeside table room → IsLawful table
beside_lawful table room is = lawful-from_table is.versions table is.table_is

module _ (table : Table) (room : Room) (is : IsBeside table room) (changes : List PlacedChange) (left : Room) (takes : TakesPlaces room (puts_of changes) left) where
  puts_empty : AreEmpty is.versions (puts_of changes)
  puts_empty = All-map (IsFree room) (λ put. is.versions put.entry.0 ≡ None) (λ put free. is.empty put.entry.0 free.entry) (puts_of changes) (places_free room (puts_of changes) left takes)

  puts_distinct : AreDistinct (puts_of changes)
  puts_distinct = AreDistinct-from_apart (puts_of changes) (places_apart room (puts_of changes) left takes)

  pub beside_fresh : AreFresh table (puts_of changes)
  beside_fresh = fresh-from_table is.versions table (puts_of changes) is.table_is puts_empty puts_distinct

  pub beside_after : (position : ℕ) → IsBeside (place_all position table changes) left
  beside_after position = record {
    versions = changes_versions position is.versions changes;
    table_is = IsTable-changes position is.versions table changes puts_empty puts_distinct is.table_is;
    empty = λ i free.
        changes_versions-none position is.versions changes i (is.empty i ((places_within room (puts_of changes) left takes).entries i free))
        (not_put_at left (puts_of changes) i (places_taken room (puts_of changes) left takes) free);
  }
