-- Places are taken in turn, and for each put a heap can hand out only one place.
use Rattle.std.proofs.Common.{◌≡◌, ℕ, ◌+◌, ◌<◌, ◌≤◌, List, [], ◌∷◌, ◌++◌, map, length, take, drop, refl, sym, ap, ap₂, subst, ◌∙◌, append_assoc, arith}
use Rattle.std.proofs.lemmas.Bool.{eqb-false}
use Rattle.std.proofs.lemmas.Grind.{flat_map-append}
use Rattle.std.proofs.lemmas.List.{map-append, drop-append-le, take-append-le}
use Rattle.std.proofs.Math.Seq.{drop-append_seam}
use Rattle.kv_types.specs.declared.place.EntryNo.{EntryNo}
use Rattle.kv_types.specs.declared.record_id.RecordId.{RecordId}
use Rattle.kv_types.specs.declared.change.Change.{Change}
use Rattle.kv_types.specs.declared.change.Change.TheVariants as change
use Rattle.model.specs.declared.group.Put.{Put}
use Rattle.model.specs.declared.group.PlacedChange.{PlacedChange}
use Rattle.model.specs.declared.group.PlacedChange.TheVariants.{Put as Put', Drop, DropKey, Clear}
use Rattle.model.specs.Image.{lines_of_bytes}
use Rattle.model.specs.Group.{change_of, put_of, bytes_of_id, HasItsLines}
use Rattle.extent_heap.specs.Room.{Room, IsFreeRun, TakesEntry, TakesExtent}
use Rattle.extent_heap.proofs.Rooms.{TakesEntry-same, TakesExtent-same}
use Rattle.mv_keyspace.specs.Table.{puts_of}
use Rattle.placing.specs.Place.{TakesPlace, TakesPlaces, PlacesAfter, HasRoomFor}

-- ---- one place

pub TakesPlace-same : (old : Room) (put put' : Put) (new new' : Room) → put.id ≡ put'.id → put.value ≡ put'.value → TakesPlace old put new → TakesPlace old put' new' → new ≡ new'
TakesPlace-same old put put' new new' id value takes takes' =
    let between = TakesEntry-same old put.entry put'.entry takes.between takes'.between takes.entry takes'.entry in
    let bytes : bytes_of_id put.id + length put.value ≡ bytes_of_id put'.id + length put'.value = cc in
    let lines : put.extent.lines ≡ put'.extent.lines = takes.fitting ∙ ap lines_of_bytes bytes ∙ sym takes'.fitting in
    TakesExtent-same takes'.between put.extent put'.extent new new' lines (subst (λ room. TakesExtent room put.extent new) between takes.extent) takes'.extent

-- the place of the only put of a change
pub one_place : (before : Room) (change : PlacedChange) (put : Put) (new : Room) → change ≡ Put' put → TakesPlaces before (put_of change) new → TakesPlace before put new
one_place before change put new e takes =
    let one = subst (λ c. TakesPlaces before (put_of c) new) e takes in
    subst (TakesPlace before put) (sym one.2) one.1

-- there is no place where, once the entry is taken, no run is long enough
pub no_place : (old : Room) (entry : EntryNo) (between : Room) (lines : ℕ) → TakesEntry old entry between → ((first : ℕ) → ¬ IsFreeRun between first lines)
    → (put : Put) (left : Room) → lines ≡ lines_of_bytes (bytes_of_id put.id + length put.value) → ¬ TakesPlace old put left
no_place old entry between lines taken none put left wants takes =
    let same = TakesEntry-same old put.entry entry takes.between between takes.entry taken in
    let count : put.extent.lines ≡ lines = takes.fitting ∙ sym wants in
    none put.extent.first_line (subst (λ n. IsFreeRun between put.extent.first_line n) count (subst (λ room. IsFreeRun room put.extent.first_line put.extent.lines) same takes.extent.free))

-- ---- places one after another

pub TakesPlaces-split : (old : Room) (xs ys : List Put) (new : Room) → TakesPlaces old (xs ++ ys) new → (between : Room) × TakesPlaces old xs between × TakesPlaces between ys new
TakesPlaces-split old [] ys new takes = (old, refl, takes)
TakesPlaces-split old (put ∷ xs) ys new takes =
    let rest = TakesPlaces-split takes.0 xs ys new takes.2 in
    (rest.0, (takes.0, takes.1, rest.1), rest.2)

pub TakesPlaces-append : (old : Room) (xs ys : List Put) (between new : Room) → TakesPlaces old xs between → TakesPlaces between ys new → TakesPlaces old (xs ++ ys) new
TakesPlaces-append old [] ys between new prefix rest = subst (λ room. TakesPlaces room ys new) prefix rest
TakesPlaces-append old (put ∷ xs) ys between new prefix rest = (prefix.0, prefix.1, TakesPlaces-append prefix.0 xs ys between new prefix.2 rest)

none_taken : (old : Room) (change : PlacedChange) (new : Room) → put_of change ≡ [] → TakesPlaces old (put_of change) new → new ≡ old
none_taken old change new none takes = subst (λ puts. TakesPlaces old puts new) none takes

-- the same changes take the same places
pub same_places : (old : Room) (p q : PlacedChange) (new new' : Room) → change_of p ≡ change_of q → TakesPlaces old (put_of p) new → TakesPlaces old (put_of q) new' → new ≡ new'
same_places old (Put' put) (Put' put') new new' e takes takes' =
    let id : put.id ≡ put'.id = cc in
    let value : put.value ≡ put'.value = cc in
    takes.2 ∙ TakesPlace-same old put put' takes.0 takes'.0 id value takes.1 takes'.1 ∙ sym takes'.2
same_places old (Put' put) (Drop id) new new' e takes takes' = cc
same_places old (Put' put) (DropKey key) new new' e takes takes' = cc
same_places old (Put' put) Clear new new' e takes takes' = cc
same_places old (Drop id) q new new' e takes takes' = takes ∙ sym (none_taken old q new' (grind arith) takes')
same_places old (DropKey key) q new new' e takes takes' = takes ∙ sym (none_taken old q new' (grind arith) takes')
same_places old Clear q new new' e takes takes' = takes ∙ sym (none_taken old q new' (grind arith) takes')

-- a put without a place is a change without one
pub no_places : (old : Room) (id : RecordId) (value : List ℕ) → ((put : Put) (left : Room) → put.id ≡ id → put.value ≡ value → ¬ TakesPlace old put left)
    → (placed : PlacedChange) (left : Room) → change_of placed ≡ change.Put id value → ¬ TakesPlaces old (put_of placed) left
no_places old id value none (Put' put) left e takes =
    let same_id : put.id ≡ id = cc in
    let same_value : put.value ≡ value = cc in
    none put takes.0 same_id same_value takes.1
no_places old id value none (Drop other) left e takes = cc
no_places old id value none (DropKey key) left e takes = cc
no_places old id value none Clear left e takes = cc

-- a record has at least one line
pub one_at_least : (bytes : ℕ) → 0 < lines_of_bytes bytes
one_at_least bytes = grind (arith, eqb-false bytes 0)

pub some_lines : (put : Put) → HasItsLines put → 0 < put.extent.lines
some_lines put fitting = subst (λ n. 0 < n) (sym fitting) (one_at_least (bytes_of_id put.id + length put.value))

-- the last change took its place from what those before it left
pub last_place : (old : Room) (placed : List PlacedChange) (last : PlacedChange) (new : Room) → TakesPlaces old (puts_of (placed ++ last ∷ [])) new → (between : Room) × TakesPlaces old (puts_of placed) between × TakesPlaces between (put_of last) new
last_place old placed last new takes =
    let puts : puts_of (placed ++ last ∷ []) ≡ puts_of placed ++ (put_of last ++ []) = flat_map-append put_of placed (last ∷ []) in
    let split = TakesPlaces-split old (puts_of placed) (put_of last ++ []) new (subst (λ puts. TakesPlaces old puts new) puts takes) in
    let one = TakesPlaces-split split.0 (put_of last) [] new split.2 in
    (split.0, split.1, subst (TakesPlaces split.0 (put_of last)) (sym one.2) one.1)

pub more_places : (old : Room) (placed : List PlacedChange) (between : Room) (next : PlacedChange) (new : Room) → TakesPlaces old (puts_of placed) between → TakesPlaces between (put_of next) new → TakesPlaces old (puts_of (placed ++ next ∷ [])) new
more_places old placed between next new prefix one =
    let puts : puts_of (placed ++ next ∷ []) ≡ puts_of placed ++ (put_of next ++ []) = flat_map-append put_of placed (next ∷ []) in
    subst (λ puts. TakesPlaces old puts new) (sym puts) (TakesPlaces-append old (puts_of placed) (put_of next ++ []) between new prefix (TakesPlaces-append between (put_of next) [] new new one refl))

-- ---- changes behind others in a list

pub drop-last : (from : ℕ) (items left : List PlacedChange) (last : PlacedChange) → items ≡ left ++ last ∷ [] → from ≤ length left → drop from items ≡ drop from left ++ last ∷ []
drop-last from items left last is le = ap (drop from) is ∙ drop-append-le from left (last ∷ []) le

pub take-last : (from : ℕ) (items left : List PlacedChange) (last : PlacedChange) → items ≡ left ++ last ∷ [] → from ≤ length left → take from items ≡ take from left
take-last from items left last is le = ap (take from) is ∙ take-append-le from left (last ∷ []) le

module _ (room : Room) (before : List PlacedChange) (changes : List Change) (after : List PlacedChange) (left : Room) (is : PlacesAfter room before changes after left) where
  -- what was added stands behind what was there
  pub added : (from : ℕ) → from ≡ length before → drop from after ≡ is.placed
  added from at = ap₂ (λ (n : ℕ) (items : List PlacedChange). drop n items) at is.after_is ∙ drop-append_seam before is.placed

  pub added_places : (from : ℕ) → from ≡ length before → TakesPlaces room (puts_of (drop from after)) left
  added_places from at = subst (λ items. TakesPlaces room (puts_of items) left) (sym (added from at)) is.places

  -- one more change has its place after them
  pub one_more : (items : List PlacedChange) (next : PlacedChange) (new : Room) → items ≡ after ++ next ∷ [] → TakesPlaces left (put_of next) new → PlacesAfter room before (changes ++ change_of next ∷ []) items new
  one_more items next new items_are takes = record {
    placed = is.placed ++ next ∷ [];
    after_is = items_are ∙ ap (λ xs. xs ++ next ∷ []) is.after_is ∙ append_assoc before is.placed (next ∷ []);
    changes_are = map-append change_of is.placed (next ∷ []) ∙ ap (λ xs. xs ++ change_of next ∷ []) is.changes_are;
    places = more_places room is.placed left next new is.places takes;
  }

-- where the next change finds no place after those before it, there is no room for all of them
module _ (next : Change) (rest : List Change) where
  no_room_from : (room : Room) (prefix : List PlacedChange) (between : Room) (placed : List PlacedChange) (left : Room) → TakesPlaces room (puts_of prefix) between
      → ((p : PlacedChange) (after : Room) → change_of p ≡ next → ¬ TakesPlaces between (put_of p) after)
      → map change_of placed ≡ map change_of prefix ++ next ∷ rest → ¬ TakesPlaces room (puts_of placed) left
  no_room_from room [] between [] left places none e takes = cc
  no_room_from room (q ∷ prefix) between [] left places none e takes = cc
  no_room_from room [] between (p ∷ placed) left places none e takes =
      let same : change_of p ≡ next = cc in
      let first = TakesPlaces-split room (put_of p) (puts_of placed) left takes in
      none p first.0 same (subst (λ r. TakesPlaces r (put_of p) first.0) (sym places) first.1)
  no_room_from room (q ∷ prefix) between (p ∷ placed) left places none e takes =
      let same : change_of p ≡ change_of q = cc in
      let others : map change_of placed ≡ map change_of prefix ++ next ∷ rest = cc in
      let first = TakesPlaces-split room (put_of p) (puts_of placed) left takes in
      let first' = TakesPlaces-split room (put_of q) (puts_of prefix) between places in
      let joined = same_places room p q first.0 first'.0 same first.1 first'.1 in
      no_room_from first'.0 prefix between placed left first'.2 none others (subst (λ r. TakesPlaces r (puts_of placed) left) joined first.2)

  pub no_room : (room : Room) (prefix : List PlacedChange) (between : Room) → TakesPlaces room (puts_of prefix) between
      → ((p : PlacedChange) (after : Room) → change_of p ≡ next → ¬ TakesPlaces between (put_of p) after) → ¬ HasRoomFor room (map change_of prefix ++ next ∷ rest)
  no_room room prefix between places none has = no_room_from room prefix between has.placed has.left places none has.these has.places
