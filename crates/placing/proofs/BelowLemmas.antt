-- Where a heap hands out places, it hands out the same ones to the same changes: so all of them lie below a line, or some do not.
use Rattle.std.proofs.Common.{◌≡◌, ℕ, ◌+◌, List, [], ◌∷◌, ◌++◌, map, length, nat_le, ◌&&◌, IsTrue, refl, sym, ap, ap₂, subst, ◌∙◌, arith}
use Rattle.kv_types.specs.declared.change.Change.{Change}
use Rattle.model.specs.declared.group.Put.{Put}
use Rattle.model.specs.declared.group.PlacedChange.{PlacedChange}
use Rattle.model.specs.declared.group.PlacedChange.TheVariants.{Put as Put', Drop, DropKey, Clear}
use Rattle.model.specs.Image.{lines_of_bytes}
use Rattle.model.specs.Group.{change_of, put_of, bytes_of_id}
use Rattle.extent_heap.specs.Room.{Room, IsFreeRun}
use Rattle.extent_heap.proofs.BelowLemmas.{room_below-is_room}
use Rattle.extent_heap.proofs.Rooms.{TakesEntry-same}
use Rattle.mv_keyspace.specs.Table.{puts_of}
use Rattle.placing.specs.Below.{are_below, fits_surely_below, HasRoomBelow}
use Rattle.placing.specs.Fitting.{fits_surely, lines_wanted, most}
use Rattle.placing.specs.Place.{TakesPlace, TakesPlaces, HasRoomFor}
use Rattle.placing.proofs.PlacesLemmas.{TakesPlaces-split, same_places}

-- the line behind the lines of a put
end_of_put : (old : Room) (put put' : Put) (new new' : Room) → put.id ≡ put'.id → put.value ≡ put'.value → TakesPlace old put new → TakesPlace old put' new'
    → put.extent.first_line + put.extent.lines ≡ put'.extent.first_line + put'.extent.lines
end_of_put old put put' new new' id value takes takes' =
    let between = TakesEntry-same old put.entry put'.entry takes.between takes'.between takes.entry takes'.entry in
    let bytes : bytes_of_id put.id + length put.value ≡ bytes_of_id put'.id + length put'.value = cc in
    let lines : put.extent.lines ≡ put'.extent.lines = takes.fitting ∙ ap lines_of_bytes bytes ∙ sym takes'.fitting in
    let extent = subst (λ room. Rattle.extent_heap.specs.Room.TakesExtent room put.extent new) between takes.extent in
    let low = extent.lowest put'.extent.first_line (subst (IsFreeRun takes'.between put'.extent.first_line) (sym lines) takes'.extent.free) in
    let high = takes'.extent.lowest put.extent.first_line (subst (IsFreeRun takes'.between put.extent.first_line) lines extent.free) in
    omega arith

-- the same change lies below or not
below_one : (end : ℕ) (old : Room) (p q : PlacedChange) (new new' : Room) → change_of p ≡ change_of q → TakesPlaces old (put_of p) new → TakesPlaces old (put_of q) new'
    → are_below end (put_of p) ≡ are_below end (put_of q)
below_one end old (Put' put) (Put' put') new new' e takes takes' =
    let id : put.id ≡ put'.id = cc in
    let value : put.value ≡ put'.value = cc in
    ap (λ line. nat_le line end && are_below end []) (end_of_put old put put' takes.0 takes'.0 id value takes.1 takes'.1)
below_one end old (Put' put) (Drop id) new new' e takes takes' = cc
below_one end old (Put' put) (DropKey key) new new' e takes takes' = cc
below_one end old (Put' put) Clear new new' e takes takes' = cc
below_one end old (Drop id) (Put' put) new new' e takes takes' = cc
below_one end old (Drop id) (Drop other) new new' e takes takes' = refl
below_one end old (Drop id) (DropKey key) new new' e takes takes' = refl
below_one end old (Drop id) Clear new new' e takes takes' = refl
below_one end old (DropKey key) (Put' put) new new' e takes takes' = cc
below_one end old (DropKey key) (Drop id) new new' e takes takes' = refl
below_one end old (DropKey key) (DropKey other) new new' e takes takes' = refl
below_one end old (DropKey key) Clear new new' e takes takes' = refl
below_one end old Clear (Put' put) new new' e takes takes' = cc
below_one end old Clear (Drop id) new new' e takes takes' = refl
below_one end old Clear (DropKey key) new new' e takes takes' = refl
below_one end old Clear Clear new new' e takes takes' = refl

below-append : (end : ℕ) (xs ys : List Put) → are_below end (xs ++ ys) ≡ (are_below end xs && are_below end ys)
below-append end [] ys = refl
below-append end (x ∷ xs) ys = grind (arith, below-append end xs ys)

-- the same changes lie below or not
pub below_same : (end : ℕ) (old : Room) (ps qs : List PlacedChange) (new new' : Room) → map change_of ps ≡ map change_of qs → TakesPlaces old (puts_of ps) new → TakesPlaces old (puts_of qs) new'
    → are_below end (puts_of ps) ≡ are_below end (puts_of qs)
below_same end old [] [] new new' e takes takes' = refl
below_same end old [] (q ∷ qs) new new' e takes takes' = cc
below_same end old (p ∷ ps) [] new new' e takes takes' = cc
below_same end old (p ∷ ps) (q ∷ qs) new new' e takes takes' =
    let same : change_of p ≡ change_of q = cc in
    let others : map change_of ps ≡ map change_of qs = cc in
    let first = TakesPlaces-split old (put_of p) (puts_of ps) new takes in
    let first' = TakesPlaces-split old (put_of q) (puts_of qs) new' takes' in
    let joined = same_places old p q first.0 first'.0 same first.1 first'.1 in
    let rest = below_same end first'.0 ps qs new new' others (subst (λ room. TakesPlaces room (puts_of ps) new) joined first.2) first'.2 in
    below-append end (put_of p) (puts_of ps) ∙ ap₂ (λ a b. a && b) (below_one end old p q first.0 first'.0 same first.1 first'.1) rest ∙ sym (below-append end (put_of q) (puts_of qs))

-- what has room below a line has room
pub HasRoomBelow-fits : (room : Room) (changes : List Change) (end : ℕ) → HasRoomBelow room changes end → HasRoomFor room changes
HasRoomBelow-fits room changes end has = record { placed = has.placed; left = has.left; these = has.these; places = has.places }

pub surely_below-surely : (room : Room) (changes : List Change) (end : ℕ) → IsTrue (fits_surely_below room changes end) → IsTrue (fits_surely room changes)
surely_below-surely room changes end = room_below-is_room (length (lines_wanted changes)) (most 1 (lines_wanted changes)) end room
