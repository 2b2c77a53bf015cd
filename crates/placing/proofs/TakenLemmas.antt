-- What was taken from a heap was free before and is taken afterwards, and no two places have anything in common.
use Rattle.std.proofs.Common.{◌≡◌, ℕ, ◌+◌, ◌<◌, ◌≤◌, Bool, false, IsTrue, List, [], ◌∷◌, ◌++◌, length, refl, sym, ap, subst, ◌∙◌, arith}
use Rattle.std.proofs.lemmas.Bool.{false≢true, false_from_ne_true}
use Rattle.std.specs.List.{AllByRecursion}
use Rattle.model.specs.declared.group.Put.{Put}
use Rattle.model.specs.Group.{AreApart, IsApartFrom, AreAllApart, HasItsLines, is_put_at}
pub use Rattle.mv_keyspace.proofs.AllLemmas.{All-map, All-both, All-prefix, All-rest, All-append}
use Rattle.mv_keyspace.proofs.PartTables.{AreDistinct}
use Rattle.extent_heap.specs.Room.{Room, is_free_line, is_free_entry, IsFreeRun}
use Rattle.extent_heap.proofs.Rooms.{out_entry_again, TakesEntry-gone, TakesEntry-free, TakesEntry-line, TakesExtent-gone, TakesExtent-free, TakesExtent-entry}
use Rattle.placing.specs.Place.{TakesPlace, TakesPlaces}
use Rattle.placing.specs.Left.{HasNoFreeLine, IsTaken}
use Rattle.placing.proofs.PlacesLemmas.{some_lines}

-- ---- one place

-- the entry of the put is free, and so are its lines, of which there is at least one
pub record IsFree (room : Room) (put : Put) : Type 0 where
  pub entry : IsTrue (is_free_entry room put.entry.0)
  pub some : 0 < put.extent.lines
  pub run : IsFreeRun room put.extent.first_line put.extent.lines

-- the smaller room has nothing that the larger has not
pub record IsWithin (small large : Room) : Type 0 where
  pub entries : (i : ℕ) → IsTrue (is_free_entry small i) → IsTrue (is_free_entry large i)
  pub lines : (line : ℕ) → IsTrue (is_free_line small line) → IsTrue (is_free_line large line)

pub place_free : (old : Room) (put : Put) (new : Room) → TakesPlace old put new → IsFree old put
place_free old put new takes = record {
  entry = takes.entry.free;
  some = some_lines put takes.fitting;
  run = λ line low high. sym (TakesEntry-line old put.entry takes.between line takes.entry) ∙ takes.extent.free line low high;
}

pub place_taken : (old : Room) (put : Put) (new : Room) → TakesPlace old put new → IsTaken new put
place_taken old put new takes = record {
  entry = TakesExtent-entry takes.between put.extent new put.entry.0 takes.extent ∙ TakesEntry-gone old put.entry takes.between takes.entry;
  lines = record { some = some_lines put takes.fitting; none = λ line low high. TakesExtent-gone takes.between put.extent new line takes.extent low high };
}

pub place_within : (old : Room) (put : Put) (new : Room) → TakesPlace old put new → IsWithin new old
place_within old put new takes = record {
  entries = λ i free. TakesEntry-free old put.entry takes.between i takes.entry (sym (TakesExtent-entry takes.between put.extent new i takes.extent) ∙ free);
  lines = λ line free. sym (TakesEntry-line old put.entry takes.between line takes.entry) ∙ TakesExtent-free takes.between put.extent new line takes.extent free;
}

-- ---- smaller and larger rooms

pub free_within : (small large : Room) (put : Put) → IsWithin small large → IsFree small put → IsFree large put
free_within small large put within free = record { entry = within.entries put.entry.0 free.entry; some = free.some; run = λ line low high. within.lines line (free.run line low high) }

pub not_free : (a b : Bool) → (IsTrue a → IsTrue b) → b ≡ false → a ≡ false
not_free a b into none = false_from_ne_true a (λ free. false≢true (sym none ∙ into free))

pub lines_within : (small large : Room) (first lines : ℕ) → IsWithin small large → HasNoFreeLine large first lines → HasNoFreeLine small first lines
lines_within small large first lines within has = record { some = has.some; none = λ line low high. not_free (is_free_line small line) (is_free_line large line) (within.lines line) (has.none line low high) }

pub taken_within : (small large : Room) (put : Put) → IsWithin small large → IsTaken large put → IsTaken small put
taken_within small large put within taken = record {
  entry = not_free (is_free_entry small put.entry.0) (is_free_entry large put.entry.0) (within.entries put.entry.0) taken.entry;
  lines = lines_within small large put.extent.first_line put.extent.lines within taken.lines;
}

-- ---- places one after another

pub places_within : (old : Room) (puts : List Put) (new : Room) → TakesPlaces old puts new → IsWithin new old
places_within old [] new same = record {
  entries = λ i free. subst (λ room. IsTrue (is_free_entry room i)) same free;
  lines = λ line free. subst (λ room. IsTrue (is_free_line room line)) same free;
}
places_within old (put ∷ puts) new takes =
    let rest = places_within takes.0 puts new takes.2 in
    let first = place_within old put takes.0 takes.1 in
    record { entries = λ i free. first.entries i (rest.entries i free); lines = λ line free. first.lines line (rest.lines line free) }

pub places_free : (old : Room) (puts : List Put) (new : Room) → TakesPlaces old puts new → AllByRecursion (IsFree old) puts
places_free old [] new takes = tt
places_free old (put ∷ puts) new takes =
    (place_free old put takes.0 takes.1, All-map (IsFree takes.0) (IsFree old) (λ other. free_within takes.0 old other (place_within old put takes.0 takes.1)) puts (places_free takes.0 puts new takes.2))

pub places_taken : (old : Room) (puts : List Put) (new : Room) → TakesPlaces old puts new → AllByRecursion (IsTaken new) puts
places_taken old [] new takes = tt
places_taken old (put ∷ puts) new takes =
    (taken_within new takes.0 put (places_within takes.0 puts new takes.2) (place_taken old put takes.0 takes.1), places_taken takes.0 puts new takes.2)

pub places_fitting : (old : Room) (puts : List Put) (new : Room) → TakesPlaces old puts new → AllByRecursion HasItsLines puts
places_fitting old [] new takes = tt
places_fitting old (put ∷ puts) new takes = (takes.1.fitting, places_fitting takes.0 puts new takes.2)

-- ---- how many are out

-- each put took one extent, and the ends stayed
pub record HasTaken (old : Room) (puts : List Put) (new : Room) : Type 0 where
  pub held : new.held ≡ old.held + length puts
  pub end_line : new.end_line ≡ old.end_line
  pub end_entry : new.end_entry ≡ old.end_entry

pub places_held : (old : Room) (puts : List Put) (new : Room) → TakesPlaces old puts new → HasTaken old puts new
places_held old [] new same = record {
  held = omega (arith, ap (λ (room : Room). room.held) same);
  end_line = ap (λ (room : Room). room.end_line) same;
  end_entry = ap (λ (room : Room). room.end_entry) same;
}
places_held old (put ∷ puts) new takes =
    let rest = places_held takes.0 puts new takes.2 in
    let entry = takes.1.entry.after in
    let extent = takes.1.extent.after in
    record {
      held = omega (arith, rest.held, extent.held, entry.held);
      end_line = rest.end_line ∙ extent.end_line ∙ entry.end_line;
      end_entry = rest.end_entry ∙ extent.end_entry ∙ entry.end_entry;
    }

pub places_below : (old : Room) (puts : List Put) (new : Room) → TakesPlaces old puts new → AllByRecursion (λ (put : Put). put.entry.0 < old.end_entry) puts
places_below old [] new takes = tt
places_below old (put ∷ puts) new takes =
    let entry = takes.1.entry.after in
    let first = (out_entry_again old put.entry takes.1.between takes.1.entry).within in
    let ends : takes.0.end_entry ≡ old.end_entry = takes.1.extent.after.end_entry ∙ entry.end_entry in (
      subst (λ n. put.entry.0 < n) entry.end_entry first,
      subst (λ n. AllByRecursion (λ (other : Put). other.entry.0 < n) puts) ends (places_below takes.0 puts new takes.2),
    )

-- ---- apart

-- a run that has no free line and a free run have no line in common
pub lines_apart : (room : Room) (first lines first' lines' : ℕ) → HasNoFreeLine room first lines → 0 < lines' → IsFreeRun room first' lines' → AreApart first lines first' lines'
lines_apart room first lines first' lines' none some free =
    let here = λ (line : ℕ) (low : first ≤ line) (high : line < first + lines) (low' : first' ≤ line) (high' : line < first' + lines').
    false≢true (sym (none.none line low high) ∙ free line low' high') in
    decide first lines first' lines' none.some some (here first) (here first')
  where
    decide : (first lines first' lines' : ℕ) → 0 < lines → 0 < lines'
        → (first ≤ first → first < first + lines → first' ≤ first → first < first' + lines' → ⊥)
        → (first ≤ first' → first' < first + lines → first' ≤ first' → first' < first' + lines' → ⊥) → AreApart first lines first' lines'
    decide first lines first' lines' some some' apart apart' = grind arith

pub apart_from : (room : Room) (put other : Put) → IsTaken room put → IsFree room other → IsApartFrom put other
apart_from room put other taken free = record {
  entries = λ same. false≢true (sym taken.entry ∙ subst (λ i. IsTrue (is_free_entry room i)) (sym same) free.entry);
  lines = lines_apart room put.extent.first_line put.extent.lines other.extent.first_line other.extent.lines taken.lines free.some free.run;
}

pub places_apart : (old : Room) (puts : List Put) (new : Room) → TakesPlaces old puts new → AreAllApart puts
places_apart old [] new takes = tt
places_apart old (put ∷ puts) new takes =
    (All-map (IsFree takes.0) (IsApartFrom put) (λ other. apart_from takes.0 put other (place_taken old put takes.0 takes.1)) puts (places_free takes.0 puts new takes.2), places_apart takes.0 puts new takes.2)

-- puts whose places are taken and puts whose places are still free are apart from each other
pub AreAllApart-append : (room : Room) (xs ys : List Put) → AreAllApart xs → AreAllApart ys → AllByRecursion (IsTaken room) xs → AllByRecursion (IsFree room) ys → AreAllApart (xs ++ ys)
AreAllApart-append room [] ys apart apart' taken free = apart'
AreAllApart-append room (x ∷ xs) ys apart apart' taken free = (
  All-append (IsApartFrom x) xs ys apart.0 (All-map (IsFree room) (IsApartFrom x) (λ other. apart_from room x other taken.0) ys free),
  AreAllApart-append room xs ys apart.1 apart' taken.1 free,
)

-- a free entry is not the entry of a put whose place is taken
pub not_put_at : (room : Room) (puts : List Put) (i : ℕ) → AllByRecursion (IsTaken room) puts → IsTrue (is_free_entry room i) → is_put_at i puts ≡ false
not_put_at room [] i taken free = refl
not_put_at room (put ∷ puts) i taken free = grind (arith, taken.0.entry, not_put_at room puts i taken.1 free)

-- nor is an entry that is not free the entry of a put whose place is still free
pub not_put_at_free : (room : Room) (puts : List Put) (i : ℕ) → AllByRecursion (IsFree room) puts → is_free_entry room i ≡ false → is_put_at i puts ≡ false
not_put_at_free room [] i free out = refl
not_put_at_free room (put ∷ puts) i free out = grind (arith, free.0.entry, not_put_at_free room puts i free.1 out)

pub apart_distinct : (put : Put) (puts : List Put) → AllByRecursion (IsApartFrom put) puts → is_put_at put.entry.0 puts ≡ false
apart_distinct put [] apart = refl
apart_distinct put (other ∷ puts) apart = grind (arith, apart.0.entries, apart_distinct put puts apart.1)

pub AreDistinct-from_apart : (puts : List Put) → AreAllApart puts → AreDistinct puts
AreDistinct-from_apart [] apart = tt
AreDistinct-from_apart (put ∷ puts) apart = (apart_distinct put puts apart.0, AreDistinct-from_apart puts apart.1)
