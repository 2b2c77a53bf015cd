-- What the definitions of a room imply together.
use Rattle.std.proofs.Common.{◌≡◌, ℕ, ◌+◌, ◌-◌, ◌<◌, ◌≤◌, Bool, true, false, not, ◌&&◌, ◌||◌, nat_eq, IsTrue, List, sym, ◌∙◌, ap, ap₂, subst, arith, ext_get_or}
use Rattle.std.proofs.lemmas.Bool.{and_parts}
use Rattle.std.proofs.lemmas.Bool.Decides.{nat_tests}
use Rattle.kv_types.specs.declared.place.EntryNo.{EntryNo}
use Rattle.kv_types.specs.declared.place.Extent.{Extent}
use Rattle.extent_heap.specs.Entries.{is_free}
use Rattle.extent_heap.specs.Extents.{is_line_of}
use Rattle.extent_heap.specs.Runs.{has_line}
use Rattle.extent_heap.specs.Room.{Room, IsRoom, is_free_line, is_free_entry, IsFreeRun, TakesExtent, GivesExtent, IsOut, TakesEntry, GivesEntry, IsOutEntry}
use Rattle.extent_heap.proofs.EntriesLemmas.{free_below}
use Rattle.extent_heap.proofs.RunsLemmas.{line_bounds, line_within}
use Rattle.extent_heap.proofs.SameRuns.{runs_same, end_of_line}

-- ---- what was taken is no longer free, and nothing else changed

pub TakesEntry-gone : (old : Room) (entry : EntryNo) (new : Room) → TakesEntry old entry new → is_free_entry new entry.0 ≡ false
TakesEntry-gone old entry new takes = grind (arith, nat_tests, takes.after.taken entry.0, takes.free)

-- what is free afterwards was free before
pub TakesEntry-free : (old : Room) (entry : EntryNo) (new : Room) (i : ℕ) → TakesEntry old entry new → IsTrue (is_free_entry new i) → IsTrue (is_free_entry old i)
TakesEntry-free old entry new i takes free = (and_parts (is_free_entry old i) (not (nat_eq i entry.0)) (sym (takes.after.taken i) ∙ free)).0

pub TakesEntry-line : (old : Room) (entry : EntryNo) (new : Room) (line : ℕ) → TakesEntry old entry new → is_free_line new line ≡ is_free_line old line
TakesEntry-line old entry new line takes = ap (λ (runs : List Extent). has_line runs line) takes.after.lines

pub TakesExtent-gone : (old : Room) (extent : Extent) (new : Room) (line : ℕ) → TakesExtent old extent new → extent.first_line ≤ line → line < extent.first_line + extent.lines → is_free_line new line ≡ false
TakesExtent-gone old extent new line takes low high = grind (arith, takes.after.taken line, line_within extent line low high)

pub TakesExtent-free : (old : Room) (extent : Extent) (new : Room) (line : ℕ) → TakesExtent old extent new → IsTrue (is_free_line new line) → IsTrue (is_free_line old line)
TakesExtent-free old extent new line takes free = (and_parts (is_free_line old line) (not (is_line_of extent line)) (sym (takes.after.taken line) ∙ free)).0

pub TakesExtent-entry : (old : Room) (extent : Extent) (new : Room) (i : ℕ) → TakesExtent old extent new → is_free_entry new i ≡ is_free_entry old i
TakesExtent-entry old extent new i takes = ap (λ (entries : List Bool). is_free entries i) takes.after.entries

-- ---- a room is what its parts say

room_same : (a b : Room) → a.lines ≡ b.lines → a.end_line ≡ b.end_line → a.held ≡ b.held → a.entries ≡ b.entries → a.end_entry ≡ b.end_entry → a ≡ b
room_same a b lines end_line held entries end_entry = λ j. record { lines = lines j; end_line = end_line j; held = held j; entries = entries j; end_entry = end_entry j }

-- rooms with the same free lines and entries have the same runs and marks
same_lines : (a b : Room) → IsRoom a → IsRoom b → ((line : ℕ) → is_free_line a line ≡ is_free_line b line) → a.lines ≡ b.lines
same_lines a b room room' same = runs_same 0 (a.end_line + 1) 0 (b.end_line + 1) a.lines b.lines room.lines room'.lines same

same_entries : (a b : Room) → IsRoom a → IsRoom b → a.end_entry ≡ b.end_entry → ((i : ℕ) → is_free_entry a i ≡ is_free_entry b i) → a.entries ≡ b.entries
same_entries a b room room' ends same = ext_get_or false a.entries b.entries (room.entries ∙ ends ∙ sym room'.entries) (λ i within. same i)

pub TakesEntry-same : (old : Room) (entry entry' : EntryNo) (new new' : Room) → TakesEntry old entry new → TakesEntry old entry' new' → new ≡ new'
TakesEntry-same old entry entry' new new' takes takes' =
    let low = takes.lowest entry'.0 takes'.free in
    let high = takes'.lowest entry.0 takes.free in
    let same : entry.0 ≡ entry'.0 = omega arith in
    let after = takes.after in
    let after' = takes'.after in
    let entries = same_entries new new' after.still_room after'.still_room (after.end_entry ∙ sym after'.end_entry)
    (λ i. after.taken i ∙ ap (λ j. is_free_entry old i && not (nat_eq i j)) same ∙ sym (after'.taken i)) in
    room_same new new' (after.lines ∙ sym after'.lines) (after.end_line ∙ sym after'.end_line) (after.held ∙ sym after'.held) entries (after.end_entry ∙ sym after'.end_entry)

pub TakesExtent-same : (old : Room) (extent extent' : Extent) (new new' : Room) → extent.lines ≡ extent'.lines → TakesExtent old extent new → TakesExtent old extent' new' → new ≡ new'
TakesExtent-same old extent extent' new new' count takes takes' =
    let low = takes.lowest extent'.first_line (subst (IsFreeRun old extent'.first_line) (sym count) takes'.free) in
    let high = takes'.lowest extent.first_line (subst (IsFreeRun old extent.first_line) count takes.free) in
    let first : extent.first_line ≡ extent'.first_line = omega arith in
    let same : extent ≡ extent' = ap₂ (λ (x y : ℕ). record extent { first_line = x; lines = y }) first count in
    let after = takes.after in
    let after' = takes'.after in
    let lines = same_lines new new' after.still_room after'.still_room
    (λ line. after.taken line ∙ ap (λ (e : Extent). is_free_line old line && not (is_line_of e line)) same ∙ sym (after'.taken line)) in
    room_same new new' lines (after.end_line ∙ sym after'.end_line) (after.held ∙ sym after'.held) (after.entries ∙ sym after'.entries) (after.end_entry ∙ sym after'.end_entry)

-- ---- what was taken can be given back, and then the room is as before

pub free_within : (room : Room) (first lines : ℕ) → IsRoom room → 0 < lines → IsFreeRun room first lines → first + lines ≤ room.end_line
free_within room first lines is some free =
    let last = first + (lines - 1) in
    omega (arith, end_of_line room.end_line room.lines last is.lines (free last (omega arith) (omega arith)))

pub out_again : (before : Room) (extent : Extent) (room : Room) → 0 < extent.lines → TakesExtent before extent room → IsOut room extent
out_again before extent room some takes =
    let within = free_within before extent.first_line extent.lines takes.after.is_room some takes.free in
    record { some = some; within = omega (arith, takes.after.end_line); held = omega (arith, takes.after.held); taken = λ line low high. TakesExtent-gone before extent room line takes low high }

back : (has is : Bool) → (IsTrue is → has ≡ true) → ((has && not is) || is) ≡ has
back has is given = grind arith

pub undo_extent : (before : Room) (extent : Extent) (room new : Room) → TakesExtent before extent room → GivesExtent room extent new → new ≡ before
undo_extent before extent room new takes gives =
    let after = takes.after in
    let lines = same_lines new before gives.still_room after.is_room
    (λ line. gives.given line ∙ ap (λ b. b || is_line_of extent line) (after.taken line)
    ∙ back (is_free_line before line) (is_line_of extent line) (λ is. takes.free line (line_bounds extent line is).0 (line_bounds extent line is).1)) in
    room_same new before lines (gives.end_line ∙ after.end_line) (omega (arith, gives.held, after.held)) (gives.entries ∙ after.entries) (gives.end_entry ∙ after.end_entry)

pub out_entry_again : (before : Room) (entry : EntryNo) (room : Room) → TakesEntry before entry room → IsOutEntry room entry
out_entry_again before entry room takes =
    let within = free_below before.entries entry.0 takes.free in
    record { within = omega (arith, within, takes.after.is_room.entries, takes.after.end_entry); taken = TakesEntry-gone before entry room takes }

same_number : (i j : ℕ) → IsTrue (nat_eq i j) → i ≡ j
same_number i j is = grind (arith, nat_tests)

pub undo_entry : (before : Room) (entry : EntryNo) (room new : Room) → TakesEntry before entry room → GivesEntry room entry new → new ≡ before
undo_entry before entry room new takes gives =
    let after = takes.after in
    let entries = same_entries new before gives.still_room after.is_room (gives.end_entry ∙ after.end_entry)
    (λ i. gives.given i ∙ ap (λ b. b || nat_eq i entry.0) (after.taken i)
    ∙ back (is_free_entry before i) (nat_eq i entry.0) (λ is. subst (λ j. IsTrue (is_free_entry before j)) (sym (same_number i entry.0 is)) takes.free)) in
    room_same new before (gives.lines ∙ after.lines) (gives.end_line ∙ after.end_line) (gives.held ∙ after.held) entries (gives.end_entry ∙ after.end_entry)
