-- All versions of an image, as they are read under its record (this project's profile).
use Rattle.std.specs.Prelude.{◌≡◌, ◌≢◌, ℕ, zero, suc, ◌+◌, ◌<◌, Bool, false, not, ◌&&◌, ◌==◌, nat_lt, if◌then◌else◌, IsTrue, List, [], ◌∷◌, ◌++◌, map, filter, AllPairs}
use Rattle.kv_types.specs.declared.place.EntryNo.{EntryNo}
use Rattle.kv_types.specs.declared.place.Extent.{Extent}
use Rattle.kv_types.specs.declared.record_id.RecordId.{RecordId}
use Rattle.heap_layout.specs.declared.entry.Entry.{Entry}
use Rattle.heap_layout.specs.Entry.{entry_in}
use Rattle.heap_layout.specs.Version.{IsUnder}
use Rattle.model.specs.declared.record.Record.{Record}
use Rattle.model.specs.declared.record.Role.TheVariants.{Newcomer}
use Rattle.model.specs.Group.{AreApart}
use Rattle.model.specs.Image.{Image, counts, entries_of_lines, entry_word}
use Rattle.model.specs.ReadImage.{is_clash, record_in}

-- the begin of entry i counts
abbrev pub is_counted : Record → Image → ℕ → Bool
is_counted r image i = counts r (image (entry_word i 0))

-- and its end does not
abbrev pub is_live : Record → Image → ℕ → Bool
is_live r image i = is_counted r image i && not (counts r (image (entry_word i 1)))

-- entry i was begun, and its begin does not count: a commit that did not come to its end left it
abbrev pub is_gapped : Record → Image → ℕ → Bool
is_gapped r image i = not (image (entry_word i 0) == 0) && not (is_counted r image i)

-- the extents of entries i and j have no line in common
abbrev pub LieApart : Image → ℕ → ℕ → Type 0
LieApart image i j = AreApart (image (entry_word i 3)) (image (entry_word i 4)) (image (entry_word j 3)) (image (entry_word j 4))

-- The versions of the image break no rule under this record: no entry by itself, no two extents overlap, no record lives twice, no key has a live string
-- and a live field, and a newcomer's image has no version.
pub record AreVersions (r : Record) (lines' : ℕ) (image : Image) : Type 0 where
  pub entries : (i : ℕ) → i < entries_of_lines r.layout lines' → IsUnder r lines' image i
  pub apart : (i j : ℕ) → i < entries_of_lines r.layout lines' → j < entries_of_lines r.layout lines' → i ≢ j
      → IsTrue (is_counted r image i) → IsTrue (is_counted r image j) → LieApart image i j
  pub distinct : (i j : ℕ) → i < entries_of_lines r.layout lines' → j < entries_of_lines r.layout lines' → i ≢ j
      → IsTrue (is_live r image i) → IsTrue (is_live r image j) → is_clash (record_in image i).0 (record_in image j).0 ≡ false
  pub uncopied : r.role ≡ Newcomer → (i : ℕ) → i < entries_of_lines r.layout lines' → is_counted r image i ≡ false

-- ---- as they are read

-- what entry i holds, with an end of 0 where its end does not count
abbrev pub counted_entry : Record → Image → ℕ → Entry
counted_entry r image i = record (entry_in image i) { end = if counts r (image (entry_word i 1)) then image (entry_word i 1) else 0 }

abbrev pub counted_at : Record → Image → ℕ → List (EntryNo × Entry)
counted_at r image i = if is_counted r image i then (record { 0 = i }, counted_entry r image i) ∷ [] else []

-- the entries below this number whose begin counts, in rising order
abbrev pub counted_below : Record → Image → ℕ → List (EntryNo × Entry)
counted_below r image zero = []
counted_below r image (suc i) = counted_below r image i ++ counted_at r image i

abbrev pub gapped_at : Record → Image → ℕ → List EntryNo
gapped_at r image i = if is_gapped r image i then record { 0 = i } ∷ [] else []

-- the entries below this number that were begun and do not count, in rising order
abbrev pub gapped_below : Record → Image → ℕ → List EntryNo
gapped_below r image zero = []
gapped_below r image (suc i) = gapped_below r image i ++ gapped_at r image i

-- each entry below this number breaks no rule by itself
abbrev pub AreUnder : Record → ℕ → Image → ℕ → Type 0
AreUnder r lines' image n = (i : ℕ) → i < n → IsUnder r lines' image i

-- no element passes the test with one after it
abbrev pub NoTwo : {X : Type 0} → (X → X → Bool) → List X → Type 0
NoTwo test xs = AllPairs (λ x y. test x y ≡ false) xs

-- the two runs have a line in common, where neither is empty
abbrev pub overlap : Extent → Extent → Bool
overlap run other = nat_lt run.first_line (other.first_line + other.lines) && nat_lt other.first_line (run.first_line + run.lines)

-- the lines of the versions
abbrev pub runs_of : List (EntryNo × Entry) → List Extent
runs_of versions = map (λ version. version.1.extent) versions

-- the live ones, whose end is given as 0
abbrev pub live_in : List (EntryNo × Entry) → List (EntryNo × Entry)
live_in versions = filter (λ version. version.1.end == 0) versions

-- the records of the live ones
abbrev pub live_ids : List (EntryNo × Entry) → List RecordId
live_ids versions = map (λ version. version.1.id) (live_in versions)
