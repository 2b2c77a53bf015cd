-- What the plain reader of an image requires of its words.
use Rattle.std.specs.Prelude.{◌≡◌, ℕ, zero, suc, ◌+◌, ◌-◌, ◌*◌, ◌/◌, ◌<◌, ◌≤◌, Bool, false, ◌&&◌, ◌||◌, ◌⊎◌, Option, Some, None, IsSome, List, [], ◌∷◌, length, drop, replicate, IsTrue, nat_eq, is_none, slice_index}
use Rattle.std.specs.Ordering.{eq_by_cmp}
use Rattle.std.specs.Cmp.Lexicographic.{pointwise}
use Rattle.kv_types.specs.declared.limits.TheConstants.{MAX_KEY_BYTES, MAX_VALUE_BYTES}
use Rattle.kv_types.specs.declared.record_id.RecordId.{RecordId}
use Rattle.kv_types.specs.Keyspace.{Keyspace, IsKeyspace, value_at, key_of, field_of, record_cmp}
use Rattle.model.specs.declared.record.Gap.{Gap}
use Rattle.model.specs.declared.record.Record.{Record}
use Rattle.model.specs.declared.layout.Layout.{Layout}
use Rattle.model.specs.declared.layout.TheConstants.{GAPS_WORD, LINE_WORDS}
use Rattle.model.specs.Layout.{gap_room, max_gaps, version}
use Rattle.model.specs.Image.{Image, Version, HasSuperblock, HasWords, HasRecord, IsMapOf, version_at, with_version, counts, entry_word, key_bytes, field_bytes, entry_bytes, bytes_at, id_of, entries_of_lines, lines_of_bytes}

-- the image that the words make up, with zeros after them
abbrev pub image_of : List ℕ → Image
image_of words = λ w. slice_index words w

-- how many whole lines the words make up
abbrev pub line_count : List ℕ → ℕ
line_count words = length words / LINE_WORDS

-- `count` gaps, each a pair of words, starting at word `first`
abbrev pub gaps_from : Image → ℕ → ℕ → List Gap
gaps_from image first zero = []
gaps_from image first (suc count) = record { first = image first; last = image (first + 1) } ∷ gaps_from image (first + 2) count

-- the `count` words from `first` on are zero
abbrev pub AreZero : Image → ℕ → ℕ → Type 0
AreZero image first count = HasWords image first (replicate count 0)

-- the slot that begins at word `first` has this record number, and zeros in the room after `gaps` gaps
pub record IsFilled (layout : Layout) (image : Image) (first number gaps : ℕ) : Type 0 where
  pub number_is : image first ≡ number
  pub unused : AreZero image (first + GAPS_WORD + 2 * gaps) (gap_room layout - 2 * gaps)

-- the image of `lines` lines has the version of this record, and the record, which has no more gaps than there is room for
pub record IsRecordOf (lines : ℕ) (image : Image) (r : Record) : Type 0 where
  pub version_is : image 1 ≡ version r.layout
  pub has_record : HasRecord lines r image
  pub few : length r.gaps.items ≤ max_gaps r.layout

-- the lengths of entry i are within the limits, and its extent is within the image
pub record IsInFormat (lines : ℕ) (image : Image) (i : ℕ) : Type 0 where
  pub key : key_bytes image i ≤ MAX_KEY_BYTES
  pub field : field_bytes image i ≤ MAX_KEY_BYTES
  pub value : image (entry_word i 7) ≤ MAX_VALUE_BYTES
  pub extent : image (entry_word i 3) + lines_of_bytes (entry_bytes image i) ≤ lines

-- the name and the value of the record in entry i
abbrev pub record_in : Image → ℕ → RecordId × List ℕ
record_in image i =
    let bytes = bytes_at image (image (entry_word i 3)) (entry_bytes image i) in
    (id_of (image (entry_word i 5)) (key_bytes image i) (field_bytes image i) bytes, drop (key_bytes image i + field_bytes image i) bytes)

-- no keyspace has both as two records: they are the same record, or a string and a field of one key
abbrev pub is_clash : RecordId → RecordId → Bool
is_clash other id = pointwise nat_eq (key_of other) (key_of id) && (eq_by_cmp record_cmp other id || is_none (field_of other) || is_none (field_of id))

-- each entry whose begin counts is in the format
abbrev pub AreInFormat : ℕ → Record → Image → Type 0
AreInFormat lines r image = (i : ℕ) → i < entries_of_lines r.layout lines → IsTrue (counts r (image (entry_word i 0))) → IsInFormat lines image i

-- the entries are in the format, and have a map
pub record HasMap (lines : ℕ) (r : Record) (image : Image) : Type 0 where
  pub keyspace : Keyspace
  pub lawful : IsKeyspace keyspace
  pub map : IsMapOf (version_at r image) (entries_of_lines r.layout lines) keyspace
  pub in_format : AreInFormat lines r image

-- the words are those of an image that holds a record and a keyspace, with its entries in the format
pub record IsWhole (words : List ℕ) : Type 0 where
  pub current : Record
  pub superblock : HasSuperblock current.layout (line_count words) (image_of words)
  pub is_record : IsRecordOf (line_count words) (image_of words) current
  pub has_map : HasMap (line_count words) current (image_of words)

-- ---- one entry at a time

-- the version of entry i is added; if it is live, its record was not there before
pub record AddsEntry (versions : ℕ → Option Version) (i : ℕ) (old new : Keyspace) : Type 0 where
  pub added : new ≡ with_version (versions i) old
  pub fresh : (version : Version) → versions i ≡ Some version → version.is_ended ≡ false → value_at old version.id ≡ None

-- entry i is live, and the keyspace has a record that clashes with the entry's
pub record ClashesAt (versions : ℕ → Option Version) (i : ℕ) (s : Keyspace) : Type 0 where
  pub version : Version
  pub begun : versions i ≡ Some version
  pub not_ended : version.is_ended ≡ false
  pub other : RecordId
  pub clash : IsTrue (is_clash other version.id)
  pub there : IsSome (value_at s other)

-- why entry i cannot be added: it is not in the format, or its record clashes
abbrev pub CannotAdd : ℕ → Record → Image → ℕ → Keyspace → Type 0
CannotAdd lines r image i s = (IsTrue (counts r (image (entry_word i 0))) × (IsInFormat lines image i → ⊥)) ⊎ ClashesAt (version_at r image) i s
