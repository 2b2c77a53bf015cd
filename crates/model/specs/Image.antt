-- What the words of an image mean (this project's profile of write-behind logging: Arulraj, Perron, Pavlo, PVLDB 10(4), 2016).
-- An image maps the number of each word to its value. Its layout says where its parts lie.
use Rattle.std.specs.Prelude.{◌≡◌, ℕ, zero, suc, ◌+◌, ◌-◌, ◌/◌, ◌%◌, ◌<◌, Bool, false, not, ◌&&◌, ◌==◌, nat_lt, nat_le, if◌then◌else◌, List, [], ◌∷◌, ◌++◌, length, take, drop, replicate, Option, Some, None, codes}
use Rattle.std.specs.List.{list_any, flat_map}
use Rattle.std.specs.Int.{w64, to_le_bytes, from_le_bytes}
use Rattle.kv_types.specs.declared.record_id.RecordId.{RecordId}
use Rattle.kv_types.specs.declared.record_id.RecordId.TheVariants.{Str, Field}
use Rattle.kv_types.specs.Keyspace.{Keyspace, value_at, with_record}
use Rattle.model.specs.declared.layout.Layout.{Layout}
use Rattle.model.specs.declared.layout.TheConstants.{FIELD_LENGTH_UNIT, LINE_BYTES, WORD_BYTES}
pub use Rattle.model.specs.Layout.{directory_end, directory_room, entries_of_lines, entry_line, first_extent_line, gap_room, record_word, root_word, slot_line, slots_end}
use Rattle.model.specs.Layout as layouts
use Rattle.model.specs.declared.record.Gap.{Gap}
use Rattle.model.specs.declared.record.Record.{Record}
use Rattle.model.specs.declared.record.Role.{Role}
use Rattle.model.specs.declared.record.Role.TheVariants.{Newcomer, Primary, Standby}

abbrev pub Image : Type 0
Image = ℕ → ℕ

-- the words of the image from `first` on have these values
abbrev pub HasWords : Image → ℕ → List ℕ → Type 0
HasWords image first [] = Unit {0}
HasWords image first (value ∷ values) = (image first ≡ value) × HasWords image (first + 1) values

-- `count` consecutive words, starting at `first`
abbrev pub words_from : Image → ℕ → ℕ → List ℕ
words_from image first zero = []
words_from image first (suc count) = image first ∷ words_from image (first + 1) count

-- ---- the superblock, line 0

-- the first word of an image: these eight bytes, as they lie in it, the lowest first
abbrev pub magic_number : ℕ
magic_number = from_le_bytes w64 (codes "WBLIMG01")

-- it says that the image has this layout and so many lines
pub record HasSuperblock (layout : Layout) (lines : ℕ) (image : Image) : Type 0 where
  pub magic : image 0 ≡ magic_number
  pub version : image 1 ≡ layouts.version layout
  pub line_count : image 2 ≡ lines
  pub room : image 3 ≡ directory_room lines

-- ---- records, in two slots that take turns

abbrev pub role_number : Role → ℕ
role_number Primary = 1
role_number Standby = 2
role_number Newcomer = 3

abbrev pub gap_words : Gap → List ℕ
gap_words gap = gap.first ∷ gap.last ∷ []

-- the pairs of the gaps, and zeros in the rest of `room` words
abbrev pub gaps_words : ℕ → List Gap → List ℕ
gaps_words room gaps = take room (flat_map gap_words gaps ++ replicate room 0)

-- the words of a record
abbrev pub record_words : Record → List ℕ
record_words r =
    r.number ∷ r.position ∷ r.cp ∷ r.cd ∷ r.epoch ∷ length r.gaps.items ∷ gaps_words (gap_room r.layout) r.gaps.items ++ role_number r.role ∷ r.floor ∷ []

-- the current record of an image of `lines` lines: the root names it, and its slot holds it
pub record HasRecord (lines : ℕ) (r : Record) (image : Image) : Type 0 where
  pub root : image (root_word r.layout) ≡ r.number
  pub words : HasWords image (record_word r.layout lines r.number 0) (record_words r)

abbrev pub is_in_gap : ℕ → Gap → Bool
is_in_gap stamp gap = nat_le gap.first stamp && nat_le stamp gap.last

-- the stamp was committed: it is 1 to cp, and in no gap
abbrev pub counts : Record → ℕ → Bool
counts r stamp = nat_lt 0 stamp && nat_le stamp r.cp && not (list_any (is_in_gap stamp) r.gaps.items)

-- ---- the directory, one entry per line, and the extents

-- word k of entry i
abbrev pub entry_word : ℕ → ℕ → ℕ
entry_word i k = layouts.line_word (entry_line i) k

-- how many lines `bytes` bytes take: at least one
abbrev pub lines_of_bytes : ℕ → ℕ
lines_of_bytes bytes = if bytes == 0 then 1 else (bytes + (LINE_BYTES - 1)) / LINE_BYTES

-- `count` bytes from the start of `line` on, the lowest byte of each word first
abbrev pub bytes_at : Image → ℕ → ℕ → List ℕ
bytes_at image line count = take count (flat_map (to_le_bytes w64) (words_from image (layouts.first_word line) ((count + (WORD_BYTES - 1)) / WORD_BYTES)))

-- the name of a record whose bytes begin with its key and field
abbrev pub id_of : ℕ → ℕ → ℕ → List ℕ → RecordId
id_of kind key_bytes field_bytes bytes =
    if kind == 2 then Field (take key_bytes bytes) (take field_bytes (drop key_bytes bytes)) else Str (take key_bytes bytes)

-- a version of a record: one directory entry and its extent
pub record Version : Type 0 where
  pub id : RecordId
  pub value : List ℕ
  -- the position of the list at which it was made
  pub position : ℕ
  pub first_line : ℕ
  pub lines : ℕ
  -- a later change ended it
  pub is_ended : Bool

-- how many bytes the key of entry i has, and how many its field
abbrev pub key_bytes : Image → ℕ → ℕ
key_bytes image i = image (entry_word i 6) % FIELD_LENGTH_UNIT

abbrev pub field_bytes : Image → ℕ → ℕ
field_bytes image i = image (entry_word i 6) / FIELD_LENGTH_UNIT

-- how many bytes the record in entry i has: key, field and value
abbrev pub entry_bytes : Image → ℕ → ℕ
entry_bytes image i = key_bytes image i + field_bytes image i + image (entry_word i 7)

-- the version in entry i, whose begin counts
abbrev pub version_in : Record → Image → ℕ → Version
version_in r image i =
    let bytes = bytes_at image (image (entry_word i 3)) (entry_bytes image i) in
    record {
      id = id_of (image (entry_word i 5)) (key_bytes image i) (field_bytes image i) bytes;
      value = drop (key_bytes image i + field_bytes image i) bytes;
      position = image (entry_word i 2);
      first_line = image (entry_word i 3);
      lines = image (entry_word i 4);
      is_ended = counts r (image (entry_word i 1));
    }

-- the version of entry i, if it was begun
abbrev pub version_at : Record → Image → ℕ → Option Version
version_at r image i = if counts r (image (entry_word i 0)) then Some (version_in r image i) else None

-- ---- the map of an image

-- entry i holds a live version of this record, with this value
pub record IsLive (versions : ℕ → Option Version) (i : ℕ) (id : RecordId) (value : List ℕ) : Type 0 where
  pub version : Version
  pub begun : versions i ≡ Some version
  pub not_ended : version.is_ended ≡ false
  pub id_is : version.id ≡ id
  pub value_is : version.value ≡ value

-- The keyspace maps the records of all live versions to their values, and no record is live twice.
pub record IsMapOf (versions : ℕ → Option Version) (entries : ℕ) (s : Keyspace) : Type 0 where
  pub held : (id : RecordId) (value : List ℕ) → value_at s id ≡ Some value → (i : ℕ) × (i < entries) × IsLive versions i id value
  pub found : (i : ℕ) (id : RecordId) (value : List ℕ) → i < entries → IsLive versions i id value → value_at s id ≡ Some value
  pub once : (i j : ℕ) (id : RecordId) (v w : List ℕ) → i < entries → j < entries → IsLive versions i id v → IsLive versions j id w → i ≡ j

-- the keyspace with the record of a version added, if the version is live
abbrev pub with_version : Option Version → Keyspace → Keyspace
with_version None s = s
with_version (Some version) s = if version.is_ended then s else with_record version.id version.value s

-- the map, computed from the entries below this number
unfoldable pub map_below : (ℕ → Option Version) → ℕ → Keyspace
map_below versions zero = []
map_below versions (suc i) = with_version (versions i) (map_below versions i)

-- the image is whole, has this record, and its map is this keyspace
pub record Holds (lines : ℕ) (r : Record) (s : Keyspace) (image : Image) : Type 0 where
  pub superblock : HasSuperblock r.layout lines image
  pub has_record : HasRecord lines r image
  pub map : IsMapOf (version_at r image) (entries_of_lines r.layout lines) s
