-- What a commit stores before it writes the record, and which lines it flushes.
use Rattle.std.specs.Prelude.{ℕ, ◌+◌, ◌<◌, ◌≤◌, List, [], ◌∷◌, ◌++◌, length, map}
use Rattle.std.specs.List.{flat_map, AllByRecursion}
use Rattle.kv_types.specs.declared.limits.TheConstants.{MAX_VALUE_BYTES}
use Rattle.kv_types.specs.declared.place.EntryNo.{EntryNo}
use Rattle.model.specs.declared.group.Part.{Part}
use Rattle.model.specs.declared.group.PlacedChange.{PlacedChange}
use Rattle.model.specs.declared.group.Put.{Put}
use Rattle.model.specs.Image.{entry_line, entry_word}
use Rattle.model.specs.Group.{put_of, puts_of_part}
use Rattle.heap_layout.specs.Put.{put_pairs, put_lines, IsShortName, IsStorable}

-- the put can be read back, and its name and its value are within their limits
pub record IsWritable (put : Put) : Type 0 where
  pub storable : IsStorable put
  pub name : IsShortName put.id
  pub value : length put.value ≤ MAX_VALUE_BYTES

-- all puts of changes, in order
abbrev pub puts_of_changes : List PlacedChange → List Put
puts_of_changes = flat_map put_of

-- all puts of parts, in order
abbrev pub puts_of_parts : List Part → List Put
puts_of_parts = flat_map puts_of_part

-- what puts store
abbrev pub puts_pairs : ℕ → ℕ → List Put → List (ℕ × ℕ)
puts_pairs stamp position = flat_map (put_pairs stamp position)

-- the end words of these entries
abbrev pub end_pairs : ℕ → List EntryNo → List (ℕ × ℕ)
end_pairs stamp ended = map (λ entry. (entry_word entry.0 1, stamp)) ended

-- a part takes one stamp
abbrev pub part_pairs : ℕ → Part → List (ℕ × ℕ)
part_pairs stamp part = puts_pairs stamp part.position (puts_of_part part) ++ end_pairs stamp part.ended.items

-- the first part takes `stamp`, and each later part the next one
abbrev pub parts_pairs : ℕ → List Part → List (ℕ × ℕ)
parts_pairs stamp [] = []
parts_pairs stamp (part ∷ parts) = part_pairs stamp part ++ parts_pairs (stamp + 1) parts

-- the lines of puts
abbrev pub puts_lines : List Put → List ℕ
puts_lines = flat_map put_lines

-- the lines of these entries
abbrev pub end_lines : List EntryNo → List ℕ
end_lines ended = map (λ entry. entry_line entry.0) ended

abbrev pub part_lines : Part → List ℕ
part_lines part = puts_lines (puts_of_part part) ++ end_lines part.ended.items

abbrev pub parts_lines : List Part → List ℕ
parts_lines = flat_map part_lines

-- the device has the lines of these entries
abbrev pub AreWithin : ℕ → List EntryNo → Type 0
AreWithin lines = AllByRecursion (λ entry. entry_line entry.0 < lines)

-- the device has the lines of the entries that the parts ended
abbrev pub AreEndsWithin : ℕ → List Part → Type 0
AreEndsWithin lines = AllByRecursion (λ part. AreWithin lines part.ended.items)
