-- Stamps that are erased, to free an entry or to clear a gap.
use Rattle.std.specs.Prelude.{ℕ, zero, suc, List, [], ◌∷◌, ◌++◌, map, if◌then◌else◌, slice_index_or}
use Rattle.kv_types.specs.declared.place.EntryNo.{EntryNo}
use Rattle.kv_types.specs.declared.place.Extent.{Extent}
use Rattle.model.specs.declared.record.Gap.{Gap}
use Rattle.model.specs.declared.record.Record.{Record}
use Rattle.model.specs.Image.{Image, entry_word, is_in_gap}
use Rattle.wbl_engine.specs.Stage.{end_lines}

-- zeros in word k of these entries
abbrev pub zero_pairs : ℕ → List EntryNo → List (ℕ × ℕ)
zero_pairs k entries = map (λ entry. (entry_word entry.0 k, 0)) entries

-- zeros in the begins of some entries and in the ends of others, and the lines of both
abbrev pub erase_pairs : List EntryNo → List EntryNo → List (ℕ × ℕ)
erase_pairs begins ends = zero_pairs 0 begins ++ zero_pairs 1 ends

abbrev pub erase_lines : List EntryNo → List EntryNo → List ℕ
erase_lines begins ends = end_lines begins ++ end_lines ends

-- the extent that entry i names
abbrev pub extent_in : Image → ℕ → Extent
extent_in image i = record { first_line = image (entry_word i 3); lines = image (entry_word i 4) }

-- ---- the stamps of a gap

-- the oldest gap of a record that has one
abbrev pub oldest_gap : Record → Gap
oldest_gap r = slice_index_or r.gaps.items 0 (record { first = 0; last = 0 })

-- entry i, if its word k lies in the gap
abbrev pub stamped_at : Gap → Image → ℕ → ℕ → List EntryNo
stamped_at gap image k i = if is_in_gap (image (entry_word i k)) gap then record { 0 = i } ∷ [] else []

-- the entries below this number whose word k, 0 for the begin and 1 for the end, lies in the gap, in rising order
abbrev pub stamped_below : Gap → Image → ℕ → ℕ → List EntryNo
stamped_below gap image k zero = []
stamped_below gap image k (suc i) = stamped_below gap image k i ++ stamped_at gap image k i
