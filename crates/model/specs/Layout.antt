-- Where the parts of an image lie, by its layout. A line is 8 words, and line 0 is the superblock (this project's profile).
use Rattle.std.specs.Prelude.{ℕ, ◌+◌, ◌-◌, ◌*◌, ◌/◌, ◌%◌}
use Rattle.model.specs.declared.layout.Layout.{Layout}
use Rattle.model.specs.declared.layout.Layout.TheVariants.{Version1, Version2, Halfway}
use Rattle.model.specs.declared.layout.TheConstants.{DIRECTORY_LINE, ENTRY_SHARE, GAPS_WORD, LINE_WORDS}

-- the first word of a line, and the word that is `k` words after it
abbrev pub first_word : ℕ → ℕ
first_word line = LINE_WORDS * line

abbrev pub line_word : ℕ → ℕ → ℕ
line_word line k = first_word line + k

-- what word 1 of an image says
abbrev pub version : Layout → ℕ
version Version1 = 1
version Version2 = 2
version Halfway = 3

-- ---- the directory, and the extents behind it

-- how many lines an image of `lines` lines has for its directory, with the slots behind it
abbrev pub directory_room : ℕ → ℕ
directory_room lines = lines / ENTRY_SHARE

-- how many lines a record slot has
abbrev pub slot_lines : Layout → ℕ
slot_lines Version1 = 3
slot_lines Version2 = 9
slot_lines Halfway = 3

-- how many entries the directory has in an image of `lines` lines
abbrev pub entries_of_lines : Layout → ℕ → ℕ
entries_of_lines Version1 lines = directory_room lines
entries_of_lines Version2 lines = directory_room lines - 2 * slot_lines Version2
entries_of_lines Halfway lines = directory_room lines - 2 * slot_lines Version2

-- the line of entry i
abbrev pub entry_line : ℕ → ℕ
entry_line i = DIRECTORY_LINE + i

-- the line after the last entry
abbrev pub directory_end : Layout → ℕ → ℕ
directory_end layout lines = entry_line (entries_of_lines layout lines)

-- the first line of the extents, which follow the directory and the slots behind it
abbrev pub first_extent_line : ℕ → ℕ
first_extent_line lines = DIRECTORY_LINE + directory_room lines

-- ---- records, in two slots that take turns

-- the word of the superblock that names the current record
abbrev pub root_word : Layout → ℕ
root_word Version1 = 4
root_word Version2 = 5
root_word Halfway = 4

-- the first line of slot 0, and the line after slot 1
abbrev pub first_slot_line : Layout → ℕ → ℕ
first_slot_line Version1 lines = 1
first_slot_line Version2 lines = directory_end Version2 lines
first_slot_line Halfway lines = 1

abbrev pub slots_end : Layout → ℕ → ℕ
slots_end layout lines = first_slot_line layout lines + 2 * slot_lines layout

-- the first line of the slot of record n
abbrev pub slot_line : Layout → ℕ → ℕ → ℕ
slot_line layout lines n = first_slot_line layout lines + slot_lines layout * (n % 2)

-- word k of the slot of record n
abbrev pub record_word : Layout → ℕ → ℕ → ℕ → ℕ
record_word layout lines n k = line_word (slot_line layout lines n) k

-- how many gaps a record holds at most
abbrev pub max_gaps : Layout → ℕ
max_gaps Version1 = 8
max_gaps Version2 = 32
max_gaps Halfway = 8

-- how many words a record has for its gaps
abbrev pub gap_room : Layout → ℕ
gap_room layout = 2 * max_gaps layout

-- the word of a record that holds its role, after the gaps
abbrev pub role_word : Layout → ℕ
role_word layout = GAPS_WORD + gap_room layout
