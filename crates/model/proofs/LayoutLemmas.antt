-- Where the parts of an image lie, whatever its layout.
use Rattle.std.proofs.Common.{◌≡◌, ℕ, ◌+◌, ◌%◌, ◌<◌, ◌≤◌, ◌⊎◌, inl, inr, refl, arith}
use Rattle.std.proofs.lemmas.Bool.{cases_lt}
use Rattle.model.specs.declared.image.TheConstants.{MIN_LINES}
use Rattle.model.specs.declared.layout.Layout.{Layout}
use Rattle.model.specs.declared.layout.Layout.TheVariants.{Version1, Version2, Halfway}
use Rattle.model.specs.declared.layout.TheConstants.{DIRECTORY_LINE, SUPERBLOCK_WORDS}
use Rattle.model.specs.declared.record.TheConstants.{MAX_GAPS}
use Rattle.model.specs.Layout.{directory_end, directory_room, entries_of_lines, first_extent_line, first_word, max_gaps, role_word, root_word, slot_line, slot_lines, slots_end, version}

-- a version has one layout
pub same_version : (layout other : Layout) → version layout ≡ version other → layout ≡ other
same_version Version1 Version1 e = refl
same_version Version1 Version2 e = absurd (omega arith)
same_version Version1 Halfway e = absurd (omega arith)
same_version Version2 Version1 e = absurd (omega arith)
same_version Version2 Version2 e = refl
same_version Version2 Halfway e = absurd (omega arith)
same_version Halfway Version1 e = absurd (omega arith)
same_version Halfway Version2 e = absurd (omega arith)
same_version Halfway Halfway e = refl

-- each entry has a line of the directory's room
pub entries_fit : (layout : Layout) (lines : ℕ) → entries_of_lines layout lines ≤ directory_room lines
entries_fit Version1 lines = omega arith
entries_fit Version2 lines = omega arith
entries_fit Halfway lines = omega arith

-- a record fills its slot
pub slot_words : (layout : Layout) → first_word (slot_lines layout) ≡ role_word layout + 2
slot_words Version1 = refl
slot_words Version2 = refl
slot_words Halfway = refl

-- a record's gaps have room in memory
pub gaps_fit : (layout : Layout) → max_gaps layout ≤ MAX_GAPS
gaps_fit Version1 = omega arith
gaps_fit Version2 = omega arith
gaps_fit Halfway = omega arith

-- the root is a word of the superblock behind those that say what the image is
pub record RootIn (layout : Layout) : Type 0 where
  pub behind : SUPERBLOCK_WORDS ≤ root_word layout
  pub within : root_word layout < first_word 1

pub root_in : (layout : Layout) → RootIn layout
root_in Version1 = record { behind = omega arith; within = omega arith }
root_in Version2 = record { behind = omega arith; within = omega arith }
root_in Halfway = record { behind = omega arith; within = omega arith }

-- the slots end before the extents begin
pub slots_within : (layout : Layout) (lines : ℕ) → MIN_LINES ≤ lines → slots_end layout lines ≤ first_extent_line lines
slots_within Version1 lines many = omega arith
slots_within Version2 lines many = omega arith
slots_within Halfway lines many = omega arith

-- the slot of record n is behind the superblock, before the extents, and shares no line with the directory
pub record SlotAt (layout : Layout) (lines n : ℕ) : Type 0 where
  pub behind : 1 ≤ slot_line layout lines n
  pub apart : (slot_line layout lines n + slot_lines layout ≤ DIRECTORY_LINE) ⊎ (directory_end layout lines ≤ slot_line layout lines n)
  pub within : slot_line layout lines n + slot_lines layout ≤ slots_end layout lines

pub slot_at : (layout : Layout) (lines n : ℕ) → SlotAt layout lines n
slot_at Version1 lines n = record { behind = omega arith; apart = inl (omega arith); within = omega arith }
slot_at Version2 lines n = record { behind = omega arith; apart = inr (omega arith); within = omega arith }
slot_at Halfway lines n = record { behind = omega arith; apart = inl (omega arith); within = omega arith }

-- the slots of one record and the next are apart
pub slots_apart : (layout : Layout) (lines n : ℕ)
    → (slot_line layout lines n + slot_lines layout ≤ slot_line layout lines (n + 1)) ⊎ (slot_line layout lines (n + 1) + slot_lines layout ≤ slot_line layout lines n)
slots_apart Version1 lines n = elim (cases_lt (n % 2) 1) [ inl even ↦ inl (omega (arith, even)) | inr odd ↦ inr (omega (arith, odd)) ]
slots_apart Version2 lines n = elim (cases_lt (n % 2) 1) [ inl even ↦ inl (omega (arith, even)) | inr odd ↦ inr (omega (arith, odd)) ]
slots_apart Halfway lines n = elim (cases_lt (n % 2) 1) [ inl even ↦ inl (omega (arith, even)) | inr odd ↦ inr (omega (arith, odd)) ]

-- a record has room for some gap
pub some_gaps : (layout : Layout) → 0 < max_gaps layout
some_gaps Version1 = omega arith
some_gaps Version2 = omega arith
some_gaps Halfway = omega arith
