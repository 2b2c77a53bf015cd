-- What an engine without a fault maintains about its device.
use Rattle.std.specs.Prelude.{◌≡◌, ℕ, ◌+◌, ◌<◌, ◌≤◌, ◌⊎◌, ◌&&◌, ◌||◌, ◌==◌, Bool, false, nat_eq, nat_lt, if◌then◌else◌, None, IsTrue, List, [], ◌∷◌}
use Rattle.std.proofs.Common.{inl, inr, ap}
use Rattle.std.proofs.Props.{props}
use Rattle.std.proofs.lemmas.Bool.{both_ways}
use Rattle.pmem.specs.Device.{State, Only}
use Rattle.pmem.specs.Crash.{IsImage, image_of}
use Rattle.model.specs.declared.image.TheConstants.{MIN_LINES, MAX_LINES}
use Rattle.model.specs.declared.layout.TheConstants.{DIRECTORY_LINE, SUPERBLOCK_WORDS}
use Rattle.model.specs.declared.record.Gap.{Gap}
use Rattle.model.specs.declared.record.Record.{Record}
use Rattle.model.specs.Layout.{first_word}
use Rattle.model.specs.Image.{Image, HasSuperblock, HasWords, HasRecord, entries_of_lines, directory_end, entry_word, field_bytes, version_at, counts}
use Rattle.model.specs.Group.{Contents}
use Rattle.heap_layout.specs.declared.entry.TheConstants.{STRING_KIND, FIELD_KIND}
use Rattle.heap_layout.specs.Entry.{IsKind, IsEntry}
use Rattle.wbl_record.specs.Current.{AreGaps, IsLawful}

-- what an engine with this record holds over this device. A begin above the record's last stamp belongs to no version: a failed commit left it.
abbrev pub contents_of : Record → State → Contents
contents_of r d =
    record {
      current = r;
      lines = d.lines;
      versions = λ i. if nat_lt i (entries_of_lines r.layout d.lines) then version_at r (image_of d.words) i else None;
      is_free = λ i.
          nat_lt i (entries_of_lines r.layout d.lines)
          && (image_of d.words (entry_word i 0) == 0 || nat_lt r.cp (image_of d.words (entry_word i 0)));
    }

-- the directory has no stamp that was not given out, and each version whose begin counts obeys the rules of entries
pub record IsWhole (r : Record) (lines : ℕ) (image : Image) : Type 0 where
  pub superblock : HasSuperblock r.layout lines image
  pub begins : (i : ℕ) → i < entries_of_lines r.layout lines → image (entry_word i 0) ≤ r.cp
  pub ends : (i : ℕ) → i < entries_of_lines r.layout lines → image (entry_word i 1) ≤ r.cp
  pub entries : (i : ℕ) → i < entries_of_lines r.layout lines → IsTrue (counts r (image (entry_word i 0))) → IsEntry lines image i
  pub positions : (i : ℕ) → i < entries_of_lines r.layout lines → IsTrue (counts r (image (entry_word i 0))) → image (entry_word i 2) ≤ r.position

-- the word belongs to the extent that entry i names
pub record IsInExtent (image : Image) (i word : ℕ) : Type 0 where
  pub low : first_word (image (entry_word i 3)) ≤ word
  pub high : word < first_word (image (entry_word i 3) + image (entry_word i 4))

-- The map depends on this word: it belongs to the superblock's prefix, to the directory, or to the extent of an entry whose begin counts.
abbrev pub Matters : Record → ℕ → Image → ℕ → Type 0
Matters r lines image word =
    (word < SUPERBLOCK_WORDS)
    ⊎ ((first_word DIRECTORY_LINE ≤ word) × (word < first_word (directory_end r.layout lines)))
    ⊎ ((i : ℕ) × (i < entries_of_lines r.layout lines) × IsTrue (counts r (image (entry_word i 0))) × IsInExtent image i word)

-- Each crash leaves the record, and each word on which the map depends as loads return it.
pub record IsAtRest (r : Record) (d : State) : Type 0 where
  pub many : MIN_LINES ≤ d.lines
  pub few : d.lines ≤ MAX_LINES
  pub lawful : IsLawful r
  pub whole : IsWhole r d.lines (image_of d.words)
  pub recorded : (image : Image) → IsImage d.words image → HasRecord d.lines r image
  pub certain : (word : ℕ) → Matters r d.lines (image_of d.words) word → Only (d.words word) (image_of d.words word)

-- The same, but that stamps may be there which no record has yet, as they are while parts of a copy are staged.
pub record IsQuiet (r : Record) (d : State) : Type 0 where
  pub many : MIN_LINES ≤ d.lines
  pub few : d.lines ≤ MAX_LINES
  pub lawful : IsLawful r
  pub superblock : HasSuperblock r.layout d.lines (image_of d.words)
  pub begins : (i : ℕ) → i < entries_of_lines r.layout d.lines → image_of d.words (entry_word i 0) < r.cd
  pub ends : (i : ℕ) → i < entries_of_lines r.layout d.lines → image_of d.words (entry_word i 1) < r.cd
  pub entries : (i : ℕ) → i < entries_of_lines r.layout d.lines → IsTrue (counts r (image_of d.words (entry_word i 0))) → IsEntry d.lines (image_of d.words) i
  pub positions : (i : ℕ) → i < entries_of_lines r.layout d.lines → IsTrue (counts r (image_of d.words (entry_word i 0)))
      → image_of d.words (entry_word i 2) ≤ r.position
  pub recorded : (image : Image) → IsImage d.words image → HasRecord d.lines r image
  pub certain : (word : ℕ) → Matters r d.lines (image_of d.words) word → Only (d.words word) (image_of d.words word)

HasWords-prop : (image : Image) (first : ℕ) (values : List ℕ) → IsProp (HasWords image first values)
HasWords-prop image first [] = hlevel props
HasWords-prop image first (value ∷ values) = hlevel (props, HasWords-prop image (first + 1) values)

pub HasRecord-prop : (lines : ℕ) (r : Record) (image : Image) → IsProp (HasRecord lines r image)
HasRecord-prop lines r image = hlevel (props, HasWords-prop)

-- a kind is not both that of a string and that of a field
one_kind : (kind : ℕ) → kind ≡ STRING_KIND → kind ≡ FIELD_KIND → ⊥
one_kind kind string field =
    both_ways (nat_eq kind STRING_KIND) (ap (λ (n : ℕ). nat_eq n STRING_KIND) field) (ap (λ (n : ℕ). nat_eq n STRING_KIND) string)

IsKind-prop : (image : Image) (i : ℕ) → IsProp (IsKind image i)
IsKind-prop image i (inl string) (inl other) = ap inl (both string other)
  where
    both : IsProp ((image (entry_word i 5) ≡ STRING_KIND) × (field_bytes image i ≡ 0))
    both = hlevel props
IsKind-prop image i (inl string) (inr field) = absurd (one_kind (image (entry_word i 5)) string.0 field)
IsKind-prop image i (inr field) (inl string) = absurd (one_kind (image (entry_word i 5)) string.0 field)
IsKind-prop image i (inr field) (inr other) = ap inr (one field other)
  where
    one : IsProp (image (entry_word i 5) ≡ FIELD_KIND)
    one = hlevel props

pub IsEntry-prop : (lines : ℕ) (image : Image) (i : ℕ) → IsProp (IsEntry lines image i)
IsEntry-prop lines image i = hlevel (props, IsKind-prop)

AreGaps-prop : (low : ℕ) (gaps : List Gap) (cp : ℕ) → IsProp (AreGaps low gaps cp)
AreGaps-prop low [] cp = hlevel props
AreGaps-prop low (gap ∷ gaps) cp = hlevel (props, AreGaps-prop gap.last gaps cp)

pub IsLawful-prop : (r : Record) → IsProp (IsLawful r)
IsLawful-prop r = hlevel (props, AreGaps-prop)

-- it has at most one proof
pub at_rest_prop : (faulted copying : Bool) (r : Record) (d : State) → IsProp (faulted ≡ false → copying ≡ false → IsAtRest r d)
at_rest_prop faulted copying r d = hlevel (props, HasRecord-prop, IsEntry-prop, IsLawful-prop)

-- nor has this more than one: the floor of the device is the present moment
pub synced_prop : (faulted : Bool) (floor now : ℕ) → IsProp (faulted ≡ false → floor ≡ now)
synced_prop faulted floor now = hlevel props
