-- A copy is staged part by part, under one stamp that no record has yet. Nothing of it counts until one record takes that stamp.
use Rattle.std.specs.Prelude.{◌≡◌, ◌≢◌, ℕ, ◌+◌, ◌<◌, ◌≤◌, ◌⊎◌, Bool, true, false, not, ◌&&◌, nat_eq, nat_lt, if◌then◌else◌, List, [], ◌∷◌, map, Option, None, Some, is_none}
use Rattle.std.specs.List.{AllByRecursion, IsDistinct}
use Rattle.std.proofs.Common.{Less, ap}
use Rattle.std.proofs.Props.{props}
use Rattle.kv_types.specs.declared.place.EntryNo.{EntryNo}
use Rattle.kv_types.specs.declared.place.Extent.{Extent}
use Rattle.kv_types.specs.declared.record_id.RecordId.{RecordId}
use Rattle.kv_types.specs.Keyspace.{record_cmp}
use Rattle.pmem.specs.Device.{State, Only}
use Rattle.pmem.specs.Crash.{IsImage, image_of}
use Rattle.model.specs.declared.group.Put.{Put}
use Rattle.model.specs.declared.image.TheConstants.{COUNTER_LIMIT, MIN_LINES, MAX_LINES, STAMP_WINDOW}
use Rattle.model.specs.declared.record.Gap.{Gap}
use Rattle.model.specs.declared.record.Record.{Record}
use Rattle.model.specs.declared.record.Role.TheVariants.{Newcomer, Standby}
use Rattle.model.specs.Group.{AreAllApart, AreApart, Contents, HasItsLines, IsPlaced, IsUnused, Versions, entries_of, extents_of, is_listed}
use Rattle.model.specs.Image.{Image, HasRecord, HasSuperblock, Version, counts, entries_of_lines, entry_word, version_in}
use Rattle.model.specs.ReadImage.{is_clash}
use Rattle.heap_layout.specs.Entry.{IsEntry}
use Rattle.wbl_record.specs.Current.{IsLawful}
use Rattle.wbl_engine.specs.AtRest.{Matters, HasRecord-prop, IsEntry-prop, IsLawful-prop}

-- ---- what is staged

-- what is staged in each entry of a device whose current record is r, while parts of a copy are: the begin is above the record's last stamp
abbrev pub staged_of : Bool → Record → State → Versions
staged_of copying r d =
    λ i.
    if copying && (nat_lt i (entries_of_lines r.layout d.lines) && nat_lt r.cp (image_of d.words (entry_word i 0)))
    then Some (version_in r (image_of d.words) i)
    else None

-- a free entry at which nothing is staged
abbrev pub is_unstaged : Contents → Versions → ℕ → Bool
is_unstaged contents staged i = contents.is_free i && is_none (staged i)

-- no staged version is of a record that no keyspace has beside the put's
abbrev pub IsFresh : Versions → Put → Type 0
IsFresh staged put = (i : ℕ) (version : Version) → staged i ≡ Some version → is_clash version.id put.id ≡ false

-- some keyspace has the records of all these puts
abbrev pub AreAllDistinct : List Put → Type 0
AreAllDistinct [] = Unit {0}
AreAllDistinct (put ∷ puts) = AllByRecursion (λ other. is_clash put.id other.id ≡ false) puts × AreAllDistinct puts

-- All that staging a part requires of its puts: the image is a newcomer's and holds nothing, and no put takes an entry, a line or a record of another one, nor
-- of what is staged.
pub record AreStageable (contents : Contents) (staged : Versions) (puts : List Put) : Type 0 where
  pub newcomer : contents.current.role ≡ Newcomer
  pub empty : (i : ℕ) → contents.versions i ≡ None
  pub placed : AllByRecursion (IsPlaced (entries_of contents) contents.lines) puts
  pub fitting : AllByRecursion HasItsLines puts
  pub unused : AllByRecursion (IsUnused staged (is_unstaged contents staged)) puts
  pub apart : AreAllApart puts
  pub fresh : AllByRecursion (IsFresh staged) puts
  pub distinct : AreAllDistinct puts

-- The staged versions may count together: they are of the directory, no two have a line in common, and some keyspace has all their records.
pub record IsCopy (entries : ℕ) (staged : Versions) : Type 0 where
  pub within : (i : ℕ) (version : Version) → staged i ≡ Some version → i < entries
  pub live : (i : ℕ) (version : Version) → staged i ≡ Some version → version.is_ended ≡ false
  pub apart : (i j : ℕ) (v w : Version) → i ≢ j → staged i ≡ Some v → staged j ≡ Some w → AreApart v.first_line v.lines w.first_line w.lines
  pub distinct : (i j : ℕ) (v w : Version) → i ≢ j → staged i ≡ Some v → staged j ≡ Some w → is_clash v.id w.id ≡ false

-- ---- parts whose records rise, as a sender tells them

-- The record may follow the last one: it comes after it, and some keyspace has both. The first one may be any.
abbrev pub Follows : Option RecordId → RecordId → Type 0
Follows None id = Unit {0}
Follows (Some last) id = (record_cmp last id ≡ Less) × (is_clash last id ≡ false)

-- each put's record may follow the one before it, and that of the first put this one
abbrev pub AreRising : Option RecordId → List Put → Type 0
AreRising last [] = Unit {0}
AreRising last (put ∷ puts) = Follows last put.id × AreRising (Some put.id) puts

-- the record of the last put, or this one where there is none
abbrev pub last_record : Option RecordId → List Put → Option RecordId
last_record last [] = last
last_record last (put ∷ puts) = last_record (Some put.id) puts

-- the record is the last one, or comes before it, and some keyspace has both
abbrev pub IsUpTo : Option RecordId → RecordId → Type 0
IsUpTo None id = ⊥
IsUpTo (Some last) id = (id ≡ last) ⊎ ((record_cmp id last ≡ Less) × (is_clash id last ≡ false))

-- no staged record comes after the last one
abbrev pub AreUpTo : Option RecordId → Versions → Type 0
AreUpTo last staged = (i : ℕ) (version : Version) → staged i ≡ Some version → IsUpTo last version.id

-- ---- the record that ends a copy

-- the next record, with the stamp of the copy and its position, and a standby's
abbrev pub copied_record : Record → ℕ → Record
copied_record r position =
    record r { number = r.number + 1; position = position; cp = r.cp + 1; cd = r.cp + 1 + 1 + STAMP_WINDOW; role = Standby }

-- the contents under that record: what was staged is all that they hold
abbrev pub after_copy : Contents → Versions → ℕ → Contents
after_copy contents staged position =
    record {
      current = copied_record contents.current position;
      lines = contents.lines;
      versions = staged;
      is_free = is_unstaged contents staged;
    }

-- All that ending a copy at this position requires: the image is a newcomer's and holds nothing, and what is staged was made up to this position.
pub record IsCopied (contents : Contents) (staged : Versions) (position : ℕ) : Type 0 where
  pub newcomer : contents.current.role ≡ Newcomer
  pub empty : (i : ℕ) → contents.versions i ≡ None
  pub made : (i : ℕ) (version : Version) → staged i ≡ Some version → version.position ≤ position

-- a counter of that record would reach the limit
abbrev pub ExhaustsCopy : Record → ℕ → Type 0
ExhaustsCopy r position =
    (COUNTER_LIMIT ≤ (copied_record r position).cd) ⊎ (COUNTER_LIMIT ≤ position) ⊎ (COUNTER_LIMIT ≤ (copied_record r position).number)

-- ---- what was staged is dropped

-- the one stamp of a copy
abbrev pub copy_gap : Record → Gap
copy_gap r = record { first = r.cp + 1; last = r.cp + 1 }

-- these are the entries of what was staged, each once, and its extents in the same order
pub record Drops (staged : Versions) (entries : List EntryNo) (extents : List Extent) : Type 0 where
  pub listed : (i : ℕ) → is_listed i entries ≡ not (is_none (staged i))
  pub once : IsDistinct nat_eq (map (λ entry. entry.0) entries)
  pub extents_are : extents ≡ extents_of staged entries

-- ---- calls that neither stage nor end a copy

-- the call leaves a copy as it was: it begins none and ends none, and while parts of one are staged it changes nothing
abbrev pub LeavesCopy : {E : Type 0} → (E → Bool) → E → E → Type 0
LeavesCopy is_copying old new = (is_copying new ≡ is_copying old) × (is_copying old ≡ true → new ≡ old)

-- ---- a device on which parts of a copy are staged

-- the record with the stamp of the copy
abbrev pub with_copy : Record → Record
with_copy r = record r { cp = r.cp + 1 }

-- No begin counts, nor is any above the stamp of the copy. What has that stamp obeys the rules of entries, and has not ended.
pub record AreHalf (r : Record) (lines : ℕ) (image : Image) : Type 0 where
  pub superblock : HasSuperblock r.layout lines image
  pub begins : (i : ℕ) → i < entries_of_lines r.layout lines → image (entry_word i 0) ≤ r.cp + 1
  pub ends : (i : ℕ) → i < entries_of_lines r.layout lines → image (entry_word i 1) ≤ r.cp
  pub uncounted : (i : ℕ) → i < entries_of_lines r.layout lines → counts r (image (entry_word i 0)) ≡ false
  pub entries : (i : ℕ) → i < entries_of_lines r.layout lines → r.cp < image (entry_word i 0) → IsEntry lines image i
  pub live : (i : ℕ) → i < entries_of_lines r.layout lines → r.cp < image (entry_word i 0) → image (entry_word i 1) ≡ 0

-- Each crash leaves the newcomer's record, and each word on which what is staged depends as loads return it.
pub record IsHalf (r : Record) (d : State) : Type 0 where
  pub many : MIN_LINES ≤ d.lines
  pub few : d.lines ≤ MAX_LINES
  pub lawful : IsLawful r
  pub newcomer : r.role ≡ Newcomer
  pub half : AreHalf r d.lines (image_of d.words)
  pub recorded : (image : Image) → IsImage d.words image → HasRecord d.lines r image
  pub certain : (word : ℕ) → Matters (with_copy r) d.lines (image_of d.words) word → Only (d.words word) (image_of d.words word)

-- it has at most one proof
pub half_prop : (faulted copying : Bool) (r : Record) (d : State) → IsProp (faulted ≡ false → copying ≡ true → IsHalf r d)
half_prop faulted copying r d = hlevel (props, HasRecord-prop, IsEntry-prop, IsLawful-prop)

-- where no copy is under way nothing is staged
pub idle : (r : Record) (d : State) (copying : Bool) → copying ≡ false → (i : ℕ) → staged_of copying r d i ≡ None
idle r d copying none i =
    ap (λ (begun : Bool). staged_of begun r d i) none
