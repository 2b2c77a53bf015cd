-- What a primary still tells of the keyspaces at which its standby may stand: nothing is freed that a delta may need.
use Rattle.std.specs.Prelude.{◌≡◌, ℕ, ◌+◌, ◌<◌, ◌≤◌, List, [], ◌∷◌, ◌++◌, None, IsTrue, nat_lt, if◌then◌else◌}
use Rattle.std.specs.List.{AllByRecursion}
use Rattle.kv_types.specs.declared.place.EntryNo.{EntryNo}
use Rattle.kv_types.specs.Keyspace.{IsKeyspace, Keyspace, play_all}
use Rattle.model.specs.declared.group.Group.{Group}
use Rattle.model.specs.declared.group.Part.{Part}
use Rattle.model.specs.declared.record.Record.{Record}
use Rattle.model.specs.declared.work.FreeList.{FreeList}
use Rattle.model.specs.declared.work.Work.{Work}
use Rattle.model.specs.Group.{Contents, Versions, changes_of_part, is_listed, entries_of}
use Rattle.model.specs.Image.{Holds, Image, IsMapOf, entries_of_lines, version_at}
use Rattle.mv_keyspace.specs.Table.{records}
use Rattle.wbl_engine.specs.declared.freeing.Freed.{Freed}
use Rattle.group_commit.specs.Group.{groups_of, lists_of}
use Rattle.redis_core.specs.Sequencing.{Sequencing}
use Rattle.standby_stream.specs.declared.opening.Opening.{Opening}
use Rattle.standby_stream.specs.Delta.{Recalls, delta_changes}
use Rattle.primary.specs.declared.back.Back.{Back}
use Rattle.primary.specs.Leading.{Leads}

-- ---- the past

-- the keyspace at each position
abbrev pub Past : Type 0
Past = ℕ → Keyspace

abbrev pub AreKeyspaces : Past → Type 0
AreKeyspaces past = (p : ℕ) → IsKeyspace (past p)

-- up to this position they are the same
abbrev pub AgreeUpTo : ℕ → Past → Past → Type 0
AgreeUpTo position past later = (p : ℕ) → p ≤ position → later p ≡ past p

-- Each part leads from the keyspace at one position to that at the next, one after another from this position on.
abbrev pub LeadAlong : Past → ℕ → List Part → Type 0
LeadAlong past from [] = Unit {0}
LeadAlong past from (part ∷ parts) = (part.position ≡ from + 1) × (play_all (past from) (changes_of_part part) ≡ past (from + 1)) × LeadAlong past (from + 1) parts

-- ---- what is held

-- The version in entry i may be freed only once the standby has passed a position above this one: each free list that has the entry is of such a position,
-- and so is the newest end of what is in no free list, where the entry is there.
pub record IsHeld (lists : List FreeList) (ended : List EntryNo) (newest position i : ℕ) : Type 0 where
  pub lists_are : AllByRecursion (λ list. IsTrue (is_listed i list.entries.items) → position < list.position) lists
  pub ended_is : IsTrue (is_listed i ended) → position < newest

-- what the part ends is held for all positions below its own
abbrev pub HoldsEnded : (ℕ → ℕ → Type 0) → Part → Type 0
HoldsEnded Held part = (position i : ℕ) → position < part.position → IsTrue (is_listed i part.ended.items) → Held position i

-- the group's parts lead along the past, and what they end is held
pub record IsRecalled (Held : ℕ → ℕ → Type 0) (past : Past) (group : Group) : Type 0 where
  pub parts : LeadAlong past group.before group.parts.items
  pub ended : AllByRecursion (HoldsEnded Held) group.parts.items

-- The contents, at this position, recall each keyspace from position `low` on, by versions that are held; and so they will after each group that waits.
pub record Remembers (low position : ℕ) (past : Past) (contents : Contents) (items : List Work) (aside : List FreeList) (s : Sequencing) : Type 0 where
  pub earlier : (p : ℕ) → low ≤ p → p < position → Recalls contents.versions (IsHeld (aside ++ lists_of items) s.ended s.newest p) p (past p)
  pub groups : AllByRecursion (IsRecalled (IsHeld (aside ++ lists_of items) s.ended s.newest) past) (groups_of items)

-- ---- a primary

-- the sequencer serves the keyspace at its position, and the parts that wait lead there from where the last group ends
pub record Follows (past : Past) (s : Sequencing) : Type 0 where
  pub served : records s.table ≡ past s.position
  pub waiting : LeadAlong past s.before s.waiting

-- The live versions are the keyspace at the position of the contents, and each from `low` on up to there is remembered.
pub record KeepsPast (low : ℕ) (past : Past) (contents : Contents) (items : List Work) (aside : List FreeList) (s : Sequencing) : Type 0 where
  pub now : IsMapOf contents.versions (entries_of contents) (past contents.current.position)
  pub follows : Follows past s
  pub remembers : Remembers low contents.current.position past contents items aside s

-- by what is known of an engine
module _ {E : Type 0} (contents : E → Contents) where
  -- of what is in hand there, to this sequencer, from the floor of the record on
  abbrev pub BackKeeps : Past → Back E → Sequencing → Type 0
  BackKeeps past back s = KeepsPast (contents back.committer.engine).current.floor past (contents back.committer.engine) back.work.items back.committer.aside.items s

-- Whatever the committer has in hand, what was remembered is so still, and what is served now is the keyspace at the position that the sequencer is at now.
abbrev pub Recollects : Sequencing → Sequencing → Type 0
Recollects old new =
    (low : ℕ) (past later : Past) (contents : Contents) (items : List Work) (aside : List FreeList) (notices : List Freed) → Leads contents items aside old notices
    → AgreeUpTo old.position past later → later new.position ≡ records new.table → KeepsPast low past contents items aside old → KeepsPast low later contents items aside new

-- ---- an image

-- the contents of an image recall these keyspaces
abbrev pub RecallsEach : ℕ → ℕ → Past → Contents → Type 0
RecallsEach low position past contents = (p : ℕ) → low ≤ p → p < position → Recalls contents.versions (λ i. Unit {0}) p (past p)

-- the versions of an image of `lines` lines under this record
abbrev pub versions_under : ℕ → Record → Image → Versions
versions_under lines r image = λ i. if nat_lt i (entries_of_lines r.layout lines) then version_at r image i else None

-- The image holds the keyspace at the position of its record, and its versions recall each from the record's floor on up to there.
pub record ImageRecalls (past : Past) (image : Image) : Type 0 where
  pub lines : ℕ
  pub current : Record
  pub holds : Holds lines current (past current.position) image
  pub recalls : (p : ℕ) → current.floor ≤ p → p < current.position → Recalls (versions_under lines current image) (λ i. Unit {0}) p (past p)

-- From each position from the opening's floor on, the delta leads to the keyspace at which the primary was opened.
pub record DeltaLeads (opened : ℕ) (past : Past) (opening : Opening) : Type 0 where
  pub position_is : opening.position ≡ opened
  pub leads : (p : ℕ) → opening.floor ≤ p → p < opened → play_all (past p) (delta_changes opening p) ≡ past opened
