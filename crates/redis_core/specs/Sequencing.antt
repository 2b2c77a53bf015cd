-- What a sequencer holds, and when its tables say what an engine will hold once the waiting parts have committed.
use Rattle.std.specs.Prelude.{◌≡◌, ℕ, Bool, not, ◌&&◌, nat_eq, if◌then◌else◌, List, [], ◌∷◌, ◌++◌, Option, None, length, ◌≤◌, ◌<◌}
use Rattle.std.specs.List.{flat_map, AllByRecursion, IsDistinct}
use Rattle.kv_types.specs.declared.place.EntryNo.{EntryNo}
use Rattle.kv_types.specs.declared.place.Extent.{Extent}
use Rattle.model.specs.declared.work.FreeList.{FreeList}
use Rattle.model.specs.declared.group.Group.{Group}
use Rattle.model.specs.declared.group.TheConstants.{MAX_PARTS}
use Rattle.model.specs.declared.group.Part.{Part}
use Rattle.model.specs.declared.group.Put.{Put}
use Rattle.model.specs.Call.{is_nonempty}
use Rattle.model.specs.State.{State}
use Rattle.model.specs.Group.{Contents, AreAllApart, AreParts, HasItsLines, IsPlaced, IsUnused, IsGroup, IsConsistent, AreEnded, after_group, is_put_at, last_position, parts_versions, puts_of_part, entries_of}
use Rattle.extent_heap.specs.Room.{Room}
use Rattle.multi_watch.specs.Session.{Session}
use Rattle.multi_watch.specs.Sessions.{Sessions, session_at, Moves}
use Rattle.mv_keyspace.specs.Table.{Table, IsTable, records}
use Rattle.mv_keyspace.specs.Row.{numbers_of}
use Rattle.placing.specs.Back.{ComesBack, GivesAll}
use Rattle.placing.specs.Left.{IsTaken, IsLeftOf}
use Rattle.redis_core.specs.Copying.{CopyOf}
use Rattle.redis_core.specs.Seats.{is_closed_at}

pub record Sequencing : Type 0 where
  -- each live record with its value and its entry
  pub table : Table
  -- the lines and entries that are free
  pub room : Room
  -- the position of the list of calls
  pub position : ℕ
  -- which primary of the pair this is: the epoch of each group
  pub epoch : ℕ
  -- the position before the oldest part that waits
  pub before : ℕ
  -- what each changing command that is in no group yet did, oldest first
  pub waiting : List Part
  -- entries of versions that have ended, by groups that were handed out or before the primary was opened, in no free list yet
  pub ended : List EntryNo
  -- the position of the newest of their ends
  pub newest : ℕ
  -- for each seat its session, none where the seat is closed
  pub sessions : Sessions
  -- the copy of an earlier position that is being given, if any
  pub copy : Option CopyOf

-- the state that calls are made at, each by a seat
abbrev pub state_of : Sequencing → State
state_of s = record { keyspace = records s.table; sessions = session_at s.sessions }

-- no connection is open there
abbrev pub is_closed : Sequencing → ℕ → Bool
is_closed s seat = is_closed_at s.sessions seat

-- The seat has this session afterwards, or none, and nothing else moved.
pub record MovesSeat (old : Sequencing) (seat : ℕ) (now : Option Session) (new : Sequencing) : Type 0 where
  pub table : new.table ≡ old.table
  pub room : new.room ≡ old.room
  pub position : new.position ≡ old.position
  pub epoch : new.epoch ≡ old.epoch
  pub before : new.before ≡ old.before
  pub waiting : new.waiting ≡ old.waiting
  pub ended : new.ended ≡ old.ended
  pub newest : new.newest ≡ old.newest
  pub sessions : Moves old.sessions seat now new.sessions
  pub copy : new.copy ≡ old.copy

-- The copy is this one afterwards, or none, and nothing else moved.
abbrev pub MovesCopy : Sequencing → Option CopyOf → Sequencing → Type 0
MovesCopy old now new = new ≡ record old { copy = now }

abbrev pub puts_of_parts : List Part → List Put
puts_of_parts = flat_map puts_of_part

-- the entries that the parts ended, in order
abbrev pub ended_by_parts : List Part → List EntryNo
ended_by_parts = flat_map (λ part. part.ended.items)

-- the position of the newest end after these parts, where it was this one before
abbrev pub newest_end : ℕ → List Part → ℕ
newest_end newest [] = newest
newest_end newest (part ∷ parts) = newest_end (if is_nonempty part.ended.items then part.position else newest) parts

-- the part names no entry twice
abbrev pub NamesOnce : Part → Type 0
NamesOnce part = IsDistinct nat_eq (numbers_of part.ended.items)

-- The sequencer is ahead of an engine with these contents by the parts that wait, and by nothing else: what commits will require of these parts
-- holds, and the table is that of the versions after them.
pub record IsAheadOf (s : Sequencing) (contents : Contents) : Type 0 where
  pub epoch : s.epoch ≡ contents.current.epoch
  pub before : s.before ≡ contents.current.position
  pub last : last_position s.before s.waiting ≡ s.position
  pub parts : AreParts s.before contents.versions s.waiting
  pub once : AllByRecursion NamesOnce s.waiting
  pub placed : AllByRecursion (IsPlaced (entries_of contents) contents.lines) (puts_of_parts s.waiting)
  pub fitting : AllByRecursion HasItsLines (puts_of_parts s.waiting)
  pub unused : AllByRecursion (IsUnused contents.versions contents.is_free) (puts_of_parts s.waiting)
  pub empty : AllByRecursion (λ put. contents.versions put.entry.0 ≡ None) (puts_of_parts s.waiting)
  pub apart : AreAllApart (puts_of_parts s.waiting)
  pub taken : AllByRecursion (IsTaken s.room) (puts_of_parts s.waiting)
  pub left : IsLeftOf contents s.room
  pub table : IsTable (parts_versions contents.versions s.waiting) s.table

-- Tables with which a sequencer may start over these contents: nothing waits, and what the heap has left is free in the contents.
pub record Underlies (contents : Contents) (table : Table) (room : Room) (position epoch : ℕ) : Type 0 where
  pub position_is : position ≡ contents.current.position
  pub epoch_is : epoch ≡ contents.current.epoch
  pub left : IsLeftOf contents room
  pub table_is : IsTable contents.versions table

-- the contents with all that waits
abbrev pub contents_ahead : Contents → List Part → Contents
contents_ahead contents waiting =
    record contents {
      versions = parts_versions contents.versions waiting;
      is_free = λ i. contents.is_free i && not (is_put_at i (puts_of_parts waiting));
    }

-- these entries and extents will come back to the heap, of an engine with these contents: no version has them then, nor after the parts that wait
abbrev pub Expects : Sequencing → Contents → List EntryNo → List Extent → Type 0
Expects s contents = ComesBack (contents_ahead contents s.waiting) s.room

-- a new sequencer over these tables, with entries of versions that ended at this position or below
abbrev pub starts : Table → Room → List EntryNo → ℕ → ℕ → Sessions → Sequencing
starts table room ended position epoch sessions =
    record {
      table = table;
      room = room;
      position = position;
      epoch = epoch;
      before = position;
      waiting = [];
      ended = ended;
      newest = position;
      sessions = sessions;
      copy = None;
    }

-- All that has ended and is in no free list leaves as one.
pub record HandsList (old : Sequencing) (list : FreeList) (new : Sequencing) : Type 0 where
  pub entries : list.entries.items ≡ old.ended
  pub position : list.position ≡ old.newest
  pub after : new ≡ record old { ended = [] }

-- Places came back to the heap, and nothing else moved.
pub record TakesBack (old : Sequencing) (entries : List EntryNo) (extents : List Extent) (new : Sequencing) : Type 0 where
  pub room : GivesAll old.room entries extents new.room
  pub after : new ≡ record old { room = new.room }

-- All parts that wait leave as one group, of the sequencer's epoch, and what they ended is listed.
pub record HandsOut (old : Sequencing) (group : Group) (new : Sequencing) : Type 0 where
  pub some : 0 < length old.waiting
  pub few : length old.waiting ≤ MAX_PARTS
  pub all : group.parts.items ≡ old.waiting
  pub epoch : group.epoch ≡ old.epoch
  pub before : group.before ≡ old.before
  pub after : new ≡ record old { before = old.position; waiting = []; ended = old.ended ++ ended_by_parts old.waiting; newest = newest_end old.newest old.waiting }

-- What was handed out is what a commit requires, and after it the sequencer is ahead of the contents, expects what it expected, and has listed
-- entries of ended versions alone.
pub record LeadsOn (old : Sequencing) (group : Group) (new : Sequencing) : Type 0 where
  pub stands : (contents : Contents) → IsAheadOf old contents → IsGroup contents group × IsAheadOf new (after_group contents group)
  pub expects : (contents : Contents) (entries : List EntryNo) (extents : List Extent) → IsAheadOf old contents → Expects old contents entries extents
      → Expects new (after_group contents group) entries extents
  pub lists : (contents : Contents) (listed : List EntryNo) → IsAheadOf old contents → IsConsistent contents → AreEnded contents (listed ++ old.ended)
      → AreEnded (after_group contents group) (listed ++ new.ended)
