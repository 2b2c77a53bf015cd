-- What calls are run on, and what running the requests of a call does to it.
use Rattle.std.specs.Prelude.{◌≡◌, ◌≢◌, ℕ, ◌+◌, ◌<◌, ◌≤◌, List, [], ◌∷◌, ◌++◌, ◌||◌, Option, None, IsTrue, max}
use Rattle.kv_types.specs.declared.change.Change.{Change}
use Rattle.kv_types.specs.declared.place.EntryNo.{EntryNo}
use Rattle.kv_types.specs.declared.place.Extent.{Extent}
use Rattle.kv_types.specs.declared.reply.Reply.{Reply}
use Rattle.kv_types.specs.Change.{changes_size}
use Rattle.multi_watch.specs.Session.{Session}
use Rattle.multi_watch.specs.Sessions.{Sessions, Moves}
use Rattle.model.specs.declared.call.TheConstants.{MAX_CHANGE_TEXT_BYTES}
use Rattle.model.specs.declared.image.TheConstants.{COUNTER_LIMIT}
use Rattle.model.specs.Call.{MayStand, MayStandAll, made, all_made, full_reply}
use Rattle.model.specs.Command.{outcome_of}
use Rattle.model.specs.Group.{Versions, changes_of_part, is_listed}
use Rattle.model.specs.declared.group.Part.{Part}
use Rattle.extent_heap.specs.Room.{Room, is_free_entry}
use Rattle.mv_keyspace.specs.Table.{Table, IsTable, records}
use Rattle.placing.specs.Back.{GivesAll}
use Rattle.placing.specs.Performs.{Performs, AddsTo, IsSamePart}
use Rattle.placing.specs.Left.{IsBeside}
use Rattle.placing.specs.Place.{HasRoomFor}
use Rattle.redis_core.specs.Copying.{CopyOf, IsBefore}
use Rattle.redis_core.specs.Marking.{Marks}
use Rattle.redis_core.specs.Turn.{AreFullOnly}
use Rattle.redis_core.specs.declared.running.Running.{Running}

pub record Stored : Type 0 where
  -- each live record with its value and its entry
  pub table : Table
  -- the lines and entries that are free
  pub room : Room
  -- for each seat its session, none where the seat is closed
  pub sessions : Sessions
  -- the copy that is being given, if any
  pub copy : Option CopyOf
  -- the position of the last change
  pub last : ℕ

-- the position of the last change, once these were made at this position
abbrev pub last_after : ℕ → ℕ → List Change → ℕ
last_after last position [] = last
last_after last position (change ∷ changes) = max last position

-- The seat has this session afterwards, or none, and nothing else moved.
pub record MovesOne (old : Stored) (seat : ℕ) (now : Option Session) (new : Stored) : Type 0 where
  pub table : new.table ≡ old.table
  pub room : new.room ≡ old.room
  pub sessions : Moves old.sessions seat now new.sessions
  pub copy : new.copy ≡ old.copy
  pub last : new.last ≡ old.last

-- Changes were made, marked, and added to a part.
pub record Makes (old : Stored) (changes : List Change) (before after : Part) (new : Stored) : Type 0 where
  pub adds : AddsTo before old.table old.room changes after new.table new.room
  pub marks : Marks (records old.table) changes old.sessions new.sessions
  -- no change is made at a position above what a counter holds
  pub counted : changes ≢ [] → before.position < COUNTER_LIMIT
  -- a copy of an earlier position stays what it is
  pub copy : IsBefore old.copy before.position → new.copy ≡ old.copy
  pub last : new.last ≡ last_after old.last before.position changes

-- the two say the same
pub record IsSame (old new : Running) : Type 0 where
  pub part : IsSamePart old.part new.part
  pub left : new.left ≡ old.left

-- the changes of a request fit in what is left, but there was no room for them
pub record IsTooFull (s : Stored) (words : List (List ℕ)) (left : ℕ) : Type 0 where
  pub fits : changes_size (outcome_of (records s.table) words).changes ≤ left
  pub full : ¬ HasRoomFor s.room (outcome_of (records s.table) words).changes

-- A request was run as part of a call: it got a reply that may stand, and what it changed was made, marked and added to what the call had changed.
pub record RunsRequest (old : Stored) (words : List (List ℕ)) (before : Running) (reply : Reply) (after : Running) (new : Stored) : Type 0 where
  pub stands : (used : ℕ) → used + before.left ≡ MAX_CHANGE_TEXT_BYTES → MayStand used (outcome_of (records old.table) words) reply
  pub left : after.left + changes_size (made (records old.table) words reply) ≡ before.left
  -- it was refused for want of room only where there is none
  pub full_only : reply ≡ full_reply → ¬ HasRoomFor old.room (outcome_of (records old.table) words).changes
  pub makes : Makes old (made (records old.table) words reply) before.part after.part new

-- Requests of a call are run, from this start: those before the rest got these replies.
pub record AreUnderWay (start : Stored) (position : ℕ) (requests : List (List (List ℕ))) (replies : List Reply) (rest : List (List (List ℕ))) (running : Running) (now : Stored)
    : Type 0 where
  pub stand : (used : ℕ) (later : List Reply) → used + running.left ≡ MAX_CHANGE_TEXT_BYTES → MayStandAll (records now.table) used rest later
      → MayStandAll (records start.table) 0 requests (replies ++ later)
  pub made : (later : List Reply) → all_made (records start.table) requests (replies ++ later) ≡ changes_of_part running.part ++ all_made (records now.table) rest later
  pub full : (later : List Reply) (left : Room) → AreFullOnly (records now.table) now.room rest later left → AreFullOnly (records start.table) start.room requests (replies ++ later) left
  pub most : running.left ≤ MAX_CHANGE_TEXT_BYTES
  pub beside : IsBeside start.table start.room
  pub performs : Performs start.table start.room position (changes_of_part running.part) running.part now.table now.room
  pub marks : Marks (records start.table) (changes_of_part running.part) start.sessions now.sessions
  pub counted : changes_of_part running.part ≢ [] → position < COUNTER_LIMIT
  pub copy : IsBefore start.copy position → now.copy ≡ start.copy
  pub last : now.last ≡ last_after start.last position (changes_of_part running.part)

-- the table is that of some versions, and neither a free entry of the heap nor one of these has a version
pub record IsBesideWith (table : Table) (room : Room) (entries : List EntryNo) : Type 0 where
  pub versions : Versions
  pub table_is : IsTable versions table
  pub empty : (i : ℕ) → IsTrue (is_free_entry room i || is_listed i entries) → versions i ≡ None

-- Places came back to the heap, and nothing else moved.
pub record GivesBack (old : Stored) (entries : List EntryNo) (extents : List Extent) (new : Stored) : Type 0 where
  pub table : new.table ≡ old.table
  pub room : GivesAll old.room entries extents new.room
  pub sessions : new.sessions ≡ old.sessions
  pub copy : new.copy ≡ old.copy
  pub last : new.last ≡ old.last
