-- What a primary holds once it is opened again.
use Rattle.std.specs.Prelude.{◌≡◌, ℕ, ◌^◌, ◌≤◌, List, [], length, replicate, None, IsTrue}
use Rattle.cmd_core.specs.Contents.{keys_of}
use Rattle.extent_heap.specs.Room.{Room}
use Rattle.kv_types.specs.declared.place.EntryNo.{EntryNo}
use Rattle.kv_types.specs.Change.{changes_size}
use Rattle.model.specs.Group.{AreEnded, Contents, is_ended_version, is_listed}
use Rattle.mv_keyspace.specs.Table.{IsTable, Table, records}
use Rattle.pipes.specs.declared.limits.TheConstants.{MAX_SEATS}
use Rattle.redis_core.specs.Sequencing.{Expects, IsAheadOf, Sequencing, starts}
use Rattle.standby_stream.specs.declared.opening.Opening.{Opening}
use Rattle.standby_stream.specs.Delta.{IsOpening, LeadsTo, delta_changes}

-- The sequencer starts over these contents, at their position, with groups of their epoch. No seat is open.
pub record IsOver (contents : Contents) (s : Sequencing) : Type 0 where
  pub table : Table
  pub table_is : IsTable contents.versions table
  pub room : Room
  -- the entries of versions that have ended, in no free list yet
  pub ended : List EntryNo
  pub starts_so : s ≡ starts table room ended contents.current.position contents.current.epoch (replicate MAX_SEATS None)
  pub ahead : IsAheadOf s contents
  pub expects : Expects s contents [] []
  pub listed : AreEnded contents ended
  -- none is forgotten
  pub all : (i : ℕ) → IsTrue (is_ended_version (contents.versions i)) → IsTrue (is_listed i ended)

-- What is told of a primary that was opened again with these contents: the sequencer starts over them, what a standby is told that is behind is theirs,
-- position and epoch are those of their record, and the keys are those of the sequencer's table.
pub record IsOpened (contents : Contents) (s : Sequencing) (opening : Opening) (position epoch keys : ℕ) : Type 0 where
  pub over : IsOver contents s
  pub opened_at : opening.position ≡ contents.current.position
  -- what ended up to there may have been freed
  pub floor : opening.floor ≡ contents.current.floor
  pub opening_is : IsOpening contents opening
  -- what a standby is told leads it to the keyspace that is served, from wherever the image recalls the keyspace at which it stands
  pub leads : LeadsTo contents opening (records s.table)
  -- and one frame has room for that
  pub fits : (from : ℕ) → changes_size (delta_changes opening from) ≤ 2 ^ 40
  pub position_is : position ≡ contents.current.position
  pub epoch_is : epoch ≡ contents.current.epoch
  pub keys_are : keys ≡ length (keys_of (records s.table))
