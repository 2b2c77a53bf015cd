-- What a sequencer and its store keep true of their own fields.
use Rattle.std.specs.Prelude.{◌≡◌, ℕ, ◌+◌, ◌<◌, ◌≤◌, List, Option, length}
use Rattle.extent_heap.specs.Room.{Room}
use Rattle.model.specs.declared.group.Part.{Part}
use Rattle.model.specs.declared.group.TheConstants.{MAX_PARTS}
use Rattle.model.specs.declared.image.TheConstants.{COUNTER_LIMIT}
use Rattle.mv_keyspace.specs.Table.{Table}
use Rattle.placing.specs.Left.{IsBeside}
use Rattle.redis_core.specs.declared.copying.Copying.{Copying}
use Rattle.redis_core.specs.Copying.{CopyOf, IsBefore, IsPinned, pins_of}

-- The heap is beside the table, and just what a copy wants is pinned.
pub record IsStore (table : Table) (room : Room) (pins : List ℕ) (copying : Option Copying) : Type 0 where
  pub beside : IsBeside table room
  pub pins_are : pins ≡ pins_of copying
  pub pinned : IsPinned copying

-- Nothing was changed, and nothing is copied, after the position of the list.
pub record IsReady (position : ℕ) (waiting : List Part) (capacity : ℕ) (copy : Option CopyOf) (last : ℕ) : Type 0 where
  pub counted : position < COUNTER_LIMIT
  pub few : length waiting ≤ MAX_PARTS
  pub has_room : MAX_PARTS ≤ capacity
  pub copied : IsBefore copy (position + 1)
  pub changed : last ≤ position
