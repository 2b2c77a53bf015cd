-- An image stands at a position of the list of calls, as the image of a node.
use Rattle.std.specs.Prelude.{◌≡◌, ℕ, List}
use Rattle.model.specs.declared.call.Call.{Call}
use Rattle.model.specs.declared.record.Record.{Record}
use Rattle.model.specs.declared.record.Role.{Role}
use Rattle.model.specs.declared.record.TheConstants.{FIRST_EPOCH}
use Rattle.model.specs.Call.{keyspace_after, cut_at}
use Rattle.model.specs.Image.{Image, Holds}

-- whose image it is
pub record Holder : Type 0 where
  -- the number of lines of its device
  pub lines : ℕ
  pub role : Role
  pub epoch : ℕ

-- the holder of a new image
abbrev pub new_holder : ℕ → Role → Holder
new_holder lines role = record { lines = lines; role = role; epoch = FIRST_EPOCH }

-- Its record's position is p, its role and epoch are the holder's, and its map is the keyspace after the longest prefix of the list with at most p
-- changes.
pub record StandsAt (holder : Holder) (calls : List Call) (p : ℕ) (image : Image) : Type 0 where
  pub current : Record
  pub position : current.position ≡ p
  pub role : current.role ≡ holder.role
  pub epoch : current.epoch ≡ holder.epoch
  pub holds : Holds holder.lines current (keyspace_after (cut_at calls p)) image
