-- What a primary sends of a copy.
use Rattle.std.specs.Prelude.{◌≡◌, ◌≢◌, ℕ, [], Option, None, Some}
use Rattle.frames.specs.declared.copy.CopyEnd.{CopyEnd}
use Rattle.frames.specs.declared.copy.CopyPart.{CopyPart}
use Rattle.mv_keyspace.specs.Table.{records}
use Rattle.redis_core.specs.Copying.{CopyOf, after_part, next_part, rest_of}
use Rattle.primary.specs.declared.frame.CopyFrame.{CopyFrame}
use Rattle.primary.specs.declared.frame.CopyFrame.TheVariants.{End, Part}
use Rattle.primary.specs.declared.frame.TheConstants.{MAX_PART_BYTES}

-- The frame is the next part of the copy, which goes on behind it.
pub record SendsPart (epoch : ℕ) (copy : CopyOf) (part : CopyPart) (new : Option CopyOf) : Type 0 where
  pub epoch_is : part.epoch ≡ epoch
  pub position_is : part.position ≡ copy.position
  pub number_is : part.number ≡ copy.parts
  pub some : rest_of copy ≢ []
  pub puts_are : part.puts.items ≡ records (next_part MAX_PART_BYTES copy)
  pub after : new ≡ Some (after_part MAX_PART_BYTES copy)

-- All parts of the copy were sent, and it stays.
pub record SendsEnd (epoch : ℕ) (copy : CopyOf) (last : CopyEnd) (new : Option CopyOf) : Type 0 where
  pub epoch_is : last.epoch ≡ epoch
  pub position_is : last.position ≡ copy.position
  pub parts_are : last.parts ≡ copy.parts
  pub none : rest_of copy ≡ []
  pub after : new ≡ Some copy

-- the frame is the next of a copy, of a primary of this epoch
abbrev pub SendsNext : ℕ → Option CopyOf → CopyFrame → Option CopyOf → Type 0
SendsNext epoch None frame new = ⊥
SendsNext epoch (Some copy) (Part part) new = SendsPart epoch copy part new
SendsNext epoch (Some copy) (End last) new = SendsEnd epoch copy last new
