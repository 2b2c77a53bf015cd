-- What the two nodes tell each other, and its bytes (this project's profile). Numbers are big-endian.
use Rattle.std.specs.Prelude.{ℕ, ◌^◌, ◌<◌, ◌≤◌, List, ◌∷◌, ◌++◌, length, map, Option, None, Some}
use Rattle.std.specs.List.{AllByRecursion}
use Rattle.std.specs.Int.{w64, to_be_bytes}
use Rattle.kv_types.specs.declared.limits.TheConstants.{MAX_KEY_BYTES, MAX_VALUE_BYTES}
use Rattle.kv_types.specs.declared.record_id.RecordId.{RecordId}
use Rattle.kv_types.specs.declared.record_id.RecordId.TheVariants.{Str, Field}
use Rattle.kv_types.specs.declared.change.Change.{Change}
use Rattle.kv_types.specs.declared.change.Change.TheVariants.{Put, Drop, DropKey, Clear}
use Rattle.kv_types.specs.Change.{changes_text, changes_size}
use Rattle.frames.specs.declared.copy.CopyEnd.{CopyEnd}
use Rattle.frames.specs.declared.copy.CopyPart.{CopyPart}
use Rattle.frames.specs.declared.copy.CopyWanted.{CopyWanted}
use Rattle.frames.specs.declared.frame.Frame.{Frame}
use Rattle.frames.specs.declared.ack.Ack.{Ack}
use Rattle.stream_codec.specs.declared.message.TheConstants.{MAX_BODY_BYTES, MAX_PART_BYTES}
use Rattle.stream_codec.specs.declared.message.Message.{Message}
use Rattle.stream_codec.specs.declared.message.Message.TheVariants as message

-- what a message says, without where it lies in memory
pub data Sent : Type 0 where
  Changes : (epoch before after : ℕ) (changes : List Change) → Sent
  Acknowledged : (epoch position : ℕ) → Sent
  WantsCopy : (epoch : ℕ) → Sent
  CopiesPart : (epoch position number : ℕ) (puts : List Change) → Sent
  EndsCopy : (epoch position parts : ℕ) → Sent

-- the change that sets a record to a value
abbrev pub put_of : RecordId × List ℕ → Change
put_of pair = Put pair.0 pair.1

abbrev pub sent_of_frame : Frame → Sent
sent_of_frame frame = Changes frame.epoch frame.before frame.after frame.changes.items

abbrev pub sent_of_ack : Ack → Sent
sent_of_ack ack = Acknowledged ack.epoch ack.position

abbrev pub sent_of_wanted : CopyWanted → Sent
sent_of_wanted wanted = WantsCopy wanted.epoch

abbrev pub sent_of_part : CopyPart → Sent
sent_of_part part = CopiesPart part.epoch part.position part.number (map put_of part.puts.items)

abbrev pub sent_of_end : CopyEnd → Sent
sent_of_end end = EndsCopy end.epoch end.position end.parts

abbrev pub sent_of : Message → Sent
sent_of (message.Group frame) = sent_of_frame frame
sent_of (message.Ack ack) = sent_of_ack ack
sent_of (message.CopyWanted wanted) = sent_of_wanted wanted
sent_of (message.CopyPart part) = sent_of_part part
sent_of (message.CopyEnd end) = sent_of_end end

-- ---- limits

abbrev pub IsRecordId : RecordId → Type 0
IsRecordId (Str key) = length key ≤ MAX_KEY_BYTES
IsRecordId (Field key field) = (length key ≤ MAX_KEY_BYTES) × (length field ≤ MAX_KEY_BYTES)

abbrev pub IsChange : Change → Type 0
IsChange (Put id value) = IsRecordId id × (length value ≤ MAX_VALUE_BYTES)
IsChange (Drop id) = IsRecordId id
IsChange (DropKey key) = length key ≤ MAX_KEY_BYTES
IsChange Clear = Unit {0}

-- the change, where it is a put
abbrev pub put_in : Change → Option Change
put_in (Put id value) = Some (Put id value)
put_in other = None

abbrev pub IsPut : Change → Type 0
IsPut (Put id value) = Unit {0}
IsPut other = ⊥

-- what every message that the code holds keeps: its numbers fit eight bytes, and each of its changes is within the limits
abbrev pub IsWithinLimits : Sent → Type 0
IsWithinLimits (Changes epoch before after changes) = (epoch < 2 ^ 64) × (after < 2 ^ 64) × AllByRecursion IsChange changes
IsWithinLimits (Acknowledged epoch position) = (epoch < 2 ^ 64) × (position < 2 ^ 64)
IsWithinLimits (WantsCopy epoch) = epoch < 2 ^ 64
IsWithinLimits (CopiesPart epoch position number puts) =
    (epoch < 2 ^ 64) × (position < 2 ^ 64) × (number < 2 ^ 64) × AllByRecursion IsChange puts × AllByRecursion IsPut puts
IsWithinLimits (EndsCopy epoch position parts) = (epoch < 2 ^ 64) × (position < 2 ^ 64) × (parts < 2 ^ 64)

-- the changes of a group, which may be none: the position rises, and the body is not too long
pub record IsGroup (epoch before after : ℕ) (changes : List Change) : Type 0 where
  pub epoch_fits : epoch < 2 ^ 64
  pub rises : before < after
  pub after_fits : after < 2 ^ 64
  pub each : AllByRecursion IsChange changes
  pub body : changes_size changes ≤ MAX_BODY_BYTES

-- the puts of a part of a copy: there are some, and the body is not too long
pub record IsPart (epoch position number : ℕ) (puts : List Change) : Type 0 where
  pub epoch_fits : epoch < 2 ^ 64
  pub position_fits : position < 2 ^ 64
  pub number_fits : number < 2 ^ 64
  pub each : AllByRecursion IsChange puts
  pub are_puts : AllByRecursion IsPut puts
  pub some : 0 < changes_size puts
  pub body : changes_size puts ≤ MAX_PART_BYTES

-- what may be sent
abbrev pub IsSent : Sent → Type 0
IsSent (Changes epoch before after changes) = IsGroup epoch before after changes
IsSent (Acknowledged epoch position) = (epoch < 2 ^ 64) × (position < 2 ^ 64)
IsSent (WantsCopy epoch) = epoch < 2 ^ 64
IsSent (CopiesPart epoch position number puts) = IsPart epoch position number puts
IsSent (EndsCopy epoch position parts) = (epoch < 2 ^ 64) × (position < 2 ^ 64) × (parts < 2 ^ 64)

-- ---- bytes

-- a number in eight bytes
abbrev pub long : ℕ → List ℕ
long n = to_be_bytes w64 n

-- the first byte, the numbers, and of a group or a part the length of its body and the body
abbrev pub sent_text : Sent → List ℕ
sent_text (Changes epoch before after changes) =
    1 ∷ long epoch ++ (long before ++ (long after ++ (long (changes_size changes) ++ changes_text changes)))
sent_text (Acknowledged epoch position) = 2 ∷ long epoch ++ long position
sent_text (WantsCopy epoch) = 3 ∷ long epoch
sent_text (CopiesPart epoch position number puts) =
    4 ∷ long epoch ++ (long position ++ (long number ++ (long (changes_size puts) ++ changes_text puts)))
sent_text (EndsCopy epoch position parts) = 5 ∷ long epoch ++ (long position ++ long parts)
