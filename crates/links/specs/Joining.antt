-- Frames that one read of a link brought, as one frame.
use Rattle.std.specs.Prelude.{◌≡◌, ◌⊎◌, List, [], ◌∷◌, ◌++◌, length}
use Rattle.extent_heap.specs.Room.{Room}
use Rattle.placing.specs.Place.{HasRoomFor}
use Rattle.model.specs.declared.record.Record.{Record}
use Rattle.frames.specs.declared.frame.Frame.{Frame}
use Rattle.frames.specs.Joining.{IsJoined, JoinsOn}
use Rattle.standby.specs.Taking.{IsDue}
use Rattle.stream_codec.specs.declared.message.Message.{Message}
use Rattle.stream_codec.specs.Message.{Sent, sent_of_frame}
use Rattle.stream_codec.specs.Scanning.{sent_of_all}
use Rattle.links.specs.declared.joining.Joined.{Joined}

-- These are frames, each of which follows those before it, and the whole is all of them as one.
pub data AreJoinedAs : List Sent → Frame → Type 0 where
  alone : (frame : Frame) → AreJoinedAs (sent_of_frame frame ∷ []) frame
  longer : (messages : List Sent) (first next whole : Frame) → AreJoinedAs messages first → JoinsOn first next → IsJoined first next whole
      → AreJoinedAs (messages ++ sent_of_frame next ∷ []) whole

-- so many of these messages, the first of them, are joined
pub record AreBegun (messages : List Message) (joined : Joined) : Type 0 where
  pub frames : List Message
  pub later : List Message
  pub are : messages ≡ frames ++ later
  pub count_is : joined.count ≡ length frames
  pub joined_are : AreJoinedAs (sent_of_all frames) joined.whole

-- Of the messages that came, the first are told as one frame, which a node with this record takes and has room for in this heap. The others follow it.
pub record JoinsFirst (current : Record) (room : Room) (messages told : List Sent) : Type 0 where
  pub frames : List Sent
  pub later : List Sent
  pub whole : Frame
  pub are : messages ≡ frames ++ later
  pub told_are : told ≡ sent_of_frame whole ∷ later
  pub joined : AreJoinedAs frames whole
  pub due : IsDue current whole
  pub fits : HasRoomFor room whole.changes.items

-- what a node with this record and this heap is told of the messages that came: so, or as they are
abbrev pub AreTold : Record → Room → List Sent → List Sent → Type 0
AreTold current room messages told = (told ≡ messages) ⊎ JoinsFirst current room messages told
