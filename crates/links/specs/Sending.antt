-- What is sent on a link.
use Rattle.std.specs.Prelude.{◌≡◌, ◌⊎◌, ℕ, ◌+◌, ◌≤◌, List, [], ◌∷◌, ◌++◌, Option, Some, None, length, slice_get}
use Rattle.std.specs.List.{flat_map}
use Rattle.std.specs.Io.KnownBytes.{Appends}
use Rattle.model.specs.declared.group.Group.{Group}
use Rattle.frames.specs.declared.frame.Frame.{Frame}
use Rattle.stream_codec.specs.Message.{sent_of_frame, sent_text}
use Rattle.links.specs.declared.sending.TheConstants.{FRAMES_AT_ONCE}
use Rattle.standby_stream.specs.declared.copying.Copying.TheVariants.{Follows}
use Rattle.standby_stream.specs.Stream.{Stream, IsDue, IsFrameOf, IsFull, TakesNext, acknowledged}

-- a frame as bytes
unfoldable pub frame_text : Frame → List ℕ
frame_text frame = sent_text (sent_of_frame frame)

-- frames as bytes, one after another
abbrev pub frames_text : List Frame → List ℕ
frames_text = flat_map frame_text

-- a delta as bytes, where one is due
abbrev pub delta_text : Option Frame → List ℕ
delta_text None = []
delta_text (Some frame) = frame_text frame

-- ---- which frames, by what a take from the inlet of groups gives

-- No frame is sent: all that are kept were, and no group waits, or as many are kept as may be and none was taken; or no standby follows.
pub record Waits {I : Type 0} (gives : I → Option Group → I → Type 0) (link : Stream) (groups left : I) : Type 0 where
  pub all_sent : link.copying ≡ Follows → link.next ≡ length link.kept
  pub due : IsDue link → TakesNext gives link.pending groups None left
  pub full : IsFull link → left ≡ groups

-- No frame is left to send: at the last look there was none.
pub record HasNone {I : Type 0} (gives : I → Option Group → I → Type 0) (link : Stream) (left : I) : Type 0 where
  pub before : I
  pub waits : Waits gives link before left

-- so many frames were sent, or all that there were
abbrev pub WorksOff : {I : Type 0} → (I → Option Group → I → Type 0) → ℕ → Stream → Stream → I → Type 0
WorksOff gives most old new left = (new.next ≡ old.next + most) ⊎ HasNone gives new left

-- What a link does at a time: it sends the kept frame whose turn it is, or else that of the next group, which it keeps from then on; or it sends none, or
-- keeps the next group for which there was no memory.
pub data Step {I : Type 0} (gives : I → Option Group → I → Type 0) : Stream → I → List Frame → Stream → I → Type 0 where
  again : (link : Stream) (groups : I) (frame : Frame) → slice_get link.kept link.next ≡ Some frame → Step gives link groups (frame ∷ []) (record link { next = link.next + 1 }) groups
  fresh : (link : Stream) (groups left : I) (group : Group) (frame : Frame) → IsDue link → TakesNext gives link.pending groups (Some group) left → IsFrameOf link.epoch group frame
      → Step gives link groups (frame ∷ []) (record link { kept = link.kept ++ frame ∷ []; next = link.next + 1; pending = None }) left
  waits : (link : Stream) (groups left : I) → Waits gives link groups left → Step gives link groups [] link left
  stays : (link : Stream) (groups left : I) (group : Group) → IsDue link → TakesNext gives link.pending groups (Some group) left → Step gives link groups [] (record link { pending = Some group }) left

-- the frames that a link sent, step by step: each once and in order
pub data Sends {I : Type 0} (gives : I → Option Group → I → Type 0) : Stream → I → List Frame → Stream → I → Type 0 where
  nothing : (link : Stream) (groups : I) → Sends gives link groups [] link groups
  more : (first middle last : Stream) (from at left : I) (frames sent : List Frame) → Sends gives first from frames middle at → Step gives middle at sent last left
      → Sends gives first from (frames ++ sent) last left

-- The frames that a link sent, round by round, and what it knew of the remote mark: before each round it takes note of that, so that the frames up to there are
-- kept no longer, and those alone. In each round it sends as many frames as may be sent at once, or all that there are.
pub data Rounds {I : Type 0} (gives : I → Option Group → I → Type 0) : ℕ → Stream → I → List Frame → ℕ → Stream → I → Type 0 where
  unbegun : (mark : ℕ) (link : Stream) (groups : I) → Rounds gives mark link groups [] mark link groups
  round : (begun mark higher : ℕ) (first middle last : Stream) (from at left : I) (frames sent : List Frame) → Rounds gives begun first from frames mark middle at → mark ≤ higher
      → Sends gives (acknowledged higher middle) at sent last left → WorksOff gives FRAMES_AT_ONCE (acknowledged higher middle) last left → Rounds gives begun first from (frames ++ sent) higher last left

-- The same, and perhaps a last round that was broken off, for this cause.
pub data Ends {I : Type 0} (gives : I → Option Group → I → Type 0) (Cause : Type 0) : ℕ → Stream → I → List Frame → ℕ → Stream → I → Type 0 where
  whole : (begun mark : ℕ) (first last : Stream) (from left : I) (frames : List Frame) → Rounds gives begun first from frames mark last left → Ends gives Cause begun first from frames mark last left
  broken : (begun mark higher : ℕ) (first middle last : Stream) (from at left : I) (frames sent : List Frame) → Cause → Rounds gives begun first from frames mark middle at → mark ≤ higher
      → Sends gives (acknowledged higher middle) at sent last left → Ends gives Cause begun first from (frames ++ sent) higher last left

-- What went out on a link since it opened: the delta, if one was due, and then the frames of these rounds, in order. `rest` is what of that was not
-- written. A last round may have been broken off for this cause.
pub record HasSent {I : Type 0} (gives : I → Option Group → I → Type 0) (Cause : Type 0) (begun : ℕ) (first : Stream) (from : I) (before : Option (List ℕ)) (mark : ℕ) (last : Stream) (left : I)
    (after : Option (List ℕ)) (rest : List ℕ) : Type 0 where
  pub frames : List Frame
  pub written : List ℕ
  pub rounds : Ends gives Cause begun (record first { delta = None }) from frames mark last left
  pub split : delta_text first.delta ++ frames_text frames ≡ written ++ rest
  pub appended : Appends before after written
