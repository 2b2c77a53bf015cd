-- A stream of messages that comes in pieces. A clause sees a decoder as the bytes that were fed and not yet given as messages, or as `None` once
-- no continuation of them is a message.
use Rattle.std.specs.Prelude.{◌≡◌, ◌≢◌, ℕ, zero, suc, List, [], ◌∷◌, ◌++◌, length, Option, None, Some, Ok, Err}
use Rattle.std.specs.List.{flat_map, AllByRecursion}
use Rattle.kv_types.specs.declared.stop.Stop.TheVariants.{Short, Broken}
use Rattle.stream_codec.specs.Bytes.{Outcome}
use Rattle.stream_codec.specs.Message.{Sent, IsSent, sent_text}
use Rattle.stream_codec.specs.Reading.{message_at}

-- the whole messages at the front, and the bytes after them, which begin one more message; `None` if they begin none
pub record Stream : Type 0 where
  pub messages : List Sent
  pub unread : Option (List ℕ)

abbrev pub with_first : Sent → Stream → Stream
with_first message stream = record { messages = message ∷ stream.messages; unread = stream.unread }

-- the stream, given what the message at its front reads as; `following` reads the bytes after that message
abbrev pub stream_from : (List ℕ → Stream) → List ℕ → Outcome Sent → Stream
stream_from following bytes (Ok message) = with_first message.0 (following message.1)
stream_from following bytes (Err Short) = record { messages = []; unread = Some bytes }
stream_from following bytes (Err (Broken fault)) = record { messages = []; unread = None }

-- the stream, if it has at most so many messages
abbrev pub stream_within : ℕ → List ℕ → Stream
stream_within zero bytes = record { messages = []; unread = Some bytes }
stream_within (suc most) bytes = stream_from (stream_within most) bytes (message_at bytes)

-- A message has at least one byte, so a text has no more messages than bytes.
unfoldable pub stream_at : List ℕ → Stream
stream_at bytes = stream_within (length bytes) bytes

-- ---- the same, by the bytes of messages

-- a message begins with these bytes, and has more
pub record IsBegun (bytes : List ℕ) : Type 0 where
  pub message : Sent
  pub byte : ℕ
  pub rest : List ℕ
  pub sent : IsSent message
  pub joined : bytes ++ byte ∷ rest ≡ sent_text message

-- no continuation of these bytes begins with a message
abbrev pub IsFault : List ℕ → Type 0
IsFault bytes = (more : List ℕ) (message : Sent) (rest : List ℕ) → IsSent message → bytes ++ more ≢ sent_text message ++ rest

abbrev pub EndsWith : List ℕ → Option (List ℕ) → Type 0
EndsWith rest (Some unread) = (rest ≡ unread) × IsBegun unread
EndsWith rest None = IsFault rest

-- the text is these messages, and then the beginning of one more, or a fault
pub record IsStream (text : List ℕ) (messages : List Sent) (unread : Option (List ℕ)) : Type 0 where
  pub rest : List ℕ
  pub split : text ≡ flat_map sent_text messages ++ rest
  pub each : AllByRecursion IsSent messages
  pub ends : EndsWith rest unread

-- ---- calls

-- the stream of what was held and one more piece; after a fault nothing is read
abbrev pub fed : Option (List ℕ) → List ℕ → Stream
fed None piece = record { messages = []; unread = None }
fed (Some unread) piece = stream_at (unread ++ piece)

-- What any sequence of calls reaches: all the bytes taken, all the messages given, and the decoder's value.
pub data Reaches : List ℕ → List Sent → Option (List ℕ) → Type 0 where
  begun : Reaches [] [] (Some [])
  took : {text : List ℕ} {given : List Sent} {held : Option (List ℕ)} → Reaches text given held → (piece : List ℕ) →
      Reaches (text ++ piece) (given ++ (fed held piece).messages) (fed held piece).unread
