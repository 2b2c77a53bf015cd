-- How a standby serves a link of which a decoder has read before, and may hold something.
use Rattle.std.specs.Prelude.{ℕ, List, Option}
use Rattle.std.specs.Io.KnownBytes.{Appends, Consumes}
use Rattle.frames.specs.declared.ack.Ack.{Ack}
use Rattle.stream_codec.specs.Message.{Sent}
use Rattle.links.specs.Copying.{Wire}
use Rattle.links.specs.Reading.{Reads}
use Rattle.links.specs.Serving.{Held, Run, Says, acks_text}

-- What was read since then: the node answered the whole frames in it and in what the decoder held, in order, and what was written is the acknowledgements.
pub record ServedOn (before : Option (List ℕ)) (first : Held) (old : Wire) (last : Held) (new : Wire) (unread : Option (List ℕ)) : Type 0 where
  pub text : List ℕ
  pub messages : List Sent
  pub acks : List Ack
  pub consumed : Consumes old.remaining new.remaining text
  pub read : Reads before text messages unread
  pub run : Run first messages acks last
  pub written : Appends old.contents new.contents (acks_text acks)

-- What was read and written since then, whatever became of the link: of those whole frames the first were answered.
pub record HasSaidOn (before : Option (List ℕ)) (first : Held) (old : Wire) (last : Held) (new : Wire) (part : List ℕ) : Type 0 where
  pub text : List ℕ
  pub messages : List Sent
  pub unread : Option (List ℕ)
  pub consumed : Consumes old.remaining new.remaining text
  pub read : Reads before text messages unread
  pub says : Says first messages old.contents last new.contents part
