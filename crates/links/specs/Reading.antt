-- What reads of a link came to.
use Rattle.std.specs.Prelude.{◌≡◌, ℕ, List, [], ◌++◌, Option}
use Rattle.std.specs.Io.KnownBytes.{Consumes}
use Rattle.stream_codec.specs.Message.{Sent}
use Rattle.stream_codec.specs.Stream.{Reaches, fed}
use Rattle.links.specs.declared.following.Came.{Came}
use Rattle.links.specs.declared.following.Came.TheVariants.{Piece, Nothing, End}

-- the bytes that came
abbrev pub piece_of : Came → List ℕ
piece_of (Piece piece) = piece.now
piece_of Nothing = []
piece_of End = []

-- One read gave a piece, from what the reader had to what it has left, and the decoder was fed it and gave these messages.
pub record ReadsPiece (bytes left held : Option (List ℕ)) (messages : List Sent) (unread : Option (List ℕ)) : Type 0 where
  pub piece : List ℕ
  pub consumed : Consumes bytes left piece
  pub given : messages ≡ (fed held piece).messages
  pub kept : unread ≡ (fed held piece).unread

-- Whatever a decoder took and gave before that holds these bytes, it has taken this text too since then, and given these messages.
abbrev pub Reads : Option (List ℕ) → List ℕ → List Sent → Option (List ℕ) → Type 0
Reads held text messages unread = (before : List ℕ) (given : List Sent) → Reaches before given held → Reaches (before ++ text) (given ++ messages) unread
