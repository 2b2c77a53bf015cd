-- What goes over a connection.
use Rattle.std.specs.Prelude.{◌≡◌, ◌⊎◌, ℕ, Bool, true, false, ◌||◌, List, [], ◌∷◌, ◌++◌, length, Option, Some, IfSome, ⊤}
use Rattle.std.specs.List.{flat_map}
use Rattle.std.specs.Io.KnownBytes.{Appends, Consumes, IsAtEnd}
use Rattle.kv_types.specs.declared.reply.Reply.{Reply, Simple, Error, Int, Bulk, NullBulk, Array', NullArray}
use Rattle.kv_types.specs.Reply.{text_of}
use Rattle.kv_types.specs.Request.{spelling}
use Rattle.resp_codec.specs.declared.reply_item.ReplyItem.TheVariants as item
use Rattle.resp_codec.specs.declared.reply_limits.TheConstants.{REPLY_LIMITS}
use Rattle.resp_codec.specs.Parsing.{fed}
use Rattle.resp_codec.specs.ReplyParsing.{replies_ahead, AdvancesReplies}
use Rattle.resp_codec.specs.ReplyReading.{replies_at}
use Rattle.client.specs.declared.exchange.Broken as code
use Rattle.client.specs.declared.exchange.Broken.TheVariants.{Failed, Closed, NoReply, Memory}
use Rattle.client.specs.Asked.{requests_of}
use Rattle.client.specs.Printed.{printed_reply}

-- nothing was read, or nothing was whole before the last piece that was read
abbrev pub IsNeeded : (held : Option (List ℕ)) (bytes : List ℕ) → Type 0
IsNeeded held bytes = (bytes ≡ []) ⊎ ((front : List ℕ) × (piece : List ℕ) × (bytes ≡ front ++ piece) × (replies_ahead (fed held front) ≡ []))

-- A reply was taken from a reader: it is the first in the bytes that were held before and those that were read, and what comes behind it
-- is still ahead. No more pieces were read than it needed.
pub record Takes (left left' held held' : Option (List ℕ)) (reply : Reply) : Type 0 where
  pub bytes : List ℕ
  pub read : Consumes left left' bytes
  pub first : AdvancesReplies (fed held bytes) (Some (item.Reply reply)) held'
  pub needed : IsNeeded held bytes

-- the reader is at its end, and what it gave holds no whole reply
pub record EndsShort (left left' held : Option (List ℕ)) : Type 0 where
  pub bytes : List ℕ
  pub read : Consumes left left' bytes
  pub ended : IsAtEnd left'
  pub short : replies_ahead (fed held bytes) ≡ []

-- what was read can become no reply, whatever comes after it
pub record IsNoReply (left left' held : Option (List ℕ)) : Type 0 where
  pub bytes : List ℕ
  pub read : Consumes left left' bytes
  pub never : (more : List ℕ) → replies_ahead (fed (fed held bytes) more) ≡ item.Fault ∷ []

-- the system failed or refused memory
abbrev pub IsSystem : code.Broken → Type 0
IsSystem (Failed error) = Unit {0}
IsSystem Closed = ⊥
IsSystem NoReply = ⊥
IsSystem Memory = Unit {0}

-- the cause of an early end, where it is not the system's
abbrev pub IsCause : code.Broken → (left left' held : Option (List ℕ)) → Type 0
IsCause (Failed error) left left' held = ⊤
IsCause Closed left left' held = EndsShort left left' held
IsCause NoReply left left' held = IsNoReply left left' held
IsCause Memory left left' held = ⊤

-- what is held are these bytes, as far as it matters for what will be given
abbrev pub Holds : (held : Option (List ℕ)) (bytes : List ℕ) → Type 0
Holds held bytes = (more : List ℕ) → replies_ahead (fed held more) ≡ replies_at REPLY_LIMITS (bytes ++ more)

-- whether a reply is an error
abbrev pub is_error : Reply → Bool
is_error (Simple text) = false
is_error (Error text) = true
is_error (Int n) = false
is_error (Bulk bytes) = false
is_error NullBulk = false
is_error (Array' shape replies) = false
is_error NullArray = false

-- whether one of these replies is
abbrev pub any_error : List Reply → Bool
any_error [] = false
any_error (reply ∷ replies) = is_error reply || any_error replies

-- Requests were sent over a connection, and a reply to each came and was printed. It says whether one of them was an error.
pub record Talks (requests : List (List (List ℕ))) (failed : Bool) (sent sent' left left' held held' printed printed' : Option (List ℕ)) : Type 0 where
  pub replies : List Reply
  pub each : length replies ≡ length requests
  pub errors : failed ≡ any_error replies
  pub asked : Appends sent sent' (flat_map spelling requests)
  -- the bytes that came
  pub bytes : List ℕ
  pub came : Consumes left left' bytes
  -- behind those that were held before, they begin with the texts of the replies, and what follows these is held
  pub begins : (front : List ℕ) → Holds held front → (rest : List ℕ) × (front ++ bytes ≡ flat_map text_of replies ++ rest) × Holds held' rest
  pub told : Appends printed printed' (flat_map printed_reply replies)

-- the requests that are asked for: the one of these words, or without a word those of the lines of this input, if it is known
abbrev pub AreAsked : (words : List (List ℕ)) (input : Option (List ℕ)) (requests : List (List (List ℕ))) → Type 0
AreAsked [] input requests = IfSome input (λ text. requests ≡ requests_of text)
AreAsked (word ∷ words) input requests = requests ≡ (word ∷ words) ∷ []
