-- One connection that was served whole: what was asked for, and what came back.
use Rattle.std.specs.Prelude.{ℕ, List, [], ◌∷◌, Option, IfSome}
use Rattle.std.specs.Io.KnownBytes.{Appends, IsAtEnd, Keeps}
use Rattle.kv_types.specs.declared.item.Item.{Item}
use Rattle.kv_types.specs.declared.limits.TheConstants.{REQUEST_LIMITS}
use Rattle.kv_types.specs.Reading.{items_at}
use Rattle.model.specs.Call.{up_to_closing}
use Rattle.resp_codec.specs.declared.reply_item.ReplyItem.{ReplyItem}
use Rattle.resp_codec.specs.declared.reply_item.ReplyItem.TheVariants.{Fault, Reply}
use Rattle.resp_codec.specs.declared.reply_limits.TheConstants.{REPLY_LIMITS}
use Rattle.resp_codec.specs.ReplyReading.{replies_at}
use Rattle.images.specs.declared.serve_error.ServeError.{ServeError}
use Rattle.images.specs.declared.serve_error.ServeError.TheVariants.{Broken, Random, Read, Refused, Socket, Write}
use Rattle.server.specs.declared.client.PairEnd.{PairEnd}
use Rattle.server.specs.declared.client.PairEnd.TheVariants.{Refused as RefusedNode, Broken as BrokenPair}

-- the items that a connection's bytes ask for, up to and including the first that closes it
abbrev pub asked_by : List ℕ → List Item
asked_by bytes = up_to_closing (items_at REQUEST_LIMITS bytes)

-- what a client reads in a server's bytes
abbrev pub replies_in : List ℕ → List ReplyItem
replies_in bytes = replies_at REPLY_LIMITS bytes

-- there is a reply for each item, in order
abbrev pub EachHasReply : List Item → List ReplyItem → Type 0
EachHasReply [] replies = Unit {0}
EachHasReply (item ∷ items) [] = ⊥
EachHasReply (item ∷ items) (Fault ∷ replies) = ⊥
EachHasReply (item ∷ items) (Reply reply ∷ replies) = EachHasReply items replies

-- The reader was read to its end, and to the writer a server's bytes were appended, in which each item that the whole input asks for has a reply.
pub record IsServed (input left before after : Option (List ℕ)) : Type 0 where
  pub whole : IsAtEnd left
  pub bytes : List ℕ
  pub written : Appends before after bytes
  pub answered : IfSome input (λ all. EachHasReply (asked_by all) (replies_in bytes))

-- serving ended before anything was written
abbrev pub IsEarly : ServeError → Type 0
IsEarly (Random error) = Unit {0}
IsEarly (Read error) = Unit {0}
IsEarly (Refused refusal) = Unit {0}
IsEarly (Socket error) = Unit {0}
IsEarly Broken = Unit {0}
IsEarly (Write error) = ⊥

-- what is told of a pair that serves no longer
abbrev pub ended_by : PairEnd → ServeError
ended_by (RefusedNode refusal) = Refused refusal
ended_by BrokenPair = Broken

-- if serving ended early, nothing was written if it ended before writing
abbrev pub IsServedUpTo : ServeError → (before after : Option (List ℕ)) → Type 0
IsServedUpTo (Random error) before after = Keeps before after
IsServedUpTo (Read error) before after = Keeps before after
IsServedUpTo (Refused refusal) before after = Keeps before after
IsServedUpTo (Socket error) before after = Keeps before after
IsServedUpTo Broken before after = Keeps before after
IsServedUpTo (Write error) before after = Unit {0}
