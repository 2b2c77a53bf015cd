-- What the readers of replies in the code answer, compared with the readers of the definitions.
use Rattle.std.specs.Prelude.{◌≡◌, ℕ, zero, suc, List, [], ◌++◌, Option, None, Some, Result, Ok, Err, option_to_list}
use Rattle.kv_types.specs.declared.item.ProtocolFault.{ProtocolFault}
use Rattle.kv_types.specs.declared.reply.Reply as reply
use Rattle.kv_types.specs.declared.reply.Reply.{Reply}
use Rattle.kv_types.specs.declared.stop.Stop.{Stop}
use Rattle.kv_types.specs.declared.stop.Stop.TheVariants.{Short}
use Rattle.kv_types.specs.Reader.{Read}
use Rattle.resp_codec.specs.declared.reply_heads.Plain.{Plain}
use Rattle.resp_codec.specs.declared.reply_heads.Plain.TheVariants as plain
use Rattle.resp_codec.specs.declared.reply_heads.Head as code
use Rattle.resp_codec.specs.declared.reply_heads.Head.TheVariants as head
use Rattle.resp_codec.specs.declared.reply_item.ReplyItem.{ReplyItem}
use Rattle.resp_codec.specs.declared.reply_item.ReplyItem.TheVariants as item
use Rattle.resp_codec.specs.declared.reply_limits.ReplyLimits.{ReplyLimits}
use Rattle.resp_codec.specs.Parsing.{fed}
use Rattle.resp_codec.specs.ReplyReading.{Head, Whole, Opens, reply_at}
use Rattle.resp_codec.specs.ReplyParsing.{replies_ahead}

-- the reply that the code read
abbrev pub reply_of : Plain → Reply
reply_of (plain.Simple text) = reply.Simple text.now
reply_of (plain.Error text) = reply.Error text.now
reply_of (plain.Int n) = reply.Int n
reply_of (plain.Bulk bytes) = reply.Bulk bytes.now
reply_of plain.NullBulk = reply.NullBulk
reply_of plain.NullArray = reply.NullArray

-- the head that the code read
abbrev pub head_read : code.Head → Head
head_read (head.Whole plain) = Whole (reply_of plain)
head_read (head.Opens count) = Opens count

-- the most replies of an array at this depth
abbrev pub most_at : ReplyLimits → ℕ → ℕ
most_at limits zero = 0
most_at limits (suc depth) = limits.elements

-- a reply of an array at this depth; at depth 0 an array is empty
abbrev pub element_at : ReplyLimits → ℕ → List ℕ → Result (Read Reply) (Stop ProtocolFault)
element_at limits zero bytes = Err Short
element_at limits (suc depth) bytes = reply_at limits depth bytes

-- what was read, if anything was
abbrev pub read_in : {A : Type 0} → Result (Read A) (Stop ProtocolFault) → Option (Read A)
read_in (Ok read) = Some read
read_in (Err stop) = None

-- the replies already read, followed by those that `read` gives
abbrev pub behind : List Reply → Option (Read (List Reply)) → Option (Read (List Reply))
behind replies None = None
behind replies (Some others) = Some (replies ++ others.0, others.1)

-- the array of the replies that were read
abbrev pub array_of : Option (Read (List Reply)) → Option (Read Reply)
array_of None = None
array_of (Some replies) = Some (reply.Array replies.0, replies.1)

-- the bytes left to be given as items after an item, or `None` after a fault
abbrev pub left_after : Option ReplyItem → List ℕ → Option (List ℕ)
left_after None rest = Some rest
left_after (Some (item.Reply reply)) rest = Some rest
left_after (Some item.Fault) rest = None

-- the first item of the bytes, if there is one, and the rest after it
pub record IsFirstReply (bytes : List ℕ) (item : Option ReplyItem) (rest : List ℕ) : Type 0 where
  pub prefix : List ℕ
  pub joined : bytes ≡ prefix ++ rest
  pub given : (more : List ℕ) → replies_ahead (fed (Some bytes) more) ≡ option_to_list item ++ replies_ahead (fed (left_after item rest) more)
  pub none : item ≡ None → replies_ahead (Some rest) ≡ []
