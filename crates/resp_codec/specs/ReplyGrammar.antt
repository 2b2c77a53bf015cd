-- Which replies can be read back from their texts. The forms are those of RESP2 (the Redis serialization protocol specification); the
-- limits are this project's profile.
use Rattle.std.specs.Prelude.{◌≡◌, ◌≢◌, ◌⊎◌, ℕ, zero, suc, ◌≤◌, List, [], ◌∷◌, ◌++◌, length, map, FitsSigned}
use Rattle.std.specs.Int.{w64}
use Rattle.std.specs.List.{AllByRecursion, flat_map}
use Rattle.kv_types.specs.declared.reply.Reply.{Reply, Simple, Error, Int, Bulk, NullBulk, Array, Array', NullArray}
use Rattle.kv_types.specs.Reply.{text_of}
use Rattle.resp_codec.specs.declared.reply_item.ReplyItem.{ReplyItem}
use Rattle.resp_codec.specs.declared.reply_item.ReplyItem.TheVariants as item
use Rattle.resp_codec.specs.declared.reply_limits.ReplyLimits.{ReplyLimits}

-- a text that ends where its line ends: it holds no CR and no LF
abbrev pub IsLine : List ℕ → Type 0
IsLine text = AllByRecursion (λ byte. (byte ≢ 13) × (byte ≢ 10)) text

-- a reply that is no array
abbrev pub IsReadableAlone : ReplyLimits → Reply → Type 0
IsReadableAlone limits (Simple text) = IsLine text
IsReadableAlone limits (Error text) = IsLine text
IsReadableAlone limits (Int n) = FitsSigned w64 n
IsReadableAlone limits (Bulk bytes) = length bytes ≤ limits.bulk_bytes
IsReadableAlone limits NullBulk = Unit {0}
IsReadableAlone limits (Array' shape replies) = ⊥
IsReadableAlone limits NullArray = Unit {0}

-- an array of at most `most` replies, each of which is `Each`
pub record IsArrayOf (most : ℕ) (Each : Reply → Type 0) (reply : Reply) : Type 0 where
  pub replies : List Reply
  pub is : reply ≡ Array replies
  pub count : length replies ≤ most
  pub each : AllByRecursion Each replies

-- arrays within arrays at most `depth` deep: at depth 0 an array is empty
abbrev pub IsReadableTo : ReplyLimits → ℕ → Reply → Type 0
IsReadableTo limits zero reply = IsReadableAlone limits reply ⊎ (reply ≡ Array [])
IsReadableTo limits (suc depth) reply = IsReadableAlone limits reply ⊎ IsArrayOf limits.elements (IsReadableTo limits depth) reply

-- a reply that can be read back
abbrev pub IsReadable : ReplyLimits → Reply → Type 0
IsReadable limits reply = IsReadableTo limits limits.depth reply

-- the bytes begin the text of a reply that can be read
pub record BeginsReply (limits : ReplyLimits) (bytes : List ℕ) : Type 0 where
  pub reply : Reply
  pub more : List ℕ
  pub readable : IsReadable limits reply
  pub whole : bytes ++ more ≡ text_of reply

-- What follows the last whole reply: bytes that begin one more, or a fault where no further bytes can make them one.
abbrev pub EndsReplies : ReplyLimits → List ℕ → List ReplyItem → Type 0
EndsReplies limits rest ending = (BeginsReply limits rest × (ending ≡ [])) ⊎ ((¬ BeginsReply limits rest) × (ending ≡ item.Fault ∷ []))

-- The bytes hold these items: the replies whose texts they are, one after another, as far as they go, and then a fault, if one follows.
pub record HoldsReplies (limits : ReplyLimits) (bytes : List ℕ) (items : List ReplyItem) : Type 0 where
  pub replies : List Reply
  pub rest : List ℕ
  pub ending : List ReplyItem
  pub readable : AllByRecursion (IsReadable limits) replies
  pub split : bytes ≡ flat_map text_of replies ++ rest
  pub longest : (reply : Reply) (more : List ℕ) → IsReadable limits reply → rest ≢ text_of reply ++ more
  pub ends : EndsReplies limits rest ending
  pub all : items ≡ map item.Reply replies ++ ending
