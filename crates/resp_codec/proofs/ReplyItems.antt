-- The replies of bytes, one after another.
use Rattle.std.proofs.Common.{◌≡◌, ℕ, zero, suc, ◌<◌, ◌≤◌, List, [], ◌∷◌, ◌++◌, length, map, flat_map, Result, Ok, Err, None, Some, refl, ap, sym, ◌∙◌, append_assoc, lit<, arith}
use Rattle.std.proofs.lemmas.List.{length-append}
use Rattle.std.specs.List.{AllByRecursion}
use Rattle.kv_types.specs.declared.item.ProtocolFault.{ProtocolFault}
use Rattle.kv_types.specs.declared.reply.Reply.{Reply, NullBulk}
use Rattle.kv_types.specs.Reply.{text_of}
use Rattle.kv_types.specs.declared.stop.Stop.{Stop}
use Rattle.kv_types.specs.declared.stop.Stop.TheVariants.{Short, Broken}
use Rattle.kv_types.specs.Reader.{Read}
use Rattle.resp_codec.specs.declared.reply_item.ReplyItem.{ReplyItem}
use Rattle.resp_codec.specs.declared.reply_item.ReplyItem.TheVariants as item
use Rattle.resp_codec.specs.declared.reply_limits.ReplyLimits.{ReplyLimits}
use Rattle.resp_codec.specs.declared.reply_limits.TheConstants.{REPLY_LIMITS}
use Rattle.resp_codec.specs.GivesReplies.{IsFirstReply}
use Rattle.resp_codec.specs.ReplyGrammar.{IsReadable}
use Rattle.resp_codec.specs.ReplyReading.{reply_at, reply_items_from, reply_items_within, replies_at}
use Rattle.resp_codec.proofs.ReplyGrows.{reply_at-more}
use Rattle.resp_codec.proofs.ReplyTakes.{HasReplyNumbers, reply_at-takes}
use Rattle.resp_codec.proofs.ReplyReadBack.{reply_at-again}

text_of-some : (reply : Reply) → 0 < length (text_of reply)
text_of-some NullBulk = omega arith
text_of-some reply = omega arith

-- what follows a reply is shorter than the bytes that it begins
pub shorter : (limits : ReplyLimits) → HasReplyNumbers limits → (bytes : List ℕ) (read : Read Reply) → reply_at limits limits.depth bytes ≡ Ok read → length read.1 < length bytes
shorter limits numbers bytes read e =
    let found = reply_at-takes limits numbers limits.depth bytes read.0 read.1 e in
    omega (arith, ap length found.1, length-append (text_of read.0) read.1, text_of-some read.0)

reply_at-none : (limits : ReplyLimits) (depth : ℕ) → reply_at limits depth [] ≡ Err Short
reply_at-none limits zero = refl
reply_at-none limits (suc depth) = refl

items_from-same : (f g : List ℕ → List ReplyItem) (r : Result (Read Reply) (Stop ProtocolFault)) → ((read : Read Reply) → r ≡ Ok read → f read.1 ≡ g read.1) → reply_items_from f r ≡ reply_items_from g r
items_from-same f g (Ok read) same = ap (λ items. item.Reply read.0 ∷ items) (same read refl)
items_from-same f g (Err Short) same = refl
items_from-same f g (Err (Broken fault)) same = refl

within-none : (k : ℕ) (limits : ReplyLimits) → reply_items_within k limits [] ≡ []
within-none zero limits = refl
within-none (suc k) limits = ap (reply_items_from (reply_items_within k limits)) (reply_at-none limits limits.depth)

-- any count of at least the number of bytes gives the same items
within-same : (limits : ReplyLimits) → HasReplyNumbers limits → (k m : ℕ) (bytes : List ℕ) → length bytes ≤ k → length bytes ≤ m → reply_items_within k limits bytes ≡ reply_items_within m limits bytes
within-same limits numbers k m [] h j = within-none k limits ∙ sym (within-none m limits)
within-same limits numbers zero m (byte ∷ bytes) h j = absurd (omega arith)
within-same limits numbers (suc k) zero (byte ∷ bytes) h j = absurd (omega arith)
within-same limits numbers (suc k) (suc m) (byte ∷ bytes) h j =
    items_from-same (reply_items_within k limits) (reply_items_within m limits) (reply_at limits limits.depth (byte ∷ bytes))
    (λ read e. let less = shorter limits numbers (byte ∷ bytes) read e in within-same limits numbers k m read.1 (omega (arith, less)) (omega (arith, less)))

-- the items of bytes, from what their first reply reads as
pub replies_at-step : (limits : ReplyLimits) → HasReplyNumbers limits → (bytes : List ℕ) → replies_at limits bytes ≡ reply_items_from (replies_at limits) (reply_at limits limits.depth bytes)
unfolding replies_at
replies_at-step limits numbers [] = sym (ap (reply_items_from (replies_at limits)) (reply_at-none limits limits.depth))
replies_at-step limits numbers (byte ∷ bytes) =
    items_from-same (reply_items_within (length bytes) limits) (replies_at limits) (reply_at limits limits.depth (byte ∷ bytes))
    (λ read e. let less = shorter limits numbers (byte ∷ bytes) read e in within-same limits numbers (length bytes) (length read.1) read.1 (omega (arith, less)) (omega arith))

-- What more bytes do to the items, by what the first reply reads as: it is whole, the bytes are too short for it, or they are broken.
pub replies_at-read : (limits : ReplyLimits) → HasReplyNumbers limits → (text more : List ℕ) (reply : Reply) (rest : List ℕ) → reply_at limits limits.depth text ≡ Ok (reply, rest) → replies_at limits (text ++ more) ≡ item.Reply reply ∷ replies_at limits (rest ++ more)
replies_at-read limits numbers text more reply rest e =
    replies_at-step limits numbers (text ++ more) ∙ ap (reply_items_from (replies_at limits)) (rw e at (reply_at-more more limits limits.depth text))

pub replies_at-short : (limits : ReplyLimits) → HasReplyNumbers limits → (text : List ℕ) → reply_at limits limits.depth text ≡ Err Short → replies_at limits text ≡ []
replies_at-short limits numbers text e = replies_at-step limits numbers text ∙ ap (reply_items_from (replies_at limits)) e

pub replies_at-broken : (limits : ReplyLimits) → HasReplyNumbers limits → (text more : List ℕ) (fault : ProtocolFault) → reply_at limits limits.depth text ≡ Err (Broken fault) → replies_at limits (text ++ more) ≡ item.Fault ∷ []
replies_at-broken limits numbers text more fault e =
    replies_at-step limits numbers (text ++ more) ∙ ap (reply_items_from (replies_at limits)) (rw e at (reply_at-more more limits limits.depth text))

-- the texts of replies are read back, whatever follows them
pub replies_at-again : (limits : ReplyLimits) → HasReplyNumbers limits → (replies : List Reply) (rest : List ℕ) → AllByRecursion (IsReadable limits) replies → replies_at limits (flat_map text_of replies ++ rest) ≡ map item.Reply replies ++ replies_at limits rest
replies_at-again limits numbers [] rest h = refl
replies_at-again limits numbers (reply ∷ replies) rest h =
    let after = flat_map text_of replies ++ rest in
    ap (replies_at limits) (append_assoc (text_of reply) (flat_map text_of replies) rest)
    ∙ replies_at-step limits numbers (text_of reply ++ after)
    ∙ ap (reply_items_from (replies_at limits)) (reply_at-again limits numbers limits.depth reply after h.0)
    ∙ ap (λ items. item.Reply reply ∷ items) (replies_at-again limits numbers replies rest h.1)

-- ---- the first item

pub read_numbers : HasReplyNumbers REPLY_LIMITS
read_numbers = record { elements = lit< tt; bulk_bytes = lit< tt }

pub IsFirstReply-read : (bytes : List ℕ) (reply : Reply) (rest : List ℕ) → reply_at REPLY_LIMITS REPLY_LIMITS.depth bytes ≡ Ok (reply, rest) → IsFirstReply bytes (Some (item.Reply reply)) rest
IsFirstReply-read bytes reply rest e =
    record {
      prefix = text_of reply;
      joined = (reply_at-takes REPLY_LIMITS read_numbers REPLY_LIMITS.depth bytes reply rest e).1;
      given = λ more. replies_at-read REPLY_LIMITS read_numbers bytes more reply rest e;
      none = λ none. absurd (cc);
    }

pub IsFirstReply-short : (bytes : List ℕ) → reply_at REPLY_LIMITS REPLY_LIMITS.depth bytes ≡ Err Short → IsFirstReply bytes None bytes
IsFirstReply-short bytes e =
    record { prefix = []; joined = refl; given = λ more. refl; none = λ none. replies_at-short REPLY_LIMITS read_numbers bytes e }

pub IsFirstReply-broken : (bytes : List ℕ) (fault : ProtocolFault) → reply_at REPLY_LIMITS REPLY_LIMITS.depth bytes ≡ Err (Broken fault) → IsFirstReply bytes (Some item.Fault) bytes
IsFirstReply-broken bytes fault e =
    record { prefix = []; joined = refl; given = λ more. replies_at-broken REPLY_LIMITS read_numbers bytes more fault e; none = λ none. absurd (cc) }
