-- The computed items are those that the bytes hold, and the bytes hold no others.
use Rattle.std.proofs.Common.{◌≡◌, ◌≢◌, ℕ, zero, suc, ◌+◌, ◌<◌, List, [], ◌∷◌, ◌++◌, length, map, flat_map, inl, inr, Result, Ok, Err, refl, ap, sym, ◌∙◌, append_assoc, append-nil, arith}
use Rattle.kv_types.specs.declared.item.ProtocolFault.{ProtocolFault}
use Rattle.kv_types.specs.declared.reply.Reply.{Reply}
use Rattle.kv_types.specs.Reply.{text_of}
use Rattle.kv_types.specs.declared.stop.Stop.{Stop}
use Rattle.kv_types.specs.declared.stop.Stop.TheVariants.{Short, Broken}
use Rattle.kv_types.specs.Reader.{Read}
use Rattle.resp_codec.specs.declared.reply_item.ReplyItem.{ReplyItem}
use Rattle.resp_codec.specs.declared.reply_item.ReplyItem.TheVariants as item
use Rattle.resp_codec.specs.declared.reply_limits.ReplyLimits.{ReplyLimits}
use Rattle.resp_codec.specs.ReplyGrammar.{IsReadable, BeginsReply, HoldsReplies}
use Rattle.resp_codec.specs.ReplyReading.{reply_at, reply_items_from, replies_at}
use Rattle.resp_codec.proofs.ReplyGrows.{reply_at-more}
use Rattle.resp_codec.proofs.ReplyTakes.{HasReplyNumbers, reply_at-takes}
use Rattle.resp_codec.proofs.ReplyReadBack.{reply_at-again}
use Rattle.resp_codec.proofs.ReplyBegins.{reply_at-short}
use Rattle.resp_codec.proofs.ReplyItems.{shorter, replies_at-step, replies_at-again}

begins : (limits : ReplyLimits) → HasReplyNumbers limits → (bytes : List ℕ) → reply_at limits limits.depth bytes ≡ Err Short → BeginsReply limits bytes
begins limits numbers bytes e =
    let found = reply_at-short limits numbers limits.depth bytes e in
    record { reply = found.0; more = found.2.more; readable = found.1; whole = found.2.joined }

-- broken bytes begin no text
begins_none : (limits : ReplyLimits) → HasReplyNumbers limits → (bytes : List ℕ) (fault : ProtocolFault) → reply_at limits limits.depth bytes ≡ Err (Broken fault) → ¬ BeginsReply limits bytes
begins_none limits numbers bytes fault e b =
    let later : reply_at limits limits.depth (bytes ++ b.more) ≡ Err (Broken fault) = rw e at (reply_at-more b.more limits limits.depth bytes) in
    let read = reply_at-again limits numbers limits.depth b.reply [] b.readable in
    let same : ◌≡◌ {A = Result (Read Reply) (Stop ProtocolFault)} (Err (Broken fault)) (Ok (b.reply, [])) = sym later ∙ ap (reply_at limits limits.depth) (b.whole ∙ sym (append-nil (text_of b.reply))) ∙ read in
    absurd (cc)

-- where the reading stops there is no whole reply
stops_whole : (limits : ReplyLimits) → HasReplyNumbers limits → (bytes : List ℕ) (stop : Stop ProtocolFault) → reply_at limits limits.depth bytes ≡ Err stop → (reply : Reply) (more : List ℕ) → IsReadable limits reply → bytes ≢ text_of reply ++ more
stops_whole limits numbers bytes stop e reply more readable split =
    let same : ◌≡◌ {A = Result (Read Reply) (Stop ProtocolFault)} (Err stop) (Ok (reply, more)) = sym e ∙ ap (reply_at limits limits.depth) split ∙ reply_at-again limits numbers limits.depth reply more readable in
    absurd (cc)

holds_with : (limits : ReplyLimits) (bytes rest : List ℕ) (reply : Reply) (items : List ReplyItem) → IsReadable limits reply → bytes ≡ text_of reply ++ rest → HoldsReplies limits rest items → HoldsReplies limits bytes (item.Reply reply ∷ items)
holds_with limits bytes rest reply items readable split h =
    record {
      replies = reply ∷ h.replies;
      rest = h.rest;
      ending = h.ending;
      readable = (readable, h.readable);
      split = split ∙ ap (λ x. text_of reply ++ x) h.split ∙ sym (append_assoc (text_of reply) (flat_map text_of h.replies) h.rest);
      longest = h.longest;
      ends = h.ends;
      all = ap (λ x. item.Reply reply ∷ x) h.all;
    }

holds_from : (limits : ReplyLimits) → HasReplyNumbers limits → (bytes : List ℕ) → ((rest : List ℕ) → length rest < length bytes → HoldsReplies limits rest (replies_at limits rest)) → (r : Result (Read Reply) (Stop ProtocolFault)) → reply_at limits limits.depth bytes ≡ r → HoldsReplies limits bytes (reply_items_from (replies_at limits) r)
holds_from limits numbers bytes each (Ok read) e =
    let taken = reply_at-takes limits numbers limits.depth bytes read.0 read.1 e in
    holds_with limits bytes read.1 read.0 (replies_at limits read.1) taken.0 taken.1 (each read.1 (shorter limits numbers bytes read e))
holds_from limits numbers bytes each (Err Short) e =
    record { replies = []; rest = bytes; ending = []; readable = tt; split = refl; longest = stops_whole limits numbers bytes Short e; ends = inl (begins limits numbers bytes e, refl); all = refl }
holds_from limits numbers bytes each (Err (Broken fault)) e =
    record { replies = []; rest = bytes; ending = item.Fault ∷ []; readable = tt; split = refl; longest = stops_whole limits numbers bytes (Broken fault) e; ends = inr (begins_none limits numbers bytes fault e, refl); all = refl }

holds_within : (limits : ReplyLimits) → HasReplyNumbers limits → (k : ℕ) (bytes : List ℕ) → length bytes < k → HoldsReplies limits bytes (replies_at limits bytes)
holds_within limits numbers zero bytes h = absurd (omega arith)
holds_within limits numbers (suc k) bytes h =
    rw (replies_at-step limits numbers bytes)
    (holds_from limits numbers bytes (λ rest less. holds_within limits numbers k rest (omega arith)) (reply_at limits limits.depth bytes) refl)

pub HoldsReplies-replies_at : (limits : ReplyLimits) → HasReplyNumbers limits → (bytes : List ℕ) → HoldsReplies limits bytes (replies_at limits bytes)
HoldsReplies-replies_at limits numbers bytes = holds_within limits numbers (length bytes + 1) bytes (omega arith)

-- ---- no others

ending_from : (limits : ReplyLimits) → HasReplyNumbers limits → (bytes : List ℕ) (items : List ReplyItem) (h : HoldsReplies limits bytes items) → (r : Result (Read Reply) (Stop ProtocolFault)) → reply_at limits limits.depth h.rest ≡ r → reply_items_from (replies_at limits) r ≡ h.ending
ending_from limits numbers bytes items h (Ok read) e =
    let taken = reply_at-takes limits numbers limits.depth h.rest read.0 read.1 e in
    absurd (h.longest read.0 read.1 taken.0 taken.1)
ending_from limits numbers bytes items h (Err Short) e =
    elim h.ends [
      | inl k ↦ sym k.1
      | inr k ↦ absurd (k.0 (begins limits numbers h.rest e))
    ]
ending_from limits numbers bytes items h (Err (Broken fault)) e =
    elim h.ends [
      | inl k ↦ absurd (begins_none limits numbers h.rest fault e k.0)
      | inr k ↦ sym k.1
    ]

pub HoldsReplies-only : (limits : ReplyLimits) → HasReplyNumbers limits → (bytes : List ℕ) (items : List ReplyItem) → HoldsReplies limits bytes items → items ≡ replies_at limits bytes
HoldsReplies-only limits numbers bytes items h =
    h.all
    ∙ ap (λ ending. map item.Reply h.replies ++ ending) (sym (replies_at-step limits numbers h.rest ∙ ending_from limits numbers bytes items h (reply_at limits limits.depth h.rest) refl))
    ∙ sym (ap (replies_at limits) h.split ∙ replies_at-again limits numbers h.replies h.rest h.readable)
