-- Replies that are taken one after another from bytes that come in pieces.
use Rattle.std.proofs.Common.{◌≡◌, ◌⊎◌, ℕ, ◌+◌, List, [], ◌∷◌, ◌++◌, length, map, flat_map, Bool, true, false, ◌||◌, Option, Some, None, IfSome, inl, inr, refl, sym, ap, ap₂, subst, ◌∙◌, append_assoc, append-nil, length-append}
use Rattle.std.proofs.lemmas.List.Concat.{flat_map-append}
use Rattle.std.proofs.KnownBytes.{Appends-nil, Appends-trans, Consumes-nil, Consumes-trans}
use Rattle.std.specs.Io.KnownBytes.{Appends, Consumes, IsAtEnd, Keeps}
use Rattle.std.specs.List.{AllByRecursion}
use Rattle.kv_types.specs.declared.reply.Reply.{Reply}
use Rattle.kv_types.specs.Reply.{text_of}
use Rattle.kv_types.specs.Request.{spelling}
use Rattle.resp_codec.specs.declared.reply_item.ReplyItem.{ReplyItem}
use Rattle.resp_codec.specs.declared.reply_item.ReplyItem.TheVariants as item
use Rattle.resp_codec.specs.declared.reply_limits.TheConstants.{REPLY_LIMITS}
use Rattle.resp_codec.specs.Parsing.{fed}
use Rattle.resp_codec.specs.ReplyGrammar.{EndsReplies, IsReadable}
use Rattle.resp_codec.specs.ReplyParsing.{replies_ahead, AdvancesReplies}
use Rattle.resp_codec.specs.ReplyReading.{replies_at}
use Rattle.resp_codec.proofs.Pieces.{fed-fed, fed-nothing}
use Rattle.resp_codec.proofs.ReplyHolds.{HoldsReplies-replies_at}
use Rattle.resp_codec.proofs.ReplyItems.{read_numbers, replies_at-again}
use Rattle.client.specs.Exchange.{AreAsked, Holds, IsNeeded, IsNoReply, EndsShort, Takes, Talks, any_error, is_error}
use Rattle.client.specs.Asked.{requests_of}
use Rattle.client.specs.Printed.{printed_reply}
use Rattle.client.specs.Told.{PrintsReplies}

-- ---- while a reply is waited for

-- The bytes that were read so far, which hold nothing whole before the last piece: what they hold is ahead.
pub record HasRead (left left' held held' : Option (List ℕ)) : Type 0 where
  pub bytes : List ℕ
  pub read : Consumes left left' bytes
  pub same : (more : List ℕ) → replies_ahead (fed (fed held bytes) more) ≡ replies_ahead (fed held' more)
  pub needed : IsNeeded held bytes

pub has_read-nothing : (left held : Option (List ℕ)) → HasRead left left held held
has_read-nothing left held =
    record { bytes = []; read = Consumes-nil left; same = λ more. ap (λ h. replies_ahead (fed h more)) (fed-nothing held); needed = inl refl }

-- nothing was whole, and one more piece came
pub has_read-more : (left left' left'' held held' next : Option (List ℕ)) (piece : List ℕ) → HasRead left left' held held' → AdvancesReplies held' None next → replies_ahead next ≡ [] → Consumes left' left'' piece
    → HasRead left left'' held (fed next piece)
has_read-more left left' left'' held held' next piece has none short read =
    let now : (more : List ℕ) → replies_ahead (fed (fed held has.bytes) more) ≡ replies_ahead (fed next more) = λ more. has.same more ∙ none more in
    record {
      bytes = has.bytes ++ piece;
      read = Consumes-trans left left' left'' has.bytes piece has.read read;
      same = λ more.
          ap (λ h. replies_ahead (fed h more)) (sym (fed-fed held has.bytes piece))
          ∙ ap replies_ahead (fed-fed (fed held has.bytes) piece more) ∙ now (piece ++ more) ∙ ap replies_ahead (sym (fed-fed next piece more));
      needed = inr (has.bytes, piece, refl, sym (ap replies_ahead (fed-nothing (fed held has.bytes))) ∙ now [] ∙ ap replies_ahead (fed-nothing next) ∙ short);
    }

pub taken : (left left' held held' next : Option (List ℕ)) (reply : Reply) → HasRead left left' held held' → AdvancesReplies held' (Some (item.Reply reply)) next → Takes left left' held next reply
taken left left' held held' next reply has gives =
    record { bytes = has.bytes; read = has.read; first = λ more. has.same more ∙ gives more; needed = has.needed }

pub no_reply : (left left' held held' next : Option (List ℕ)) → HasRead left left' held held' → AdvancesReplies held' (Some item.Fault) next → next ≡ None → IsNoReply left left' held
no_reply left left' held held' next has gives none =
    record { bytes = has.bytes; read = has.read; never = λ more. has.same more ∙ gives more ∙ ap (λ h. item.Fault ∷ replies_ahead (fed h more)) none }

pub ends_short : (left left' left'' held held' next : Option (List ℕ)) (piece : List ℕ) → HasRead left left' held held' → AdvancesReplies held' None next → replies_ahead next ≡ [] → Consumes left' left'' piece → piece ≡ []
    → IsAtEnd left'' → EndsShort left left'' held
ends_short left left' left'' held held' next piece has none short read empty ended =
    record {
      bytes = has.bytes;
      read = subst (Consumes left left'') (ap (λ p. has.bytes ++ p) empty ∙ append-nil has.bytes) (Consumes-trans left left' left'' has.bytes piece has.read read);
      ended = ended;
      short = sym (ap replies_ahead (fed-nothing (fed held has.bytes))) ∙ has.same [] ∙ none [] ∙ ap replies_ahead (fed-nothing next) ∙ short;
    }

-- a try that read nothing comes before one that did
pub kept_consumed : (a b c : Option (List ℕ)) (bytes : List ℕ) → Keeps a b → Consumes b c bytes → Consumes a c bytes
kept_consumed None b c bytes kept consumed = tt
kept_consumed (Some xs) None c bytes kept consumed = absurd kept
kept_consumed (Some xs) (Some ys) None bytes kept consumed = absurd consumed
kept_consumed (Some xs) (Some ys) (Some zs) bytes kept consumed = sym kept ∙ consumed

-- ---- a reply is the text with which the bytes begin

-- what bytes hold, where a reply is the first of it
record Front (bytes : List ℕ) (reply : Reply) : Type 0 where
  pub rest : List ℕ
  pub split : bytes ≡ text_of reply ++ rest
  pub again : (more : List ℕ) → replies_at REPLY_LIMITS (text_of reply ++ more) ≡ item.Reply reply ∷ replies_at REPLY_LIMITS more

again_of : (reply : Reply) (more : List ℕ) → IsReadable REPLY_LIMITS reply → replies_at REPLY_LIMITS (text_of reply ++ more) ≡ item.Reply reply ∷ replies_at REPLY_LIMITS more
again_of reply more readable =
    ap (λ text. replies_at REPLY_LIMITS (text ++ more)) (sym (append-nil (text_of reply))) ∙ replies_at-again REPLY_LIMITS read_numbers (reply ∷ []) more (readable, tt)

front_at : (bytes rest : List ℕ) (reply : Reply) (items : List ReplyItem) (replies : List Reply) (ending : List ReplyItem) → AllByRecursion (IsReadable REPLY_LIMITS) replies → bytes ≡ flat_map text_of replies ++ rest
    → EndsReplies REPLY_LIMITS rest ending → item.Reply reply ∷ items ≡ map item.Reply replies ++ ending → Front bytes reply
front_at bytes rest reply items [] ending readable split (inl x) e =
    let none : item.Reply reply ∷ items ≡ [] = e ∙ x.1 in absurd (cc)
front_at bytes rest reply items [] ending readable split (inr x) e =
    let none : item.Reply reply ∷ items ≡ item.Fault ∷ [] = e ∙ x.1 in absurd (cc)
front_at bytes rest reply items (first ∷ others) ending readable split ends e =
    let same : first ≡ reply = cc in
    subst (Front bytes) same (record {
      rest = flat_map text_of others ++ rest;
      split = split ∙ append_assoc (text_of first) (flat_map text_of others) rest;
      again = λ more. again_of first more readable.0;
    })

front_of : (bytes : List ℕ) (reply : Reply) (items : List ReplyItem) → replies_at REPLY_LIMITS bytes ≡ item.Reply reply ∷ items → Front bytes reply
front_of bytes reply items e =
    let held = HoldsReplies-replies_at REPLY_LIMITS read_numbers bytes in
    front_at bytes held.rest reply items held.replies held.ending held.readable held.split held.ends (sym e ∙ held.all)

same_others : (first : ReplyItem) (xs ys : List ReplyItem) → first ∷ xs ≡ first ∷ ys → xs ≡ ys
same_others first xs ys e = cc

-- what is held is what follows the text of the reply
take_front : (held next : Option (List ℕ)) (front bytes : List ℕ) (reply : Reply) → Holds held front → AdvancesReplies (fed held bytes) (Some (item.Reply reply)) next
    → (rest : List ℕ) × (front ++ bytes ≡ text_of reply ++ rest) × Holds next rest
take_front held next front bytes reply holds gives =
    let all : (more : List ℕ) → replies_at REPLY_LIMITS ((front ++ bytes) ++ more) ≡ item.Reply reply ∷ replies_ahead (fed next more) =
    λ more. ap (replies_at REPLY_LIMITS) (append_assoc front bytes more) ∙ sym (holds (bytes ++ more)) ∙ ap replies_ahead (sym (fed-fed held bytes more)) ∙ gives more in
    let f = front_of (front ++ bytes) reply (replies_ahead (fed next [])) (ap (replies_at REPLY_LIMITS) (sym (append-nil (front ++ bytes))) ∙ all []) in (
      f.rest,
      f.split,
      λ more.
          same_others (item.Reply reply) (replies_ahead (fed next more)) (replies_at REPLY_LIMITS (f.rest ++ more))
          (sym (all more) ∙ ap (replies_at REPLY_LIMITS) (ap (λ xs. xs ++ more) f.split ∙ append_assoc (text_of reply) f.rest more) ∙ f.again (f.rest ++ more)),
    )

-- ---- requests, one after another

or-false : (b : Bool) → (b || false) ≡ b
or-false true = refl
or-false false = refl

or-assoc : (a b c : Bool) → (a || (b || c)) ≡ ((a || b) || c)
or-assoc true b c = refl
or-assoc false b c = refl

any_error-append : (xs ys : List Reply) → any_error (xs ++ ys) ≡ (any_error xs || any_error ys)
any_error-append [] ys = refl
any_error-append (x ∷ xs) ys = ap (λ b. is_error x || b) (any_error-append xs ys) ∙ or-assoc (is_error x) (any_error xs) (any_error ys)

pub talks-none : (sent left held printed : Option (List ℕ)) → Talks [] false sent sent left left held held printed printed
talks-none sent left held printed = record {
  replies = [];
  each = refl;
  errors = refl;
  asked = Appends-nil sent;
  bytes = [];
  came = Consumes-nil left;
  begins = λ front holds. (front, append-nil front, holds);
  told = Appends-nil printed;
}

pub talks-one : (words : List (List ℕ)) (sent sent' left left' held held' printed printed' : Option (List ℕ)) (reply : Reply) (failed : Bool) → failed ≡ is_error reply → Appends sent sent' (spelling words) → Takes left left' held held' reply
    → Appends printed printed' (printed_reply reply) → Talks (words ∷ []) failed sent sent' left left' held held' printed printed'
talks-one words sent sent' left left' held held' printed printed' reply failed is asked takes told = record {
  replies = reply ∷ [];
  each = refl;
  errors = is ∙ sym (or-false (is_error reply));
  asked = subst (Appends sent sent') (sym (append-nil (spelling words))) asked;
  bytes = takes.bytes;
  came = takes.read;
  begins = λ front holds.
      let f = take_front held held' front takes.bytes reply holds takes.first in
      (f.0, f.1 ∙ ap (λ text. text ++ f.0) (sym (append-nil (text_of reply))), f.2);
  told = subst (Appends printed printed') (sym (append-nil (printed_reply reply))) told;
}

pub talks-then : (requests more : List (List (List ℕ))) (f f' f'' : Bool) (s s' s'' l l' l'' h h' h'' p p' p'' : Option (List ℕ)) → f'' ≡ (f || f') → Talks requests f s s' l l' h h' p p' → Talks more f' s' s'' l' l'' h' h'' p' p''
    → Talks (requests ++ more) f'' s s'' l l'' h h'' p p''
talks-then requests more f f' f'' s s' s'' l l' l'' h h' h'' p p' p'' either a b = record {
  replies = a.replies ++ b.replies;
  each = length-append a.replies b.replies ∙ ap₂ (λ m n. m + n) a.each b.each ∙ sym (length-append requests more);
  errors = either ∙ ap₂ (λ a b. a || b) a.errors b.errors ∙ sym (any_error-append a.replies b.replies);
  asked = subst (Appends s s'') (sym (flat_map-append spelling requests more)) (Appends-trans s s' s'' (flat_map spelling requests) (flat_map spelling more) a.asked b.asked);
  bytes = a.bytes ++ b.bytes;
  came = Consumes-trans l l' l'' a.bytes b.bytes a.came b.came;
  begins = λ front holds.
      let x = a.begins front holds in
      let y = b.begins x.0 x.2 in
      let first = flat_map text_of a.replies in
      let second = flat_map text_of b.replies in (
        y.0,
        sym (append_assoc front a.bytes b.bytes) ∙ ap (λ xs. xs ++ b.bytes) x.1 ∙ append_assoc first x.0 b.bytes ∙ ap (λ xs. first ++ xs) y.1 ∙ sym (append_assoc first second y.0)
            ∙ ap (λ xs. xs ++ y.0) (sym (flat_map-append text_of a.replies b.replies)),
        y.2,
      );
  told = subst (Appends p p'') (sym (flat_map-append printed_reply a.replies b.replies)) (Appends-trans p p' p'' (flat_map printed_reply a.replies) (flat_map printed_reply b.replies) a.told b.told);
}

-- ---- what was printed

prints-each : (words : List (List ℕ)) (input : Option (List ℕ)) (requests : List (List (List ℕ))) (count : ℕ) → AreAsked words input requests → count ≡ length requests
    → (count ≡ 1) ⊎ IfSome input (λ text. count ≡ length (requests_of text))
prints-each (word ∷ words) input requests count asked counted = inl (counted ∙ ap length asked)
prints-each [] None requests count asked counted = inr tt
prints-each [] (Some text) requests count asked counted = inr (counted ∙ ap length asked)

pub talks-prints : (words : List (List ℕ)) (input : Option (List ℕ)) (requests : List (List (List ℕ))) (failed : Bool) (sent sent' left left' held held' printed printed' : Option (List ℕ)) → AreAsked words input requests
    → Talks requests failed sent sent' left left' held held' printed printed' → PrintsReplies failed input printed printed'
talks-prints words input requests failed sent sent' left left' held held' printed printed' asked talks =
    record { replies = talks.replies; each = prints-each words input requests (length talks.replies) asked talks.each; errors = talks.errors; told = talks.told }
