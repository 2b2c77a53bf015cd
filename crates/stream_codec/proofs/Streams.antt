-- Streams of messages, as they come in pieces.
use Rattle.std.proofs.Common.{◌≡◌, ℕ, zero, suc, ◌<◌, ◌≤◌, List, [], ◌∷◌, ◌++◌, length, Option, None, Some, Ok, Err, refl, sym, ap, subst, ◌∙◌, arith}
use Rattle.std.specs.List.{flat_map, AllByRecursion}
use Rattle.std.proofs.lemmas.List.{append_assoc, append-nil}
use Rattle.kv_types.specs.declared.stop.Stop.TheVariants.{Short, Broken}
use Rattle.kv_types.proofs.ReaderLemmas.{ok_parts}
use Rattle.stream_codec.specs.Bytes.{Outcome}
use Rattle.stream_codec.specs.Message.{Sent, IsSent, sent_text}
use Rattle.stream_codec.specs.Reading.{message_at}
use Rattle.stream_codec.specs.Stream.{Stream, with_first, stream_from, stream_within, stream_at, IsBegun, IsFault, EndsWith, IsStream, fed, Reaches, begun, took}
use Rattle.stream_codec.proofs.Readers.{grows}
use Rattle.stream_codec.proofs.Messages.{IsMessage, message_reads, message_at-nothing, message_shorter}

-- ---- steps

from_nothing : (following : List ℕ → Stream) → stream_from following [] (message_at []) ≡ record { messages = []; unread = Some [] }
from_nothing following = ap (stream_from following []) message_at-nothing

nothing_within : (most : ℕ) → stream_within most [] ≡ record { messages = []; unread = Some [] }
nothing_within zero = refl
nothing_within (suc most) = from_nothing (stream_within most)

-- two ways to go on that agree on shorter bytes
from_same : (f g : List ℕ → Stream) (bytes : List ℕ) (r : Outcome Sent) → message_at bytes ≡ r → ((rest : List ℕ) → length rest < length bytes → f rest ≡ g rest) → stream_from f bytes r ≡ stream_from g bytes r
from_same f g bytes (Ok message) e h = ap (with_first message.0) (h message.1 (message_shorter bytes message.0 message.1 e))
from_same f g bytes (Err Short) e h = refl
from_same f g bytes (Err (Broken fault)) e h = refl

within_same : (n m : ℕ) (bytes : List ℕ) → length bytes ≤ n → length bytes ≤ m → stream_within n bytes ≡ stream_within m bytes
within_same n m [] h k = nothing_within n ∙ sym (nothing_within m)
within_same zero m (byte ∷ bytes) h k = absurd (omega (arith, h))
within_same (suc n) zero (byte ∷ bytes) h k = absurd (omega (arith, k))
within_same (suc n) (suc m) (byte ∷ bytes) h k =
    from_same (stream_within n) (stream_within m) (byte ∷ bytes) (message_at (byte ∷ bytes)) refl
    (λ rest lt. within_same n m rest (omega (arith, h, lt)) (omega (arith, k, lt)))

pub stream_at-step : (bytes : List ℕ) → stream_at bytes ≡ stream_from stream_at bytes (message_at bytes)
unfolding stream_at
stream_at-step [] = sym (from_nothing stream_at)
stream_at-step (byte ∷ bytes) =
    from_same (stream_within (length bytes)) stream_at (byte ∷ bytes) (message_at (byte ∷ bytes)) refl
    (λ rest lt. within_same (length bytes) (length rest) rest (omega (arith, lt)) (omega arith))

pub stream_at-read : (bytes : List ℕ) (m : Sent) (rest : List ℕ) → message_at bytes ≡ Ok (m, rest) → stream_at bytes ≡ with_first m (stream_at rest)
stream_at-read bytes m rest e = stream_at-step bytes ∙ ap (stream_from stream_at bytes) e

pub stream_at-short : (bytes : List ℕ) → message_at bytes ≡ Err Short → stream_at bytes ≡ record { messages = []; unread = Some bytes }
stream_at-short bytes e = stream_at-step bytes ∙ ap (stream_from stream_at bytes) e

pub stream_at-broken : (bytes : List ℕ) → message_at bytes ≡ Err (Broken tt) → stream_at bytes ≡ record { messages = []; unread = None }
stream_at-broken bytes e = stream_at-step bytes ∙ ap (stream_from stream_at bytes) e

-- ---- more bytes

-- a stream behind messages that are already given
abbrev pub behind : List Sent → Stream → Stream
behind messages stream = record { messages = messages ++ stream.messages; unread = stream.unread }

abbrev grown : List ℕ → Stream → Stream
grown more stream = behind stream.messages (fed stream.unread more)

grows_within : (most : ℕ) (bytes more : List ℕ) → length bytes ≤ most → (r : Outcome Sent) → message_at bytes ≡ r → stream_at (bytes ++ more) ≡ grown more (stream_at bytes)
grows_within zero bytes more h (Ok message) e = absurd (omega (arith, h, message_shorter bytes message.0 message.1 e))
grows_within (suc most) bytes more h (Ok message) e =
    stream_at-read (bytes ++ more) message.0 (message.1 ++ more) (grows message_at IsMessage message_reads bytes more message.0 message.1 e)
    ∙ ap (with_first message.0) (grows_within most message.1 more (omega (arith, h, message_shorter bytes message.0 message.1 e)) (message_at message.1) refl)
    ∙ ap (grown more) (sym (stream_at-read bytes message.0 message.1 e))
grows_within most bytes more h (Err Short) e = ap (grown more) (sym (stream_at-short bytes e))
grows_within most bytes more h (Err (Broken fault)) e =
    stream_at-broken (bytes ++ more) (message_reads.stays bytes more e) ∙ ap (grown more) (sym (stream_at-broken bytes e))

pub stream_grows : (bytes more : List ℕ) → stream_at (bytes ++ more) ≡ behind (stream_at bytes).messages (fed (stream_at bytes).unread more)
stream_grows bytes more = grows_within (length bytes) bytes more (omega arith) (message_at bytes) refl

pub stream_at-Reaches : {text : List ℕ} {given : List Sent} {held : Option (List ℕ)} → Reaches text given held → stream_at text ≡ record { messages = given; unread = held }
unfolding stream_at
stream_at-Reaches begun = refl
stream_at-Reaches (took {text} {given} {held} r piece) = stream_grows text piece ∙ ap (grown piece) (stream_at-Reaches r)

-- ---- the bytes of messages

pub one_spelling : (a b : Sent) (x y : List ℕ) → IsSent a → IsSent b → sent_text a ++ x ≡ sent_text b ++ y → (a ≡ b) × (x ≡ y)
one_spelling a b x y p q e =
    let first = message_reads.again a (sent_text a) x (record { sent = p; text_is = refl }) in
    let second = message_reads.again b (sent_text b) y (record { sent = q; text_is = refl }) in
    ok_parts a b x y (sym first ∙ ap message_at e ∙ second)

begun_of : (bytes : List ℕ) (m : Sent) (more : List ℕ) → message_at bytes ≡ Err Short → IsMessage m (bytes ++ more) → IsBegun bytes
begun_of bytes m [] e i =
    let whole : message_at bytes ≡ Ok (m, []) = ap message_at (sym (append-nil bytes ∙ refl)) ∙ ap message_at (sym (append-nil (bytes ++ []))) ∙ message_reads.again m (bytes ++ []) [] i in
    absurd cc
begun_of bytes m (byte ∷ more) e i = record { message = m; byte = byte; rest = more; sent = i.sent; joined = i.text_is }

begins : (bytes : List ℕ) → message_at bytes ≡ Err Short → IsBegun bytes
begins bytes e = let s = message_reads.short bytes e in begun_of bytes s.0 s.1 e s.2

faults : (bytes : List ℕ) → message_at bytes ≡ Err (Broken tt) → IsFault bytes
faults bytes e more m rest sent same =
    let bad = message_reads.stays bytes more e in
    let good = ap message_at same ∙ message_reads.again m (sent_text m) rest (record { sent = sent; text_is = refl }) in
    absurd cc

is_stream_within : (most : ℕ) (text : List ℕ) → length text ≤ most → (r : Outcome Sent) → message_at text ≡ r → IsStream text (stream_at text).messages (stream_at text).unread
is_stream_within zero text h (Ok message) e = absurd (omega (arith, h, message_shorter text message.0 message.1 e))
is_stream_within (suc most) text h (Ok message) e =
    let i = is_stream_within most message.1 (omega (arith, h, message_shorter text message.0 message.1 e)) (message_at message.1) refl in
    let t = message_reads.takes text message.0 message.1 e in
    subst (λ s. IsStream text s.messages s.unread) (sym (stream_at-read text message.0 message.1 e)) (record {
      rest = i.rest;
      split = t.2 ∙ ap (λ b. b ++ message.1) t.1.text_is ∙ ap (λ b. sent_text message.0 ++ b) i.split ∙ sym (append_assoc (sent_text message.0) (flat_map sent_text (stream_at message.1).messages) i.rest);
      each = (t.1.sent, i.each);
      ends = i.ends;
    })
is_stream_within most text h (Err Short) e =
    subst (λ s. IsStream text s.messages s.unread) (sym (stream_at-short text e)) (record { rest = text; split = refl; each = tt; ends = (refl, begins text e) })
is_stream_within most text h (Err (Broken fault)) e =
    subst (λ s. IsStream text s.messages s.unread) (sym (stream_at-broken text e)) (record { rest = text; split = refl; each = tt; ends = faults text e })

pub is_stream : (text : List ℕ) → IsStream text (stream_at text).messages (stream_at text).unread
is_stream text = is_stream_within (length text) text (omega arith) (message_at text) refl

-- ---- and of no others

append_cons_not_nil : (bytes : List ℕ) (byte : ℕ) (rest : List ℕ) → bytes ++ byte ∷ rest ≡ [] → ⊥
append_cons_not_nil [] byte rest e = absurd cc
append_cons_not_nil (b ∷ bytes) byte rest e = absurd cc

short_by : (bytes : List ℕ) → IsBegun bytes → (r : Outcome Sent) → message_at bytes ≡ r → message_at bytes ≡ Err Short
short_by bytes b (Ok message) e =
    let more = b.byte ∷ b.rest in
    let one = grows message_at IsMessage message_reads bytes more message.0 message.1 e in
    let i : IsMessage b.message (bytes ++ more) = record { sent = b.sent; text_is = b.joined } in
    let two = ap message_at (sym (append-nil (bytes ++ more))) ∙ message_reads.again b.message (bytes ++ more) [] i in
    absurd (append_cons_not_nil message.1 b.byte b.rest (ok_parts message.0 b.message (message.1 ++ more) [] (sym one ∙ two)).1)
short_by bytes b (Err Short) e = e
short_by bytes b (Err (Broken fault)) e =
    let more = b.byte ∷ b.rest in
    let bad = message_reads.stays bytes more e in
    let i : IsMessage b.message (bytes ++ more) = record { sent = b.sent; text_is = b.joined } in
    let good = ap message_at (sym (append-nil (bytes ++ more))) ∙ message_reads.again b.message (bytes ++ more) [] i in
    absurd cc

broken_by : (bytes : List ℕ) → IsFault bytes → (r : Outcome Sent) → message_at bytes ≡ r → message_at bytes ≡ Err (Broken tt)
broken_by bytes f (Ok message) e =
    let t = message_reads.takes bytes message.0 message.1 e in
    absurd (f [] message.0 message.1 t.1.sent (append-nil bytes ∙ t.2 ∙ ap (λ b. b ++ message.1) t.1.text_is))
broken_by bytes f (Err Short) e =
    let s = message_reads.short bytes e in
    absurd (f s.1 s.0 [] s.2.sent (s.2.text_is ∙ sym (append-nil (sent_text s.0))))
broken_by bytes f (Err (Broken fault)) e = e

ended : (rest : List ℕ) (unread : Option (List ℕ)) → EndsWith rest unread → stream_at rest ≡ record { messages = []; unread = unread }
ended rest (Some unread) h =
    stream_at-short rest (short_by rest (subst IsBegun (sym h.0) h.1) (message_at rest) refl) ∙ ap (λ b. record { messages = []; unread = Some b }) h.0
ended rest None h = stream_at-broken rest (broken_by rest h (message_at rest) refl)

only_by : (messages : List Sent) (text rest : List ℕ) (unread : Option (List ℕ)) → text ≡ flat_map sent_text messages ++ rest → AllByRecursion IsSent messages → EndsWith rest unread → stream_at text ≡ record { messages = messages; unread = unread }
only_by [] text rest unread split each ends = ap stream_at split ∙ ended rest unread ends
only_by (m ∷ messages) text rest unread split each ends =
    let tail = flat_map sent_text messages ++ rest in
    let read : message_at text ≡ Ok (m, tail) = ap message_at (split ∙ append_assoc (sent_text m) (flat_map sent_text messages) rest) ∙ message_reads.again m (sent_text m) tail (record { sent = each.0; text_is = refl }) in
    stream_at-read text m tail read ∙ ap (with_first m) (only_by messages tail rest unread refl each.1 ends)

pub only_stream : (text : List ℕ) (messages : List Sent) (unread : Option (List ℕ)) → IsStream text messages unread → stream_at text ≡ record { messages = messages; unread = unread }
only_stream text messages unread i = only_by messages text i.rest unread i.split i.each i.ends

pub is_stream_of : (text : List ℕ) (messages : List Sent) (unread : Option (List ℕ)) → stream_at text ≡ record { messages = messages; unread = unread } → IsStream text messages unread
is_stream_of text messages unread e = subst (λ s. IsStream text s.messages s.unread) e (is_stream text)

pub is_stream_reached : {text : List ℕ} {given : List Sent} {held : Option (List ℕ)} → Reaches text given held → IsStream text given held
is_stream_reached {text} {given} {held} r = is_stream_of text given held (stream_at-Reaches r)

pub written_is_read : (m : Sent) (more : List ℕ) → IsSent m → stream_at (sent_text m ++ more) ≡ with_first m (stream_at more)
written_is_read m more sent = stream_at-read (sent_text m ++ more) m more (message_reads.again m (sent_text m) more (record { sent = sent; text_is = refl }))
