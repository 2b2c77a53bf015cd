-- Messages as texts that are read.
use Rattle.std.proofs.Common.{◌≡◌, ℕ, ◌<◌, List, [], ◌∷◌, ◌++◌, length, ◌≤◌, Ok, Err, inl, inr, refl, sym, ap, ◌∙◌, arith}
use Rattle.std.proofs.lemmas.List.{append-nil, length-append}
use Rattle.kv_types.specs.declared.change.Change.{Change}
use Rattle.kv_types.specs.Change.{changes_text, changes_size}
use Rattle.kv_types.specs.declared.stop.Stop.TheVariants.{Short}
use Rattle.stream_codec.specs.declared.change.Body.TheVariants as bodies
use Rattle.stream_codec.specs.declared.message.TheConstants.{LEAST_PUT_BYTES}
use Rattle.stream_codec.specs.declared.head.Head.{Head}
use Rattle.stream_codec.specs.declared.head.Head.TheVariants as head
use Rattle.stream_codec.specs.Message.{Sent, Changes, Acknowledged, WantsCopy, CopiesPart, EndsCopy, IsSent, sent_text}
use Rattle.stream_codec.specs.Reading.{changes_at, head_at, body_at, message_at}
use Rattle.stream_codec.proofs.Readers.{Reads, Reads-as, Reads-done, Reads-last, Reads-then, Last, Then, last, pair}
use Rattle.std.specs.List.{AllByRecursion}
use Rattle.stream_codec.proofs.Names.{Leaves}
use Rattle.stream_codec.proofs.Changes.{IsIn}
use Rattle.stream_codec.proofs.Bodies.{IsBody, body_leaves, changes_read}
use Rattle.stream_codec.proofs.Heads.{IsHead, IsPartHead, IsHeadText, numbers_text, head_reads}

-- a message with this head, behind its numbers
abbrev pub IsBodyOf : Head → Sent → List ℕ → Type 0
IsBodyOf (head.Group epoch before after size) m text = (changes : List Change) × IsBody bodies.Changes size changes text × (m ≡ Changes epoch before after changes)
IsBodyOf (head.Ack ack) m text = (text ≡ []) × (m ≡ Acknowledged ack.epoch ack.position)
IsBodyOf (head.Wanted epoch) m text = (text ≡ []) × (m ≡ WantsCopy epoch)
IsBodyOf (head.Part epoch position number size) m text = (puts : List Change) × IsBody bodies.Puts size puts text × (m ≡ CopiesPart epoch position number puts)
IsBodyOf (head.End epoch position parts) m text = (text ≡ []) × (m ≡ EndsCopy epoch position parts)

body_reads : (h : Head) → IsHead h → Reads (body_at h) (IsBodyOf h)
body_reads (head.Group epoch before after size) w =
    Reads-as (body_at (head.Group epoch before after size)) (Last (IsBody bodies.Changes size) (λ changes. Changes epoch before after changes)) (IsBodyOf (head.Group epoch before after size))
    (Reads-last (changes_at bodies.Changes size) (IsBody bodies.Changes size) (λ changes. Changes epoch before after changes) (changes_read bodies.Changes size tt))
    (λ m text t. (t.x, record { each = t.before.each; kinds = t.before.kinds; size = t.before.size; text_is = cc (append-nil t.first) }, t.after.1))
    (λ m text i. rw i.2 (last (λ changes. Changes epoch before after changes) i.1))
body_reads (head.Ack ack) w = Reads-done (Acknowledged ack.epoch ack.position)
body_reads (head.Wanted epoch) w = Reads-done (WantsCopy epoch)
body_reads (head.Part epoch position number size) w =
    Reads-as (body_at (head.Part epoch position number size)) (Last (IsBody bodies.Puts size) (λ puts. CopiesPart epoch position number puts)) (IsBodyOf (head.Part epoch position number size))
    (Reads-last (changes_at bodies.Puts size) (IsBody bodies.Puts size) (λ puts. CopiesPart epoch position number puts) (changes_read bodies.Puts size (inr w.some)))
    (λ m text t. (t.x, record { each = t.before.each; kinds = t.before.kinds; size = t.before.size; text_is = cc (append-nil t.first) }, t.after.1))
    (λ m text i. rw i.2 (last (λ puts. CopiesPart epoch position number puts) i.1))
body_reads (head.End epoch position parts) w = Reads-done (EndsCopy epoch position parts)

-- the text is that of a message
pub record IsMessage (m : Sent) (text : List ℕ) : Type 0 where
  pub sent : IsSent m
  pub text_is : text ≡ sent_text m

message_to : (m : Sent) (text first second : List ℕ) (h : Head) → IsHeadText h first → IsBodyOf h m second → text ≡ first ++ second → IsMessage m text
message_to m text first second (head.Group epoch before after size) i b e =
    let w = i.within in
    let body = b.1 in
    let sent : IsSent (Changes epoch before after b.0) = record { epoch_fits = w.epoch_fits; rises = w.rises; after_fits = w.after_fits; each = body.each; body = omega (arith, body.size, w.body) } in
    let text_is = e ∙ ap (λ s. s ++ second) i.text_is ∙ ap (λ s. (1 ∷ numbers_text (head.Group epoch before after size)) ++ s) body.text_is
    ∙ ap (λ n. (1 ∷ numbers_text (head.Group epoch before after n)) ++ changes_text b.0) (sym body.size) in
    rw b.2 (record { sent = sent; text_is = text_is })
message_to m text first second (head.Ack ack) i b e = rw b.1 (record { sent = i.within; text_is = e ∙ ap (λ s. first ++ s) b.0 ∙ append-nil first ∙ i.text_is })
message_to m text first second (head.Wanted epoch) i b e = rw b.1 (record { sent = i.within; text_is = e ∙ ap (λ s. first ++ s) b.0 ∙ append-nil first ∙ i.text_is })
message_to m text first second (head.Part epoch position number size) i b e =
    let w = i.within in
    let body = b.1 in
    let sent : IsSent (CopiesPart epoch position number b.0) =
    record { epoch_fits = w.epoch_fits; position_fits = w.position_fits; number_fits = w.number_fits; each = body.each; are_puts = body.kinds; some = omega (arith, body.size, w.some); body = omega (arith, body.size, w.body) } in
    let text_is = e ∙ ap (λ s. s ++ second) i.text_is ∙ ap (λ s. (4 ∷ numbers_text (head.Part epoch position number size)) ++ s) body.text_is
    ∙ ap (λ n. (4 ∷ numbers_text (head.Part epoch position number n)) ++ changes_text b.0) (sym body.size) in
    rw b.2 (record { sent = sent; text_is = text_is })
message_to m text first second (head.End epoch position parts) i b e = rw b.1 (record { sent = i.within; text_is = e ∙ ap (λ s. first ++ s) b.0 ∙ append-nil first ∙ i.text_is })

-- a body of puts that is not empty has the least number of bytes
some_puts : (size : ℕ) → Leaves bodies.Puts size → 0 < size → LEAST_PUT_BYTES ≤ size
some_puts size leaves some =
    elim leaves [
      | inl none ↦ absurd (omega (arith, none, some))
      | inr more ↦ more
    ]

any_kinds : (changes : List Change) → AllByRecursion (IsIn bodies.Changes) changes
any_kinds [] = tt
any_kinds (c ∷ changes) = (tt, any_kinds changes)

message_from : (m : Sent) (text : List ℕ) → IsMessage m text → Then IsHeadText IsBodyOf m text
message_from (Changes epoch before after changes) text i =
    let g = i.sent in
    let h : Head = head.Group epoch before after (changes_size changes) in
    let first : IsHeadText h (1 ∷ numbers_text h) = record { within = record { epoch_fits = g.epoch_fits; rises = g.rises; after_fits = g.after_fits; body = g.body }; text_is = refl } in
    rw i.text_is (pair {T = IsBodyOf} _ _ _ first (changes, record { each = g.each; kinds = any_kinds changes; size = refl; text_is = refl }, refl))
message_from (Acknowledged epoch position) text i =
    let h : Head = head.Ack (record { epoch = epoch; position = position }) in
    let first : IsHeadText h (2 ∷ numbers_text h) = record { within = i.sent; text_is = refl } in
    rw (i.text_is, ← append-nil (sent_text (Acknowledged epoch position))) (pair {T = IsBodyOf} _ _ [] first (refl, refl))
message_from (WantsCopy epoch) text i =
    let h : Head = head.Wanted epoch in
    let first : IsHeadText h (3 ∷ numbers_text h) = record { within = i.sent; text_is = refl } in
    rw (i.text_is, ← append-nil (sent_text (WantsCopy epoch))) (pair {T = IsBodyOf} _ _ [] first (refl, refl))
message_from (CopiesPart epoch position number puts) text i =
    let g = i.sent in
    let h : Head = head.Part epoch position number (changes_size puts) in
    let some = some_puts (changes_size puts) (body_leaves bodies.Puts puts g.are_puts) g.some in
    let within : IsPartHead epoch position number (changes_size puts) = record { epoch_fits = g.epoch_fits; position_fits = g.position_fits; number_fits = g.number_fits; some = some; body = g.body } in
    let first : IsHeadText h (4 ∷ numbers_text h) = record { within = within; text_is = refl } in
    rw i.text_is (pair {T = IsBodyOf} _ _ _ first (puts, record { each = g.each; kinds = g.are_puts; size = refl; text_is = refl }, refl))
message_from (EndsCopy epoch position parts) text i =
    let h : Head = head.End epoch position parts in
    let first : IsHeadText h (5 ∷ numbers_text h) = record { within = i.sent; text_is = refl } in
    rw (i.text_is, ← append-nil (sent_text (EndsCopy epoch position parts))) (pair {T = IsBodyOf} _ _ [] first (refl, refl))

pub message_reads : Reads message_at IsMessage
unfolding message_at
message_reads =
    Reads-as message_at (Then IsHeadText IsBodyOf) IsMessage
    (Reads-then head_at body_at IsHeadText IsBodyOf head_reads (λ h text i. body_reads h i.within))
    (λ m text t. message_to m text t.first t.second t.x t.before t.after t.joined)
    (λ m text i. message_from m text i)

pub message_at-nothing : message_at [] ≡ Err Short
unfolding message_at head_at
message_at-nothing = refl

-- a message has at least one byte
sent_text_nonempty : (m : Sent) → 0 < length (sent_text m)
sent_text_nonempty (Changes epoch before after changes) = omega arith
sent_text_nonempty (Acknowledged epoch position) = omega arith
sent_text_nonempty (WantsCopy epoch) = omega arith
sent_text_nonempty (CopiesPart epoch position number puts) = omega arith
sent_text_nonempty (EndsCopy epoch position parts) = omega arith

pub message_shorter : (bytes : List ℕ) (m : Sent) (rest : List ℕ) → message_at bytes ≡ Ok (m, rest) → length rest < length bytes
message_shorter bytes m rest e =
    let t = message_reads.takes bytes m rest e in
    let n = ap length t.2 ∙ length-append t.0 rest in
    let k = ap length t.1.text_is in
    omega (arith, n, k, sent_text_nonempty m)
