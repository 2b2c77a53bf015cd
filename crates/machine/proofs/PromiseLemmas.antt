-- What was released: it begins the replies, and both images hold its calls.
use Rattle.std.proofs.Common.{◌≡◌, ℕ, ◌+◌, ◌<◌, ◌≤◌, true, List, [], ◌∷◌, ◌++◌, length, All, refl, sym, ap, subst, ◌∙◌, arith, append_assoc, length-append}
use Rattle.std.proofs.lemmas.List.Elements.{All-head, All-tail}
use Rattle.kv_types.specs.declared.reply.Held.{Held}
use Rattle.kv_types.specs.Reply.{text_of}
use Rattle.model.specs.declared.call.Call.{Call}
use Rattle.model.specs.State.{start_state}
use Rattle.model.specs.Call.{IsPrefix, position_of, replies_to, state_after}
use Rattle.model.proofs.PrefixLemmas.{IsPrefix-length, IsPrefix-trans}
use Rattle.machine.specs.Event.{World, connection_of, is_open, seen_of, texts_of}
use Rattle.machine.specs.Promise.{IsReleased, HasMarks, released_in}
use Rattle.machine.specs.Sound.{IsCoveredBy, IsHeldAt, Sound, answers_from, answers_to}
use Rattle.machine.proofs.AnswerLemmas.{answers_from-append, answers_to-push_own, texts_of-answers_to, texts_of-append}
use Rattle.machine.proofs.OverLemmas.{sound-released}
use Rattle.machine.proofs.SoundConnection.{reach-low}

-- ---- what was released

-- the replies released are a prefix of all replies: one that begins within their texts is among them
pub among : (P : Held → Type 0) (out others prefix : List Held) (reply : Held) (more : List Held) → out ++ others ≡ prefix ++ reply ∷ more → length (texts_of prefix) < length (texts_of out) → All P out → P reply
among P [] others prefix reply more e lt all = absurd (omega arith)
among P (x ∷ out) others [] reply more e lt all = let same : x ≡ reply = cc in subst P same (All-head P x out all)
among P (x ∷ out) others (y ∷ prefix) reply more e lt all =
    let same : x ≡ y = cc in
    let rest : out ++ others ≡ prefix ++ reply ∷ more = cc in
    let first = length-append (text_of x.reply) (texts_of out) in
    let second = length-append (text_of y.reply) (texts_of prefix) in
    let texts : length (text_of x.reply) ≡ length (text_of y.reply) = ap (λ (z : Held). length (text_of z.reply)) same in
    among P out others prefix reply more rest (omega arith) (All-tail P x out all)

-- what holds of each reply that was released holds of that of a released call
released-reply : (P : Held → Type 0) (w : World) (prefix : List Call) (call : Call) (out : List Held) → IsReleased w.primary.calls (released_in w) prefix call
    → IsPrefix out (answers_to call.connection w.primary.calls) → IsPrefix (released_in w call.connection) (texts_of out) → All P out → P (record { reply = call.reply; position = position_of (prefix ++ call ∷ []) })
released-reply P w prefix call out released replies texts all_out =
    let c = call.connection in
    let reply : Held = record { reply = call.reply; position = position_of (prefix ++ call ∷ []) } in
    let more = answers_from (state_after (prefix ++ call ∷ [])) (0 + position_of (prefix ++ call ∷ [])) c released.rest in
    let all : out ++ replies.rest ≡ answers_to c prefix ++ reply ∷ more =
    grind (arith, append_assoc, replies.joined, released.stands, answers_from-append start_state 0 c (prefix ++ call ∷ []) released.rest, answers_to-push_own c prefix call refl) in
    let before = ap length (texts_of-answers_to c prefix) in
    let enough = IsPrefix-length texts in
    among P out replies.rest (answers_to c prefix) reply more all (omega (arith, released.written, enough, before)) all_out

-- both images hold a released call
pub released-held : (w : World) → Sound w → (prefix : List Call) (call : Call) → IsReleased w.primary.calls (released_in w) prefix call
    → (position_of (prefix ++ call ∷ []) ≤ w.primary.committer.position) × (position_of (prefix ++ call ∷ []) ≤ w.standby.position)
released-held w s prefix call released =
    let r = sound-released w s call.connection in
    let low = released-reply (IsHeldAt w.standby.position) w prefix call r.out released r.replies r.texts r.held in
    (omega (arith, low, s.standby.behind, reach-low w.primary.link.copying w.primary.committer.position), low)

-- while its connection is open, both marks are at least at its position
pub released-covered : (w : World) → Sound w → (prefix : List Call) (call : Call) → is_open w call.connection ≡ true → IsReleased w.primary.calls (released_in w) prefix call → HasMarks prefix call w
released-covered w s prefix call is_one released =
    let c = call.connection in
    let outbound = (connection_of w c).outbound in
    let o = s.outbound c is_one in
    let covered = released-reply (IsCoveredBy (seen_of w)) w prefix call o.out released
    (record { rest = outbound.held ++ outbound.made; joined = o.replies }) (record { rest = outbound.pending; joined = o.texts }) o.covered in
    record { made = record { rest = released.rest; joined = append_assoc prefix (call ∷ []) released.rest ∙ sym released.stands }; local = covered.on_primary; remote = covered.on_standby }

-- what was released begins the replies
pub released-begins : (w : World) → Sound w → (c : ℕ) → IsPrefix (released_in w c) (replies_to c w.primary.calls)
released-begins w s c =
    let r = sound-released w s c in
    IsPrefix-trans r.texts (record { rest = texts_of r.replies.rest; joined = sym (texts_of-append r.out r.replies.rest) ∙ ap texts_of r.replies.joined ∙ texts_of-answers_to c w.primary.calls })

-- what was released to an open connection and what waits are the replies
pub replies-add_up : (w : World) → Sound w → (c : ℕ) → is_open w c ≡ true → let outbound = (connection_of w c).outbound in
    outbound.released ++ (outbound.pending ++ (texts_of outbound.held ++ texts_of outbound.made)) ≡ replies_to c w.primary.calls
replies-add_up w s c is_one =
    let outbound = (connection_of w c).outbound in
    let o = s.outbound c is_one in
    grind (arith, append_assoc, texts_of-append, o.texts, ap texts_of o.replies, texts_of-answers_to)
