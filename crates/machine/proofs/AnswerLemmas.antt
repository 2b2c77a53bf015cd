-- A connection's replies after each event: they are those of its calls, in order, and released only where both marks cover them.
use Rattle.std.proofs.Common.{◌≡◌, ◌≢◌, ℕ, ◌+◌, true, false, cond, List, [], ◌∷◌, ◌++◌, refl, sym, ap, ◌∙◌, arith, append_assoc, append-nil, eq-eqb, ne_eqb, ◌<◌, ◌≤◌, nat_le, length, take, drop, All}
use Rattle.std.proofs.Common.{le_refl, length-append, length-drop, take-append-drop}
use Rattle.std.proofs.lemmas.Grind.{flat_map-append}
use Rattle.kv_types.specs.declared.reply.Held.{Held}
use Rattle.kv_types.specs.declared.seen.Seen.{Seen}
use Rattle.kv_types.specs.Reply.{text_of}
use Rattle.model.specs.declared.call.Call.{Call}
use Rattle.model.specs.State.{State, start_state}
use Rattle.model.specs.Call.{after_call, state_from, state_after, position_from, position_of, replies_to}
use Rattle.model.proofs.CallsLemmas.{position_of-push}
use Rattle.machine.specs.Event.{texts_of, Outbound, World, seen_of, is_covered, covered_prefix, uncovered_rest, with_made, held_first, having_read, having_released, written}
use Rattle.machine.specs.Sound.{position_with, answer_at, answers_from, answers_to, IsCoveredBy, SoundOutbound}
use Rattle.std.proofs.lemmas.Bool.{leb-true, and_parts}
use Rattle.std.proofs.lemmas.List.Elements.{All-nil, All-cons, All-append, All-weaker}
use Rattle.machine.specs.declared.event.TheConstants.{PIPE_ITEMS}
use Rattle.machine.specs.declared.event.Mark.{Mark}
use Rattle.machine.specs.declared.event.Mark.TheVariants.{Local, Remote}

pub answers_from-append : (s : State) (p c : ℕ) (xs ys : List Call) → answers_from s p c (xs ++ ys) ≡ answers_from s p c xs ++ answers_from (state_from s xs) (p + position_from s xs) c ys
answers_from-append s p c [] ys = let same : p ≡ p + 0 = omega arith in ap (λ q. answers_from s q c ys) same
answers_from-append s p c (call ∷ xs) ys =
    let rest = answers_from-append (after_call s call) (position_with s p call) c xs ys in
    grind (arith, append_assoc, rest)

-- ---- one more call

pub answers_to-push : (c : ℕ) (calls : List Call) (call : Call) → answers_to c (calls ++ call ∷ []) ≡ answers_to c calls ++ answer_at (state_after calls) (position_of calls) c call
answers_to-push c calls call = grind (arith, append-nil, answers_from-append start_state 0 c calls (call ∷ []))

-- a call of this connection adds its reply, with the position of the list after it
pub answers_to-push_own : (c : ℕ) (calls : List Call) (call : Call) → call.connection ≡ c
    → answers_to c (calls ++ call ∷ []) ≡ answers_to c calls ++ record { reply = call.reply; position = position_of (calls ++ call ∷ []) } ∷ []
answers_to-push_own c calls call own = grind (arith, answers_to-push c calls call, eq-eqb call.connection c own, position_of-push calls call)

-- a call of another one adds nothing
pub answers_to-push_other : (c : ℕ) (calls : List Call) (call : Call) → call.connection ≢ c → answers_to c (calls ++ call ∷ []) ≡ answers_to c calls
answers_to-push_other c calls call differ = grind (arith, answers_to-push c calls call, ne_eqb call.connection c differ, append-nil)

-- ---- their texts

texts_of-answer : (s : State) (p c : ℕ) (call : Call) (calls : List Call) → replies_to c (call ∷ calls) ≡ texts_of (answer_at s p c call) ++ replies_to c calls
texts_of-answer s p c call calls = grind (arith, append-nil)

texts_of-answers_from : (s : State) (p c : ℕ) (calls : List Call) → texts_of (answers_from s p c calls) ≡ replies_to c calls
texts_of-answers_from s p c [] = refl
texts_of-answers_from s p c (call ∷ calls) =
    let rest = texts_of-answers_from (after_call s call) (position_with s p call) c calls in
    grind (arith, flat_map-append, texts_of-answer, rest)

pub texts_of-answers_to : (c : ℕ) (calls : List Call) → texts_of (answers_to c calls) ≡ replies_to c calls
texts_of-answers_to c calls = texts_of-answers_from start_state 0 c calls

pub texts_of-append : (xs ys : List Held) → texts_of (xs ++ ys) ≡ texts_of xs ++ texts_of ys
texts_of-append xs ys = flat_map-append (λ (reply : Held). text_of reply.reply) xs ys

-- ---- the covered prefix

pub covered_prefix-rest : (seen : Seen) (replies : List Held) → covered_prefix seen replies ++ uncovered_rest seen replies ≡ replies
covered_prefix-rest seen [] = refl
covered_prefix-rest seen (reply ∷ replies) = let rest = covered_prefix-rest seen replies in grind (arith, rest)

pub covered-is : (seen : Seen) (reply : Held) → is_covered seen reply ≡ true → IsCoveredBy seen reply
covered-is seen reply e =
    let parts = and_parts (nat_le reply.position seen.local) (nat_le reply.position seen.remote) e in
    record { on_primary = leb-true reply.position seen.local parts.0; on_standby = leb-true reply.position seen.remote parts.1 }

pub covered_prefix-covered : (seen : Seen) (replies : List Held) → All (IsCoveredBy seen) (covered_prefix seen replies)
covered_prefix-covered seen [] = All-nil (IsCoveredBy seen)
covered_prefix-covered seen (reply ∷ replies) =
    elim (is_covered seen reply) as (λ b. is_covered seen reply ≡ b → All (IsCoveredBy seen) (cond b (reply ∷ covered_prefix seen replies) [])) [
      | true ↦ λ e. All-cons (IsCoveredBy seen) reply (covered_prefix seen replies) (covered-is seen reply e) (covered_prefix-covered seen replies)
      | false ↦ λ e. All-nil (IsCoveredBy seen)
    ] refl

-- marks only grow
pub covered-weaker : (seen seen' : Seen) (replies : List Held) → seen.local ≤ seen'.local → seen.remote ≤ seen'.remote → All (IsCoveredBy seen) replies → All (IsCoveredBy seen') replies
covered-weaker seen seen' replies le le' all =
    All-weaker (IsCoveredBy seen) (IsCoveredBy seen') (λ reply h. record { on_primary = omega (arith, h.on_primary); on_standby = omega (arith, h.on_standby) }) replies all

-- ---- the events

pub outbound-marked : (calls : List Call) (c : ℕ) (seen seen' : Seen) (outbound : Outbound) → seen.local ≤ seen'.local → seen.remote ≤ seen'.remote → SoundOutbound calls c seen outbound → SoundOutbound calls c seen' outbound
outbound-marked calls c seen seen' outbound le le' s = search (arith, covered-weaker seen seen' s.out le le' s.covered)

-- the reply of the connection's own call waits
pub outbound-called_own : (calls : List Call) (c : ℕ) (seen : Seen) (outbound : Outbound) (call : Call) → call.connection ≡ c → length outbound.made < PIPE_ITEMS → SoundOutbound calls c seen outbound
    → SoundOutbound (calls ++ call ∷ []) c seen (with_made (record { reply = call.reply; position = position_of (calls ++ call ∷ []) }) outbound)
outbound-called_own calls c seen outbound call own room s =
    let last : List Held = record { reply = call.reply; position = position_of (calls ++ call ∷ []) } ∷ [] in
    let replies : (s.out ++ (outbound.held ++ outbound.made)) ++ last ≡ answers_to c (calls ++ call ∷ []) = rw s.replies (sym (answers_to-push_own c calls call own)) in
    search (arith, length-append outbound.made last, simp append_assoc at replies)

pub outbound-called_other : (calls : List Call) (c : ℕ) (seen : Seen) (outbound : Outbound) (call : Call) → call.connection ≢ c → SoundOutbound calls c seen outbound → SoundOutbound (calls ++ call ∷ []) c seen outbound
outbound-called_other calls c seen outbound call differ s = search (s.replies ∙ sym (answers_to-push_other c calls call differ))

pub outbound-held : (calls : List Call) (c : ℕ) (seen : Seen) (outbound : Outbound) → SoundOutbound calls c seen outbound → SoundOutbound calls c seen (held_first outbound)
outbound-held calls c seen outbound s =
    let replies : s.out ++ ((outbound.held ++ take 1 outbound.made) ++ drop 1 outbound.made) ≡ answers_to c calls = simp (append_assoc, take-append-drop) s.replies in
    search (arith, replies, length-drop 1 outbound.made)

pub outbound-read : (calls : List Call) (c : ℕ) (mark : Mark) (w : World) (outbound : Outbound) → SoundOutbound calls c (seen_of w) outbound → SoundOutbound calls c (seen_of w) (having_read mark w outbound)
outbound-read calls c Local w outbound s = search (le_refl w.primary.committer.local)
outbound-read calls c Remote w outbound s = search (le_refl w.primary.link.remote)

pub outbound-having_released : (calls : List Call) (c : ℕ) (seen : Seen) (outbound : Outbound) → SoundOutbound calls c seen outbound → SoundOutbound calls c seen (having_released outbound)
outbound-having_released calls c seen outbound s =
    let prefix = covered_prefix outbound.seen outbound.held in
    let rest = uncovered_rest outbound.seen outbound.held in
    let held : prefix ++ rest ≡ outbound.held = covered_prefix-rest outbound.seen outbound.held in
    let replies : (s.out ++ prefix) ++ (rest ++ outbound.made) ≡ answers_to c calls = simp append_assoc (simp append_assoc at (rw (← held) at s.replies)) in
    let texts : outbound.released ++ (outbound.pending ++ texts_of prefix) ≡ texts_of (s.out ++ prefix) = rw (← append_assoc, s.texts) (sym (texts_of-append s.out prefix)) in
    search (
      replies,
      texts,
      All-append (IsCoveredBy seen) s.out prefix s.covered
          (covered-weaker outbound.seen seen prefix s.local_read s.remote_read (covered_prefix-covered outbound.seen outbound.held)),
    )

pub outbound-written : (calls : List Call) (c : ℕ) (seen : Seen) (n : ℕ) (outbound : Outbound) → SoundOutbound calls c seen outbound → SoundOutbound calls c seen (written n outbound)
outbound-written calls c seen n outbound s =
    let texts : (outbound.released ++ take n outbound.pending) ++ drop n outbound.pending ≡ texts_of s.out = simp (append_assoc, take-append-drop) s.texts in
    search texts
