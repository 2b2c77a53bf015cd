-- The outbound half of a connection still refines the machine's after each step.
use Rattle.std.proofs.Common.{◌≡◌, ◌≢◌, ℕ, ◌+◌, ◌++◌, Bool, true, false, cond, List, [], ◌∷◌, length, take, drop, Option, Some, None, refl, sym, ap, ap₂, subst, ◌∙◌, append_assoc, append-nil, arith, length-append}
use Rattle.std.proofs.lemmas.List.{take_at, drop_at}
use Rattle.kv_types.specs.declared.reply.Held.{Held}
use Rattle.kv_types.specs.declared.seen.Seen.{Seen}
use Rattle.kv_types.specs.Reply.{text_of}
use Rattle.kv_types.specs.Seen.{covers}
use Rattle.model.specs.declared.call.Call.{Call}
use Rattle.model.specs.Call.{is_nonempty}
use Rattle.machine.specs.Connection.{Outbound as Machine, is_covered, covered_prefix, uncovered_rest, texts_of, held_first, having_released}
use Rattle.pipes.specs.Waiting.{Waiting, LocalTakes}
use Rattle.reply_gate.specs.declared.held_text.HeldText.{HeldText}
use Rattle.reply_gate.specs.Gate.{Held as Gate, is_first_covered, covered_bytes}
use Rattle.reply_gate.specs.Gate.{is_covered as is_text_covered, uncovered_rest as uncovered_texts}
use Rattle.connections.specs.declared.outbound.Made.{Made}
use Rattle.connections.specs.Outbound.{IsMade, AreMade, IsHeld, AreHeld, GateRefines}

texts_of-append : (xs ys : List Held) → texts_of (xs ++ ys) ≡ texts_of xs ++ texts_of ys
texts_of-append [] ys = refl
texts_of-append (x ∷ xs) ys = ap (λ text. text_of x.reply ++ text) (texts_of-append xs ys) ∙ sym (append_assoc (text_of x.reply) (texts_of xs) (texts_of ys))

-- ---- what is covered

covered_alike : (seen : Seen) (text : HeldText) (held : Held) → IsHeld text held → is_text_covered seen text ≡ is_covered seen held
covered_alike seen text held is = ap (covers seen) is.position

pub first_covered : (seen : Seen) (texts : List HeldText) (helds : List Held) → AreHeld texts helds → is_first_covered seen texts ≡ is_nonempty (covered_prefix seen helds)
first_covered seen [] [] are = refl
first_covered seen [] (held ∷ helds) are = absurd are
first_covered seen (text ∷ texts) [] are = absurd are
first_covered seen (text ∷ texts) (held ∷ helds) are =
    covered_alike seen text held are.0 ∙ chosen (is_covered seen held)
  where
    chosen : (b : Bool) → b ≡ is_nonempty (cond b (held ∷ covered_prefix seen helds) [])
    chosen true = refl
    chosen false = refl

pub covered_length : (seen : Seen) (texts : List HeldText) (helds : List Held) → AreHeld texts helds → covered_bytes seen texts ≡ length (texts_of (covered_prefix seen helds))
covered_length seen [] [] are = refl
covered_length seen [] (held ∷ helds) are = absurd are
covered_length seen (text ∷ texts) [] are = absurd are
covered_length seen (text ∷ texts) (held ∷ helds) are =
    let later = covered_length seen texts helds are.1 in
    ap (λ b. cond b (text.bytes + covered_bytes seen texts) 0) (covered_alike seen text held are.0)
    ∙ elim (is_covered seen held) as (λ b. cond b (text.bytes + covered_bytes seen texts) 0 ≡ length (texts_of (cond b (held ∷ covered_prefix seen helds) []))) [
      | true ↦ omega (arith, are.0.bytes, later, length-append (text_of held.reply) (texts_of (covered_prefix seen helds)))
      | false ↦ refl
    ]

pub texts-split : (seen : Seen) (helds : List Held) → texts_of helds ≡ texts_of (covered_prefix seen helds) ++ texts_of (uncovered_rest seen helds)
texts-split seen [] = refl
texts-split seen (held ∷ helds) =
    elim (is_covered seen held) as (λ b. text_of held.reply ++ texts_of helds ≡ texts_of (cond b (held ∷ covered_prefix seen helds) []) ++ texts_of (cond b (uncovered_rest seen helds) (held ∷ helds))) [
      | true ↦ ap (λ text. text_of held.reply ++ text) (texts-split seen helds) ∙ sym (append_assoc (text_of held.reply) (texts_of (covered_prefix seen helds)) (texts_of (uncovered_rest seen helds)))
      | false ↦ refl
    ]

pub rest_held : (seen : Seen) (texts : List HeldText) (helds : List Held) → AreHeld texts helds → AreHeld (uncovered_texts seen texts) (uncovered_rest seen helds)
rest_held seen [] [] are = tt
rest_held seen [] (held ∷ helds) are = absurd are
rest_held seen (text ∷ texts) [] are = absurd are
rest_held seen (text ∷ texts) (held ∷ helds) are =
    let later = rest_held seen texts helds are.1 in
    subst (λ b. AreHeld (cond b (uncovered_texts seen texts) (text ∷ texts)) (cond (is_covered seen held) (uncovered_rest seen helds) (held ∷ helds)))
    (sym (covered_alike seen text held are.0))
    (elim (is_covered seen held) as (λ b. AreHeld (cond b (uncovered_texts seen texts) (text ∷ texts)) (cond b (uncovered_rest seen helds) (held ∷ helds))) [
      | true ↦ later
      | false ↦ are
    ])

pub gate-lets_out : (old new : Gate) (machine : Machine) → GateRefines old machine
    → new.pending ≡ old.pending ++ take (covered_bytes machine.seen old.replies) old.waiting
    → new.waiting ≡ drop (covered_bytes machine.seen old.replies) old.waiting
    → new.replies ≡ uncovered_texts machine.seen old.replies
    → GateRefines new (having_released machine)
gate-lets_out old new machine stands pending waiting replies =
    let prefix = texts_of (covered_prefix machine.seen machine.held) in
    let rest = texts_of (uncovered_rest machine.seen machine.held) in
    let split : old.waiting ≡ prefix ++ rest = stands.waiting ∙ texts-split machine.seen machine.held in
    let count : covered_bytes machine.seen old.replies ≡ length prefix = covered_length machine.seen old.replies machine.held stands.held in
    record {
      pending = pending ∙ ap₂ (λ xs n. xs ++ take n old.waiting) stands.pending count ∙ ap (λ xs. machine.pending ++ take (length prefix) xs) split
          ∙ ap (λ xs. machine.pending ++ xs) (take_at prefix rest (length prefix) refl);
      waiting = waiting ∙ ap (λ n. drop n old.waiting) count ∙ ap (drop (length prefix)) split ∙ drop_at prefix rest (length prefix) refl;
      held = subst (λ texts. AreHeld texts (uncovered_rest machine.seen machine.held)) (sym replies) (rest_held machine.seen old.replies machine.held stands.held);
    }

-- ---- what the gate takes

held-push : (texts : List HeldText) (helds : List Held) (text : HeldText) (held : Held) → AreHeld texts helds → IsHeld text held → AreHeld (texts ++ text ∷ []) (helds ++ held ∷ [])
held-push [] [] text held are is = (is, tt)
held-push [] (h ∷ helds) text held are is = absurd are
held-push (t ∷ texts) [] text held are is = absurd are
held-push (t ∷ texts) (h ∷ helds) text held are is = (are.0, held-push texts helds text held are.1 is)

-- a call of the list, and the reply that was made of it
pub record Takes (calls : List Call) (made : Made) (rest : List Made) (helds : List Held) : Type 0 where
  pub first : Held
  pub others : List Held
  pub all : helds ≡ first ∷ others
  pub is : IsMade calls made first
  pub are : AreMade calls rest others

pub takes-first : (calls : List Call) (made : Made) (rest : List Made) (helds : List Held) → AreMade calls (made ∷ rest) helds → Takes calls made rest helds
takes-first calls made rest [] are = absurd are
takes-first calls made rest (held ∷ helds) are = record { first = held; others = helds; all = refl; is = are.0; are = are.1 }

-- it was looked at first, and is taken now
pub took-first : (before after : Waiting Made) (taken : Option Made) (made : Made) (rest : List Made) → LocalTakes before taken after → before.items ≡ made ∷ rest → before.items ≡ made ∷ after.items
took-first before after None made rest gives is = cc
took-first before after (Some item) made rest gives is = gives ∙ ap (λ (x : Made). x ∷ after.items) (first-of item made after.items rest (sym gives ∙ is))
  where
    first-of : (x y : Made) (xs ys : List Made) → x ∷ xs ≡ y ∷ ys → x ≡ y
    first-of x y xs ys e = cc

pub none-made : (calls : List Call) (helds : List Held) → AreMade calls [] helds → helds ≡ []
none-made calls [] are = refl
none-made calls (held ∷ helds) are = absurd are

pub gate-holds : (old new : Gate) (machine : Machine) (made : Made) (call : Call) (held : Held) → GateRefines old machine → held.reply ≡ call.reply → held.position ≡ made.position
    → new.waiting ≡ old.waiting ++ text_of call.reply → new.replies ≡ old.replies ++ record { position = made.position; bytes = length (text_of call.reply) } ∷ [] → new.pending ≡ old.pending
    → take 1 machine.made ≡ held ∷ [] → GateRefines new (held_first machine)
gate-holds old new machine made call held stands reply position waiting replies pending first =
    let text : HeldText = record { position = made.position; bytes = length (text_of call.reply) } in
    let is : IsHeld text held = record { position = sym position; bytes = ap (λ r. length (text_of r)) (sym reply) } in
    record {
      pending = pending ∙ stands.pending;
      waiting = waiting ∙ ap₂ (λ (xs : List ℕ) ys. xs ++ ys) stands.waiting (ap text_of (sym reply) ∙ sym (append-nil (text_of held.reply)))
          ∙ sym (texts_of-append machine.held (held ∷ [])) ∙ ap (λ xs. texts_of (machine.held ++ xs)) (sym first);
      held = subst (λ xs. AreHeld new.replies (machine.held ++ xs)) (sym first)
          (subst (λ texts. AreHeld texts (machine.held ++ held ∷ [])) (sym replies) (held-push old.replies machine.held text held stands.held is));
    }

-- a reply that was made may be held
pub may-hold : (calls : List Call) (mades : List Made) (helds : List Held) → mades ≢ [] → AreMade calls mades helds → is_nonempty helds ≡ true
may-hold calls [] helds some are = absurd (some refl)
may-hold calls (made ∷ mades) [] some are = absurd are
may-hold calls (made ∷ mades) (held ∷ helds) some are = refl
