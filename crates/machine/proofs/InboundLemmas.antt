-- A connection's items after each event: those that were asked for come in order, each once.
use Rattle.std.proofs.Common.{◌≡◌, ◌≢◌, ℕ, ◌<◌, false, List, [], ◌∷◌, ◌++◌, length, take, drop, sym, ap, ◌∙◌, arith, append_assoc, append-nil, length-append, length-take, length-drop, take-append-drop}
use Rattle.std.proofs.Math.Seq.{take-add}
use Rattle.std.proofs.lemmas.List.{take-append-le}
use Rattle.kv_types.specs.declared.limits.TheConstants.{REQUEST_LIMITS}
use Rattle.kv_types.specs.Reading.{items_at}
use Rattle.kv_types.proofs.GrammarItems.{items_at-append, later_items, unread_at}
use Rattle.model.specs.declared.call.Call.{Call}
use Rattle.model.specs.Call.{IsPrefix, items_of, up_to_closing}
use Rattle.model.proofs.ServesLemmas.{up_to_closing-open, up_to_closing-all, items_of-push_own, items_of-push_other}
use Rattle.machine.specs.declared.event.TheConstants.{PIPE_ITEMS}
use Rattle.machine.specs.Event.{Inbound, no_connection, asked, is_closed_by, fed_with, offered_next, taken_first}
use Rattle.machine.specs.Sound.{SoundInbound}

-- what more bytes ask for comes after what was asked for, where nothing closes the connection
pub asked-append : (fed piece : List ℕ) → is_closed_by fed ≡ false → asked (fed ++ piece) ≡ asked fed ++ up_to_closing (later_items REQUEST_LIMITS (unread_at REQUEST_LIMITS fed) piece)
asked-append fed piece stays =
    let items = items_at REQUEST_LIMITS fed in
    let later = later_items REQUEST_LIMITS (unread_at REQUEST_LIMITS fed) piece in
    ap up_to_closing (items_at-append REQUEST_LIMITS fed piece) ∙ up_to_closing-open items later stays
    ∙ ap (λ prefix. prefix ++ up_to_closing later) (sym (up_to_closing-all items stays))

-- of a connection that enters no item was run
pub inbound-new : (calls : List Call) (c : ℕ) → items_of c calls ≡ [] → SoundInbound calls c no_connection.inbound
inbound-new calls c none = search (arith, append-nil (items_of c calls) ∙ none)

pub inbound-fed : (calls : List Call) (c : ℕ) (inbound : Inbound) (piece : List ℕ) → is_closed_by inbound.fed ≡ false → SoundInbound calls c inbound → SoundInbound calls c (fed_with piece inbound)
inbound-fed calls c inbound piece stays s =
    let later = up_to_closing (later_items REQUEST_LIMITS (unread_at REQUEST_LIMITS inbound.fed) piece) in
    let grown = asked-append inbound.fed piece stays in
    record {
      offered = omega (arith, s.offered, ap length grown, length-append (asked inbound.fed) later);
      order = s.order ∙ sym (ap (take inbound.offered) grown ∙ take-append-le inbound.offered (asked inbound.fed) later s.offered);
      few = s.few;
    }

pub inbound-offered : (calls : List Call) (c : ℕ) (inbound : Inbound) → inbound.offered < length (asked inbound.fed) → length inbound.waiting < PIPE_ITEMS → SoundInbound calls c inbound → SoundInbound calls c (offered_next inbound)
inbound-offered calls c inbound more room s =
    let items = asked inbound.fed in
    let next = take 1 (drop inbound.offered items) in
    search (arith, rw (append_assoc, ← take-add inbound.offered 1 items) at (ap (λ prefix. prefix ++ next) s.order), length-append inbound.waiting next, length-take 1 (drop inbound.offered items))

-- the connection's own call takes its first item
pub inbound-called_own : (calls : List Call) (c : ℕ) (inbound : Inbound) (call : Call) → call.connection ≡ c → take 1 inbound.waiting ≡ call.item ∷ [] → SoundInbound calls c inbound → SoundInbound (calls ++ call ∷ []) c (taken_first inbound)
inbound-called_own calls c inbound call own first s =
    let waits = take-append-drop 1 inbound.waiting in
    record { offered = s.offered; order = grind (arith, append_assoc, items_of-push_own c calls call own, first, waits, s.order); few = omega (arith, s.few, length-drop 1 inbound.waiting) }

pub inbound-called_other : (calls : List Call) (c : ℕ) (inbound : Inbound) (call : Call) → call.connection ≢ c → SoundInbound calls c inbound → SoundInbound (calls ++ call ∷ []) c inbound
inbound-called_other calls c inbound call differ s = search (s, ap (λ items. items ++ inbound.waiting) (items_of-push_other c calls call differ) ∙ s.order)

-- the items of its calls come first among those that were asked for
pub inbound-items : (calls : List Call) (c : ℕ) (inbound : Inbound) → SoundInbound calls c inbound → IsPrefix (items_of c calls) (asked inbound.fed)
inbound-items calls c inbound s =
    record { rest = inbound.waiting ++ drop inbound.offered (asked inbound.fed); joined = grind (arith, append_assoc, s.order, take-append-drop) }
