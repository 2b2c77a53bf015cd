-- A connection that is over: what was released to it are its first replies, which the standby holds, and nothing else of it is left.
use Rattle.std.proofs.Common.{◌≡◌, ◌≢◌, ℕ, ◌≤◌, List, [], ◌∷◌, ◌++◌, inl, inr, refl, sym, subst, arith}
use Rattle.std.proofs.lemmas.Bool.{cases_Bool}
use Rattle.std.proofs.lemmas.List.Elements.{All-nil, All-weaker}
use Rattle.kv_types.specs.declared.seen.Seen.{Seen}
use Rattle.model.specs.declared.call.Call.{Call}
use Rattle.model.specs.State.{State, start_state}
use Rattle.model.specs.Call.{IsPrefix, after_call, items_of}
use Rattle.model.proofs.PrefixLemmas.{IsPrefix-itself, IsPrefix-none}
use Rattle.model.proofs.ServesLemmas.{items_of-push_other}
use Rattle.machine.specs.Event.{Outbound, Connection, World, asked, no_connection, connection_of, is_open, seen_of, left}
use Rattle.machine.specs.Sound.{IsCoveredBy, IsHeldAt, SoundInbound, SoundOutbound, SoundReleased, SoundOver, Sound, answers_from, position_with}
use Rattle.machine.proofs.AnswerLemmas.{answers_to-push_other}
use Rattle.machine.proofs.InboundLemmas.{inbound-items}

-- ---- what was released

pub released-open : (calls : List Call) (c : ℕ) (seen : Seen) (position : ℕ) (outbound : Outbound) → seen.remote ≤ position → SoundOutbound calls c seen outbound → SoundReleased calls c position outbound
released-open calls c seen position outbound le s =
    record {
      out = s.out;
      replies = record { rest = outbound.held ++ outbound.made; joined = s.replies };
      texts = record { rest = outbound.pending; joined = s.texts };
      held = All-weaker (IsCoveredBy seen) (IsHeldAt position) (λ reply h. omega (arith, h.on_standby)) s.out s.covered;
    }

-- of any connection
pub sound-released : (w : World) → Sound w → (c : ℕ) → SoundReleased w.primary.calls c w.standby.position (connection_of w c).outbound
sound-released w s c =
    let low : w.primary.link.remote ≤ w.standby.position = omega (arith, s.link.remote, s.standby.known) in
    elim (cases_Bool (is_open w c)) [
      | inl e ↦ released-open w.primary.calls c (seen_of w) w.standby.position (connection_of w c).outbound low (s.outbound c e)
      | inr e ↦ (s.over c e).released
    ]

-- ---- one that is over

pub over-start : (c : ℕ) → SoundOver [] c 0 no_connection
over-start c =
    let released : SoundReleased [] c 0 no_connection.outbound = record { out = []; replies = IsPrefix-itself []; texts = IsPrefix-itself []; held = All-nil (IsHeldAt 0) } in
    search (IsPrefix-none (asked []), released)

pub over-called : (calls : List Call) (c position : ℕ) (connection : Connection) (call : Call) → call.connection ≢ c → SoundOver calls c position connection → SoundOver (calls ++ call ∷ []) c position connection
over-called calls c position connection call differ s =
    search (subst (λ items. IsPrefix items (asked connection.inbound.fed)) (sym (items_of-push_other c calls call differ)) s.items, subst (IsPrefix s.released.out) (sym (answers_to-push_other c calls call differ)) s.released.replies)

pub over-left : (calls : List Call) (c : ℕ) (seen : Seen) (position : ℕ) (connection : Connection) → seen.remote ≤ position → SoundInbound calls c connection.inbound → SoundOutbound calls c seen connection.outbound
    → SoundOver calls c position (left connection)
over-left calls c seen position connection le inbound s =
    search (inbound-items calls c connection.inbound inbound, released-open calls c seen position connection.outbound le s)

-- ---- one that enters

-- where no call is a connection's, no reply is
answers-none : (s : State) (p c : ℕ) (calls : List Call) → items_of c calls ≡ [] → answers_from s p c calls ≡ []
answers-none s p c [] none = refl
answers-none s p c (call ∷ calls) none = let rest = answers-none (after_call s call) (position_with s p call) c calls in grind (arith, rest)

pub outbound-new : (calls : List Call) (c : ℕ) (seen : Seen) → items_of c calls ≡ [] → SoundOutbound calls c seen no_connection.outbound
outbound-new calls c seen none = search (arith, sym (answers-none start_state 0 c calls none), All-nil (IsCoveredBy seen))
