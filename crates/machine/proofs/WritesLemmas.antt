-- What an event does to the list and to the released bytes, by kinds of change.
use Rattle.std.proofs.Common.{◌≡◌, ◌⊎◌, ℕ, true, List, [], ◌∷◌, map, refl, sym, ap, subst, ◌∙◌, inl, inr}
use Rattle.std.proofs.lemmas.Bool.{cases_eq}
use Rattle.model.specs.declared.call.Call.{Call}
use Rattle.model.specs.Call.{IsPrefix, cut_at}
use Rattle.model.proofs.CallsLemmas.{IsPrefix-cut_at}
use Rattle.model.proofs.PrefixLemmas.{IsPrefix-itself, IsPrefix-of_append}
use Rattle.machine.specs.declared.event.Node.{Node}
use Rattle.machine.specs.declared.event.Node.TheVariants as nodes
use Rattle.machine.specs.declared.event.Mark.{Mark}
use Rattle.machine.specs.declared.event.Mark.TheVariants.{Local, Remote}
use Rattle.machine.specs.Event.{Connection, Remains, At, AsPrimary, AsFollower, World, get_connection, crashed, promoted, entered, Turns, on_outbound, OpensPrimary, is_open, changed_at, with_inbound, with_outbound, with_connections, on_inbound, with_call, taken_first, having_read, written, left}
use Rattle.machine.specs.Promise.{released_in}
use Rattle.machine.proofs.ConnectionLemmas.{get-changed_other, get-entered, same-changed}
use Rattle.machine.proofs.CrashLemmas.{get-over}
use Rattle.machine.proofs.StandingLemmas.{Behind}

-- the list grew at its end, or was cut
abbrev pub Moved : List Call → List Call → Type 0
Moved old new = IsPrefix old new ⊎ IsPrefix new old

-- what an event does that writes nothing to connection c
pub record Unwritten (c : ℕ) (old new : World) : Type 0 where
  pub calls : Moved old.primary.calls new.primary.calls
  pub released : released_in new c ≡ released_in old c

pub unchanged : (c : ℕ) (w : World) → Unwritten c w w
unchanged c w = record { calls = inl (IsPrefix-itself w.primary.calls); released = refl }

-- a change to one connection that writes nothing
pub unwritten-changed : (c d : ℕ) (old new : World) (change : Connection → Connection) → ((connection : Connection) → (change connection).outbound.released ≡ connection.outbound.released)
    → new ≡ with_connections (changed_at d change old.primary.connections) old → Unwritten c old new
unwritten-changed c d old new change keeps now =
    subst (Unwritten c old) (sym now) (record { calls = inl (IsPrefix-itself _); released = same-changed (λ connection. connection.outbound.released) d change old.primary.connections keeps c })

pub unwritten-behind : (c : ℕ) (w new : World) → Behind w new → Unwritten c w new
unwritten-behind c w new behind =
    record {
      calls = subst (Moved w.primary.calls) (sym behind.calls) (inl (IsPrefix-itself w.primary.calls));
      released = ap (λ connections. (get_connection connections c).outbound.released) behind.connections;
    }

pub unwritten-entered : (c : ℕ) (w : World) → Unwritten c w (entered w)
unwritten-entered c w = record { calls = inl (IsPrefix-itself _); released = get-entered (λ connection. connection.outbound.released) refl w.primary.connections c }

pub unwritten-called : (c d : ℕ) (w new : World) → Turns w d new → Unwritten c w new
unwritten-called c d w new turns =
    let taken = on_inbound d taken_first (with_call turns.call w) in
    subst (Unwritten c w) (sym turns.now) (record {
      calls = inl (IsPrefix-of_append w.primary.calls (turns.call ∷ []));
      released = same-changed (λ connection. connection.outbound.released) d (with_outbound _) taken.primary.connections (λ connection. refl) c
          ∙ same-changed (λ connection. connection.outbound.released) d (with_inbound taken_first) w.primary.connections (λ connection. refl) c;
    })

-- the list is cut, and all connections are over
unwritten-over : (c position : ℕ) (w new : World) → new.primary.calls ≡ cut_at w.primary.calls position → new.primary.connections ≡ map left w.primary.connections → Unwritten c w new
unwritten-over c position w new calls connections =
    record {
      calls = subst (Moved w.primary.calls) (sym calls) (inr (IsPrefix-cut_at w.primary.calls position));
      released = ap (λ connections. (get_connection connections c).outbound.released) connections ∙ ap (λ (connection : Connection). connection.outbound.released) (get-over w.primary.connections c);
    }

pub unwritten-promoted : (c : ℕ) (w : World) → Unwritten c w (promoted w)
unwritten-promoted c w = unwritten-over c w.standby.position w (promoted w) refl refl

pub unwritten-crashed : (c : ℕ) (w : World) (node : Node) (remain : Remains) → Unwritten c w (crashed node remain w)
unwritten-crashed c w nodes.Primary (At position) = unwritten-over c position w (crashed nodes.Primary (At position) w) refl refl
unwritten-crashed c w nodes.Primary AsPrimary = unchanged c w
unwritten-crashed c w nodes.Standby (At position) = search (unchanged c w)
unwritten-crashed c w nodes.Standby AsPrimary = unwritten-promoted c w
unwritten-crashed c w nodes.Primary (AsFollower position) = unchanged c w
unwritten-crashed c w nodes.Standby (AsFollower position) = search (unchanged c w)

-- a primary's image that is opened
pub unwritten-opens : {made : ℕ} (c : ℕ) (old w new : World) → OpensPrimary made w new → Unwritten c old w → Unwritten c old new
unwritten-opens c old w new opens unwritten = subst (Unwritten c old) (sym opens.now) (search unwritten)

pub keeps-read : (mark : Mark) (w : World) (connection : Connection) → (with_outbound (having_read mark w) connection).outbound.released ≡ connection.outbound.released
keeps-read Local w connection = refl
keeps-read Remote w connection = refl

-- Either the event writes nothing to the connection, or the connection is open after it and the list is as it was.
abbrev pub Writes : ℕ → World → World → Type 0
Writes c old new = Unwritten c old new ⊎ ((is_open new c ≡ true) × (new.primary.calls ≡ old.primary.calls))

-- what is written to connection d is written to no other one
pub writes-written : (w : World) (d n c : ℕ) → is_open w d ≡ true → Writes c w (on_outbound d (written n) w)
writes-written w d n c is_one =
    let new = on_outbound d (written n) w in
    elim (cases_eq d c) [
      | inl same_one ↦ inr (
        subst (λ x. is_open w x ≡ true → is_open new x ≡ true) same_one
            (λ before. same-changed (λ connection. connection.is_open) d (with_outbound (written n)) w.primary.connections (λ connection. refl) d ∙ before)
            (subst (λ x. is_open w x ≡ true) same_one is_one),
        refl,
      )
      | inr differ ↦ inl (record {
        calls = inl (IsPrefix-itself _);
        released = ap (λ (connection : Connection). connection.outbound.released) (get-changed_other d c (with_outbound (written n)) w.primary.connections differ);
      })
    ]
