-- What each event owes, and how an event of each kind owes it.
use Rattle.std.proofs.Common.{◌≡◌, ◌⊎◌, ℕ, ◌+◌, ◌<◌, ◌≤◌, true, false, [], ◌∷◌, ◌++◌, length, refl, sym, subst, arith, le_refl, inl, inr}
use Rattle.model.specs.Call.{IsPrefix}
use Rattle.model.proofs.PrefixLemmas.{IsPrefix-itself}
use Rattle.machine.specs.declared.event.Cut.{Cut}
use Rattle.machine.specs.declared.event.Event.{Event}
use Rattle.machine.specs.declared.event.Node.{Node}
use Rattle.machine.specs.Event.{Connection, World, Fails, changed_at, connection_of, is_open, with_connections}
use Rattle.machine.specs.Law.{Grows, RaisesNoRemote, StaysOver}
use Rattle.machine.specs.Promise.{fed_by}
use Rattle.machine.specs.Sound.{HasNothing, Sound}
use Rattle.machine.proofs.FedLemmas.{FeedsNothing, fed_in, fed-behind, fed-nothing, fed-same}
use Rattle.machine.proofs.GrowKinds.{grows-changed, grows-unmoved}
use Rattle.machine.proofs.SoundCrashes.{sound-Fails}
use Rattle.machine.proofs.StandingLemmas.{Behind, Stays, Unmoved, keeps-itself, unmoved-Fails}
use Rattle.machine.proofs.StayLemmas.{count, few-behind, few-changed, stays-behind, stays-changed}
use Rattle.machine.proofs.WritesLemmas.{Writes, unwritten-behind, unwritten-changed}

-- the event does not raise the remote mark, unless it is RaiseRemote
abbrev pub RaisesNone : World → Event → World → Type 0
RaisesNone w event new = RaisesNoRemote (event ∷ []) (true ∷ []) → new.primary.link.remote ≤ w.primary.link.remote

-- what an event that did its step owes to the laws of every run
pub record Owes (w : World) (event : Event) (new : World) : Type 0 where
  -- it keeps the invariant
  pub sound : Sound w → Sound new
  -- lists grow at their end, and no number falls
  pub grows : Sound w → Grows w new
  -- a connection that is over stays so
  pub over : (c : ℕ) → HasNothing (connection_of w c) → c < length w.primary.connections → is_open w c ≡ false → StaysOver c w new
  -- at most one enters
  pub few : count new ≤ count w + 1
  -- what is released was covered: bytes are written to an open connection only
  pub writes : (c : ℕ) → Writes c w new
  -- what was fed is the piece that the event has
  pub fed : (c : ℕ) → fed_in new c ≡ fed_in w c ++ fed_by c event true
  -- RaiseRemote alone raises the remote mark
  pub remote : RaisesNone w event new
  -- each node has the device that it had, and the epoch stays, unless the standby was promoted
  pub nodes : Stays w new

-- ---- behind the connections

pub owes-behind : (w : World) (event : Event) (new : World) → Behind w new → FeedsNothing event → RaisesNone w event new → (Sound w → Sound new) → (Sound w → Grows w new) → Owes w event new
owes-behind w event new behind none remote sound grows =
    record {
      sound = sound;
      grows = grows;
      over = λ c nothing lt shut. stays-behind c w new lt behind;
      few = few-behind w new behind;
      writes = λ c. inl (unwritten-behind c w new behind);
      fed = λ c. fed-nothing event c none (fed-behind w new c behind);
      remote = remote;
      nodes = inl behind.nodes;
    }

pub owes-unmoved : (w : World) (event : Event) (new : World) → Unmoved w new → FeedsNothing event → (Sound w → Sound new) → Owes w event new
owes-unmoved w event new unmoved none sound = owes-behind w event new unmoved.behind none (λ raises. omega (arith, unmoved.remote)) sound (λ s. grows-unmoved w new unmoved)

-- an event in which a fence may fail
pub or-fails : {P : Type 0} (w : World) (event : Event) (new : World) (node : Node) (call : Cut) → FeedsNothing event → (P → Owes w event new) → P ⊎ Fails w node call new → Owes w event new
or-fails w event new node call none owes happens = elim happens [
  | inl did ↦ owes did
  | inr fails ↦ owes-unmoved w event new (unmoved-Fails w new node call fails) none (sound-Fails w new node call fails)
]

-- ---- one connection that is open

pub owes-changed : (w : World) (event : Event) (c : ℕ) (change : Connection → Connection) → let new = with_connections (changed_at c change w.primary.connections) w in
    is_open w c ≡ true → ((connection : Connection) → IsPrefix connection.outbound.released (change connection).outbound.released) → ((d : ℕ) → Writes d w new)
    → ((d : ℕ) → fed_in new d ≡ fed_in w d ++ fed_by d event true) → (Sound w → Sound new) → Owes w event new
owes-changed w event c change is_one released writes fed sound =
    let new = with_connections (changed_at c change w.primary.connections) w in
    record {
      sound = sound;
      grows = λ s. grows-changed w new c change released refl;
      over = λ d nothing lt shut. stays-changed w new d c change lt shut is_one refl;
      few = few-changed w c change;
      writes = writes;
      fed = fed;
      remote = λ raises. le_refl w.primary.link.remote;
      nodes = inl (search (keeps-itself w));
    }

-- to which nothing is written or fed
pub owes-quiet : (w : World) (event : Event) (c : ℕ) (change : Connection → Connection) → is_open w c ≡ true → ((connection : Connection) → (change connection).outbound.released ≡ connection.outbound.released)
    → ((connection : Connection) → (change connection).inbound.fed ≡ connection.inbound.fed) → FeedsNothing event → let new = with_connections (changed_at c change w.primary.connections) w in
    (Sound w → Sound new) → Owes w event new
owes-quiet w event c change is_one released fed none sound =
    let new = with_connections (changed_at c change w.primary.connections) w in
    owes-changed w event c change is_one (λ connection. subst (IsPrefix connection.outbound.released) (sym (released connection)) (IsPrefix-itself connection.outbound.released))
    (λ d. inl (unwritten-changed d c w new change released refl)) (λ d. fed-nothing event d none (fed-same w c d change fed)) sound
