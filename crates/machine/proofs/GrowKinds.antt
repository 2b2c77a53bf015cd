-- What a later world has, by kinds of change: lists only grow at the end, and no number falls.
use Rattle.std.proofs.Common.{◌≡◌, ℕ, ◌+◌, ◌<◌, ◌≤◌, List, [], ◌∷◌, ◌++◌, map, refl, sym, ap, subst, ◌∙◌, arith, le_refl}
use Rattle.std.specs.Prelude.{Contains}
use Rattle.model.specs.declared.call.Call.{Call}
use Rattle.model.specs.Call.{IsPrefix, cut_at, position_of}
use Rattle.model.proofs.PrefixLemmas.{IsPrefix-itself, IsPrefix-of_append, IsPrefix-trans}
use Rattle.model.proofs.CallsLemmas.{IsPrefix-cut_at, IsPrefix-into-cut_at, position_of-cut_at}
use Rattle.machine.specs.declared.event.Cut.{Cut}
use Rattle.machine.specs.declared.event.Node.{Node}
use Rattle.machine.specs.declared.event.Node.TheVariants as nodes
use Rattle.machine.specs.Event.{Connection, Acknowledgement, Remains, At, AsPrimary, AsFollower, Follows, Awaited, Sending, Frame, Link, joined, sent_with, sent_next, taken_group, with_sent, Wire, Work, Commits, Frees, World, crashed, promoted, may_remain, OpensPrimary, get_connection, changed_at, with_inbound, with_outbound, with_connections, on_inbound, with_call, with_committer, with_link, spans_of, from_group, taken_first, with_made, called, committed_first, entered, told, Applies, sent, with_acknowledged, left}
use Rattle.machine.specs.Promise.{released_in}
use Rattle.machine.specs.Sound.{IsChain, Sound}
use Rattle.machine.specs.Law.{Grows}
use Rattle.machine.proofs.ConnectionLemmas.{each-related, get-entered}
use Rattle.machine.proofs.CrashLemmas.{get-over}
use Rattle.machine.proofs.SoundConnection.{reach-low}
use Rattle.machine.proofs.WorkLemmas.{spans_of-from_group}
use Rattle.machine.proofs.StandingLemmas.{Unmoved}
use Rattle.machine.proofs.SoundNodes.{applies-well}
use Rattle.machine.proofs.SoundCrashes.{primary-remains, standby-remains}

-- Where the primary, the standby and the list are as they were, but that the list may be longer and the standby's position higher; and the wire and what was released
-- only grew.
grows-by : (w new : World) → IsPrefix w.primary.calls new.primary.calls → w.primary.committer.position ≤ new.primary.committer.position → w.standby.position ≤ new.standby.position
    → new.primary.epoch ≡ w.primary.epoch → new.came ≡ w.came → ((c : ℕ) → IsPrefix (released_in w c) (released_in new c)) → IsPrefix w.wire.frames new.wire.frames
    → IsPrefix w.wire.acknowledgements new.wire.acknowledgements → Grows w new
grows-by w new calls primary standby epoch came released frames acknowledgements =
    record {
      epoch = omega (arith, epoch);
      safe = standby;
      kept = IsPrefix-trans (IsPrefix-cut_at w.primary.calls w.standby.position) calls;
      released = released;
      came = omega (arith, came);
      frames = λ same. frames;
      acknowledgements = λ same. acknowledgements;
      within = λ same. (IsPrefix-trans (IsPrefix-cut_at w.primary.calls w.primary.committer.position) calls, primary);
    }

pub grows-itself : (w : World) → Grows w w
grows-itself w = grows-by w w (IsPrefix-itself w.primary.calls) (le_refl w.primary.committer.position) (le_refl w.standby.position) refl refl (λ c. IsPrefix-itself (released_in w c)) (IsPrefix-itself w.wire.frames) (IsPrefix-itself w.wire.acknowledgements)

-- what was there up to a position is there up to a later one, in a list that has it
into-later : (first second : List Call) (low high : ℕ) → IsPrefix (cut_at first low) second → low ≤ high → IsPrefix (cut_at first low) (cut_at second high)
into-later first second low high prefix le = IsPrefix-into-cut_at high prefix (omega (arith, le, position_of-cut_at first low))

pub grows-trans : {a b c : World} → Grows a b → Grows b c → Grows a c
grows-trans {a} {b} {c} f g =
    record {
      epoch = omega (arith, f.epoch, g.epoch);
      safe = omega (arith, f.safe, g.safe);
      kept = IsPrefix-trans (into-later a.primary.calls b.primary.calls a.standby.position b.standby.position f.kept f.safe) g.kept;
      released = λ d. IsPrefix-trans (f.released d) (g.released d);
      came = omega (arith, f.came, g.came);
      frames = λ same. IsPrefix-trans (f.frames (omega (arith, same, f.came, g.came))) (g.frames (omega (arith, same, f.came, g.came)));
      acknowledgements = λ same. IsPrefix-trans (f.acknowledgements (omega (arith, same, f.came, g.came))) (g.acknowledgements (omega (arith, same, f.came, g.came)));
      within = λ same.
          let first = f.within (omega (arith, same, f.epoch, g.epoch)) in
          let second = g.within (omega (arith, same, f.epoch, g.epoch)) in (
            IsPrefix-trans (into-later a.primary.calls b.primary.calls a.primary.committer.position b.primary.committer.position first.0 first.1) second.0,
            omega (arith, first.1, second.1),
          );
    }

pub grows-unmoved : (w new : World) → Unmoved w new → Grows w new
grows-unmoved w new unmoved =
    let connections : (c : ℕ) → IsPrefix (released_in w c) (released_in new c) =
    λ c. subst (IsPrefix (released_in w c)) (sym (ap (λ xs. (get_connection xs c).outbound.released) unmoved.behind.connections)) (IsPrefix-itself (released_in w c)) in
    grows-by w new (subst (IsPrefix w.primary.calls) (sym unmoved.behind.calls) (IsPrefix-itself w.primary.calls)) (omega (arith, unmoved.committer)) (omega (arith, unmoved.standby)) unmoved.behind.nodes.epoch unmoved.behind.came connections
    (subst (λ (x : Wire). IsPrefix w.wire.frames x.frames) (sym unmoved.wire) (IsPrefix-itself w.wire.frames)) (subst (λ (x : Wire). IsPrefix w.wire.acknowledgements x.acknowledgements) (sym unmoved.wire) (IsPrefix-itself w.wire.acknowledgements))

-- ---- connections

grows-connections : (w new : World) (connections : List Connection) → ((c : ℕ) → IsPrefix (released_in w c) (get_connection connections c).outbound.released) → new ≡ with_connections connections w → Grows w new
grows-connections w new connections released now =
    subst (Grows w) (sym now)
    (grows-by w (with_connections connections w) (IsPrefix-itself w.primary.calls) (le_refl w.primary.committer.position) (le_refl w.standby.position) refl refl released (IsPrefix-itself w.wire.frames) (IsPrefix-itself w.wire.acknowledgements))

keeps : (connection : Connection) → IsPrefix connection.outbound.released connection.outbound.released
keeps connection = IsPrefix-itself connection.outbound.released

-- a change to one of them that takes back nothing
pub grows-changed : (w new : World) (c : ℕ) (change : Connection → Connection) → ((connection : Connection) → IsPrefix connection.outbound.released (change connection).outbound.released)
    → new ≡ with_connections (changed_at c change w.primary.connections) w → Grows w new
grows-changed w new c change each now = grows-connections w new (changed_at c change w.primary.connections)
    (each-related (λ old new. IsPrefix old.outbound.released new.outbound.released) keeps c change w.primary.connections each) now

pub grows-entered : (w : World) → Grows w (entered w)
grows-entered w =
    grows-connections w (entered w) _ (λ c. subst (IsPrefix (released_in w c)) (sym (get-entered (λ connection. connection.outbound.released) refl w.primary.connections c)) (IsPrefix-itself (released_in w c))) refl

pub grows-called : (w : World) (c : ℕ) (call : Call) → Grows w (called c call w)
grows-called w c call =
    let first : Grows w (with_call call w) =
    grows-by w (with_call call w) (IsPrefix-of_append w.primary.calls (call ∷ [])) (le_refl w.primary.committer.position) (le_refl w.standby.position) refl refl (λ d. IsPrefix-itself (released_in w d)) (IsPrefix-itself w.wire.frames) (IsPrefix-itself w.wire.acknowledgements) in
    let made = with_outbound (with_made (record { reply = call.reply; position = position_of (w.primary.calls ++ call ∷ []) })) in
    grows-trans first (grows-trans (grows-changed (with_call call w) _ c (with_inbound taken_first) keeps refl) (grows-changed (on_inbound c taken_first (with_call call w)) (called c call w) c made keeps refl))

-- ---- the committer, the link, the standby

grows-committed : (w : World) (works : List Work) → IsChain w.primary.committer.position (spans_of works) w.primary.committer.closed → Grows w (with_committer (committed_first works w.primary.committer) w)
grows-committed w [] chain = grows-itself w
grows-committed w (Frees newest ∷ works) chain = grows-itself w
grows-committed w (Commits group ∷ works) chain =
    let le : w.primary.committer.position ≤ group.after = omega (arith, chain.1) in
    grows-by w (with_committer (committed_first (Commits group ∷ works) w.primary.committer) w) (IsPrefix-itself w.primary.calls) le (le_refl w.standby.position) refl refl (λ c. IsPrefix-itself (released_in w c)) (IsPrefix-itself w.wire.frames)
    (IsPrefix-itself w.wire.acknowledgements)

pub grows-Commit : (w : World) → Sound w → Grows w (with_committer (committed_first (from_group w.primary.committer.waiting) w.primary.committer) w)
grows-Commit w s =
    let committer = w.primary.committer in
    grows-committed w (from_group committer.waiting) (subst (λ groups. IsChain committer.position groups committer.closed) (sym (spans_of-from_group committer.waiting)) s.committer.waiting)

-- the link is another one
pub grows-relinked : (w : World) (link : Link) → Grows w (with_link link w)
grows-relinked w link =
    grows-by w (with_link link w) (IsPrefix-itself w.primary.calls) (le_refl w.primary.committer.position) (le_refl w.standby.position) refl refl (λ c. IsPrefix-itself (released_in w c)) (IsPrefix-itself w.wire.frames)
    (IsPrefix-itself w.wire.acknowledgements)

-- the wire has more
pub grows-wired : (w : World) (link : Link) (frames : List Frame) → Grows w (with_sent frames (with_link link w))
grows-wired w link frames =
    grows-by w (with_sent frames (with_link link w)) (IsPrefix-itself w.primary.calls) (le_refl w.primary.committer.position) (le_refl w.standby.position) refl refl (λ c. IsPrefix-itself (released_in w c))
    (IsPrefix-of_append w.wire.frames frames) (IsPrefix-itself w.wire.acknowledgements)

pub grows-sent : (w : World) → Grows w (sent w)
grows-sent w = elim w.primary.link.copying as (λ copying. Grows w (sent_with copying w)) [
  | Follows ↦ grows-wired w (sent_next w.primary.link.delta w.primary.link) _
  | Awaited ↦ grows-relinked w (taken_group Awaited w.primary.link.waiting w.primary.link)
  | Sending pinned ↦ grows-relinked w (taken_group (Sending pinned) w.primary.link.waiting w.primary.link)
]

pub grows-linked : (w : World) (link : Link) (told : List Acknowledgement) → Grows w (with_link link (with_acknowledged told w))
grows-linked w link told =
    grows-by w _ (IsPrefix-itself w.primary.calls) (le_refl w.primary.committer.position) (le_refl w.standby.position) refl refl (λ c. IsPrefix-itself (released_in w c)) (IsPrefix-itself w.wire.frames)
    (IsPrefix-of_append w.wire.acknowledgements told)

pub grows-applied : (w new : World) → Applies w new → Sound w → Grows w new
grows-applied w new applies s =
    subst (Grows w) (sym applies.now) (grows-by w _ (IsPrefix-itself w.primary.calls) (le_refl w.primary.committer.position) (applies-well w new applies s).later refl refl (λ c. IsPrefix-itself (released_in w c)) (IsPrefix-itself w.wire.frames)
    (IsPrefix-of_append w.wire.acknowledgements applies.told))

-- a newcomer came, and what passed between the nodes is gone
pub grows-joined : (w : World) → Grows w (joined w)
grows-joined w =
    record {
      epoch = le_refl w.primary.epoch;
      safe = le_refl w.standby.position;
      kept = IsPrefix-cut_at w.primary.calls w.standby.position;
      released = λ c. IsPrefix-itself (released_in w c);
      came = omega arith;
      frames = λ same. absurd (omega (arith, same));
      acknowledgements = λ same. absurd (omega (arith, same));
      within = λ same. (IsPrefix-cut_at w.primary.calls w.primary.committer.position, le_refl w.primary.committer.position);
    }

-- a later world whose list is cut, with all connections over
grows-cut : (w new : World) (position : ℕ) → w.standby.position ≤ position → new.primary.calls ≡ cut_at w.primary.calls position → new.primary.connections ≡ map left w.primary.connections → w.standby.position ≤ new.standby.position
    → new.wire ≡ w.wire → new.came ≡ w.came → w.primary.epoch ≤ new.primary.epoch → (new.primary.epoch ≡ w.primary.epoch → (w.primary.committer.position ≤ position) × (position ≤ new.primary.committer.position)) → Grows w new
grows-cut w new position low calls connections standby wire came epoch same =
    record {
      epoch = epoch;
      safe = standby;
      kept = subst (IsPrefix (cut_at w.primary.calls w.standby.position)) (sym calls) (into-later w.primary.calls w.primary.calls w.standby.position position (IsPrefix-cut_at w.primary.calls w.standby.position) low);
      released = λ c. subst (IsPrefix (released_in w c)) (sym (ap (λ xs. (get_connection xs c).outbound.released) connections ∙ ap (λ (x : Connection). x.outbound.released) (get-over w.primary.connections c))) (IsPrefix-itself (released_in w c));
      came = omega (arith, came);
      frames = λ e. subst (λ (x : Wire). IsPrefix w.wire.frames x.frames) (sym wire) (IsPrefix-itself w.wire.frames);
      acknowledgements = λ e. subst (λ (x : Wire). IsPrefix w.wire.acknowledgements x.acknowledgements) (sym wire) (IsPrefix-itself w.wire.acknowledgements);
      within = λ e. let at = same e in (
        subst (IsPrefix (cut_at w.primary.calls w.primary.committer.position)) (sym calls)
            (into-later w.primary.calls w.primary.calls w.primary.committer.position position (IsPrefix-cut_at w.primary.calls w.primary.committer.position) at.0),
        omega (arith, at.0, at.1),
      );
    }

pub grows-promoted : (w : World) → Sound w → Grows w (promoted w)
grows-promoted w s =
    let next : w.primary.epoch < w.standby.epoch + 1 = omega (arith, s.standby.epoch_is) in
    grows-cut w (promoted w) w.standby.position (le_refl w.standby.position) refl refl (le_refl w.standby.position) refl refl (omega (arith, next)) (λ same. absurd (omega (arith, next, same)))

pub grows-crashed : (w : World) (node : Node) (call : Cut) (remain : Remains) → Contains (may_remain w node call) remain → Sound w → Grows w (crashed node remain w)
grows-crashed w nodes.Primary call (At position) one s =
    let at = primary-remains w call (At position) one s in
    let behind : w.standby.position ≤ position = omega (arith, at.0, s.standby.behind, reach-low w.primary.link.copying w.primary.committer.position) in
    grows-cut w (crashed nodes.Primary (At position) w) position behind refl refl (le_refl w.standby.position) refl refl (le_refl w.primary.epoch) (λ same. (at.0, le_refl position))
grows-crashed w nodes.Primary call AsPrimary one s = grows-itself w
grows-crashed w nodes.Standby call (At position) one s =
    let at = standby-remains w call (At position) one s in
    grows-by w (crashed nodes.Standby (At position) w) (IsPrefix-itself w.primary.calls) (le_refl w.primary.committer.position) at.0 refl refl (λ c. IsPrefix-itself (released_in w c)) (IsPrefix-itself w.wire.frames) (IsPrefix-itself w.wire.acknowledgements)
grows-crashed w nodes.Standby call AsPrimary one s = grows-promoted w s
grows-crashed w nodes.Primary call (AsFollower position) one s = grows-itself w
grows-crashed w nodes.Standby call (AsFollower position) one s =
    let at = standby-remains w call (AsFollower position) one s in
    grows-by w (crashed nodes.Standby (AsFollower position) w) (IsPrefix-itself w.primary.calls) (le_refl w.primary.committer.position) at.0 refl refl (λ c. IsPrefix-itself (released_in w c)) (IsPrefix-itself w.wire.frames) (IsPrefix-itself w.wire.acknowledgements)

-- a primary's image is opened
pub grows-opens : {made : ℕ} (old w new : World) → OpensPrimary made w new → Grows old w → Grows old new
grows-opens old w new opens grows = subst (Grows old) (sym opens.now) (search grows)
