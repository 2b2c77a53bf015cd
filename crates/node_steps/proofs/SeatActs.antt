-- A connection is given its seat, or is over.
use Rattle.std.proofs.Common.{◌≡◌, ◌⊎◌, inl, inr, ℕ, zero, suc, Bool, true, not, List, [], ◌∷◌, ◌++◌, Option, Some, None, is_some, slice_set, refl, sym, ap, subst, ◌∙◌, append-nil, le_refl}
use Rattle.std.proofs.lemmas.Bool.{both_ways}
use Rattle.model.specs.declared.call.Call.{Call}
use Rattle.model.specs.declared.group.Group.{Group}
use Rattle.model.specs.Call.{items_of}
use Rattle.model.specs.Standing.{Holder}
use Rattle.model.proofs.SessionLemmas.{session_of_new}
use Rattle.multi_watch.specs.Session.{Session, idle_session}
use Rattle.multi_watch.specs.Sessions.{session_of, slot}
use Rattle.redis_core.specs.Sequencing.{MovesSeat, Sequencing, is_closed}
use Rattle.redis_core.specs.Turn.{Stays}
use Rattle.redis_core.proofs.ExpectingLemmas.{Expects-moves}
use Rattle.redis_core.proofs.StandingLemmas.{IsAheadOf-moves}
use Rattle.primary.proofs.RecallLemmas.{remembers-on}
use Rattle.machine.specs.declared.event.Event.TheVariants as events
use Rattle.machine.specs.Event.{Connection, World, changed_at, is_open, is_open_at, left, with_connections}
use Rattle.machine.specs.Sound.{Sound}
use Rattle.machine.proofs.ConnectionLemmas.{get-changed_other}
use Rattle.machine.proofs.SoundEvents.{sound-step}
use Rattle.connections.specs.Session.{HasSeat, SeatsFollow, StandsStill}
use Rattle.connections.proofs.SeatLemmas.{has-cleared}
use Rattle.connections.proofs.SequencerLemmas.{follow-same, sequencer-moved}
use Rattle.node_steps.specs.Acts.{IsAct, Left, Seated}
use Rattle.node_steps.specs.GroupSpan.{AreGroupsOf}
use Rattle.node_steps.specs.Law.{with_seat, with_seats}
use Rattle.node_steps.specs.Node.{Node, NodeRefines, past_of}
use Rattle.node_steps.proofs.ActLemmas.{primary-steps}
use Rattle.node_steps.proofs.StillLemmas.{freeing-still, leads-still}

-- ---- what the sequencer has

-- to an engine it stands as it did
moved-still : (old new : Sequencing) (seat : ℕ) (now : Option Session) → MovesSeat old seat now new → StandsStill old new
moved-still old new seat now moves =
    let stays : Stays old new = record { table = moves.table; room = moves.room; position = moves.position; waiting = moves.waiting } in
    record {
      ended = moves.ended;
      newest = moves.newest;
      stands = IsAheadOf-moves [] old new stays moves.epoch moves.before;
      expects = Expects-moves [] old new stays;
    }

-- with these seats, in a world with these connections
seats-stand : (holder : Holder) (old : Node) (handed : List Group) (w : World) (connections : List Connection) (seats : List (Option ℕ)) (s : Sequencing) (seat : ℕ) (now : Option Session)
    → NodeRefines holder old handed w → MovesSeat old.sequencer seat now s → SeatsFollow w.primary.calls seats s
    → ((c other : ℕ) → HasSeat seats c other → is_open_at connections c ≡ true) → ((c d other : ℕ) → HasSeat seats c other → HasSeat seats d other → c ≡ d)
    → Sound (with_connections connections w) → NodeRefines holder (with_seats seats s old) (handed ++ []) (with_connections connections w)
seats-stand holder old handed w connections seats s seat now stands moves follow opens apart sound =
    let calls = w.primary.calls in
    let still = moved-still old.sequencer s seat now moves in
    record {
      sound = sound;
      running = stands.running;
      role = stands.role;
      epoch = stands.epoch;
      are_open = opens;
      are_apart = apart;
      sequencer = sequencer-moved calls w.primary.committer.closed seat now old.sequencer s moves stands.sequencer;
      follow = follow;
      committing = stands.committing;
      engine = stands.engine;
      leads = leads-still old.contents old.committing.waiting.items old.committing.aside old.sequencer s old.notices still stands.leads;
      freeing = freeing-still old.sequencer s old.notices old.contents w.primary (with_connections connections w).primary still refl refl refl refl stands.freeing;
      remembers = remembers-on old.contents.current.floor old.contents.current.floor w.primary.committer.position (past_of calls) old.contents old.committing.waiting.items old.committing.aside old.sequencer s
          (le_refl old.contents.current.floor) still.ended still.newest stands.remembers;
      handed_are = subst (λ (gs : List Group). AreGroupsOf calls gs w.primary.link.waiting) (sym (append-nil handed)) stands.handed_are;
    }

-- ---- a seat is given

-- the connection has this seat, and the others have theirs
has-seated : (seats : List (Option ℕ)) (c seat d other : ℕ) → HasSeat (with_seat c seat seats) d other → ((d ≡ c) × (other ≡ seat)) ⊎ (HasSeat seats d other)
has-seated [] zero seat zero other has = inl (refl, cc)
has-seated [] zero seat (suc d) other has = cc
has-seated [] (suc c) seat zero other has = cc
has-seated [] (suc c) seat (suc d) other has = elim (has-seated [] c seat d other has) [
  | inl own ↦ inl (ap suc own.0, own.1)
  | inr before ↦ inr before
]
has-seated (first ∷ seats) zero seat zero other has = inl (refl, cc)
has-seated (first ∷ seats) zero seat (suc d) other has = inr has
has-seated (first ∷ seats) (suc c) seat zero other has = inr has
has-seated (first ∷ seats) (suc c) seat (suc d) other has = elim (has-seated seats c seat d other has) [
  | inl own ↦ inl (ap suc own.0, own.1)
  | inr before ↦ inr before
]

module _ (old : Node) (c seat : ℕ) (s : Sequencing) (moves : MovesSeat old.sequencer seat (Some idle_session) s)
    (unseated : (other : ℕ) → ¬ HasSeat old.seats c other) (free : (d : ℕ) → ¬ HasSeat old.seats d seat) where
  abbrev seats : List (Option ℕ)
  seats = with_seat c seat old.seats

  abbrev is_shut : Option Session → Bool
  is_shut session = not (is_some session)

  moved : (other : ℕ) → other ≡ seat → slot s.sessions other ≡ Some idle_session
  moved other same = ap (slot s.sessions) same ∙ moves.sessions.moved

  kept : (d other : ℕ) → HasSeat old.seats d other → slot s.sessions other ≡ slot old.sequencer.sessions other
  kept d other has = moves.sessions.others other (λ same. free d (subst (HasSeat old.seats d) same has))

  apart : ((d e other : ℕ) → HasSeat old.seats d other → HasSeat old.seats e other → d ≡ e) → (d e other : ℕ) → HasSeat seats d other → HasSeat seats e other → d ≡ e
  apart before d e other has has' = elim (has-seated old.seats c seat d other has) [
    | inl own ↦ elim (has-seated old.seats c seat e other has') [
      | inl own' ↦ own.0 ∙ sym own'.0
      | inr is ↦ absurd (free e (subst (HasSeat old.seats e) own.1 is))
    ]
    | inr was ↦ elim (has-seated old.seats c seat e other has') [
      | inl own' ↦ absurd (free d (subst (HasSeat old.seats d) own'.1 was))
      | inr is ↦ before d e other was is
    ]
  ]

  follows : (calls : List Call) → items_of c calls ≡ [] → SeatsFollow calls old.seats old.sequencer → SeatsFollow calls seats s
  follows calls none follow = record {
    by_call = λ d other has shut. elim (has-seated old.seats c seat d other has) [
      | inl own ↦ absurd (both_ways (is_closed s other) (ap is_shut (moved other own.1)) shut)
      | inr before ↦ follow.by_call d other before (ap is_shut (sym (kept d other before)) ∙ shut)
    ];
    session = λ d other has. elim (has-seated old.seats c seat d other has) [
      | inl own ↦ ap session_of (moved other own.1) ∙ sym (session_of_new calls d (ap (λ (e : ℕ). items_of e calls) own.0 ∙ none))
      | inr before ↦ ap session_of (kept d other before) ∙ follow.session d other before
    ];
  }

  pub seated-act : IsAct (Seated c seat) old (with_seats seats s old)
  seated-act = λ holder handed w stands rests. record {
    world = w;
    did = refl;
    stands = seats-stand holder old handed w w.primary.connections seats s seat (Some idle_session) stands moves (follows w.primary.calls rests.no_call stands.follow)
        (λ d other has. elim (has-seated old.seats c seat d other has) [
          | inl own ↦ ap (is_open w) own.0 ∙ rests.opens
          | inr before ↦ stands.are_open d other before
        ])
        (apart stands.are_apart) stands.sound;
  }

-- ---- a connection is over

module _ (old : Node) (c seat : ℕ) (s : Sequencing) (own : HasSeat old.seats c seat) (moves : MovesSeat old.sequencer seat None s) where
  abbrev others : List (Option ℕ)
  others = slice_set old.seats c None

  pub left-act : IsAct (Left c) old (with_seats others s old)
  left-act = λ holder handed w stands rests.
      let connections = changed_at c left w.primary.connections in
      let w' = with_connections connections w in
      let step = primary-steps (events.Leave c) w w' refl stands.running (stands.are_open c seat own) refl in
      record {
        world = w';
        did = step;
        stands = seats-stand holder old handed w connections others s seat None stands moves
            (follow-same w.primary.calls old.seats others old.sequencer s (λ d other has.
            let before = has-cleared old.seats c d other has in
            (before.0, moves.sessions.others other (λ same. before.1 (stands.are_apart d c seat (subst (HasSeat old.seats d) same before.0) own)))) stands.follow)
            (λ d other has.
            let before = has-cleared old.seats c d other has in
            ap (λ (connection : Connection). connection.is_open) (get-changed_other c d left w.primary.connections (λ same. before.1 (sym same))) ∙ stands.are_open d other before.0)
            (λ d e other has has'. stands.are_apart d e other (has-cleared old.seats c d other has).0 (has-cleared old.seats c e other has').0)
            (sound-step w (events.Leave c) true w' step stands.sound);
      }
