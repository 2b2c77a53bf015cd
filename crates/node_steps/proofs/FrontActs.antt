-- What the front does is an act: a group or a list that is closed, what was freed and is told, and an item that is answered.
use Rattle.std.proofs.Common.{◌≡◌, ◌+◌, ◌<◌, ◌≤◌, ◌&&◌, ℕ, inl, inr, true, nat_lt, List, [], ◌∷◌, ◌++◌, length, take, refl, sym, ap, subst, ◌∙◌, arith, length-append, append-nil, le_refl}
use Rattle.std.proofs.lemmas.Bool.{and_from, lt-ltb}
use Rattle.kv_types.specs.declared.item.Item.{Item}
use Rattle.kv_types.specs.declared.reply.Reply.{Reply}
use Rattle.model.specs.declared.call.Call.{Call}
use Rattle.model.specs.declared.group.Group.{Group}
use Rattle.model.specs.declared.group.TheConstants.{MAX_PARTS}
use Rattle.model.specs.declared.work.Work.{Work}
use Rattle.model.specs.declared.work.Work.TheVariants as work
use Rattle.model.specs.Call.{is_nonempty, position_of, state_after}
use Rattle.model.specs.Standing.{Holder}
use Rattle.model.proofs.CallsLemmas.{MayReply-alike}
use Rattle.multi_watch.specs.Sessions.{session_at}
use Rattle.wbl_engine.specs.declared.freeing.Freed.{Freed}
use Rattle.pipes.specs.Waiting.{Waiting}
use Rattle.redis_core.specs.Sequencing.{Sequencing, TakesBack, ended_by_parts, state_of}
use Rattle.redis_core.specs.Turn.{Answers, call_of}
use Rattle.redis_core.proofs.ExpectingLemmas.{Expects-moves}
use Rattle.redis_core.proofs.ReturningLemmas.{IsAheadOf-back}
use Rattle.redis_core.proofs.StandingLemmas.{IsAheadOf-moves}
use Rattle.primary.specs.Leading.{Leads}
use Rattle.primary.specs.Closing.{ClosesGroup, ClosesList, ClosesOne, MayClose}
use Rattle.primary.proofs.FreedQueue.{Leads-accepted}
use Rattle.primary.proofs.KeptLemmas.{remembers-group, remembers-list}
use Rattle.primary.proofs.LeadsLemmas.{Leads-group, Leads-list}
use Rattle.primary.proofs.RecallLemmas.{remembers-on}
use Rattle.machine.specs.declared.event.Event.TheVariants as events
use Rattle.machine.specs.declared.event.TheConstants.{OPEN_CHANGES}
use Rattle.machine.specs.Event.{Closes, Commits, Frees, Turns, Work as MachineWork, World, accepted, called, closed_group, closed_list, connection_of, has_room, is_open, listed, may_happen, open_changes}
use Rattle.machine.specs.Sound.{Sound}
use Rattle.machine.proofs.GroupLemmas.{chain-le}
use Rattle.machine.proofs.SoundEvents.{sound-step}
use Rattle.connections.specs.Session.{HasSeat, SeatsFollow, SequencerRefines, StandsStill}
use Rattle.connections.proofs.SequencerLemmas.{alike-state, follow-answered, sequencer-answered, still-answered}
use Rattle.node_steps.specs.Acts.{Closed, IsAct, IsOffered, StepsTo, Told, Turned}
use Rattle.node_steps.specs.Committing.{CommittingRefines}
use Rattle.node_steps.specs.GroupSpan.{AreGroupsOf, AreWorkOf}
use Rattle.node_steps.specs.Law.{with_answered, with_told, with_work}
use Rattle.node_steps.specs.Node.{FreeingRefines, Node, NodeRefines, past_of}
use Rattle.node_steps.proofs.ActLemmas.{primary-steps}
use Rattle.node_steps.proofs.ClosingLemmas.{AreWorkOf-push, IsGroupOf-handed, closes-group, closes-list, follow-handed, follow-listed, grouped, may-close, sequencer-handed, sequencer-listed}
use Rattle.node_steps.proofs.CommittingLemmas.{CommittingRefines-grows}
use Rattle.node_steps.proofs.EngineLemmas.{EngineStands-grows}
use Rattle.node_steps.proofs.GroupSpanLemmas.{AreGroupsOf-grows}
use Rattle.node_steps.proofs.RecallLemmas.{remembers-still, waits-along}
use Rattle.node_steps.proofs.OpenLemmas.{still-open}
use Rattle.node_steps.proofs.StillLemmas.{freeing-still, leads-still}

-- ---- closing

module _ (old : Node) (waiting : Waiting Work) (s : Sequencing) (holder : Holder) (handed : List Group) (w : World) (stands : NodeRefines holder old handed w) where
  abbrev calls : List Call
  calls = w.primary.calls

  abbrev none_more : AreGroupsOf calls (handed ++ []) w.primary.link.waiting
  none_more = subst (λ (gs : List Group). AreGroupsOf calls gs w.primary.link.waiting) (sym (append-nil handed)) stands.handed_are

  group-stands : (closes : ClosesGroup old.sequencer old.committing.waiting s waiting) → Sound (grouped old.sequencer w) → NodeRefines holder (with_work waiting s old) (handed ++ []) (grouped old.sequencer w)
  group-stands closes sound =
      let before = old.sequencer in
      let after = closes.hands.after in
      let last : MachineWork = Commits (record { before = w.primary.committer.closed; after = position_of calls }) in
      let freeing : FreeingRefines s old.notices old.contents (grouped before w).primary =
      record {
        ended = ap (λ (now : Sequencing). length now.ended) after ∙ length-append before.ended (ended_by_parts before.waiting) ∙ ap (λ n. n + length (ended_by_parts before.waiting)) stands.freeing.ended;
        newest = ap (λ (now : Sequencing). now.newest) after;
        notices_are = stands.freeing.notices_are;
        gaps = stands.freeing.gaps;
      } in
      let committing : CommittingRefines calls (record old.committing { waiting = waiting }) (closed_group (position_of calls) w.primary.committer) =
      record {
        work = subst (λ (items : List Work). AreWorkOf calls items (closed_group (position_of calls) w.primary.committer).waiting) (sym closes.last)
            (AreWorkOf-push calls old.committing.waiting.items w.primary.committer.waiting (work.Commit closes.group) last stands.committing.work
            (IsGroupOf-handed calls w.primary.committer.closed before s closes.group stands.sequencer closes.hands));
        aside = stands.committing.aside;
        stage_is = stands.committing.stage_is;
        local_is = stands.committing.local_is;
      } in
      record {
        sound = sound;
        running = stands.running;
        role = stands.role;
        epoch = stands.epoch;
        are_open = stands.are_open;
        are_apart = stands.are_apart;
        sequencer = sequencer-handed calls w.primary.committer.closed before s closes.group stands.sequencer closes.hands;
        follow = follow-handed calls old.seats before s closes.group closes.hands stands.follow;
        committing = committing;
        engine = stands.engine;
        leads = Leads-group old.contents old.committing.waiting waiting old.committing.aside before s old.notices stands.engine.contents_at.consistent stands.leads closes;
        freeing = freeing;
        remembers = remembers-group old.contents.current.floor w.primary.committer.position (past_of calls) old.contents old.committing.waiting waiting old.committing.aside before s old.notices
            stands.engine.contents_at.at stands.engine.contents_at.consistent stands.leads closes (waits-along calls w.primary.committer.closed before stands.sequencer) stands.remembers;
        handed_are = none_more;
      }

  list-stands : (closes : ClosesList old.sequencer old.committing.waiting s waiting) → Sound (listed w) → NodeRefines holder (with_work waiting s old) (handed ++ []) (listed w)
  list-stands closes sound =
      let before = old.sequencer in
      let after = closes.hands.after in
      let freeing : FreeingRefines s old.notices old.contents (listed w).primary =
      record {
        ended = ap (λ (now : Sequencing). length now.ended) after;
        newest = ap (λ (now : Sequencing). now.newest) after ∙ stands.freeing.newest;
        notices_are = stands.freeing.notices_are;
        gaps = stands.freeing.gaps;
      } in
      let committing : CommittingRefines calls (record old.committing { waiting = waiting }) (closed_list w.primary.newest w.primary.committer) =
      record {
        work = subst (λ (items : List Work). AreWorkOf calls items (closed_list w.primary.newest w.primary.committer).waiting) (sym closes.last)
            (AreWorkOf-push calls old.committing.waiting.items w.primary.committer.waiting (work.Free closes.list) (Frees w.primary.newest) stands.committing.work
            (closes.hands.position ∙ stands.freeing.newest));
        aside = stands.committing.aside;
        stage_is = stands.committing.stage_is;
        local_is = stands.committing.local_is;
      } in
      record {
        sound = sound;
        running = stands.running;
        role = stands.role;
        epoch = stands.epoch;
        are_open = stands.are_open;
        are_apart = stands.are_apart;
        sequencer = sequencer-listed calls w.primary.committer.closed before s closes.list stands.sequencer closes.hands;
        follow = follow-listed calls old.seats before s closes.list closes.hands stands.follow;
        committing = committing;
        engine = stands.engine;
        leads = Leads-list old.contents old.committing.waiting waiting old.committing.aside before s old.notices stands.leads closes;
        freeing = freeing;
        remembers = remembers-list old.contents.current.floor w.primary.committer.position (past_of calls) old.contents old.committing.waiting waiting old.committing.aside before s old.notices
            stands.engine.contents_at.at stands.engine.contents_at.consistent stands.leads closes stands.remembers;
        handed_are = none_more;
      }

  closes-to : (new : World) → MayClose old.sequencer old.committing.waiting → Closes w new → (Sound new → NodeRefines holder (with_work waiting s old) (handed ++ []) new)
      → StepsTo holder Closed (with_work waiting s old) handed w
  closes-to new may closes stands' =
      let step = primary-steps events.CloseGroup w new refl stands.running (may-close w old.committing.waiting old.sequencer stands.committing.work stands.sequencer stands.freeing.ended may) closes in
      record { world = new; did = step; stands = stands' (sound-step w events.CloseGroup true new step stands.sound) }

  closed-by : MayClose old.sequencer old.committing.waiting → ClosesOne old.sequencer old.committing.waiting s waiting → StepsTo holder Closed (with_work waiting s old) handed w
  closed-by may (inl group) = closes-to (grouped old.sequencer w) may (closes-group w old.sequencer stands.sequencer stands.freeing.newest group.some) (group-stands group)
  closed-by may (inr list) = closes-to (listed w) may (closes-list w old.sequencer stands.sequencer list.none) (list-stands list)

-- where one was closed there was something to close, and room for it
may-of : (old : Sequencing) (before : Waiting Work) (new : Sequencing) (after : Waiting Work) → ClosesOne old before new after → MayClose old before
may-of old before new after (inl group) =
    (inl group.some, let count = ap length group.last ∙ length-append before.items (work.Commit group.group ∷ []) in omega (arith, count, after.within))
may-of old before new after (inr list) =
    (inr list.some, let count = ap length list.last ∙ length-append before.items (work.Free list.list ∷ []) in omega (arith, count, after.within))

pub closed-act : (old : Node) (waiting : Waiting Work) (s : Sequencing) → ClosesOne old.sequencer old.committing.waiting s waiting → IsAct Closed old (with_work waiting s old)
closed-act old waiting s closes = λ holder handed w stands rests.
    closed-by old waiting s holder handed w stands (may-of old.sequencer old.committing.waiting s waiting closes) closes

-- ---- telling

told-stands : (old : Node) (s : Sequencing) (notice : Freed) (rest : List Freed) → old.notices ≡ notice ∷ rest → TakesBack old.sequencer notice.entries.items notice.extents.items s
    → (holder : Holder) (handed : List Group) (w : World) → NodeRefines holder old handed w → Sound (accepted w) → NodeRefines holder (with_told s rest old) (handed ++ []) (accepted w)
told-stands old s notice rest told takes holder handed w stands sound =
    let calls = w.primary.calls in
    let before = old.sequencer in
    let many = ap length (sym told) ∙ stands.freeing.notices_are in
    let newest = ap (λ (s : Sequencing). s.newest) takes.after in
    let ended = ap (λ (s : Sequencing). s.ended) takes.after in
    let kept : SequencerRefines calls w.primary.committer.closed (record before { room = s.room }) =
    record { table = stands.sequencer.table; position = stands.sequencer.position; before = stands.sequencer.before; waiting = stands.sequencer.waiting; count = stands.sequencer.count } in
    record {
      sound = sound;
      running = stands.running;
      role = stands.role;
      epoch = stands.epoch;
      are_open = stands.are_open;
      are_apart = stands.are_apart;
      sequencer = subst (SequencerRefines calls w.primary.committer.closed) (sym takes.after) kept;
      follow = subst (SeatsFollow calls old.seats) (sym takes.after) (record { by_call = stands.follow.by_call; session = stands.follow.session });
      committing = stands.committing;
      engine = stands.engine;
      leads = Leads-accepted old.contents old.committing.waiting.items old.committing.aside before s notice rest
          (subst (λ (notices : List Freed). Leads old.contents old.committing.waiting.items old.committing.aside before notices) told stands.leads) takes
          (λ c e x ahead expects. IsAheadOf-back before c notice.entries.items e notice.extents.items x ahead expects s takes);
      freeing = record { ended = ap length ended ∙ stands.freeing.ended; newest = newest ∙ stands.freeing.newest; notices_are = omega (arith, many); gaps = stands.freeing.gaps };
      remembers = remembers-on old.contents.current.floor old.contents.current.floor w.primary.committer.position (past_of calls) old.contents old.committing.waiting.items old.committing.aside before s
          (le_refl old.contents.current.floor) ended newest stands.remembers;
      handed_are = subst (λ (gs : List Group). AreGroupsOf calls gs w.primary.link.waiting) (sym (append-nil handed)) stands.handed_are;
    }

pub told-act : (old : Node) (s : Sequencing) (notice : Freed) (rest : List Freed) → old.notices ≡ notice ∷ rest → TakesBack old.sequencer notice.entries.items notice.extents.items s
    → IsAct Told old (with_told s rest old)
told-act old s notice rest told takes = λ holder handed w stands rests.
    let some = ap length (sym told) ∙ stands.freeing.notices_are in
    let step = primary-steps events.AcceptFreed w (accepted w) refl stands.running (lt-ltb 0 w.primary.notices (omega (arith, some))) refl in
    record { world = accepted w; did = step; stands = told-stands old s notice rest told takes holder handed w stands (sound-step w events.AcceptFreed true (accepted w) step stands.sound) }

-- ---- a turn

-- to an engine the sequencer stands as it did
pub answered-still : (seat : ℕ) (item : Item) (reply : Reply) (old new : Sequencing) → Answers old seat item reply new → StandsStill old new
answered-still seat item reply old new answers =
    still-answered seat item reply old new answers (IsAheadOf-moves _ old new answers.moves answers.epoch answers.before) (Expects-moves _ old new answers.moves)

module _ (old : Node) (c seat : ℕ) (item : Item) (reply : Reply) (s : Sequencing) (own : HasSeat old.seats c seat) (few : length old.sequencer.waiting < MAX_PARTS)
    (answers : Answers old.sequencer seat item reply s) (holder : Holder) (handed : List Group) (w : World) (stands : NodeRefines holder old handed w) (offered : IsOffered w c item) where
  abbrev list : List Call
  list = w.primary.calls

  abbrev call : Call
  call = call_of c item reply

  -- the primary's image lies within the list
  within : w.primary.committer.position ≤ position_of list
  within = omega (arith, stands.sound.committer.closed, chain-le _ _ _ stands.sound.committer.waiting)

  session : session_at old.sequencer.sessions seat ≡ (state_after list).sessions c
  session = stands.follow.session c seat own

  still : StandsStill old.sequencer s
  still = answered-still seat item reply old.sequencer s answers

  turn-stands : Sound (called c call w) → NodeRefines holder (with_answered s old) (handed ++ []) (called c call w)
  turn-stands sound =
      record {
        sound = sound;
        running = stands.running;
        role = stands.role;
        epoch = stands.epoch;
        are_open = λ d other has. still-open w c call d (stands.are_open d other has);
        are_apart = stands.are_apart;
        sequencer = sequencer-answered list w.primary.committer.closed old.sequencer s c seat item reply stands.sequencer session answers;
        follow = follow-answered list w.primary.committer.closed old.seats old.sequencer s c seat item reply own stands.are_apart stands.sequencer stands.follow answers;
        committing = CommittingRefines-grows list (call ∷ []) old.committing w.primary.committer stands.committing;
        engine = EngineStands-grows holder list (call ∷ []) w.primary.committer.position old.device old.contents old.is_faulted within stands.engine;
        leads = leads-still old.contents old.committing.waiting.items old.committing.aside old.sequencer s old.notices still stands.leads;
        freeing = freeing-still old.sequencer s old.notices old.contents w.primary (called c call w).primary still refl refl refl refl stands.freeing;
        remembers = remembers-still old.contents.current.floor w.primary.committer.position w.primary.committer.closed list (call ∷ []) old.contents old.committing.waiting.items old.committing.aside old.sequencer s
            old.notices stands.engine.contents_at.at stands.sequencer stands.leads still.ended still.newest stands.remembers;
        handed_are = AreGroupsOf-grows list (call ∷ []) (handed ++ []) w.primary.link.waiting
            (subst (λ (gs : List Group). AreGroupsOf list gs w.primary.link.waiting) (sym (append-nil handed)) stands.handed_are);
      }

  turn-may : may_happen w (events.Turn c) ≡ true
  turn-may =
      let connection = connection_of w c in
      let opens : is_open w c ≡ true = stands.are_open c seat own in
      let some : is_nonempty connection.inbound.waiting ≡ true = first-some connection.inbound.waiting item offered.first in
      let fits : nat_lt (open_changes w) OPEN_CHANGES ≡ true = lt-ltb (open_changes w) OPEN_CHANGES (omega (arith, few, stands.sequencer.count)) in
      and_from (is_open w c && is_nonempty connection.inbound.waiting && has_room connection.outbound.made) _
      (and_from (is_open w c && is_nonempty connection.inbound.waiting) _ (and_from (is_open w c) _ opens some) offered.room) fits
    where
      first-some : (items : List Item) (item : Item) → take 1 items ≡ item ∷ [] → is_nonempty items ≡ true
      first-some [] item first = cc
      first-some (other ∷ items) item first = refl

  turn-happens : Turns w c (called c call w)
  turn-happens = record {
    call = call;
    connection = refl;
    first = offered.first;
    reply = MayReply-alike (state_of old.sequencer) (state_after list) (call_of seat item reply) call
        (alike-state list w.primary.committer.closed old.sequencer c seat item reply stands.sequencer session) answers.legal;
    now = refl;
  }

  turn-steps : StepsTo holder (Turned c item) (with_answered s old) handed w
  turn-steps =
      let w' = called c call w in
      let step = primary-steps (events.Turn c) w w' refl stands.running turn-may turn-happens in
      record { world = w'; did = step; stands = turn-stands (sound-step w (events.Turn c) true w' step stands.sound) }

pub turned-act : (old : Node) (c seat : ℕ) (item : Item) (reply : Reply) (s : Sequencing) → HasSeat old.seats c seat → length old.sequencer.waiting < MAX_PARTS → Answers old.sequencer seat item reply s
    → IsAct (Turned c item) old (with_answered s old)
turned-act old c seat item reply s own few answers = λ holder handed w stands rests. turn-steps old c seat item reply s own few answers holder handed w stands rests
