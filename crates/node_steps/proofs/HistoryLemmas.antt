-- Acts go on through whatever others do.
use Rattle.std.proofs.Common.{◌≡◌, ℕ, zero, suc, true, List, [], ◌∷◌, ◌++◌, drop, length, take, Option, Some, None, refl, sym, ap, subst, ◌∙◌, append_assoc, append-nil}
use Rattle.std.proofs.lemmas.Grind.{flat_map-append}
use Rattle.model.specs.declared.call.Call.{Call}
use Rattle.model.specs.declared.group.Group.{Group}
use Rattle.model.specs.Standing.{Holder}
use Rattle.connections.specs.Session.{SeatsFollow}
use Rattle.machine.specs.declared.event.Event.{Event}
use Rattle.machine.specs.Event.{Run, Span, Step, World, last_world, option_items}
use Rattle.machine.proofs.RunLemmas.{last_world-append, last_world-push, run-append, run-push}
use Rattle.node_steps.specs.Acts.{Act, AreActs, Did, GoesOn, HasInOrder, RunsThrough, StepsTo, event_of, events_of, handed_by}
use Rattle.node_steps.proofs.Meanwhile.{Meanwhile}
use Rattle.node_steps.proofs.OthersLemmas.{meanwhile-others}
use Rattle.node_steps.specs.GroupSpan.{AreGroupsOf}
use Rattle.node_steps.specs.Others.{OthersRun}
use Rattle.node_steps.specs.Node.{Node, NodeRefines}

-- the groups that are left are those of the spans that are
groups-left : (calls : List Call) (groups : List Group) (sent spans : List Span) → AreGroupsOf calls groups (sent ++ spans) → AreGroupsOf calls (drop (length sent) groups) spans
groups-left calls groups [] spans are = are
groups-left calls [] (span ∷ sent) spans are = absurd are
groups-left calls (group ∷ groups) (span ∷ sent) spans are = groups-left calls groups sent spans are.1

-- what others do is nothing to what the thread has
pub meanwhile-stands : (holder : Holder) (node : Node) (handed : List Group) (w now : World) → NodeRefines holder node handed w → (meanwhile : Meanwhile w now)
    → NodeRefines holder node (drop (length meanwhile.sent) handed) now
meanwhile-stands holder node handed w now stands meanwhile =
    record {
      sound = meanwhile.sound;
      running = meanwhile.life ∙ stands.running;
      role = stands.role;
      epoch = stands.epoch ∙ sym meanwhile.epoch;
      are_open = λ c seat has. meanwhile.are_open c (stands.are_open c seat has);
      are_apart = stands.are_apart;
      sequencer = rw (meanwhile.calls, meanwhile.committer) stands.sequencer;
      follow = subst (λ (calls : List Call). SeatsFollow calls node.seats node.sequencer) (sym meanwhile.calls) stands.follow;
      committing = rw (meanwhile.calls, meanwhile.committer) stands.committing;
      engine = rw (meanwhile.calls, meanwhile.committer) stands.engine;
      leads = stands.leads;
      freeing = record {
        ended = stands.freeing.ended ∙ sym meanwhile.ended;
        newest = stands.freeing.newest ∙ sym meanwhile.newest;
        notices_are = stands.freeing.notices_are ∙ sym meanwhile.notices;
        gaps = stands.freeing.gaps ∙ sym meanwhile.gaps;
      };
      remembers = rw (meanwhile.calls, meanwhile.committer) stands.remembers;
      handed_are = rw meanwhile.calls
          (groups-left w.primary.calls handed meanwhile.sent now.primary.link.waiting
          (subst (λ (spans : List Span). AreGroupsOf w.primary.calls handed spans) meanwhile.waiting stands.handed_are));
    }

-- ---- runs

in-order-more : (events others more : List Event) → HasInOrder events others → HasInOrder events (others ++ more)
in-order-more [] others more has = tt
in-order-more (event ∷ events) others more (before, after, is, has) =
    (before, after ++ more, ap (λ (xs : List Event). xs ++ more) is ∙ append_assoc before (event ∷ after) more, in-order-more events after more has)

in-order-push : (events others : List Event) (last : Event) → HasInOrder events others → HasInOrder (events ++ last ∷ []) (others ++ last ∷ [])
in-order-push [] others last has = (others, [], refl, tt)
in-order-push (event ∷ events) others last (before, after, is, has) =
    (before, after ++ last ∷ [], ap (λ (xs : List Event). xs ++ last ∷ []) is ∙ append_assoc before (event ∷ after) (last ∷ []), in-order-push events after last has)

-- others have a run
through-others : {beginning w now : World} (acts : List Act) → RunsThrough beginning acts w → OthersRun w now → RunsThrough beginning acts now
through-others {beginning} {w} {now} acts through others =
    record {
      events = through.events ++ others.events;
      done = through.done ++ others.done;
      worlds = through.worlds ++ others.worlds;
      run = run-append beginning through.events others.events through.done others.done through.worlds others.worlds through.run
          (subst (λ (at : World). Run at others.events others.done others.worlds) (sym through.last) others.run);
      last = last_world-append beginning through.worlds others.worlds ∙ ap (λ (at : World). last_world at others.worlds) through.last ∙ others.last;
      own = in-order-more (events_of acts) through.events others.events through.own;
    }

-- and an act is done
through-push : {beginning now new : World} (before : List Act) (act : Act) (event : Option Event) → event_of act ≡ event → RunsThrough beginning before now → Did now event new → RunsThrough beginning (before ++ act ∷ []) new
through-push {beginning} {now} {new} before act None is through did =
    let same : events_of (before ++ act ∷ []) ≡ events_of before =
    flat_map-append (λ (act : Act). option_items (event_of act)) before (act ∷ []) ∙ ap (λ (e : Option Event). events_of before ++ (option_items e ++ [])) is ∙ append-nil (events_of before) in
    record { events = through.events; done = through.done; worlds = through.worlds; run = through.run; last = through.last ∙ sym did; own = subst (λ (es : List Event). HasInOrder es through.events) (sym same) through.own }
through-push {beginning} {now} {new} before act (Some event) is through did =
    let same : events_of (before ++ act ∷ []) ≡ events_of before ++ event ∷ [] =
    flat_map-append (λ (act : Act). option_items (event_of act)) before (act ∷ []) ∙ ap (λ (e : Option Event). events_of before ++ (option_items e ++ [])) is in
    record {
      events = through.events ++ event ∷ [];
      done = through.done ++ true ∷ [];
      worlds = through.worlds ++ new ∷ [];
      run = run-push beginning through.events through.done through.worlds event true new through.run (subst (λ (at : World). Step at event true new) (sym through.last) did);
      last = last_world-push beginning through.worlds new;
      own = subst (λ (es : List Event). HasInOrder es (through.events ++ event ∷ [])) (sym same) (in-order-push (events_of before) through.events event through.own);
    }

-- ---- acts

split-at : (n : ℕ) (groups : List Group) → groups ≡ take n groups ++ drop n groups
split-at zero groups = refl
split-at (suc n) [] = refl
split-at (suc n) (group ∷ groups) = ap (λ (gs : List Group). group ∷ gs) (split-at n groups)

-- what the thread has is that of the world which others leave
pub others-stand : (holder : Holder) (node : Node) (handed : List Group) (w now : World) → NodeRefines holder node handed w → OthersRun w now
    → (gone left : List Group) × (handed ≡ gone ++ left) × NodeRefines holder node left now
others-stand holder node handed w now stands others =
    let meanwhile = meanwhile-others stands.sound others in
    let n = length meanwhile.sent in
    (take n handed, drop n handed, split-at n handed, meanwhile-stands holder node handed w now stands meanwhile)

acts-go : (beginning : World) (holder : Holder) (old new : Node) (before acts : List Act) (handed : List Group) (w : World) → NodeRefines holder old handed w → RunsThrough beginning before w → AreActs old acts new
    → GoesOn beginning holder new before acts handed w
acts-go beginning holder old new before [] handed w stands through are = (subst (λ (node : Node). NodeRefines holder node handed w) (sym are) stands, through)
acts-go beginning holder old new before (act ∷ acts) handed w stands through (between, is, are) =
    λ now others rests.
    let meanwhile = meanwhile-others stands.sound others in
    let n = length meanwhile.sent in
    let next : StepsTo holder act between (drop n handed) now = is holder (drop n handed) now (meanwhile-stands holder old handed w now stands meanwhile) rests in (
      take n handed,
      drop n handed,
      split-at n handed,
      next.world,
      next.did,
      acts-go beginning holder between new (before ++ act ∷ []) acts (drop n handed ++ handed_by act) next.world next.stands (through-push before act (event_of act) refl (through-others before through others) next.did) are,
    )

pub goes-on : (holder : Holder) (old new : Node) (acts : List Act) (handed : List Group) (w : World) → NodeRefines holder old handed w → AreActs old acts new → GoesOn w holder new [] acts handed w
goes-on holder old new acts handed w stands are =
    acts-go w holder old new [] acts handed w stands (record { events = []; done = []; worlds = []; run = tt; last = refl; own = tt }) are

-- ---- lists of acts

pub acts-append : (old middle new : Node) (acts more : List Act) → AreActs old acts middle → AreActs middle more new → AreActs old (acts ++ more) new
acts-append old middle new [] more are then = subst (λ (node : Node). AreActs node more new) are then
acts-append old middle new (act ∷ acts) more (between, is, are) then = (between, is, acts-append between middle new acts more are then)
