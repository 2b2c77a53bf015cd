-- A group that is committed, told of, or handed on is an act.
use Rattle.std.proofs.Common.{◌≡◌, ℕ, inl, Bool, true, false, cond, nat_lt, List, [], ◌∷◌, ◌++◌, length, Option, Some, refl, sym, ap, ap₂, subst, ◌∙◌, le_refl, append-nil, max}
use Rattle.std.proofs.lemmas.List.{map-append}
use Rattle.pmem.specs.Device.{State}
use Rattle.model.specs.declared.call.Call.{Call}
use Rattle.model.specs.declared.group.Group.{Group}
use Rattle.model.specs.declared.work.FreeList.{FreeList}
use Rattle.model.specs.declared.work.Work.{Work}
use Rattle.model.specs.declared.work.Work.TheVariants as work
use Rattle.model.specs.Call.{cut_at, keyspace_after}
use Rattle.model.specs.Floor.{floored}
use Rattle.model.specs.Group.{Contents, after_group, entries_of, last_position}
use Rattle.model.specs.Image.{IsMapOf}
use Rattle.model.specs.Standing.{Holder}
use Rattle.model.proofs.CallsLemmas.{keyspace_after-cut_at-position}
use Rattle.wbl_engine.specs.declared.freeing.Freed.{Freed as Places}
use Rattle.wbl_engine.specs.Contents.{Exhausts, IsDurable}
use Rattle.wbl_engine.specs.Lawful.{AreLawful}
use Rattle.wbl_engine.proofs.LawfulLemmas.{group_lawful}
use Rattle.pipes.specs.Waiting.{Waiting}
use Rattle.group_commit.specs.Due.{due_beside, has_group, left_by, reached_by}
use Rattle.group_commit.specs.Group.{groups_of}
use Rattle.group_commit.specs.Working.{AreTaken}
use Rattle.group_commit.specs.declared.due.Due.TheVariants as due
use Rattle.group_commit.proofs.DueLemmas.{group-behind}
use Rattle.group_commit.proofs.WorkLemmas.{groups_of-lists}
use Rattle.primary.specs.Leading.{AreOfEpoch}
use Rattle.primary.specs.Recalling.{KeepsPast, Remembers}
use Rattle.primary.specs.Standing.{StandsOver}
use Rattle.primary.proofs.AheadLemmas.{laid-engine}
use Rattle.primary.proofs.CommittedLemmas.{AreLed, first-is, led-first}
use Rattle.primary.proofs.KeptGroups.{keeps-first}
use Rattle.primary.proofs.NumberedLemmas.{lawful_renumbered}
use Rattle.machine.specs.Event.{Commits, Committer as MachineCommitter, Link as MachineLink, Work as MachineWork, World, committed_first, from_group, handed, handed_to, has_room, is_durable, is_running, is_shown, may_happen, nodes_run, raised_local, ready_again, shown}
use Rattle.machine.specs.declared.event.Event.{Event}
use Rattle.machine.specs.declared.event.Event.TheVariants as events
use Rattle.machine.specs.Event as machine
use Rattle.machine.specs.World as machine_stage
use Rattle.machine.specs.Sound.{Sound}
use Rattle.machine.proofs.SoundEvents.{sound-step}
use Rattle.connections.specs.Session.{SequencerRefines}
use Rattle.node_steps.specs.Acts.{Act, Committed, Did, HandedOn, Raised, StepsTo, event_of, handed_by}
use Rattle.node_steps.specs.Committing.{Committing, CommittingRefines, Durable, Ready, Shown, Stage, StageRefines}
use Rattle.node_steps.specs.GroupSpan.{AreGroupsOf, AreWorkOf}
use Rattle.node_steps.specs.Node.{Node, NodeRefines, past_of}
use Rattle.node_steps.proofs.ActLemmas.{primary-steps}
use Rattle.node_steps.proofs.CommittingLemmas.{FirstGroup, first-group}
use Rattle.node_steps.proofs.GroupSpanLemmas.{AreGroupsOf-push}
use Rattle.node_steps.proofs.QueueLemmas.{commit-enabled, due_at}
use Rattle.node_steps.proofs.RecallLemmas.{waits-along}

-- the world in which the committer, the link, the notices and the gaps are these
abbrev world_with : MachineCommitter → MachineLink → ℕ → ℕ → World → World
world_with committer link notices gaps w = record w { primary = record w.primary { committer = committer; link = link; notices = notices; gaps = gaps } }

-- a thread that has this of its primary's back, and all else as before
abbrev pub with_back : Node → Committing → List Places → State → Contents → Bool → Node
with_back node committing notices device contents is_faulted =
    record node { committing = committing; notices = notices; device = device; contents = contents; is_faulted = is_faulted }

module _ (holder : Holder) (handed_on : List Group) (w : World) (old : Node) (stands : NodeRefines holder old handed_on w) where
  abbrev calls : List Call
  calls = w.primary.calls

  abbrev was : Committing
  was = old.committing

  -- what is in hand leads to what the sequencer holds
  pub over : StandsOver old.device old.contents was.waiting.items was.aside old.sequencer old.notices
  over =
      let engine = stands.engine in
      let consistent = engine.contents_at.consistent in
      record { leads = stands.leads; consistent = consistent; laid = laid-engine old.device old.contents consistent engine.lawful engine.durable; durable = engine.durable }

  -- over the list as the past
  pub keeps : KeepsPast old.contents.current.floor (past_of calls) old.contents was.waiting.items was.aside old.sequencer
  keeps =
      let at = stands.engine.contents_at.at in
      record {
        now = subst (λ p. IsMapOf old.contents.versions (entries_of old.contents) (keyspace_after (cut_at calls p))) (sym at) stands.engine.contents_at.map;
        follows = record {
          served = stands.sequencer.table ∙ sym (keyspace_after-cut_at-position calls) ∙ ap (λ p. keyspace_after (cut_at calls p)) (sym stands.sequencer.position);
          waiting = waits-along calls w.primary.committer.closed old.sequencer stands.sequencer;
        };
        remembers = subst (λ p. Remembers old.contents.current.floor p (past_of calls) old.contents was.waiting.items was.aside old.sequencer) (sym at) stands.remembers;
      }

  module _ (now : Committing) (told : List Places) (device : State) (contents : Contents) (is_faulted : Bool) where
    -- the engine is of the same node
    pub record IsOfSame : Type 0 where
      pub lawful : AreLawful contents
      pub role : contents.current.role ≡ old.contents.current.role
      pub epoch : contents.current.epoch ≡ old.contents.current.epoch
      pub lines : contents.lines ≡ old.contents.lines
      pub sound : is_faulted ≡ false

    -- what the thread has then, in a world with this committer, this link, these notices and gaps
    pub record Arrives (committer : MachineCommitter) (link : MachineLink) (count gaps : ℕ) (more : List Group) : Type 0 where
      pub engine : IsOfSame
      pub at : contents.current.position ≡ committer.position
      pub closed : committer.closed ≡ w.primary.committer.closed
      pub committing : CommittingRefines calls now committer
      pub counted : length told ≡ count
      pub gaps_are : length contents.current.gaps.items ≡ gaps
      pub groups : AreGroupsOf calls (handed_on ++ more) link.waiting

    abbrev Stands : Type 0
    Stands = StandsOver device contents now.waiting.items now.aside old.sequencer told

    abbrev Kept : Type 0
    Kept = KeepsPast contents.current.floor (past_of calls) contents now.waiting.items now.aside old.sequencer

    arrived : (committer : MachineCommitter) (link : MachineLink) (count gaps : ℕ) (more : List Group) → Arrives committer link count gaps more → Stands → Kept → Sound (world_with committer link count gaps w)
        → NodeRefines holder (with_back old now told device contents is_faulted) (handed_on ++ more) (world_with committer link count gaps w)
    arrived committer link count gaps more is over' keeps' sound =
        let before_it = stands.engine.contents_at in
        record {
          sound = sound;
          running = stands.running;
          role = stands.role;
          epoch = stands.epoch;
          are_open = stands.are_open;
          are_apart = stands.are_apart;
          sequencer = subst (λ n. SequencerRefines calls n old.sequencer) (sym is.closed) stands.sequencer;
          follow = record { by_call = stands.follow.by_call; session = stands.follow.session };
          committing = is.committing;
          engine = record {
            contents_at = record {
              at = is.at;
              role_is = is.engine.role ∙ before_it.role_is;
              epoch_is = is.engine.epoch ∙ before_it.epoch_is;
              lines_are = is.engine.lines ∙ before_it.lines_are;
              consistent = over'.consistent;
              map = subst (λ p. IsMapOf contents.versions (entries_of contents) (keyspace_after (cut_at calls p))) is.at keeps'.now;
            };
            lawful = is.engine.lawful;
            sound = is.engine.sound;
            durable = over'.durable;
          };
          leads = over'.leads;
          freeing = record { ended = stands.freeing.ended; newest = stands.freeing.newest; notices_are = is.counted; gaps = is.gaps_are };
          remembers = subst (λ p. Remembers contents.current.floor p (past_of calls) contents now.waiting.items now.aside old.sequencer) is.at keeps'.remembers;
          handed_are = is.groups;
        }

    -- a step of the machine that leads there
    pub arrives : (act : Act) (event : Event) → event_of act ≡ Some event → nodes_run w event ≡ is_running w.primary.life
        → (committer : MachineCommitter) (link : MachineLink) (count gaps : ℕ) → Arrives committer link count gaps (handed_by act) → Stands → Kept
        → may_happen w event ≡ true → machine.Happens w event (world_with committer link count gaps w)
        → StepsTo holder act (with_back old now told device contents is_faulted) handed_on w
    arrives act event is_event own committer link count gaps is over' keeps' may happens =
        let w' = world_with committer link count gaps w in
        let step = primary-steps event w w' own stands.running may happens in
        record {
          world = w';
          did = subst (λ (e : Option Event). Did w e w') (sym is_event) step;
          stands = arrived committer link count gaps (handed_by act) is over' keeps' (sound-step w event true w' step stands.sound);
        }

  -- what waits once lists that are reached went aside
  pub work-left : (b b' : Bool) → b ≡ b' → AreWorkOf calls (left_by b was.waiting.items) (cond b' [] w.primary.committer.waiting)
  work-left true true same = tt
  work-left false false same = stands.committing.work
  work-left true false same = cc
  work-left false true same = cc

  pub groups-stay : AreGroupsOf calls (handed_on ++ []) w.primary.link.waiting
  groups-stay = subst (λ (gs : List Group). AreGroupsOf calls gs w.primary.link.waiting) (sym (append-nil handed_on)) stands.handed_are

  -- ---- a group was committed

  -- the first that waits, behind these lists; the device then holds what it makes
  module _ (ready : was.stage ≡ Ready) (room : has_room w.primary.link.waiting ≡ true) (remote : ℕ) (lists : List FreeList) (group : Group) (after : Waiting Work) (device : State) (is_faulted : Bool)
      (taken : AreTaken was.waiting.items lists (Some group) after.items) (durable : IsDurable device (after_group (floored remote old.contents) group)) (sound : is_faulted ≡ false)
      (fits : ¬ Exhausts old.contents group) where
    abbrev made : Contents
    made = after_group (floored remote old.contents) group

    abbrev committed_now : Committing
    committed_now = record { waiting = after; aside = was.aside ++ lists; stage = Durable group; local = was.local }

    led-now : AreLed old.contents was.waiting.items was.aside old.sequencer old.notices
    led-now = record { leads = over.leads; consistent = over.consistent; laid = over.laid }

    due-now : due_at was.stage was.aside was.waiting.items true (nat_lt 0 (length old.contents.current.gaps.items)) remote ≡ due.Commit
    due-now =
        ap (λ (stage : Stage). due_at stage was.aside was.waiting.items true (nat_lt 0 (length old.contents.current.gaps.items)) remote) ready
        ∙ ap (λ (some : Bool). cond some due.Commit (due_beside (reached_by true was.aside was.waiting.items) true (nat_lt 0 (length old.contents.current.gaps.items)) remote))
        (ap has_group taken ∙ group-behind lists group after.items)

    pub commit-act : StepsTo holder Committed (with_back old committed_now old.notices device made is_faulted) handed_on w
    commit-act =
        let c = old.contents in
        let firsts : FirstGroup calls lists group after.items w.primary.committer.waiting =
        first-group calls lists group after.items w.primary.committer.waiting
        (subst (λ (items : List Work). AreWorkOf calls items w.primary.committer.waiting) taken stands.committing.work) in
        let plain = after_group c group in
        let lawful = first-is remote c was.waiting.items after.items was.aside lists group old.sequencer old.notices taken led-now in
        let are = group_lawful c group stands.engine.lawful lawful fits in
        let epochs : AreOfEpoch c.current.epoch (groups_of (work.Commit group ∷ after.items)) =
        subst (AreOfEpoch c.current.epoch) (ap groups_of taken ∙ groups_of-lists lists (work.Commit group ∷ after.items)) stands.leads.epochs in
        let led = led-first remote c was.waiting.items after.items was.aside lists group old.sequencer old.notices taken led-now in
        let there : Arrives committed_now old.notices device made is_faulted (committed_first (Commits firsts.first ∷ firsts.others) w.primary.committer) w.primary.link w.primary.notices w.primary.gaps [] =
        record {
          engine = record {
            lawful = lawful_renumbered plain.current.number (max c.current.floor remote) plain are (le_refl plain.current.number) are.current.number;
            role = refl;
            epoch = epochs.0;
            lines = refl;
            sound = sound;
          };
          at = ap (λ n. last_position n group.parts.items) (sym lawful.before) ∙ firsts.is.after;
          closed = refl;
          committing = record {
            work = firsts.are;
            aside = map-append (λ (list : FreeList). list.position) was.aside lists ∙ ap₂ (λ (xs ys : List ℕ). xs ++ ys) stands.committing.aside firsts.before;
            stage_is = firsts.is;
            local_is = stands.committing.local_is;
          };
          counted = stands.freeing.notices_are;
          gaps_are = stands.freeing.gaps;
          groups = groups-stay;
        } in
        arrives committed_now old.notices device made is_faulted Committed events.Commit refl refl (committed_first (from_group w.primary.committer.waiting) w.primary.committer) w.primary.link w.primary.notices
        w.primary.gaps
        (subst (λ (works : List MachineWork). Arrives committed_now old.notices device made is_faulted (committed_first works w.primary.committer) w.primary.link w.primary.notices w.primary.gaps [])
        (sym firsts.from) there)
        (record { leads = led.leads; consistent = led.consistent; laid = led.laid; durable = durable })
        (keeps-first remote c was.waiting.items after.items was.aside lists group old.sequencer old.notices (past_of calls) taken led-now keeps)
        (commit-enabled w was true stands.committing (sym room) remote (length c.current.gaps.items) due-now)
        (inl refl)

  -- ---- a group was shown, and handed on

  -- the engine is the one that it was
  same-engine : (now : Committing) → IsOfSame now old.notices old.device old.contents old.is_faulted
  same-engine now = record { lawful = stands.engine.lawful; role = refl; epoch = refl; lines = refl; sound = stands.engine.sound }

  may-raise : (group : Group) (stage : machine.Stage) → StageRefines calls (Durable group) stage → is_durable stage ≡ true
  may-raise group (machine_stage.Durable span) is = refl
  may-raise group stage is = absurd is

  stage-shown : (group : Group) (stage : machine.Stage) → StageRefines calls (Durable group) stage → StageRefines calls (Shown group) (shown stage)
  stage-shown group (machine_stage.Durable span) is = is
  stage-shown group stage is = absurd is

  pub raise-act : (group : Group) → was.stage ≡ Durable group
      → StepsTo holder Raised (record old { committing = record was { stage = Shown group; local = old.contents.current.position } }) handed_on w
  raise-act group durable =
      let now : Committing = record was { stage = Shown group; local = old.contents.current.position } in
      let is_in_hand : StageRefines calls (Durable group) w.primary.committer.stage = subst (λ (stage : Stage). StageRefines calls stage w.primary.committer.stage) durable stands.committing.stage_is in
      arrives now old.notices old.device old.contents old.is_faulted Raised events.RaiseLocal refl refl (raised_local w.primary.committer) w.primary.link w.primary.notices w.primary.gaps
      (record {
        engine = same-engine now;
        at = stands.engine.contents_at.at;
        closed = refl;
        committing = record {
          work = stands.committing.work;
          aside = stands.committing.aside;
          stage_is = stage-shown group w.primary.committer.stage is_in_hand;
          local_is = stands.engine.contents_at.at;
        };
        counted = stands.freeing.notices_are;
        gaps_are = stands.freeing.gaps;
        groups = groups-stay;
      })
      over keeps (may-raise group w.primary.committer.stage is_in_hand) refl

  may-hand : (group : Group) (stage : machine.Stage) → StageRefines calls (Shown group) stage → is_shown stage ≡ true
  may-hand group (machine_stage.Shown span) is = refl
  may-hand group stage is = absurd is

  handed-groups : (group : Group) (stage : machine.Stage) → StageRefines calls (Shown group) stage → AreGroupsOf calls (handed_on ++ group ∷ []) (w.primary.link.waiting ++ handed stage)
  handed-groups group (machine_stage.Shown span) is = AreGroupsOf-push calls handed_on w.primary.link.waiting group span stands.handed_are is
  handed-groups group stage is = absurd is

  pub hand-act : (group : Group) → was.stage ≡ Shown group → StepsTo holder (HandedOn group) (record old { committing = record was { stage = Ready } }) handed_on w
  hand-act group is_shown_now =
      let now : Committing = record was { stage = Ready } in
      let is_in_hand : StageRefines calls (Shown group) w.primary.committer.stage = subst (λ (stage : Stage). StageRefines calls stage w.primary.committer.stage) is_shown_now stands.committing.stage_is in
      arrives now old.notices old.device old.contents old.is_faulted (HandedOn group) events.Hand refl refl (ready_again w.primary.committer) (handed_to (handed w.primary.committer.stage) w.primary.link)
      w.primary.notices w.primary.gaps
      (record {
        engine = same-engine now;
        at = stands.engine.contents_at.at;
        closed = refl;
        committing = record { work = stands.committing.work; aside = stands.committing.aside; stage_is = tt; local_is = stands.committing.local_is };
        counted = stands.freeing.notices_are;
        gaps_are = stands.freeing.gaps;
        groups = handed-groups group w.primary.committer.stage is_in_hand;
      })
      over keeps (may-hand group w.primary.committer.stage is_in_hand) refl
