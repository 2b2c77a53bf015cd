-- A list that is freed, and a gap that is cleared, are acts.
use Rattle.std.proofs.Common.{◌≡◌, ◌+◌, ◌-◌, ◌<◌, ◌≤◌, ℕ, inl, inr, Bool, List, [], ◌∷◌, ◌++◌, cond, length, nat_lt, drop, Ok, Option, sym, ap, subst, refl, ◌∙◌, arith, length-append}
use Rattle.std.proofs.lemmas.Bool.{cases_lt}
use Rattle.std.proofs.lemmas.List.{length-drop}
use Rattle.pmem.specs.Device.{State}
use Rattle.model.specs.declared.image.TheConstants.{COUNTER_LIMIT}
use Rattle.model.specs.declared.record.Record.{Record}
use Rattle.model.specs.declared.work.Work.{Work}
use Rattle.model.specs.Floor.{floor_raised}
use Rattle.model.specs.Group.{AreEnded, Contents, after_free, is_listed}
use Rattle.model.specs.Standing.{Holder}
use Rattle.model.specs.declared.group.Group.{Group}
use Rattle.wbl_engine.specs.declared.freeing.Freed.{Freed as Places}
use Rattle.wbl_engine.proofs.LawfulLemmas.{same_lawful}
use Rattle.wbl_engine.proofs.WithoutLemmas.{lawful_cleared, lawful_without}
use Rattle.pipes.specs.Waiting.{Waiting}
use Rattle.redis_core.specs.Sequencing.{Sequencing}
use Rattle.group_commit.specs.Due.{due_now, due_of}
use Rattle.group_commit.specs.Working.{ClearsGap, FreesReached}
use Rattle.group_commit.specs.declared.committer.Committer.{Committer}
use Rattle.group_commit.specs.declared.due.Due.{Due}
use Rattle.group_commit.specs.declared.due.Due.TheVariants as due
use Rattle.group_commit.specs.declared.stage.Done.{Done}
use Rattle.group_commit.specs.declared.stage.Stage.{Stage as CommitterStage}
use Rattle.group_commit.specs.declared.stage.Stage.TheVariants as committer_stage
use Rattle.group_commit.proofs.DueLemmas.{clear-now, free-now}
use Rattle.group_commit.proofs.FreedLemmas.{AllEnded-listed}
use Rattle.group_commit.proofs.GroupsLemmas.{Same-is}
use Rattle.primary.specs.Recalling.{KeepsPast}
use Rattle.primary.specs.Standing.{StandsOver}
use Rattle.primary.proofs.KeptTurns.{reached-ended}
use Rattle.primary.proofs.NumberedLemmas.{lawful_raised}
use Rattle.primary.proofs.TurnedLemmas.{ok_not_err}
use Rattle.machine.specs.Event.{World, freed_first, has_room, reached_lists}
use Rattle.machine.specs.declared.event.Event.TheVariants as events
use Rattle.node_steps.specs.Acts.{Cleared, Freed, StepsTo}
use Rattle.node_steps.specs.Clauses.{local_shown, node_of}
use Rattle.node_steps.specs.Committing.{Committing}
use Rattle.node_steps.specs.GroupSpan.{AreWorkOf, positions_of_lists}
use Rattle.node_steps.specs.Node.{Node, NodeRefines, past_of}
use Rattle.node_steps.proofs.CommitterActs.{arrives, groups-stay, keeps, over, work-left}
use Rattle.node_steps.proofs.QueueLemmas.{clear-enabled, free-enabled, reached-positions}

module _ {E : Type 0} (device : E → State) (contents : E → Contents) (is_faulted : E → Bool) (seats : List (Option ℕ)) (s : Sequencing) (holder : Holder) (handed_on : List Group) (w : World)
    (notices : List Places) (old : Committer E) (before : Waiting Work) (stands : NodeRefines holder (node_of device contents is_faulted seats s notices old before) handed_on w)
    (room : Bool) (remote : ℕ) (room_is : has_room w.primary.link.waiting ≡ room) (new : Committer E) (after : Waiting Work) (came : Done) where
  abbrev Over : List Places → Type 0
  Over told = StandsOver (device new.engine) (contents new.engine) after.items new.aside.items s told

  abbrev Kept : Type 0
  Kept = KeepsPast (contents new.engine).current.floor (past_of w.primary.calls) (contents new.engine) after.items new.aside.items s

  abbrev node : Node
  node = node_of device contents is_faulted seats s notices old before

  abbrev was : Committing
  was = node.committing

  abbrev now : Committing
  now = (node_of device contents is_faulted seats s notices new after).committing

  abbrev gaps_of : Committer E → ℕ
  gaps_of committer = length (contents committer.engine).current.gaps.items

  -- nothing was in hand, and nothing is
  still-shown : old.stage ≡ committer_stage.Ready → new.stage ≡ committer_stage.Ready → new.local ≡ old.local → now.local ≡ was.local
  still-shown ready ready' same =
      ap (λ (stage : CommitterStage). local_shown stage new.local (contents new.engine).current.position) ready' ∙ same
      ∙ sym (ap (λ (stage : CommitterStage). local_shown stage old.local (contents old.engine).current.position) ready)

  -- so what is due is what is due there
  due-is : (step : Due) → old.stage ≡ committer_stage.Ready → due_now contents old before room remote ≡ step
      → due_of committer_stage.Ready old.aside.items before.items room (nat_lt 0 (gaps_of old)) remote ≡ step
  due-is step ready is = ap (λ (stage : CommitterStage). due_of stage old.aside.items before.items room (nat_lt 0 (gaps_of old)) remote) (sym ready) ∙ is

  -- ---- a list was freed

  pub free-act : due_now contents old before room remote ≡ due.Free → remote ≤ w.primary.link.remote → (frees : FreesReached device contents is_faulted room remote old before (Ok came) new after)
      → Over (notices ++ frees.frees.answer.0 ∷ []) → Kept → StepsTo holder (Freed room remote) (node_of device contents is_faulted seats s (notices ++ frees.frees.answer.0 ∷ []) new after) handed_on w
  free-act is reaches frees over' keeps' =
      let c = contents old.engine in
      let told = notices ++ frees.frees.answer.0 ∷ [] in
      let entries = frees.list.entries.items in
      let moved : contents new.engine ≡ after_free entries (floor_raised frees.list.position c) =
      Same-is (after_free entries (floor_raised frees.list.position c)) (contents new.engine) frees.frees.moved in
      let due_so = free-now contents old before room remote is in
      let ended : AreEnded c entries =
      reached-ended device contents is_faulted (past_of w.primary.calls) s notices old new before after room remote (Ok came) due_so.none frees (over holder handed_on w node stands)
      (keeps holder handed_on w node stands) in
      let reached_is : positions_of_lists (frees.list ∷ frees.rest) ≡ reached_lists w = ap positions_of_lists (sym frees.reached) ∙ reached-positions w was room stands.committing (sym room_is) in
      arrives holder handed_on w node stands now told (device new.engine) (contents new.engine) (is_faulted new.engine) (Freed room remote) events.Free refl refl (freed_first w) w.primary.link
      (w.primary.notices + 1) w.primary.gaps
      (record {
        engine = record {
          lawful = same_lawful (after_free entries (floor_raised frees.list.position c)) (contents new.engine) frees.frees.moved
              (lawful_raised frees.list.position (after_free entries c)
              (lawful_without c (λ i. is_listed i entries) (AllEnded-listed c entries ended) stands.engine.lawful)
              (λ exhausts. ok_not_err came (frees.frees.exhausts stands.engine.sound exhausts)));
          role = ap (λ (d : Contents). d.current.role) moved;
          epoch = ap (λ (d : Contents). d.current.epoch) moved;
          lines = ap (λ (d : Contents). d.lines) moved;
          sound = frees.frees.sound.0;
        };
        at = ap (λ (d : Contents). d.current.position) moved ∙ stands.engine.contents_at.at;
        closed = refl;
        committing = record {
          work = subst (λ (items : List Work). AreWorkOf w.primary.calls items (cond (has_room w.primary.link.waiting) [] w.primary.committer.waiting)) (sym frees.left)
              (work-left holder handed_on w node stands room (has_room w.primary.link.waiting) (sym room_is));
          aside = ap positions_of_lists frees.frees.aside ∙ ap (drop 1) reached_is;
          stage_is = stands.committing.stage_is;
          local_is = still-shown due_so.ready frees.frees.stage frees.frees.local ∙ stands.committing.local_is;
        };
        counted = let one = length-append notices (frees.frees.answer.0 ∷ []) in let many = stands.freeing.notices_are in omega (arith, one, many);
        gaps_are = ap (λ (d : Contents). length d.current.gaps.items) moved ∙ stands.freeing.gaps;
        groups = groups-stay holder handed_on w node stands;
      })
      over' keeps'
      (free-enabled w was room stands.committing (sym room_is) remote (gaps_of old) reaches (due-is due.Free due_so.ready is))
      (inl refl)

  -- ---- a gap was cleared

  pub clear-act : due_now contents old before room remote ≡ due.Clear → after ≡ before → (clears : ClearsGap device contents is_faulted old (Ok came) new)
      → Over (notices ++ clears.answer.0 ∷ []) → Kept → StepsTo holder Cleared (node_of device contents is_faulted seats s (notices ++ clears.answer.0 ∷ []) new after) handed_on w
  clear-act is queue clears over' keeps' =
      let c = contents old.engine in
      let told = notices ++ clears.answer.0 ∷ [] in
      let due_so = clear-now contents old before room remote is in
      let it = clears.answer.3 in
      let below : c.current.number + 1 < COUNTER_LIMIT =
      elim (cases_lt (c.current.number + 1) COUNTER_LIMIT) [
        | inl fits ↦ fits
        | inr above ↦ absurd (ok_not_err came (clears.exhausts stands.engine.sound above))
      ] in
      arrives holder handed_on w node stands now told (device new.engine) (contents new.engine) (is_faulted new.engine) Cleared events.ClearGap refl refl w.primary.committer w.primary.link (w.primary.notices + 1)
      (w.primary.gaps - 1)
      (record {
        engine = record {
          lawful = lawful_cleared c (contents new.engine) clears.answer.0.entries.items it below stands.engine.lawful;
          role = ap (λ (r : Record). r.role) it.current;
          epoch = ap (λ (r : Record). r.epoch) it.current;
          lines = it.lines_are;
          sound = clears.sound.0;
        };
        at = ap (λ (r : Record). r.position) it.current ∙ stands.engine.contents_at.at;
        closed = refl;
        committing = record {
          work = subst (λ (queue : Waiting Work). AreWorkOf w.primary.calls queue.items w.primary.committer.waiting) (sym queue) stands.committing.work;
          aside = ap positions_of_lists (clears.aside ∙ sym due_so.no_aside) ∙ stands.committing.aside;
          stage_is = stands.committing.stage_is;
          local_is = still-shown due_so.ready clears.stage clears.local ∙ stands.committing.local_is;
        };
        counted = let one = length-append notices (clears.answer.0 ∷ []) in let many = stands.freeing.notices_are in omega (arith, one, many);
        gaps_are = ap (λ (r : Record). length r.gaps.items) it.current ∙ length-drop 1 c.current.gaps.items ∙ ap (λ (n : ℕ). n - 1) stands.freeing.gaps;
        groups = groups-stay holder handed_on w node stands;
      })
      over' keeps'
      (clear-enabled w was room stands.committing (sym room_is) remote (gaps_of old) stands.freeing.gaps (due-is due.Clear due_so.ready is))
      (inl refl)
