-- What of its past a primary keeps over a turn of the committer.
use Rattle.std.proofs.Common.{◌≡◌, ℕ, ◌≤◌, Bool, true, false, List, [], ◌∷◌, Result, Ok, Err, IfOk, IsErrOf, refl, sym, ap, subst, ◌∙◌, inl, inr}
use Rattle.pmem.specs.Device.{State}
use Rattle.kv_types.specs.declared.refusal.Refusal.{Refusal}
use Rattle.kv_types.specs.declared.refusal.Refusal.TheVariants.{Memory}
use Rattle.model.specs.declared.group.Group.{Group}
use Rattle.model.specs.declared.record.Record.{Record}
use Rattle.model.specs.declared.work.FreeList.{FreeList}
use Rattle.model.specs.declared.work.Work.{Work}
use Rattle.std.proofs.Math.Nat.{le-max_left, le-max_right}
use Rattle.model.specs.Floor.{floor_raised, raised_record}
use Rattle.model.specs.Group.{AreEnded, Contents, after_free, is_listed, entries_of}
use Rattle.model.proofs.DirectoryLemmas.{entries_same}
use Rattle.model.proofs.MapLemmas.{IsMapOf-same}
use Rattle.wbl_engine.specs.declared.freeing.Freed.{Freed as Places}
use Rattle.wbl_engine.specs.CommittingAll.{after_commits}
use Rattle.wbl_engine.proofs.WithoutLemmas.{IsMapOf-contents_without}
use Rattle.redis_core.specs.Sequencing.{Sequencing}
use Rattle.group_commit.specs.Due.{due_now, has_group, left_by, reached_by}
use Rattle.group_commit.specs.Working.{ClearsGap, FreesReached, Takes, TakesGroups, entries_of_lists}
use Rattle.group_commit.specs.declared.committer.Committer.{Committer}
use Rattle.group_commit.specs.declared.due.Due.{Due}
use Rattle.group_commit.specs.declared.due.Due.TheVariants as due
use Rattle.group_commit.specs.declared.stage.Done.{Done}
use Rattle.group_commit.specs.declared.stage.Done.TheVariants as done
use Rattle.group_commit.proofs.DueLemmas.{clear-now, free-now, no-groups}
use Rattle.group_commit.proofs.FreedLemmas.{AllEnded-listed, AreEnded-first}
use Rattle.group_commit.proofs.GroupsLemmas.{Same-is}
use Rattle.group_commit.proofs.TurnLemmas.{hands-beside}
use Rattle.pipes.specs.Waiting.{Waiting}
use Rattle.primary.specs.Leading.{Leads}
use Rattle.primary.specs.Recalling.{KeepsPast, Past, Remembers}
use Rattle.primary.specs.Standing.{StandsOver}
use Rattle.primary.proofs.KeptGroups.{keeps-each, keeps-renumbered}
use Rattle.primary.proofs.RecallLemmas.{remembers-aside, remembers-freed, remembers-on, remembers-same}
use Rattle.primary.proofs.TurnedLemmas.{Leads-reached, led, ok_not_err}

-- what is reached stands aside
pub remembers-reached : (has_room : Bool) (low position : ℕ) (past : Past) (contents : Contents) (items : List Work) (aside : List FreeList) (s : Sequencing) → (has_room ≡ true → has_group items ≡ false)
    → Remembers low position past contents items aside s → Remembers low position past contents (left_by has_room items) (reached_by has_room aside items) s
remembers-reached true low position past contents items aside s none remembers = remembers-aside low position past contents items aside s (no-groups items (none refl)) remembers
remembers-reached false low position past contents items aside s none remembers = remembers

-- contents of the same position, with the same versions
pub keeps-same : (low : ℕ) (past : Past) (contents new : Contents) (items : List Work) (aside : List FreeList) (s : Sequencing) → new.current.position ≡ contents.current.position
    → new.current.layout ≡ contents.current.layout → new.lines ≡ contents.lines
    → ((i : ℕ) → new.versions i ≡ contents.versions i) → KeepsPast low past contents items aside s → KeepsPast low past new items aside s
keeps-same low past contents new items aside s at layout lines versions keeps =
    let same = remembers-same low contents.current.position past contents new items aside s versions keeps.remembers in
    record {
      now = rw (at, entries_same contents new layout lines) (IsMapOf-same contents.versions new.versions (entries_of contents) (past contents.current.position) (λ i within. sym (versions i)) keeps.now);
      follows = keeps.follows;
      remembers = subst (λ p. Remembers low p past new items aside s) (sym at) same;
    }

module _ {E : Type 0} (device : E → State) (contents : E → Contents) (is_faulted : E → Bool) (past : Past) (s : Sequencing) (notices : List Places) where
  abbrev Stood : Committer E → Waiting Work → Type 0
  Stood c waiting = StandsOver (device c.engine) (contents c.engine) waiting.items c.aside.items s notices

  abbrev Kept : Committer E → Waiting Work → Type 0
  Kept c waiting = KeepsPast (contents c.engine).current.floor past (contents c.engine) waiting.items c.aside.items s

  unmoved : (old new : Committer E) (before after : Waiting Work) → new.engine ≡ old.engine → new.aside.items ≡ old.aside.items → after ≡ before → Kept old before → Kept new after
  unmoved old new before after engine aside queue keeps = rw (queue, aside, engine) keeps

  -- ---- groups have committed

  group-keeps : (old new : Committer E) (before after : Waiting Work) (came : Done) (room remote : ℕ) → TakesGroups device contents is_faulted room remote old before (Ok came) new after → Stood old before
      → Kept old before → Kept new after
  group-keeps old new before after came room remote took over keeps =
      let made = after_commits remote (contents old.engine) took.groups in
      subst (λ (c : Contents). KeepsPast c.current.floor past c after.items new.aside.items s) (sym (Same-is made (contents new.engine) took.commits.moved))
      (subst (λ (xs : List FreeList). KeepsPast made.current.floor past made after.items xs s) (sym took.set_aside)
      (keeps-each remote (contents old.engine) before.items after.items old.aside.items took.lists took.groups s notices past took.taken
      (led device contents is_faulted old before s notices over) keeps))

  -- ---- a list was freed

  -- what is reached
  module _ (old new : Committer E) (before after : Waiting Work) (has_room : Bool) (remote : ℕ) (result : Result Done Refusal) (none : has_room ≡ true → has_group before.items ≡ false)
      (it : FreesReached device contents is_faulted has_room remote old before result new after) (over : Stood old before) (keeps : Kept old before) where
    pub reached-remembers : Remembers (contents old.engine).current.floor (contents old.engine).current.position past (contents old.engine) after.items (it.list ∷ it.rest) s
    reached-remembers =
        let c = contents old.engine in
        let low = c.current.floor in
        rw it.left
        (subst (λ (xs : List FreeList). Remembers low c.current.position past c (left_by has_room before.items) xs s) it.reached
        (remembers-reached has_room low c.current.position past c before.items old.aside.items s none keeps.remembers))

    pub reached-ended : AreEnded (contents old.engine) it.list.entries.items
    reached-ended =
        let c = contents old.engine in
        let leads = subst (λ (xs : List FreeList). Leads c (left_by has_room before.items) xs s notices) it.reached (Leads-reached c has_room before.items old.aside.items s notices none over.leads) in
        AreEnded-first c it.list.entries.items (entries_of_lists it.rest) leads.aside_ended

    -- where the record has a floor from which on they are not needed
    pub raised-remembers : (floor : ℕ) → (contents old.engine).current.floor ≤ floor → Remembers floor (contents old.engine).current.position past (contents old.engine) after.items (it.list ∷ it.rest) s
    raised-remembers floor rises =
        let c = contents old.engine in
        remembers-on c.current.floor floor c.current.position past c after.items (it.list ∷ it.rest) s s rises refl refl reached-remembers

  freed-keeps : (old new : Committer E) (before after : Waiting Work) (has_room : Bool) (remote : ℕ) (came : Done) → (has_room ≡ true → has_group before.items ≡ false)
      → FreesReached device contents is_faulted has_room remote old before (Ok came) new after → Stood old before → Kept old before → Kept new after
  freed-keeps old new before after has_room remote came none it over keeps =
      let c = contents old.engine in
      let r = raised_record it.list.position c.current in
      let entries = it.list.entries.items in
      let ended = reached-ended old new before after has_room remote (Ok came) none it over keeps in
      let left = after_free entries (floor_raised it.list.position c) in
      let is = Same-is left (contents new.engine) it.frees.moved in
      let kept : KeepsPast r.floor past (after_free entries c) after.items it.rest s =
      record {
        now = IsMapOf-contents_without c (λ i. is_listed i entries) (past c.current.position) (AllEnded-listed c entries ended) keeps.now;
        follows = keeps.follows;
        remembers = remembers-freed r.floor c.current.position past c after.items it.list it.rest s (le-max_right c.current.floor it.list.position) ended
            (raised-remembers old new before after has_room remote (Ok came) none it over keeps r.floor (le-max_left c.current.floor it.list.position));
      } in
      subst (λ (c : Contents). KeepsPast c.current.floor past c after.items new.aside.items s) (sym is)
      (subst (λ (xs : List FreeList). KeepsPast left.current.floor past left after.items xs s) (sym it.frees.aside)
      (keeps-renumbered r.floor r.number r.floor past (after_free entries c) after.items it.rest s kept))

  -- ---- a gap was cleared

  cleared-keeps : (old new : Committer E) (before after : Waiting Work) (came : Done) → old.aside.items ≡ [] → after ≡ before → ClearsGap device contents is_faulted old (Ok came) new → Kept old before
      → Kept new after
  cleared-keeps old new before after came alone queue clears keeps =
      let cleared = clears.answer.3 in
      let at = ap (λ (r : Record). r.position) cleared.current in
      let floor = ap (λ (r : Record). r.floor) cleared.current in
      let same = keeps-same (contents old.engine).current.floor past (contents old.engine) (contents new.engine) before.items old.aside.items s at (ap (λ (r : Record). r.layout) cleared.current)
      cleared.lines_are cleared.versions keeps in
      rw (queue, clears.aside ∙ sym alone) (subst (λ (low : ℕ). KeepsPast low past (contents new.engine) before.items old.aside.items s) (sym floor) same)

  -- ---- any turn

  module _ {O : Type 0} (offered : O → List Group) (known_room : O → ℕ) (old new : Committer E) (before after : Waiting Work) (link link' : O) (has_room : Bool) (remote : ℕ)
      (over : Stood old before) (keeps : Kept old before) where
    abbrev Took : Due → Result Done Refusal → Type 0
    Took step result = Takes device contents is_faulted offered known_room step has_room remote old before link result new after link'

    abbrev now : Due
    now = due_now contents old before has_room remote

    keeps-by : (step : Due) (came : Done) → now ≡ step → Took step (Ok came) → Kept new after
    keeps-by due.Commit came is (none, inl took) = group-keeps old new before after came (known_room link') remote took over keeps
    keeps-by due.Commit came is (none, inr lacks) = absurd (ok_not_err came lacks.answer)
    keeps-by due.Free came is (none, inl frees) = freed-keeps old new before after has_room remote came (free-now contents old before has_room remote is).none frees over keeps
    keeps-by due.Free came is (none, inr lacks) = absurd (ok_not_err came lacks.answer)
    keeps-by due.Clear came is (none, queue, clears) = cleared-keeps old new before after came (clear-now contents old before has_room remote is).no_aside queue clears keeps
    keeps-by due.Raise came is (same, queue, raises) = rw (queue, raises.now) keeps
    keeps-by due.Hand came is (queue, hands) =
        let beside = hands-beside device contents is_faulted offered known_room old new link link' (Ok came) hands in
        unmoved old new before after beside.engine beside.aside queue keeps
    keeps-by due.Nothing came is (none, queue, answer, same) = rw (queue, same) keeps

    pub turn-keeps : (result : Result Done Refusal) → Took now result → IfOk result (λ came. Kept new after)
    turn-keeps (Ok came) took = keeps-by now came refl took
    turn-keeps (Err refusal) took = tt

    -- where memory was refused
    refused-by : (step : Due) → now ≡ step → Took step (Err Memory) → Kept new after
    refused-by due.Commit is (none, inl took) = absurd (elim took.commits.causes [ inl e ↦ cc | inr e ↦ cc ])
    refused-by due.Commit is (none, inr lacks) = unmoved old new before after lacks.engine lacks.aside lacks.queue keeps
    refused-by due.Free is (none, inl it) =
        let so = free-now contents old before has_room remote is in
        let remembers = reached-remembers old new before after has_room remote (Err Memory) so.none it over keeps in
        rw (it.frees.kept, it.frees.memory refl) (record { now = keeps.now; follows = keeps.follows; remembers = remembers })
    refused-by due.Free is (none, inr lacks) = unmoved old new before after lacks.engine lacks.aside lacks.queue keeps
    refused-by due.Clear is (none, queue, clears) =
        unmoved old new before after (clears.memory refl) (clears.aside ∙ sym (clear-now contents old before has_room remote is).no_aside) queue keeps
    refused-by due.Raise is (same, queue, raises) = absurd (ok_not_err done.Raised (sym raises.answer))
    refused-by due.Hand is (queue, hands) =
        let beside = hands-beside device contents is_faulted offered known_room old new link link' (Err Memory) hands in
        unmoved old new before after beside.engine beside.aside queue keeps
    refused-by due.Nothing is (none, queue, answer, same) = absurd (ok_not_err done.Idle (sym answer))

    pub refused-keeps : (result : Result Done Refusal) → Took now result → IsErrOf result Memory → Kept new after
    refused-keeps result took refused = refused-by now refl (subst (Took now) refused took)

module _ {E : Type 0} (device : E → State) (contents : E → Contents) (is_faulted : E → Bool) {O : Type 0} (offered : O → List Group) (known_room : O → ℕ) (old new : Committer E) (before after : Waiting Work)
    (link link' : O) (has_room : Bool) (remote : ℕ) where
  pub kept-for-all : (result : Result Done Refusal) → Takes device contents is_faulted offered known_room (due_now contents old before has_room remote) has_room remote old before link result new after link'
      → IfOk result (λ came. (s : Sequencing) (notices : List Places) (past : Past) → StandsOver (device old.engine) (contents old.engine) before.items old.aside.items s notices
      → KeepsPast (contents old.engine).current.floor past (contents old.engine) before.items old.aside.items s
      → KeepsPast (contents new.engine).current.floor past (contents new.engine) after.items new.aside.items s)
  kept-for-all (Ok came) took = λ s notices past over keeps.
      turn-keeps device contents is_faulted past s notices offered known_room old new before after link link' has_room remote over keeps (Ok came) took
  kept-for-all (Err refusal) took = tt
