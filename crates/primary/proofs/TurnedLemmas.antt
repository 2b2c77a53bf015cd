-- What a turn of the committer leaves of a primary.
use Rattle.std.proofs.Common.{◌≡◌, ℕ, ◌≤◌, Bool, true, false, nat_lt, List, [], ◌∷◌, ◌++◌, length, Result, Ok, Err, IfOk, IsErrOf, refl, sym, ap, subst, ◌∙◌, inl, inr, append-nil, arith}
use Rattle.pmem.specs.Device.{State}
use Rattle.kv_types.specs.declared.place.EntryNo.{EntryNo}
use Rattle.kv_types.specs.declared.refusal.Refusal.{Refusal}
use Rattle.kv_types.specs.declared.refusal.Refusal.TheVariants.{Memory}
use Rattle.model.specs.declared.group.Group.{Group}
use Rattle.model.specs.declared.record.Record.{Record}
use Rattle.model.specs.declared.work.FreeList.{FreeList}
use Rattle.model.specs.declared.work.Work.{Work}
use Rattle.model.specs.Floor.{floor_raised, raised_record}
use Rattle.model.specs.Group.{Contents, IsConsistent, after_free, is_listed}
use Rattle.wbl_engine.specs.declared.freeing.Freed.{Freed as Places}
use Rattle.wbl_engine.specs.CommittingAll.{after_commits}
use Rattle.wbl_engine.specs.Freeing.{Clears}
use Rattle.wbl_engine.proofs.WithoutLemmas.{consistent_cleared, consistent_without, was_there}
use Rattle.redis_core.specs.Sequencing.{Sequencing}
use Rattle.group_commit.specs.Due.{due_now, has_group, left_by, reached_by}
use Rattle.group_commit.specs.Working.{ClearsGap, FreesReached, TakesGroups, Takes}
use Rattle.group_commit.specs.declared.committer.Committer.{Committer}
use Rattle.group_commit.specs.declared.due.Due.{Due}
use Rattle.group_commit.specs.declared.due.Due.TheVariants as due
use Rattle.group_commit.specs.declared.stage.Done.{Done}
use Rattle.group_commit.specs.declared.stage.Done.TheVariants as done
use Rattle.group_commit.proofs.DueLemmas.{ClearIsDue, clear-now, free-now, no-groups}
use Rattle.group_commit.proofs.GroupsLemmas.{Same-is}
use Rattle.group_commit.proofs.TurnLemmas.{hands-beside}
use Rattle.pipes.specs.Waiting.{Waiting}
use Rattle.primary.specs.Leading.{AreLaid, Leads}
use Rattle.primary.specs.Standing.{StandsOver, notices_of, position_after}
use Rattle.primary.proofs.CommittedLemmas.{AreLed, led-each, rises-each}
use Rattle.primary.proofs.FreedQueue.{Leads-aside, Leads-cleared, Leads-freed}
use Rattle.primary.proofs.NumberedLemmas.{consistent_renumbered, laid_renumbered, leads_renumbered}

-- ---- versions that are left lie as they lay

laid-freed : (contents : Contents) (entries : List EntryNo) → AreLaid contents → AreLaid (after_free entries contents)
laid-freed contents entries laid = record {
  inside = λ i version begun. laid.inside i version (was_there (is_listed i entries) (contents.versions i) version begun);
  apart = λ i j v w differ begun begun'. laid.apart i j v w differ
      (was_there (is_listed i entries) (contents.versions i) v begun) (was_there (is_listed j entries) (contents.versions j) w begun');
}

laid-cleared : (old new : Contents) (entries : List EntryNo) → Clears old entries new → AreLaid old → AreLaid new
laid-cleared old new entries clears laid = record {
  inside = λ i version begun. rw clears.lines_are (laid.inside i version (sym (clears.versions i) ∙ begun));
  apart = λ i j v w differ begun begun'. laid.apart i j v w differ (sym (clears.versions i) ∙ begun) (sym (clears.versions j) ∙ begun');
}

-- ---- what is reached stands aside

-- what is left of the queue, and the lists aside, lead on
pub Leads-reached : (contents : Contents) (has_room : Bool) (items : List Work) (aside : List FreeList) (s : Sequencing) (notices : List Places) → (has_room ≡ true → has_group items ≡ false)
    → Leads contents items aside s notices → Leads contents (left_by has_room items) (reached_by has_room aside items) s notices
Leads-reached contents true items aside s notices none leads = Leads-aside contents items aside s notices (no-groups items (none refl)) leads
Leads-reached contents false items aside s notices none leads = leads

-- an answer
abbrev the_ok : Done → Result Done Refusal
the_ok came = Ok came

ok_is : (a b : Done) → the_ok a ≡ the_ok b → a ≡ b
ok_is a b e = cc

pub ok_not_err : (a : Done) {refusal : Refusal} → the_ok a ≡ Err refusal → ⊥
ok_not_err a e = cc

module _ {E : Type 0} (device : E → State) (contents : E → Contents) (is_faulted : E → Bool) where
  abbrev Over : Committer E → Waiting Work → Sequencing → List Places → Type 0
  Over c waiting s notices = StandsOver (device c.engine) (contents c.engine) waiting.items c.aside.items s notices

  -- nothing more is told, and nothing moved
  still : (new : Committer E) (after : Waiting Work) (s : Sequencing) (notices : List Places) (came : Done) → notices_of came ≡ [] → Over new after s notices → Over new after s (notices ++ notices_of came)
  still new after s notices came none over = subst (Over new after s) (sym (ap (λ (told : List Places). notices ++ told) none ∙ append-nil notices)) over

  unmoved : (old new : Committer E) (before after : Waiting Work) (s : Sequencing) (notices : List Places) → new.engine ≡ old.engine → new.aside.items ≡ old.aside.items → after ≡ before
      → Over old before s notices → Over new after s notices
  unmoved old new before after s notices engine aside queue over = rw (queue, aside, engine) over

  -- ---- groups have committed

  pub led : (c : Committer E) (waiting : Waiting Work) (s : Sequencing) (notices : List Places) → Over c waiting s notices → AreLed (contents c.engine) waiting.items c.aside.items s notices
  led c waiting s notices over = record { leads = over.leads; consistent = over.consistent; laid = over.laid }

  groups-stand : (old new : Committer E) (before after : Waiting Work) (came : Done) (room remote : ℕ) (s : Sequencing) (notices : List Places)
      → TakesGroups device contents is_faulted room remote old before (Ok came) new after
      → Over old before s notices → Over new after s notices
  groups-stand old new before after came room remote s notices took over =
      let made = after_commits remote (contents old.engine) took.groups in
      let now : AreLed (contents new.engine) after.items new.aside.items s notices =
      subst (λ (c : Contents). AreLed c after.items new.aside.items s notices) (sym (Same-is made (contents new.engine) took.commits.moved))
      (subst (λ (xs : List FreeList). AreLed made after.items xs s notices) (sym took.set_aside)
      (led-each remote (contents old.engine) before.items after.items old.aside.items took.lists took.groups s notices took.taken (led old before s notices over))) in
      record { leads = now.leads; consistent = now.consistent; laid = now.laid; durable = took.commits.durable }

  -- ---- a list was freed

  freed-stands : (old new : Committer E) (before after : Waiting Work) (has_room : Bool) (remote : ℕ) (came : Done) (s : Sequencing) (notices : List Places) → (has_room ≡ true → has_group before.items ≡ false)
      → FreesReached device contents is_faulted has_room remote old before (Ok came) new after → Over old before s notices → Over new after s (notices ++ notices_of came)
  freed-stands old new before after has_room remote came s notices none it over =
      let c = contents old.engine in
      let entries = it.list.entries.items in
      let told = it.frees.answer in
      let places = told.0 in
      let leads = subst (λ (xs : List FreeList). Leads c (left_by has_room before.items) xs s notices) it.reached (Leads-reached c has_room before.items old.aside.items s notices none over.leads) in
      let left = after_free entries c in
      let r = raised_record it.list.position c.current in
      let is = Same-is (after_free entries (floor_raised it.list.position c)) (contents new.engine) it.frees.moved in
      subst (λ (d : Done). Over new after s (notices ++ notices_of d)) (sym told.1) (record {
        leads = subst (λ (c : Contents). Leads c after.items new.aside.items s (notices ++ places ∷ [])) (sym is)
            (subst (λ (xs : List FreeList). Leads (after_free entries (floor_raised it.list.position c)) after.items xs s (notices ++ places ∷ [])) (sym it.frees.aside)
            (subst (λ (xs : List Work). Leads (after_free entries (floor_raised it.list.position c)) xs it.rest s (notices ++ places ∷ [])) (sym it.left)
            (leads_renumbered r.number r.floor left (left_by has_room before.items) it.rest s (notices ++ places ∷ [])
            (Leads-freed c (left_by has_room before.items) it.list it.rest s notices places over.consistent over.laid leads told.2 told.3))));
        consistent = subst IsConsistent (sym is) (consistent_renumbered r.number r.floor left (consistent_without c (λ i. is_listed i entries) over.consistent));
        laid = subst AreLaid (sym is) (laid_renumbered r.number r.floor left (laid-freed c entries over.laid));
        durable = it.frees.durable;
      })

  -- ---- a gap was cleared

  cleared-stands : (old new : Committer E) (before after : Waiting Work) (came : Done) (s : Sequencing) (notices : List Places) → before.items ≡ [] → old.aside.items ≡ [] → after ≡ before
      → ClearsGap device contents is_faulted old (Ok came) new → Over old before s notices → Over new after s (notices ++ notices_of came)
  cleared-stands old new before after came s notices none alone queue clears over =
      let c = contents old.engine in
      let told = clears.answer in
      let places = told.0 in
      let leads = subst (λ (xs : List FreeList). Leads c [] xs s notices) alone (subst (λ (xs : List Work). Leads c xs old.aside.items s notices) none over.leads) in
      let cleared : Clears c places.entries.items (contents new.engine) = told.3 in
      subst (λ (d : Done). Over new after s (notices ++ notices_of d)) (sym told.1) (record {
        leads = subst (λ (xs : List Work). Leads (contents new.engine) xs new.aside.items s (notices ++ places ∷ [])) (sym (ap (λ (pipe : Waiting Work). pipe.items) queue ∙ none))
            (subst (λ (xs : List FreeList). Leads (contents new.engine) [] xs s (notices ++ places ∷ [])) (sym clears.aside)
            (Leads-cleared c (contents new.engine) s notices places leads cleared told.2));
        consistent = consistent_cleared c (contents new.engine) places.entries.items cleared over.consistent;
        laid = laid-cleared c (contents new.engine) places.entries.items cleared over.laid;
        durable = clears.durable;
      })

  -- ---- any turn

  module _ {O : Type 0} (offered : O → List Group) (known_room : O → ℕ) (old new : Committer E) (before after : Waiting Work) (link link' : O) (has_room : Bool) (remote : ℕ) where
    abbrev Took : Due → Result Done Refusal → Type 0
    Took step result = Takes device contents is_faulted offered known_room step has_room remote old before link result new after link'

    abbrev now : Due
    now = due_now contents old before has_room remote

    abbrev has_gap : Bool
    has_gap = nat_lt 0 (length (contents old.engine).current.gaps.items)

    -- where a gap is to be cleared, nothing waits
    alone : now ≡ due.Clear → ClearIsDue old.stage old.aside.items before.items has_room has_gap
    alone is = clear-now contents old before has_room remote is

    told-by : (step : Due) (came : Done) → now ≡ step → Took step (Ok came) → (s : Sequencing) (notices : List Places) → Over old before s notices → Over new after s (notices ++ notices_of came)
    told-by due.Commit came is (none, inl took) s notices over = subst (λ (d : Done). Over new after s (notices ++ notices_of d)) (sym took.commits.answer)
        (still new after s notices (done.Committed (contents new.engine).current.position) refl (groups-stand old new before after came (known_room link') remote s notices took over))
    told-by due.Commit came is (none, inr lacks) s notices over = absurd (ok_not_err came lacks.answer)
    told-by due.Free came is (none, inl frees) s notices over =
        freed-stands old new before after has_room remote came s notices (free-now contents old before has_room remote is).none frees over
    told-by due.Free came is (none, inr lacks) s notices over = absurd (ok_not_err came lacks.answer)
    told-by due.Clear came is (none, queue, clears) s notices over = cleared-stands old new before after came s notices (alone is).no_work (alone is).no_aside queue clears over
    told-by due.Raise came is (same, queue, raises) s notices over = rw (ok_is came done.Raised raises.answer) (still new after s notices done.Raised refl (rw (queue, raises.now) over))
    told-by due.Hand came is (queue, hands) s notices over =
        let beside = hands-beside device contents is_faulted offered known_room old new link link' (Ok came) hands in
        let stands = unmoved old new before after s notices beside.engine beside.aside queue over in
        elim beside.answer [
          | inl handed ↦ rw (ok_is came done.Handed handed) (still new after s notices done.Handed refl stands)
          | inr idle ↦ rw (ok_is came done.Idle idle) (still new after s notices done.Idle refl stands)
        ]
    told-by due.Nothing came is (none, queue, answer, same) s notices over = rw (ok_is came done.Idle answer) (still new after s notices done.Idle refl (rw (queue, same) over))

    pub told-for-all : (result : Result Done Refusal) → Took now result → IfOk result (λ came. (s : Sequencing) (notices : List Places) → Over old before s notices → Over new after s (notices ++ notices_of came))
    told-for-all (Ok came) took = told-by now came refl took
    told-for-all (Err refusal) took = tt

    -- where memory was refused the step can be taken again
    again-by : (step : Due) → now ≡ step → Took step (Err Memory) → (s : Sequencing) (notices : List Places) → Over old before s notices → (new.engine ≡ old.engine) × Over new after s notices
    again-by due.Commit is (none, inl took) s notices over = absurd (elim took.commits.causes [ inl e ↦ cc | inr e ↦ cc ])
    again-by due.Commit is (none, inr lacks) s notices over = (lacks.engine, unmoved old new before after s notices lacks.engine lacks.aside lacks.queue over)
    again-by due.Free is (none, inl it) s notices over =
        let c = contents old.engine in
        let so = free-now contents old before has_room remote is in
        let leads : Leads c after.items new.aside.items s notices =
        rw (it.left, it.frees.kept) (subst (λ (xs : List FreeList). Leads c (left_by has_room before.items) xs s notices) it.reached (Leads-reached c has_room before.items old.aside.items s notices so.none over.leads)) in
        (it.frees.memory refl, rw (it.frees.memory refl) (record { leads = leads; consistent = over.consistent; laid = over.laid; durable = over.durable }))
    again-by due.Free is (none, inr lacks) s notices over = (lacks.engine, unmoved old new before after s notices lacks.engine lacks.aside lacks.queue over)
    again-by due.Clear is (none, queue, clears) s notices over =
        (clears.memory refl, unmoved old new before after s notices (clears.memory refl) (clears.aside ∙ sym (alone is).no_aside) queue over)
    again-by due.Raise is (same, queue, raises) s notices over = absurd (ok_not_err done.Raised (sym raises.answer))
    again-by due.Hand is (queue, hands) s notices over =
        absurd (elim (hands-beside device contents is_faulted offered known_room old new link link' (Err Memory) hands).answer [
          | inl handed ↦ ok_not_err done.Handed (sym handed)
          | inr idle ↦ ok_not_err done.Idle (sym idle)
        ])
    again-by due.Nothing is (none, queue, answer, same) s notices over = absurd (ok_not_err done.Idle (sym answer))

    pub turn-again : (result : Result Done Refusal) → Took now result → IsErrOf result Memory → (s : Sequencing) (notices : List Places) → Over old before s notices → Over new after s notices
    turn-again result took refused s notices over = (again-by now refl (subst (Took now) refused took) s notices over).1

    -- ---- the position of the engine

    -- a commit moves it, and no other turn
    position-by : (step : Due) (came : Done) → Took step (Ok came) → (contents new.engine).current.position ≡ position_after came (contents old.engine).current.position
    position-by due.Commit came (none, inl took) = rw took.commits.answer refl
    position-by due.Commit came (none, inr lacks) = absurd (ok_not_err came lacks.answer)
    position-by due.Free came (none, inl it) = rw it.frees.answer.1 (ap (λ (r : Record). r.position) it.frees.moved.current)
    position-by due.Free came (none, inr lacks) = absurd (ok_not_err came lacks.answer)
    position-by due.Clear came (none, queue, clears) = rw clears.answer.1 (ap (λ (r : Record). r.position) clears.answer.3.current)
    position-by due.Raise came (same, queue, raises) = rw (ok_is came done.Raised raises.answer) (ap (λ (c : Committer E). (contents c.engine).current.position) raises.now)
    position-by due.Hand came (queue, hands) =
        let beside = hands-beside device contents is_faulted offered known_room old new link link' (Ok came) hands in
        let at = ap (λ (e : E). (contents e).current.position) beside.engine in
        elim beside.answer [
          | inl handed ↦ rw (ok_is came done.Handed handed) at
          | inr idle ↦ rw (ok_is came done.Idle idle) at
        ]
    position-by due.Nothing came (none, queue, answer, same) = rw (ok_is came done.Idle answer) (ap (λ (c : Committer E). (contents c.engine).current.position) same)

    pub turn-position : (result : Result Done Refusal) → Took now result → IfOk result (λ came. (contents new.engine).current.position ≡ position_after came (contents old.engine).current.position)
    turn-position (Ok came) took = position-by now came took
    turn-position (Err refusal) took = tt

    -- it never falls
    rises-by : (step : Due) (came : Done) → Took step (Ok came) → (s : Sequencing) (notices : List Places) → Over old before s notices → (contents old.engine).current.position ≤ (contents new.engine).current.position
    rises-by due.Commit came (none, inl took) s notices over =
        rw (ap (λ (r : Record). r.position) took.commits.moved.current)
        (rises-each remote (contents old.engine) before.items after.items old.aside.items took.lists took.groups s notices took.taken (led old before s notices over))
    rises-by due.Commit came (none, inr lacks) s notices over = absurd (ok_not_err came lacks.answer)
    rises-by due.Free came (none, inl it) s notices over = omega (arith, ap (λ (r : Record). r.position) it.frees.moved.current)
    rises-by due.Free came (none, inr lacks) s notices over = absurd (ok_not_err came lacks.answer)
    rises-by due.Clear came (none, queue, clears) s notices over = omega (arith, ap (λ (r : Record). r.position) clears.answer.3.current)
    rises-by due.Raise came (same, queue, raises) s notices over = omega (arith, ap (λ (c : Committer E). (contents c.engine).current.position) raises.now)
    rises-by due.Hand came (queue, hands) s notices over =
        let beside = hands-beside device contents is_faulted offered known_room old new link link' (Ok came) hands in
        omega (arith, ap (λ (e : E). (contents e).current.position) beside.engine)
    rises-by due.Nothing came (none, queue, answer, same) s notices over = omega (arith, ap (λ (c : Committer E). (contents c.engine).current.position) same)

    pub turn-rises : (result : Result Done Refusal) (s : Sequencing) (notices : List Places) → Took now result → Over old before s notices
        → IfOk result (λ came. (contents old.engine).current.position ≤ (contents new.engine).current.position)
    turn-rises (Ok came) s notices took over = rises-by now came took s notices over
    turn-rises (Err refusal) s notices took over = tt

    -- where memory was refused the engine is as it was
    pub turn-stays : (result : Result Done Refusal) (s : Sequencing) (notices : List Places) → Took now result → Over old before s notices → IsErrOf result Memory
        → (contents new.engine).current.position ≡ (contents old.engine).current.position
    turn-stays result s notices took over refused = ap (λ (e : E). (contents e).current.position) (again-by now refl (subst (Took now) refused took) s notices over).0

  -- what it says to be durable is
  pub turn-committed : (p : ℕ) (new : Committer E) (result : Result Done Refusal) → IfOk result (λ came. (contents new.engine).current.position ≡ position_after came p)
      → IfOk result (λ came. (position : ℕ) → came ≡ done.Committed position → position ≡ (contents new.engine).current.position)
  turn-committed p new (Ok came) at = λ position is. sym (subst (λ (d : Done). (contents new.engine).current.position ≡ position_after d p) is at)
  turn-committed p new (Err refusal) at = tt
