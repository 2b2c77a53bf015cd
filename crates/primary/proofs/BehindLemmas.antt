-- What stands of a primary behind whose queue more waits than the committer sees: as groups are closed there, and as groups are committed.
use Rattle.std.proofs.Common.{◌≡◌, ℕ, ◌≤◌, Bool, true, false, true≢false, cond, ◌&&◌, nat_le, nat_lt, min, List, [], ◌∷◌, ◌++◌, length, map, Result, Ok, Err, IfOk, OnErr, refl, sym, ap, subst, ◌∙◌, inl, inr, append_assoc, length-append, arith, le_refl}
use Rattle.std.proofs.lemmas.Bool.{or_left}
use Rattle.std.proofs.lemmas.List.Folds.{list_any-append}
use Rattle.std.specs.Coded.{le_prop}
use Rattle.pmem.specs.Device.{State}
use Rattle.kv_types.specs.declared.refusal.Refusal.{Refusal}
use Rattle.model.specs.declared.group.Group.{Group}
use Rattle.model.specs.declared.work.FreeList.{FreeList}
use Rattle.model.specs.declared.work.Work.{Work}
use Rattle.model.specs.declared.work.Work.TheVariants as work
use Rattle.model.specs.Group.{Contents}
use Rattle.redis_core.specs.Sequencing.{Sequencing}
use Rattle.group_commit.specs.Due.{due_beside, due_now, due_of, has_group, is_group, reached_by}
use Rattle.group_commit.specs.Group.{groups_of}
use Rattle.group_commit.specs.Working.{AreTakenEach, Takes}
use Rattle.group_commit.specs.declared.committer.Committer.{Committer}
use Rattle.group_commit.specs.declared.due.Due.{Due}
use Rattle.group_commit.specs.declared.due.Due.TheVariants as due
use Rattle.group_commit.specs.declared.stage.Done.{Done}
use Rattle.group_commit.specs.declared.stage.Done.TheVariants as done
use Rattle.group_commit.specs.declared.stage.Stage.{Stage}
use Rattle.group_commit.specs.declared.stage.Stage.TheVariants.{Durable, Ready, Shown}
use Rattle.group_commit.proofs.TurnLemmas.{hands-beside}
use Rattle.group_commit.proofs.WorkLemmas.{groups_of-append}
use Rattle.pipes.specs.Waiting.{Waiting}
use Rattle.pipes.specs.declared.limits.TheConstants.{PIPE_ITEMS}
use Rattle.primary.specs.Ahead.{GoesAhead, MayCloseGroup, is_of_commit}
use Rattle.primary.specs.Closing.{ClosesGroup}
use Rattle.primary.specs.Recalling.{KeepsPast}
use Rattle.primary.specs.Standing.{StandsOver, notices_of}
use Rattle.primary.proofs.KeptLemmas.{keeps-grouped}
use Rattle.primary.proofs.LeadsLemmas.{Leads-grouped}
use Rattle.primary.proofs.TurnedLemmas.{ok_not_err}

-- ---- a group is closed

module _ (old new : Sequencing) (before after : Waiting Work) where
  -- one more is last, whatever they are behind
  grouped-behind : (items : List Work) (closes : ClosesGroup old before new after) → items ++ after.items ≡ (items ++ before.items) ++ work.Commit closes.group ∷ []
  grouped-behind items closes = ap (λ (xs : List Work). items ++ xs) closes.last ∙ sym (append_assoc items before.items (work.Commit closes.group ∷ []))

  closed-goes : ClosesGroup old before new after → GoesAhead old before.items new after.items
  closed-goes closes = record {
    stands = λ device contents items aside notices over.
        subst (λ (xs : List Work). StandsOver device contents xs aside new notices) (sym (grouped-behind items closes)) (record {
          leads = Leads-grouped contents (items ++ before.items) aside closes.group old new notices over.consistent closes.hands closes.leads over.leads;
          consistent = over.consistent;
          laid = over.laid;
          durable = over.durable;
        });
    keeps = λ low past device contents items aside notices over kept.
        subst (λ (xs : List Work). KeepsPast low past contents xs aside new) (sym (grouped-behind items closes))
        (keeps-grouped low past contents (items ++ before.items) aside closes.group old new notices over.consistent closes.hands closes.leads over.leads kept);
  }

same-goes : (old new : Sequencing) (before after : List Work) → new ≡ old → after ≡ before → GoesAhead old before new after
same-goes old new before after same queue = rw (same, queue) (record {
  stands = λ device contents items aside notices over. over;
  keeps = λ low past device contents items aside notices over kept. kept;
})

module _ (old new : Sequencing) (before after : Waiting Work) where
  pub goes-ahead : (result : Result Bool Refusal) → IfOk result (λ did. did ≡ true → MayCloseGroup old before × ClosesGroup old before new after)
      → IfOk result (λ did. did ≡ false → (¬ MayCloseGroup old before) × (new ≡ old) × (after ≡ before))
      → OnErr result (MayCloseGroup old before × (new ≡ old) × (after.items ≡ before.items)) → GoesAhead old before.items new after.items
  goes-ahead (Ok true) closed none refused = closed-goes old new before after (closed refl).1
  goes-ahead (Ok false) closed none refused =
      let same = none refl in same-goes old new before.items after.items same.1 (ap (λ (waiting : Waiting Work). waiting.items) same.2)
  goes-ahead (Err refusal) closed none refused = same-goes old new before.items after.items refused.1 refused.2

  pub goes-at : (result : Result Bool Refusal) → IfOk result (λ did. did ≡ true → MayCloseGroup old before × ClosesGroup old before new after)
      → IfOk result (λ did. did ≡ false → (¬ MayCloseGroup old before) × (new ≡ old) × (after ≡ before))
      → OnErr result (MayCloseGroup old before × (new ≡ old) × (after.items ≡ before.items)) → new.position ≡ old.position
  goes-at (Ok true) closed none refused = ap (λ (s : Sequencing). s.position) (closed refl).1.hands.after
  goes-at (Ok false) closed none refused = ap (λ (s : Sequencing). s.position) (none refl).1
  goes-at (Err refusal) closed none refused = ap (λ (s : Sequencing). s.position) refused.1

-- ---- groups are committed

-- the same groups are taken, and what is behind stays there
pub taken-behind : (before after : List Work) (lists : List FreeList) (groups : List Group) (behind : List Work) → AreTakenEach before lists groups after
    → AreTakenEach (before ++ behind) lists groups (after ++ behind)
taken-behind before after lists [] behind taken = (taken.0, ap (λ (xs : List Work). xs ++ behind) taken.1)
taken-behind before after lists (group ∷ groups) behind taken =
    let (first, rest, between, is, one, others) = taken in (
      first,
      rest,
      between ++ behind,
      is,
      ap (λ (xs : List Work). xs ++ behind) one ∙ append_assoc (map work.Free first) (work.Commit group ∷ between) behind,
      taken-behind between after rest groups behind others,
    )

-- ---- a step that commits groups, tells of one or hands one on

-- what waits in a pipe is all that there is of it
pub same-waiting : {T : Type 0} (a b : Waiting T) → a.items ≡ b.items → a ≡ b
same-waiting a b same =
    subst (λ items. (within : length items ≤ PIPE_ITEMS) → a ≡ record { items = items; within = within }) same (λ within. ap (λ w. record a { within = w }) (le_prop a.within within)) b.within

not-commit : (b : Bool) (step : Due) → (step ≡ due.Commit → ⊥) → cond b step due.Nothing ≡ due.Commit → ⊥
not-commit true step not is = not is
not-commit false step not is = cc

beside-not : (lists : List FreeList) (room gap : Bool) (remote : ℕ) → due_beside lists room gap remote ≡ due.Commit → ⊥
beside-not [] room gap remote is = not-commit (room && gap) due.Clear (λ e. cc) is
beside-not (list ∷ lists) room gap remote is = not-commit (nat_le list.position remote) due.Free (λ e. cc) is

by-groups : (b : Bool) (step : Due) → cond b due.Commit step ≡ due.Commit → (step ≡ due.Commit → ⊥) → b ≡ true
by-groups true step is not = refl
by-groups false step is not = absurd (not is)

more-groups : (room : Bool) (items behind : List Work) → (room && has_group items) ≡ true → (room && has_group (items ++ behind)) ≡ true
more-groups true items behind some = list_any-append is_group items behind ∙ or_left (has_group items) (has_group behind) some
more-groups false items behind some = some

-- a commit is due by what is there, whatever is behind
commit-wide : (stage : Stage) (aside : List FreeList) (items behind : List Work) (room gap : Bool) (remote : ℕ) → due_of stage aside items room gap remote ≡ due.Commit
    → due_of stage aside (items ++ behind) room gap remote ≡ due.Commit
commit-wide Ready aside items behind room gap remote is =
    let some = by-groups (room && has_group items) (due_beside (reached_by room aside items) room gap remote) is (beside-not (reached_by room aside items) room gap remote) in
    ap (λ (b : Bool). cond b due.Commit (due_beside (reached_by room aside (items ++ behind)) room gap remote)) (more-groups room items behind some)
commit-wide (Durable groups) aside items behind room gap remote is = is
commit-wide (Shown groups) aside items behind room gap remote is = is

-- no more wait after it than before
shorter : (before after : List Work) (lists : List FreeList) (groups : List Group) → AreTakenEach before lists groups after → length after ≤ length before
shorter before after lists [] taken = omega (arith, ap length taken.1)
shorter before after lists (group ∷ groups) taken =
    let (first, rest, between, is, one, others) = taken in
    let all = ap length one in
    let parts = length-append (map work.Free first) (work.Commit group ∷ between) in
    omega (arith, all, parts, shorter between after rest groups others)

fewer : (a b : ℕ) → a ≤ b → a ≡ min a b
fewer a b le = omega (arith, le)

module _ {E O : Type 0} (device : E → State) (contents : E → Contents) (is_faulted : E → Bool) (offered : O → List Group) (known_room : O → ℕ) (old new : Committer E) (before after : Waiting Work)
    (link link' : O) (has_room : Bool) (remote : ℕ) (result : Result Done Refusal) where
  abbrev now : Due
  now = due_now contents old before has_room remote

  abbrev Took : Due → Type 0
  Took step = Takes device contents is_faulted offered known_room step has_room remote old before link result new after link'

  pub left-by : (step : Due) → is_of_commit step ≡ true → Took step → length after.items ≤ length before.items
  left-by due.Commit is (none, inl took) = shorter before.items after.items took.lists took.groups took.taken
  left-by due.Commit is (none, inr lacks) = omega (arith, ap (λ (waiting : Waiting Work). length waiting.items) lacks.queue)
  left-by due.Raise is (same, queue, raises) = omega (arith, ap (λ (waiting : Waiting Work). length waiting.items) queue)
  left-by due.Hand is (queue, hands) = omega (arith, ap (λ (waiting : Waiting Work). length waiting.items) queue)
  left-by due.Free is took = absurd (true≢false (sym is))
  left-by due.Clear is took = absurd (true≢false (sym is))
  left-by due.Nothing is took = absurd (true≢false (sym is))

  -- With this behind the queue, before and after, it is the same step.
  module _ (behind : List Work) (wide wide' : Waiting Work) (is_wide : wide.items ≡ before.items ++ behind) (is_wide' : wide'.items ≡ after.items ++ behind) where
    abbrev wide_now : Due
    wide_now = due_now contents old wide has_room remote

    -- that took so many groups as it took, whatever room there was known to be for more
    pub record TakesWide : Type 0 where
      pub rooms : O → ℕ
      pub takes : Takes device contents is_faulted offered rooms wide_now has_room remote old wide link result new wide' link'
      pub is : is_of_commit wide_now ≡ true

    widely : (step : Due) (rooms : O → ℕ) → wide_now ≡ step → is_of_commit step ≡ true → Takes device contents is_faulted offered rooms step has_room remote old wide link result new wide' link' → TakesWide
    widely step rooms at is took = record {
      rooms = rooms;
      takes = subst (λ (step : Due). Takes device contents is_faulted offered rooms step has_room remote old wide link result new wide' link') (sym at) took;
      is = ap is_of_commit at ∙ is;
    }

    queue-stays : after ≡ before → wide' ≡ wide
    queue-stays same = same-waiting wide' wide (is_wide' ∙ ap (λ (waiting : Waiting Work). waiting.items ++ behind) same ∙ sym is_wide)

    commit-now : now ≡ due.Commit → wide_now ≡ due.Commit
    commit-now at =
        let gap = nat_lt 0 (length (contents old.engine).current.gaps.items) in
        ap (λ (items : List Work). due_of old.stage old.aside.items items has_room gap remote) is_wide
        ∙ commit-wide old.stage old.aside.items before.items behind has_room gap remote at

    all-groups : (groups : List Group) (room : ℕ) → length groups ≡ min room (length (groups_of before.items)) → length groups ≤ length (groups_of wide.items)
    all-groups groups room many =
        let all = ap (λ (items : List Work). length (groups_of items)) is_wide ∙ ap length (groups_of-append before.items behind) ∙ length-append (groups_of before.items) (groups_of behind) in
        omega (arith, many, all)

    by : (step : Due) → now ≡ step → is_of_commit step ≡ true → Took step → TakesWide
    by due.Commit at is (none, inl took) =
        let most : O → ℕ = λ one. length took.groups in
        widely due.Commit most (commit-now at) refl (
          record { offered_is = none.offered_is; room = le_refl (length took.groups) },
          inl (record {
            lists = took.lists;
            groups = took.groups;
            some = took.some;
            many = fewer (length took.groups) (length (groups_of wide.items)) (all-groups took.groups (known_room link') took.many);
            taken = subst (λ (items : List Work). AreTakenEach items took.lists took.groups wide'.items) (sym is_wide)
                (subst (AreTakenEach (before.items ++ behind) took.lists took.groups) (sym is_wide') (taken-behind before.items after.items took.lists took.groups behind took.taken));
            set_aside = took.set_aside;
            commits = took.commits;
          }),
        )
    by due.Commit at is (none, inr lacks) =
        widely due.Commit known_room (commit-now at) refl (
          none,
          inr (record { answer = lacks.answer; engine = lacks.engine; stage = lacks.stage; local = lacks.local; aside = lacks.aside; queue = queue-stays lacks.queue }),
        )
    by due.Raise at is (same, queue, raises) =
        let gap = nat_lt 0 (length (contents old.engine).current.gaps.items) in
        widely due.Raise known_room (ap (λ (stage : Stage). due_of stage old.aside.items wide.items has_room gap remote) raises.were) refl (same, queue-stays queue, raises)
    by due.Hand at is (queue, hands) =
        let gap = nat_lt 0 (length (contents old.engine).current.gaps.items) in
        widely due.Hand known_room (ap (λ (stage : Stage). due_of stage old.aside.items wide.items has_room gap remote) hands.were) refl (queue-stays queue, hands)
    by due.Free at is took = absurd (true≢false (sym is))
    by due.Clear at is took = absurd (true≢false (sym is))
    by due.Nothing at is took = absurd (true≢false (sym is))

    pub takes-wide : is_of_commit now ≡ true → Took now → TakesWide
    takes-wide is took = by now refl is took

-- an answer
abbrev the_ok : Done → Result Done Refusal
the_ok came = Ok came

ok-is : (a b : Done) → the_ok a ≡ the_ok b → a ≡ b
ok-is a b e = cc

-- it gives nothing back of which the sequencer is to be told
module _ {E O : Type 0} (device : E → State) (contents : E → Contents) (is_faulted : E → Bool) (offered : O → List Group) (known_room : O → ℕ) (old new : Committer E) (before after : Waiting Work)
    (link link' : O) (has_room : Bool) (remote : ℕ) (came : Done) where
  pub nothing-told : (step : Due) → is_of_commit step ≡ true → Takes device contents is_faulted offered known_room step has_room remote old before link (Ok came) new after link' → notices_of came ≡ []
  nothing-told due.Commit is (none, inl took) = ap notices_of took.commits.answer
  nothing-told due.Commit is (none, inr lacks) = absurd (ok_not_err came lacks.answer)
  nothing-told due.Raise is (same, queue, raises) = ap notices_of (ok-is came done.Raised raises.answer)
  nothing-told due.Hand is (queue, hands) = elim (hands-beside device contents is_faulted offered known_room old new link link' (Ok came) hands).answer [
    | inl handed ↦ ap notices_of (ok-is came done.Handed handed)
    | inr idle ↦ ap notices_of (ok-is came done.Idle idle)
  ]
  nothing-told due.Free is took = absurd (true≢false (sym is))
  nothing-told due.Clear is took = absurd (true≢false (sym is))
  nothing-told due.Nothing is took = absurd (true≢false (sym is))
