-- What a turn of the committer came to, whatever step was due, is the acts that its answer names.
use Rattle.std.proofs.Common.{◌≡◌, ◌<◌, ◌++◌, ℕ, inl, inr, Bool, true, false, nat_lt, length, List, [], ◌∷◌, Result, Ok, Err, Option, refl, sym, ap, ap₂, subst, ◌∙◌, arith, append-nil, append_assoc, length-append, true≢false}
use Rattle.std.proofs.lemmas.Bool.{cases_Bool}
use Rattle.std.specs.List.{flat_map}
use Rattle.pmem.specs.Device.{State}
use Rattle.kv_types.specs.declared.refusal.Refusal.{Refusal}
use Rattle.kv_types.specs.declared.refusal.Refusal.TheVariants.{Memory}
use Rattle.model.specs.declared.group.Group.{Group}
use Rattle.model.specs.declared.work.FreeList.{FreeList}
use Rattle.model.specs.declared.work.Work.{Work}
use Rattle.model.specs.declared.work.Work.TheVariants as work
use Rattle.model.specs.Group.{Contents}
use Rattle.model.specs.Standing.{Holder}
use Rattle.wbl_engine.specs.declared.freeing.Freed.{Freed as Places}
use Rattle.wbl_engine.specs.CommittingAll.{CommitsEach, ExhaustsOne, after_commits}
use Rattle.pipes.specs.Waiting.{Waiting}
use Rattle.redis_core.specs.Sequencing.{Sequencing}
use Rattle.group_commit.specs.Committing.{Commits, HasShown, in_hand}
use Rattle.group_commit.specs.Due.{due_now, due_of, has_group, left_by, reached_by}
use Rattle.group_commit.specs.Group.{lists_of}
use Rattle.group_commit.specs.Working.{AreTakenEach, ClearsGap, FreesReached, HandsOn, LacksRoom, OffersNone, TakesGroups, Takes}
use Rattle.group_commit.specs.declared.committer.Committer.{Committer}
use Rattle.group_commit.specs.declared.due.Due.{Due}
use Rattle.group_commit.specs.declared.due.Due.TheVariants as due
use Rattle.group_commit.specs.declared.stage.Done.{Done}
use Rattle.group_commit.specs.declared.stage.Done.TheVariants as done
use Rattle.group_commit.specs.declared.stage.Stage.{Stage}
use Rattle.group_commit.specs.declared.stage.Stage.TheVariants.{Durable, Ready, Shown}
use Rattle.group_commit.proofs.DueLemmas.{clear-now, free-now}
use Rattle.group_commit.proofs.GroupsLemmas.{Same-is}
use Rattle.group_commit.proofs.TurnLemmas.{hands-beside}
use Rattle.primary.specs.Recalling.{KeepsPast}
use Rattle.primary.specs.Standing.{StandsOver, notices_of}
use Rattle.primary.proofs.KeptTurns.{kept-for-all}
use Rattle.primary.proofs.TurnedLemmas.{ok_not_err, told-for-all}
use Rattle.machine.specs.Event.{World}
use Rattle.node_steps.specs.Acts.{Act, AreActs, Cleared, Freed, IsAct, handed_by}
use Rattle.node_steps.specs.Clauses.{acts_of, acts_of_group, local_shown, node_of, noted}
use Rattle.node_steps.specs.Committing.{Ready as OneReady}
use Rattle.node_steps.specs.Node.{Node, NodeRefines, past_of}
use Rattle.node_steps.specs.Orders.{AreBacks}
use Rattle.node_steps.proofs.CommitterActs.{keeps, over, with_back}
use Rattle.node_steps.proofs.FreeingActs.{clear-act, free-act}
use Rattle.node_steps.proofs.GroupActs.{Waiting-same, backs-go, each-group, having}

-- one act
one-act : (act : Act) (old new : Node) → IsAct act old new → AreActs old (act ∷ []) new
one-act act old new is = (new, is, refl)

-- an answer
abbrev the_ok : Done → Result Done Refusal
the_ok came = Ok came

pub ok-is : (a b : Done) → the_ok a ≡ the_ok b → a ≡ b
ok-is a b e = cc

-- ---- what is in hand

-- nothing is where a commit is due
commit-ready : (stage : Stage) (aside : List FreeList) (items : List Work) (room gap : Bool) (remote : ℕ) → due_of stage aside items room gap remote ≡ due.Commit → stage ≡ Ready
commit-ready Ready aside items room gap remote is = refl
commit-ready (Durable groups) aside items room gap remote is = cc
commit-ready (Shown groups) aside items room gap remote is = cc

-- the groups of a batch go to the link by its acts
batch-handed : (groups : List Group) → flat_map handed_by (flat_map acts_of_group groups) ≡ groups
batch-handed [] = refl
batch-handed (group ∷ groups) = ap (λ (gs : List Group). group ∷ gs) (batch-handed groups)

shown-in_hand : (groups : List Group) (stage : Stage) → HasShown groups stage → in_hand stage ≡ groups
shown-in_hand [] stage is = ap in_hand is
shown-in_hand (group ∷ groups) stage (list, is, same) = ap in_hand is ∙ same

shown-local : (groups : List Group) (stage : Stage) (local position : ℕ) → HasShown groups stage → local_shown stage local position ≡ local
shown-local [] stage local position is = ap (λ (st : Stage). local_shown st local position) is
shown-local (group ∷ groups) stage local position (list, is, same) = ap (λ (st : Stage). local_shown st local position) is

nonempty : (groups : List Group) → 0 < length groups → (first : Group) × (rest : List Group) × (groups ≡ first ∷ rest)
nonempty [] some = absurd (omega (arith, some))
nonempty (group ∷ groups) some = (group, groups, refl)

-- ---- where nothing went aside

nothing-waits : (items : List Work) → has_group items ≡ false → lists_of items ≡ [] → items ≡ []
nothing-waits [] none empty = refl
nothing-waits (work.Commit group ∷ items) none empty = absurd (true≢false none)
nothing-waits (work.Free list ∷ items) none empty = cc

-- nothing was in the queue that could
nothing-left : (room : Bool) (aside : List FreeList) (items : List Work) → (room ≡ true → has_group items ≡ false) → length (reached_by room aside items) ≡ length aside
    → (left_by room items ≡ items) × (reached_by room aside items ≡ aside)
nothing-left false aside items none same = (refl, refl)
nothing-left true aside items none same =
    let empty = no-more aside (lists_of items) same in
    (sym (nothing-waits items (none refl) empty), ap (λ (lists : List FreeList). aside ++ lists) empty ∙ append-nil aside)
  where
    no-more : (aside lists : List FreeList) → length (aside ++ lists) ≡ length aside → lists ≡ []
    no-more aside [] same = refl
    no-more aside (list ∷ lists) same = absurd (let sum = length-append aside (list ∷ lists) in omega (arith, same, sum))

module _ {E : Type 0} (device : E → State) (contents : E → Contents) (is_faulted : E → Bool) {O : Type 0} (offered : O → List Group) (known_room : O → ℕ) (seats : List (Option ℕ)) (s : Sequencing)
    (notices : List Places) (old new : Committer E) (before after : Waiting Work) (link link' : O) (room : Bool) (remote : ℕ) where
  abbrev now : Due
  now = due_now contents old before room remote

  abbrev Took : Due → Result Done Refusal → Type 0
  Took step result = Takes device contents is_faulted offered known_room step room remote old before link result new after link'

  abbrev from : Node
  from = node_of device contents is_faulted seats s notices old before

  abbrev to : List Places → Node
  to told = node_of device contents is_faulted seats s told new after

  abbrev acts : Result Done Refusal → List Act
  acts result = acts_of (in_hand new.stage) room remote result

  abbrev Offers : List Act → Type 0
  Offers acts = offered link' ++ in_hand new.stage ≡ (offered link ++ in_hand old.stage) ++ flat_map handed_by acts

  abbrev Came : Result Done Refusal → Type 0
  Came result = AreActs from (acts result) (to (notices ++ noted result)) × Offers (acts result)

  -- what stands after it
  over-then : (came : Done) → Took now (Ok came) → (holder : Holder) (handed : List Group) (w : World) → NodeRefines holder from handed w
      → StandsOver (device new.engine) (contents new.engine) after.items new.aside.items s (notices ++ notices_of came)
  over-then came took holder handed w stands =
      told-for-all device contents is_faulted offered known_room old new before after link link' room remote (Ok came) took s notices
      (over holder handed w from stands)

  kept-then : (came : Done) → Took now (Ok came) → (holder : Holder) (handed : List Group) (w : World) → NodeRefines holder from handed w
      → KeepsPast (contents new.engine).current.floor (past_of w.primary.calls) (contents new.engine) after.items new.aside.items s
  kept-then came took holder handed w stands =
      kept-for-all device contents is_faulted offered known_room old new before after link link' room remote (Ok came) took s notices (past_of w.primary.calls)
      (over holder handed w from stands)
      (keeps holder handed w from stands)

  abbrev Over : List Places → Type 0
  Over told = StandsOver (device new.engine) (contents new.engine) after.items new.aside.items s told

  -- ---- by the step that was due

  -- an engine that commits was sound
  sound-now : {groups : List Group} (came : Done) → Commits device contents is_faulted remote old groups (Ok came) new → is_faulted old.engine ≡ false
  sound-now came commits = elim (cases_Bool (is_faulted old.engine)) [
    | inl faulted ↦ absurd (ok_not_err came (commits.faulted faulted).0)
    | inr sound ↦ sound
  ]

  ready-now : now ≡ due.Commit → old.stage ≡ Ready
  ready-now is = commit-ready old.stage old.aside.items before.items room (nat_lt 0 (length (contents old.engine).current.gaps.items)) remote is

  -- what it has then is what the groups lead to, one after another
  commits-back-to : now ≡ due.Commit → (came : Done) → (took : TakesGroups device contents is_faulted (known_room link') remote old before (Ok came) new after)
      → AreBacks from (flat_map acts_of_group took.groups) (to notices)
  commits-back-to is came took =
      let (first, rest, are) = nonempty took.groups took.some in
      let commits = took.commits in
      let made = after_commits remote (contents old.engine) took.groups in
      let fits : ¬ ExhaustsOne (contents old.engine) took.groups = λ exhausts. ok_not_err came (commits.exhausts (sound-now came commits) exhausts) in
      let moved : contents new.engine ≡ made = Same-is made (contents new.engine) commits.moved in
      let local_is : local_shown new.stage new.local (contents new.engine).current.position ≡ (contents new.engine).current.position =
      ap (λ (stage : Stage). local_shown stage new.local (contents new.engine).current.position) commits.in_hand_is.1 in
      subst (λ (node : Node). AreBacks from (flat_map acts_of_group took.groups) node)
      (ap (λ (c : Contents). having from after took.lists (device new.engine) c (is_faulted new.engine)) (sym moved)
      ∙ ap₂ (λ (aside : List FreeList) (local : ℕ). with_back from (record { waiting = after; aside = aside; stage = OneReady; local = local }) notices (device new.engine) (contents new.engine) (is_faulted new.engine))
      (sym took.set_aside) (sym local_is))
      (subst (λ (groups : List Group). AreBacks from (flat_map acts_of_group groups) (having from after took.lists (device new.engine) (after_commits remote (contents old.engine) groups) (is_faulted new.engine))) (sym are)
      (each-group remote rest first from took.lists after (device new.engine) (is_faulted new.engine) refl
      (subst (λ (groups : List Group). AreTakenEach before.items took.lists groups after.items) are took.taken)
      (subst (λ (groups : List Group). CommitsEach remote (contents old.engine) groups (device old.engine) (device new.engine)) are commits.each)
      commits.sound.0
      (subst (λ (groups : List Group). ¬ ExhaustsOne (contents old.engine) groups) are fits)))

  freed : now ≡ due.Free → (came : Done) → OffersNone device contents is_faulted offered known_room link link' → (frees : FreesReached device contents is_faulted room remote old before (Ok came) new after)
      → IsAct (Freed room remote) from (to (notices ++ frees.frees.answer.0 ∷ []))
  freed is came none frees = λ holder handed w stands rests.
      let whole : Took now (Ok came) = subst (λ (step : Due). Took step (Ok came)) (sym is) (none, inl frees) in
      let standing : Over (notices ++ frees.frees.answer.0 ∷ []) = subst (λ (d : Done). Over (notices ++ notices_of d)) frees.frees.answer.1 (over-then came whole holder handed w stands) in
      free-act device contents is_faulted seats s holder handed w notices old before stands room remote rests.0 new after came is rests.1 frees standing
      (kept-then came whole holder handed w stands)

  cleared : now ≡ due.Clear → (came : Done) → OffersNone device contents is_faulted offered known_room link link' → after ≡ before → (clears : ClearsGap device contents is_faulted old (Ok came) new)
      → IsAct Cleared from (to (notices ++ clears.answer.0 ∷ []))
  cleared is came none queue clears = λ holder handed w stands rests.
      let so = clear-now contents old before room remote is in
      let whole : Took now (Ok came) = subst (λ (step : Due). Took step (Ok came)) (sym is) (none, queue, clears) in
      let standing : Over (notices ++ clears.answer.0 ∷ []) = subst (λ (d : Done). Over (notices ++ notices_of d)) clears.answer.1 (over-then came whole holder handed w stands) in
      clear-act device contents is_faulted seats s holder handed w notices old before stands room remote (rests ∙ sym so.room) new after came is queue clears standing
      (kept-then came whole holder handed w stands)

  in-hand : {came : Done} (took : TakesGroups device contents is_faulted (known_room link') remote old before (Ok came) new after) → in_hand new.stage ≡ took.groups
  in-hand took = ap in_hand took.commits.in_hand_is.1 ∙ took.commits.in_hand_is.2

  -- the acts of a commit, by its answer
  pub commits-back : now ≡ due.Commit → (came : Done) → (took : TakesGroups device contents is_faulted (known_room link') remote old before (Ok came) new after)
      → AreBacks from (acts (Ok (done.Committed (contents new.engine).current.position))) (to (notices ++ []))
  commits-back is came took =
      subst (λ (told : List Places). AreBacks from (acts (Ok (done.Committed (contents new.engine).current.position))) (to told)) (sym (append-nil notices))
      (subst (λ (groups : List Group). AreBacks from (flat_map acts_of_group groups) (to notices)) (sym (in-hand took)) (commits-back-to is came took))

  -- nothing was in hand, and nothing is
  none-in-hand : old.stage ≡ Ready → new.stage ≡ Ready → offered link' ≡ offered link → (more : List Act) → flat_map handed_by more ≡ [] → Offers more
  none-in-hand ready ready' same more none =
      ap₂ (λ (xs ys : List Group). xs ++ ys) same (ap in_hand ready' ∙ sym (ap in_hand ready))
      ∙ sym (ap (λ (xs : List Group). (offered link ++ in_hand old.stage) ++ xs) none ∙ append-nil (offered link ++ in_hand old.stage))

  -- what the thread has is as it was
  still : new.engine ≡ old.engine → new.aside.items ≡ old.aside.items → after.items ≡ before.items
      → local_shown new.stage new.local (contents old.engine).current.position ≡ local_shown old.stage old.local (contents old.engine).current.position → to (notices ++ []) ≡ from
  still engine aside queue local =
      subst (λ (told : List Places). to told ≡ from) (sym (append-nil notices))
      (rw (engine, local, aside, Waiting-same after before queue) refl)

  -- it is acts, after which this is to be told, by an answer that says so
  abbrev Says : Done → Type 0
  Says came = Came (Ok came)

  hands : (came : Done) → after ≡ before → HandsOn device contents is_faulted offered known_room old link (Ok came) new link' → Says came
  hands came queue handing = elim handing.came [
    | inl first ↦
        let stage_is : old.stage ≡ Shown handing.groups = handing.were in
        let groups_are : in_hand old.stage ≡ first.group ∷ first.rest = ap in_hand stage_is ∙ first.first in
        let local : local_shown new.stage new.local (contents old.engine).current.position ≡ local_shown old.stage old.local (contents old.engine).current.position =
        shown-local first.rest new.stage new.local (contents old.engine).current.position first.left ∙ ap (λ (c : Committer E). c.local) first.now
        ∙ sym (ap (λ (stage : Stage). local_shown stage old.local (contents old.engine).current.position) stage_is) in
        subst Says (sym (ok-is came done.Handed first.answer)) (
          still (ap (λ (c : Committer E). c.engine) first.now) (ap (λ (c : Committer E). c.aside.items) first.now) (ap (λ (pipe : Waiting Work). pipe.items) queue) local,
          ap₂ (λ (xs ys : List Group). xs ++ ys) first.offered_is (shown-in_hand first.rest new.stage first.left) ∙ append_assoc (offered link) (first.group ∷ []) first.rest
              ∙ sym (append-nil (offered link ++ in_hand old.stage) ∙ ap (λ (xs : List Group). offered link ++ xs) groups_are),
        )
    | inr (inl full) ↦
        subst Says (sym (ok-is came done.Idle full.0)) (
          subst (λ (told : List Places). to told ≡ from) (sym (append-nil notices)) (rw (queue, full.1) refl),
          ap₂ (λ (xs ys : List Group). xs ++ ys) full.3 (ap (λ (c : Committer E). in_hand c.stage) full.1) ∙ sym (append-nil (offered link ++ in_hand old.stage)),
        )
    | inr (inr none) ↦
        let was_none : in_hand old.stage ≡ [] = ap in_hand handing.were ∙ none.0 in
        let ready : new.stage ≡ Ready = ap (λ (c : Committer E). c.stage) none.2 in
        let local : local_shown new.stage new.local (contents old.engine).current.position ≡ local_shown old.stage old.local (contents old.engine).current.position =
        ap (λ (stage : Stage). local_shown stage new.local (contents old.engine).current.position) ready ∙ ap (λ (c : Committer E). c.local) none.2
        ∙ sym (ap (λ (stage : Stage). local_shown stage old.local (contents old.engine).current.position) handing.were) in
        subst Says (sym (ok-is came done.Idle none.1)) (
          still (ap (λ (c : Committer E). c.engine) none.2) (ap (λ (c : Committer E). c.aside.items) none.2) (ap (λ (pipe : Waiting Work). pipe.items) queue) local,
          ap₂ (λ (xs ys : List Group). xs ++ ys) none.3 (ap in_hand ready ∙ sym was_none) ∙ sym (append-nil (offered link ++ in_hand old.stage)),
        )
  ]

  come : (step : Due) (came : Done) → now ≡ step → Took step (Ok came) → Says came
  come due.Commit came is (none, inl took) =
      subst Says (sym took.commits.answer) (
        backs-go seats s from (acts (Ok (done.Committed (contents new.engine).current.position))) (to (notices ++ [])) (commits-back is came took),
        ap (λ (xs : List Group). xs ++ in_hand new.stage) none.offered_is
            ∙ sym (ap₂ (λ (xs ys : List Group). (offered link ++ xs) ++ ys) (ap in_hand (ready-now is)) (batch-handed (in_hand new.stage)) ∙ ap (λ (xs : List Group). xs ++ in_hand new.stage) (append-nil (offered link))),
      )
  come due.Commit came is (none, inr lacks) = absurd (ok_not_err came lacks.answer)
  come due.Free came is (none, inl frees) =
      let so = free-now contents old before room remote is in
      subst Says (sym frees.frees.answer.1) (
        one-act (Freed room remote) from (to (notices ++ frees.frees.answer.0 ∷ [])) (freed is came none frees),
        none-in-hand so.ready frees.frees.stage none.offered_is (Freed room remote ∷ []) refl,
      )
  come due.Free came is (none, inr lacks) = absurd (ok_not_err came lacks.answer)
  come due.Clear came is (none, queue, clears) =
      let so = clear-now contents old before room remote is in
      subst Says (sym clears.answer.1) (
        one-act Cleared from (to (notices ++ clears.answer.0 ∷ [])) (cleared is came none queue clears),
        none-in-hand so.ready clears.stage none.offered_is (Cleared ∷ []) refl,
      )
  come due.Raise came is (same, queue, raises) =
      let local : local_shown new.stage new.local (contents old.engine).current.position ≡ local_shown old.stage old.local (contents old.engine).current.position =
      ap (λ (c : Committer E). local_shown c.stage c.local (contents old.engine).current.position) raises.now
      ∙ sym (ap (λ (stage : Stage). local_shown stage old.local (contents old.engine).current.position) raises.were) in
      subst Says (sym (ok-is came done.Raised raises.answer)) (
        still (ap (λ (c : Committer E). c.engine) raises.now) (ap (λ (c : Committer E). c.aside.items) raises.now) (ap (λ (pipe : Waiting Work). pipe.items) queue) local,
        ap₂ (λ (xs ys : List Group). xs ++ ys) (ap offered same) (ap (λ (c : Committer E). in_hand c.stage) raises.now ∙ sym (ap in_hand raises.were))
            ∙ sym (append-nil (offered link ++ in_hand old.stage)),
      )
  come due.Hand came is (queue, handing) = hands came queue handing
  come due.Nothing came is (none, queue, answer, same) =
      subst Says (sym (ok-is came done.Idle answer)) (
        subst (λ (told : List Places). to told ≡ from) (sym (append-nil notices)) (rw (queue, same) refl),
        ap₂ (λ (xs ys : List Group). xs ++ ys) none.offered_is (ap (λ (c : Committer E). in_hand c.stage) same) ∙ sym (append-nil (offered link ++ in_hand old.stage)),
      )

  pub turns-come : (came : Done) → Took now (Ok came) → Came (Ok came)
  turns-come came took = come now came refl took

  -- ---- memory was refused

  lacked : OffersNone device contents is_faulted offered known_room link link' → LacksRoom device contents is_faulted old before (Err Memory) new after → Came (Err Memory)
  lacked none lacks = (
    still lacks.engine lacks.aside (ap (λ (pipe : Waiting Work). pipe.items) lacks.queue)
        (ap₂ (λ (stage : Stage) (local : ℕ). local_shown stage local (contents old.engine).current.position) lacks.stage lacks.local),
    ap₂ (λ (xs ys : List Group). xs ++ ys) none.offered_is (ap in_hand lacks.stage) ∙ sym (append-nil (offered link ++ in_hand old.stage)),
  )

  -- what was ready is
  ready-still : old.stage ≡ Ready → new.stage ≡ Ready → new.local ≡ old.local
      → local_shown new.stage new.local (contents old.engine).current.position ≡ local_shown old.stage old.local (contents old.engine).current.position
  ready-still ready ready' local = ap₂ (λ (stage : Stage) (local : ℕ). local_shown stage local (contents old.engine).current.position) (ready' ∙ sym ready) local

  refused : (step : Due) → now ≡ step → Took step (Err Memory) → length new.aside.items ≡ length old.aside.items → Came (Err Memory)
  refused due.Commit is (none, inl took) aside = absurd (elim took.commits.causes [ inl e ↦ cc | inr e ↦ cc ])
  refused due.Commit is (none, inr lacks) aside = lacked none lacks
  refused due.Free is (none, inl it) aside =
      let so = free-now contents old before room remote is in (
        still (it.frees.memory refl) (it.frees.kept ∙ sym it.reached ∙ (same so.none it).1) (it.left ∙ (same so.none it).0) (ready-still so.ready it.frees.stage it.frees.local),
        none-in-hand so.ready it.frees.stage none.offered_is [] refl,
      )
    where
      same : (none : room ≡ true → has_group before.items ≡ false) → FreesReached device contents is_faulted room remote old before (Err Memory) new after
          → (left_by room before.items ≡ before.items) × (reached_by room old.aside.items before.items ≡ old.aside.items)
      same none it = nothing-left room old.aside.items before.items none (ap length (it.reached ∙ sym it.frees.kept) ∙ aside)
  refused due.Free is (none, inr lacks) aside = lacked none lacks
  refused due.Clear is (none, queue, clears) aside =
      let so = clear-now contents old before room remote is in (
        still (clears.memory refl) (clears.aside ∙ sym so.no_aside) (ap (λ (pipe : Waiting Work). pipe.items) queue) (ready-still so.ready clears.stage clears.local),
        none-in-hand so.ready clears.stage none.offered_is [] refl,
      )
  refused due.Raise is (same, queue, raises) aside = absurd (ok_not_err done.Raised (sym raises.answer))
  refused due.Hand is (queue, handing) aside =
      absurd (elim (hands-beside device contents is_faulted offered known_room old new link link' (Err Memory) handing).answer [
        | inl handed ↦ ok_not_err done.Handed (sym handed)
        | inr idle ↦ ok_not_err done.Idle (sym idle)
      ])
  refused due.Nothing is (none, queue, answer, same) aside = absurd (ok_not_err done.Idle (sym answer))

  pub turns-refused : Took now (Err Memory) → length new.aside.items ≡ length old.aside.items → Came (Err Memory)
  turns-refused took aside = refused now refl took aside
