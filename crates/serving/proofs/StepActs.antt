-- What is done with the committer's job is acts.
use Rattle.std.proofs.Common.{◌≡◌, ◌⊎◌, ◌≤◌, ◌+◌, inl, inr, arith, length-append, ℕ, Bool, true, false, nat_lt, length, List, [], ◌∷◌, ◌++◌, Option, Some, None, Result, Ok, Err, is_ok, if◌then◌else◌, ◌-◌, refl, sym, ap, ap₂, subst, ◌∙◌, append_assoc, append-nil, true≢false}
use Rattle.std.proofs.lemmas.Bool.{cases_eq}
use Rattle.std.proofs.lemmas.Grind.{flat_map-append}
use Rattle.std.specs.List.{AllByRecursion, flat_map}
use Rattle.pmem.specs.Device.{State}
use Rattle.kv_types.specs.declared.refusal.Refusal.{Refusal}
use Rattle.kv_types.specs.declared.refusal.Refusal.TheVariants as refusal
use Rattle.lending.specs.declared.view.EndView.{EndView}
use Rattle.marks.specs.declared.view.MarkView.{MarkView}
use Rattle.model.specs.declared.group.Group.{Group}
use Rattle.model.specs.declared.work.Work.{Work}
use Rattle.model.specs.Group.{Contents}
use Rattle.wbl_engine.specs.declared.freeing.Freed.{Freed as Places}
use Rattle.rtrb.specs.Ring.{known_free}
use Rattle.pipes.specs.Waiting.{Waiting}
use Rattle.pipes.specs.declared.ring_pipe.RingOutlet.{RingOutlet}
use Rattle.pipes.specs.Ring.{offered_at}
use Rattle.redis_core.specs.Sequencing.{Sequencing}
use Rattle.group_commit.specs.Committing.{in_hand}
use Rattle.group_commit.specs.declared.committer.Committer.{Committer}
use Rattle.group_commit.specs.declared.stage.Done.{Done}
use Rattle.group_commit.specs.declared.stage.Done.TheVariants as done
use Rattle.primary.specs.declared.back.Back.{Back}
use Rattle.primary.specs.Standing.{IsTold, notices_of}
use Rattle.node_steps.specs.Acts.{Act, AreActs, Closed, Told, handed_by}
use Rattle.node_steps.specs.Clauses.{acts_of, node_of, noted}
use Rattle.node_steps.specs.Node.{Node}
use Rattle.node_steps.proofs.CommitterTurns.{turns-come, turns-refused}
use Rattle.node_steps.proofs.FrontActs.{closed-act, told-act}
use Rattle.node_steps.proofs.HistoryLemmas.{acts-append}
use Rattle.serving.specs.Acts.{DoesActs, DoesOrVain, FreesInVain, IsJob, offered_or_in_hand}
use Rattle.serving.specs.Closing.{ClosesAhead, ClosesBoth, ClosesDue}
use Rattle.group_commit.specs.Due.{due_now}
use Rattle.group_commit.specs.Working.{Takes}
use Rattle.model.specs.declared.work.Work.TheVariants as work
use Rattle.model.specs.Call.{is_nonempty}
use Rattle.pipes.specs.declared.limits.TheConstants.{PIPE_ITEMS}
use Rattle.placing.proofs.TakenLemmas.{All-append}
use Rattle.primary.specs.Ahead.{is_of_commit}
use Rattle.primary.specs.Closing.{ClosesGroup}
use Rattle.primary.proofs.BehindLemmas.{TakesWide, same-waiting}
use Rattle.serving.specs.declared.ahead.Ahead.{Ahead}
use Rattle.serving.proofs.BehindSteps.{Fits, all-behind, aside-stays, fits-then, taken-wide, untold, wide_of}
use Rattle.serving.specs.CommitJob.{AreSteps, FitsBehind, IsExtended, IsStep}
use Rattle.serving.specs.Stepping.{EndAs, answer_of, goes_on, is_passed, passed_on}
use Rattle.serving.specs.Tending.{ClosesOrLacks, ComesBack, Fetches, HasStepsTaken, Tends, TendsJob, commits_alone, room_ahead}
use Rattle.serving.specs.declared.commit_job.CommitJob.{CommitJob}
use Rattle.serving.specs.declared.committing.Stepped.{Stepped}
use Rattle.serving.specs.declared.gathering.Gathering.{Gathering}
use Rattle.serving.specs.declared.tended.Fetched.{Fetched}
use Rattle.serving.specs.declared.tended.Fetched.TheVariants as fetched
use Rattle.serving.specs.declared.tended.JobCame.{JobCame}
use Rattle.serving.specs.declared.tended.JobCame.TheVariants as came
use Rattle.serving.specs.declared.tended.Tended.{Tended}

-- what goes on has nothing to tell
passed-untold : (came : Done) → is_passed came ≡ true → notices_of came ≡ []
passed-untold (done.Committed position) is = refl
passed-untold done.Raised is = refl
passed-untold done.Handed is = refl
passed-untold (done.Freed places) is = absurd (true≢false (sym is))
passed-untold (done.Cleared places) is = absurd (true≢false (sym is))
passed-untold done.Idle is = absurd (true≢false (sym is))

-- an answer
abbrev answered : Stepped → Result Stepped Refusal
answered stepped = Ok stepped

abbrev done_of : Done → Result Done Refusal
done_of came = Ok came

ok-is : (a b : Done) → done_of a ≡ done_of b → a ≡ b
ok-is a b e = cc

stepped-is : (a b : Stepped) → answered a ≡ answered b → a ≡ b
stepped-is a b e = cc

answered-last : (any : Bool) (last : Result Done Refusal) (stepped : Stepped) → answered stepped ≡ answer_of any last → last ≡ Ok stepped.last
answered-last any (Ok came) stepped is = ap (λ (t : Stepped). done_of t.last) (sym (stepped-is stepped _ is))
answered-last any (Err cause) stepped is = cc

module _ {E : Type 0} (device : E → State) (contents : E → Contents) (is_faulted : E → Bool) (seats : List (Option ℕ)) where
  abbrev node : Sequencing → List Places → Back E → Node
  node s notices back = node_of device contents is_faulted seats s notices back.committer back.work

  -- acts of the back, and what they handed on: what was offered or in hand before, and after
  record BackActs (old : Node) (gone : List Group) (new : Node) (gone' : List Group) : Type 0 where
    pub acts : List Act
    pub are : AreActs old acts new
    pub offered : gone' ≡ gone ++ flat_map handed_by acts

  no-acts : (same : Node) (gone : List Group) → BackActs same gone same gone
  no-acts same gone = record { acts = []; are = refl; offered = sym (append-nil gone) }

  then-acts : {old middle new : Node} {gone at gone' : List Group} → BackActs old gone middle at → BackActs middle at new gone' → BackActs old gone new gone'
  then-acts {old} {middle} {new} {gone} {at} {gone'} first second = record {
    acts = first.acts ++ second.acts;
    are = acts-append old middle new first.acts second.acts first.are second.are;
    offered = second.offered ∙ ap (λ (xs : List Group). xs ++ flat_map handed_by second.acts) first.offered
        ∙ append_assoc gone (flat_map handed_by first.acts) (flat_map handed_by second.acts)
        ∙ ap (λ (xs : List Group). gone ++ xs) (sym (flat_map-append handed_by first.acts second.acts));
  }

  -- what was offered to this link, or is in hand there
  abbrev gone_of : {P : Type 0} → RingOutlet Group P → Back E → List Group
  gone_of link back = offered_or_in_hand link back.committer.stage

  -- ---- steps

  module _ {P : Type 0} (only : Bool) (remote : ℕ) (s : Sequencing) where
    step-acts : (old : Back E) (link : RingOutlet Group P) (came : Done) (new : Back E) (link' : RingOutlet Group P) → IsStep device contents is_faulted remote old link (Ok came) new link'
        → BackActs (node s [] old) (gone_of link old) (node s (notices_of came) new) (gone_of link' new)
    step-acts old link came new link' is =
        let room = nat_lt 0 (known_free link'.producer) in
        let was = turns-come device contents is_faulted offered_at (λ (end : RingOutlet Group P). known_free end.producer) seats s [] old.committer new.committer old.work new.work link link' room remote came is in
        record { acts = acts_of (in_hand new.committer.stage) room remote (Ok came); are = was.0; offered = was.1 }

    -- each went on
    going-acts : (all : List (Result Done Refusal)) (old : Back E) (link : RingOutlet Group P) (new : Back E) (link' : RingOutlet Group P) → AllByRecursion (λ came. goes_on came ≡ true) all
        → AreSteps device contents is_faulted only remote old link all new link' → BackActs (node s [] old) (gone_of link old) (node s [] new) (gone_of link' new)
    going-acts [] old link new link' each steps = rw (steps.0, steps.1) (no-acts (node s [] old) (gone_of link old))
    going-acts (Ok came ∷ all) old link new link' each (between, at, is, suits, steps) =
        then-acts (subst (λ (told : List Places). BackActs (node s [] old) (gone_of link old) (node s told between) (gone_of at between)) (passed-untold came each.0) (step-acts old link came between at is))
        (going-acts all between at new link' each.1 steps)
    going-acts (Err cause ∷ all) old link new link' each steps = absurd (true≢false (sym each.0))

    -- the last of them, by what was answered of it
    abbrev Last : Back E → RingOutlet Group P → Done → Back E → RingOutlet Group P → Type 0
    Last old link last new link' = BackActs (node s [] old) (gone_of link old) (node s (notices_of last) new) (gone_of link' new) ⊎ FreesInVain device contents is_faulted remote new link'

    refused-acts : (old : Back E) (link : RingOutlet Group P) (new : Back E) (link' : RingOutlet Group P) → IsStep device contents is_faulted remote old link (Err refusal.Memory) new link'
        → Last old link done.Idle new link'
    refused-acts old link new link' is = elim (cases_eq (length new.committer.aside.items) (length old.committer.aside.items)) [
      | inl same ↦
          let room = nat_lt 0 (known_free link'.producer) in
          let was = turns-refused device contents is_faulted offered_at (λ (end : RingOutlet Group P). known_free end.producer) seats s [] old.committer new.committer old.work new.work link link' room remote is same in
          inl (record { acts = []; are = was.0; offered = was.1 })
      | inr more ↦ inr (old, link, is, more)
    ]

    last-acts : (came : Result Done Refusal) (old : Back E) (link : RingOutlet Group P) (last : Done) (new : Back E) (link' : RingOutlet Group P) → passed_on came ≡ Ok last
        → IsStep device contents is_faulted remote old link came new link' → Last old link last new link'
    last-acts (Ok came) old link last new link' is step = inl (subst (λ (d : Done). BackActs (node s [] old) (gone_of link old) (node s (notices_of d) new) (gone_of link' new)) (ok-is came last is) (step-acts old link came new link' step))
    last-acts (Err refusal.Memory) old link last new link' is step = subst (λ (d : Done). Last old link d new link') (ok-is done.Idle last is) (refused-acts old link new link' step)
    last-acts (Err other) old link last new link' is step = cc

    -- those before the last, and the last
    record EndsAt (before : List (Result Done Refusal)) (last : Result Done Refusal) (old : Back E) (link : RingOutlet Group P) (new : Back E) (link' : RingOutlet Group P) : Type 0 where
      pub between : Back E
      pub at : RingOutlet Group P
      pub going : AreSteps device contents is_faulted only remote old link before between at
      pub ends : IsStep device contents is_faulted remote between at last new link'

    split : (before : List (Result Done Refusal)) (last : Result Done Refusal) (old : Back E) (link : RingOutlet Group P) (new : Back E) (link' : RingOutlet Group P)
        → AreSteps device contents is_faulted only remote old link (before ++ last ∷ []) new link' → EndsAt before last old link new link'
    split [] last old link new link' (between, at, is, suits, same) = record { between = old; at = link; going = (refl, refl); ends = rw (same.0, same.1) is }
    split (first ∷ before) last old link new link' (next, end, is, suits, steps) =
        let rest = split before last next end new link' steps in
        record { between = rest.between; at = rest.at; going = (next, end, is, suits, rest.going); ends = rest.ends }

    steps-acts : (all : List (Result Done Refusal)) (stepped : Stepped) (old : Back E) (link : RingOutlet Group P) (new : Back E) (link' : RingOutlet Group P)
        → AreSteps device contents is_faulted only remote old link all new link' → EndAs only all (Ok stepped) → Last old link stepped.last new link'
    steps-acts all stepped old link new link' steps (inl most) =
        inl (subst (λ (d : Done). BackActs (node s [] old) (gone_of link old) (node s (notices_of d) new) (gone_of link' new)) (sym (ap (λ (t : Stepped). t.last) (stepped-is stepped _ most.answer_is)))
        (going-acts all old link new link' most.each steps))
    steps-acts all stepped old link new link' steps (inr ends) =
        let parts = split ends.before ends.last old link new link' (subst (λ (xs : List (Result Done Refusal)). AreSteps device contents is_faulted only remote old link xs new link') ends.in_order steps) in
        let first = going-acts ends.before old link parts.between parts.at ends.each parts.going in
        elim (last-acts ends.last parts.between parts.at stepped.last new link' (answered-last _ (passed_on ends.last) stepped ends.answer_is) parts.ends) [
          | inl acts ↦ inl (then-acts first acts)
          | inr vain ↦ inr vain
        ]

  -- ---- steps for commits alone, with this behind the queue

  abbrev wide-node : (s : Sequencing) (behind : List Work) (back : Back E) → Fits behind back → Node
  wide-node s behind back fits = node_of device contents is_faulted seats s [] back.committer (wide_of behind back fits)

  module _ {P : Type 0} (remote : ℕ) (s : Sequencing) (behind : List Work) where
    wide-step : (old : Back E) (link : RingOutlet Group P) (came : Result Done Refusal) (new : Back E) (link' : RingOutlet Group P) (is : IsStep device contents is_faulted remote old link came new link')
        (suits : is_of_commit (due_now contents old.committer old.work (nat_lt 0 (known_free link'.producer)) remote) ≡ true) (fits : Fits behind old)
        → is_ok (passed_on came) ≡ true
        → BackActs (wide-node s behind old fits) (gone_of link old) (wide-node s behind new (fits-then device contents is_faulted remote behind old link came new link' is suits fits)) (gone_of link' new)
    wide-step old link came new link' is suits fits pass = by came refl pass
      where
        room : Bool
        room = nat_lt 0 (known_free link'.producer)

        fits' : Fits behind new
        fits' = fits-then device contents is_faulted remote behind old link came new link' is suits fits

        taken : TakesWide device contents is_faulted offered_at (λ (end : RingOutlet Group P). known_free end.producer) old.committer new.committer old.work new.work link link' room remote came behind
            (wide_of behind old fits) (wide_of behind new fits') refl refl
        taken = taken-wide device contents is_faulted remote behind old link came new link' is suits fits

        by : (answer : Result Done Refusal) → came ≡ answer → is_ok (passed_on answer) ≡ true → BackActs (wide-node s behind old fits) (gone_of link old) (wide-node s behind new fits') (gone_of link' new)
        by (Ok d) at pass =
            let took = subst (λ (answer : Result Done Refusal). Takes device contents is_faulted offered_at taken.rooms
            (due_now contents old.committer (wide_of behind old fits) room remote) room remote old.committer
            (wide_of behind old fits) link answer new.committer (wide_of behind new fits') link') at taken.takes in
            let was = turns-come device contents is_faulted offered_at taken.rooms seats s [] old.committer new.committer (wide_of behind old fits)
            (wide_of behind new fits') link link' room remote d took in
            let none : notices_of d ≡ [] = subst (λ (answer : Result Done Refusal). noted answer ≡ []) at (untold device contents is_faulted remote behind old link came new link' is suits fits) in
            subst (λ (told : List Places). BackActs (wide-node s behind old fits) (gone_of link old)
            (node_of device contents is_faulted seats s told new.committer (wide_of behind new fits')) (gone_of link' new)) none
            (record { acts = acts_of (in_hand new.committer.stage) room remote (Ok d); are = was.0; offered = was.1 })
        by (Err refusal.Memory) at pass =
            let took = subst (λ (answer : Result Done Refusal). Takes device contents is_faulted offered_at taken.rooms
            (due_now contents old.committer (wide_of behind old fits) room remote) room remote old.committer
            (wide_of behind old fits) link answer new.committer (wide_of behind new fits') link') at taken.takes in
            let stays = aside-stays device contents is_faulted offered_at taken.rooms old.committer new.committer (wide_of behind old fits)
            (wide_of behind new fits') link link' room remote (due_now contents old.committer (wide_of behind old fits) room remote) taken.is took in
            let was = turns-refused device contents is_faulted offered_at taken.rooms seats s [] old.committer new.committer (wide_of behind old fits)
            (wide_of behind new fits') link link' room remote took (ap length stays) in
            record { acts = []; are = was.0; offered = was.1 }
        by (Err other) at pass = cc

    wide-steps : (all : List (Result Done Refusal)) (old : Back E) (link : RingOutlet Group P) (new : Back E) (link' : RingOutlet Group P) → AllByRecursion (λ came. is_ok (passed_on came) ≡ true) all
        → AreSteps device contents is_faulted true remote old link all new link' → (fits : Fits behind old) (fits' : Fits behind new)
        → BackActs (wide-node s behind old fits) (gone_of link old) (wide-node s behind new fits') (gone_of link' new)
    wide-steps [] old link new link' pass steps fits fits' =
        subst (λ (waiting : Waiting Work). BackActs (wide-node s behind old fits) (gone_of link old) (node_of device contents is_faulted seats s [] new.committer waiting) (gone_of link' new))
        (same-waiting (wide_of behind old fits) (wide_of behind new fits')
        (ap (λ (back : Back E). back.work.items ++ behind) (sym steps.0)))
        (rw (steps.0, steps.1) (no-acts (wide-node s behind old fits) (gone_of link old)))
    wide-steps (came ∷ all) old link new link' pass (between, at, is, suits, steps) fits fits' =
        then-acts (wide-step old link came between at is (suits refl) fits pass.0)
        (wide-steps all between at new link' pass.1 steps (fits-then device contents is_faulted remote behind old link came between at is (suits refl) fits) fits')

  -- ---- told

  -- acts that hand on nothing
  record FrontTold (old new : Node) : Type 0 where
    pub acts : List Act
    pub are : AreActs old acts new
    pub none : flat_map handed_by acts ≡ []

  told-acts : (last : Done) (back : Back E) (old new : Sequencing) → IsTold last old new → FrontTold (node old (notices_of last) back) (node new [] back)
  told-acts (done.Freed places) back old new told = record { acts = Told ∷ []; are = (node new [] back, told-act (node old (places ∷ []) back) new places [] refl told, refl); none = refl }
  told-acts (done.Cleared places) back old new told = record { acts = Told ∷ []; are = (node new [] back, told-act (node old (places ∷ []) back) new places [] refl told, refl); none = refl }
  told-acts (done.Committed position) back old new told = record { acts = []; are = ap (λ (s : Sequencing). node s [] back) told; none = refl }
  told-acts done.Raised back old new told = record { acts = []; are = ap (λ (s : Sequencing). node s [] back) told; none = refl }
  told-acts done.Handed back old new told = record { acts = []; are = ap (λ (s : Sequencing). node s [] back) told; none = refl }
  told-acts done.Idle back old new told = record { acts = []; are = ap (λ (s : Sequencing). node s [] back) told; none = refl }

  -- ---- the job

  abbrev Does : Sequencing → CommitJob E → Sequencing → CommitJob E → Type 0
  Does old job new job' = DoesActs device contents is_faulted seats old job seats new job'

  abbrev DoesOr : Sequencing → CommitJob E → Sequencing → CommitJob E → Type 0
  DoesOr old job new job' = DoesOrVain device contents is_faulted seats old job seats new job'

  does-by : (old new : Sequencing) (job job' : CommitJob E) → BackActs (node old [] job.back) (gone_of job.groups job.back) (node new [] job'.back) (gone_of job'.groups job'.back) → Does old job new job'
  does-by old new job job' by = record { acts = by.acts; are = by.are; offered = by.offered }

  -- it came back, and the front was told
  comes-acts : (lent job : CommitJob E) (old new : Sequencing) (did : Bool) → ComesBack device contents is_faulted lent job old new did → DoesOr old lent new job
  comes-acts lent job old new did ((stands, shown, remote_is, (all, steps, ends), keeps), stepped, came, did_is, told) =
      elim (steps-acts lent.is_for_commits lent.remote old all stepped lent.back lent.groups job.back job.groups steps (subst (EndAs lent.is_for_commits all) came ends)) [
        | inl acts ↦
            let tells = told-acts stepped.last job.back old new told in
            inl (does-by old new lent job
            (then-acts acts (record {
              acts = tells.acts;
              are = tells.are;
              offered = sym (ap (λ (xs : List Group). gone_of job.groups job.back ++ xs) tells.none ∙ append-nil (gone_of job.groups job.back));
            })))
        | inr vain ↦ inr (subst (λ n. FreesInVain device contents is_faulted n job.back job.groups) (sym remote_is) vain)
      ]

  -- ---- a job with more behind its queue

  -- with nothing more it is the same
  pub extended-none : (job wide : CommitJob E) (behind : List Work) → behind ≡ [] → IsExtended job behind wide → wide ≡ job
  extended-none job wide behind none it =
      let queue : wide.back.work ≡ job.back.work =
      same-waiting wide.back.work job.back.work (it.items ∙ ap (λ (xs : List Work). job.back.work.items ++ xs) none ∙ append-nil job.back.work.items) in
      it.same ∙ ap (λ (waiting : Waiting Work). record job { back = record job.back { work = waiting } }) queue

  extended-fits : (job wide : CommitJob E) (behind : List Work) → IsExtended job behind wide → length (job.back.work.items ++ behind) ≤ PIPE_ITEMS
  extended-fits job wide behind it = subst (λ (items : List Work). length items ≤ PIPE_ITEMS) it.items wide.back.work.within

  extended-node : (s : Sequencing) (job wide : CommitJob E) (behind : List Work) (it : IsExtended job behind wide) (fits : length (job.back.work.items ++ behind) ≤ PIPE_ITEMS)
      → node_of device contents is_faulted seats s [] job.back.committer (record { items = job.back.work.items ++ behind; within = fits }) ≡ node s [] wide.back
  extended-node s job wide behind it fits =
      ap₂ (λ (k : Committer E) (waiting : Waiting Work). node_of device contents is_faulted seats s [] k waiting) (sym (ap (λ (j : CommitJob E). j.back.committer) it.same))
      (same-waiting (record { items = job.back.work.items ++ behind; within = fits }) wide.back.work (sym it.items))

  extended-gone : (job wide : CommitJob E) (behind : List Work) → IsExtended job behind wide → gone_of wide.groups wide.back ≡ gone_of job.groups job.back
  extended-gone job wide behind it = ap (λ (j : CommitJob E). gone_of j.groups j.back) it.same

  -- all steps were passed on as done
  each-pass : (all : List (Result Done Refusal)) → AllByRecursion (λ came. goes_on came ≡ true) all → AllByRecursion (λ came. is_ok (passed_on came) ≡ true) all
  each-pass [] each = tt
  each-pass (Ok came ∷ all) each = (refl, each-pass all each.1)
  each-pass (Err cause ∷ all) each = absurd (true≢false (sym each.0))

  pass-last : (any : Bool) (last : Result Done Refusal) (stepped : Stepped) → answered stepped ≡ answer_of any (passed_on last) → is_ok (passed_on last) ≡ true
  pass-last any last stepped is = ap is_ok (answered-last any (passed_on last) stepped is)

  pub all-pass : (all : List (Result Done Refusal)) (stepped : Stepped) → EndAs true all (Ok stepped) → AllByRecursion (λ came. is_ok (passed_on came) ≡ true) all
  all-pass all stepped (inl most) = each-pass all most.each
  all-pass all stepped (inr ends) =
      subst (AllByRecursion (λ came. is_ok (passed_on came) ≡ true)) (sym ends.in_order)
      (All-append (λ came. is_ok (passed_on came) ≡ true) ends.before (ends.last ∷ []) (each-pass ends.before ends.each)
      (pass-last (is_nonempty ends.before) ends.last stepped ends.answer_is, tt))

  -- and the last of them gives nothing back where none does
  last-of : (xs : List (Result Done Refusal)) (last : Result Done Refusal) → AllByRecursion (λ came. noted came ≡ []) (xs ++ last ∷ []) → noted last ≡ []
  last-of [] last all = all.0
  last-of (x ∷ xs) last all = last-of xs last all.1

  passed-none : (last : Result Done Refusal) (came : Done) → passed_on last ≡ Ok came → noted last ≡ [] → notices_of came ≡ []
  passed-none (Ok other) came is none = subst (λ (d : Done). notices_of d ≡ []) (ok-is other came is) none
  passed-none (Err refusal.Memory) came is none = subst (λ (d : Done). notices_of d ≡ []) (ok-is done.Idle came is) refl
  passed-none (Err other) came is none = cc

  pub last-untold : (all : List (Result Done Refusal)) (stepped : Stepped) → EndAs true all (Ok stepped) → AllByRecursion (λ came. noted came ≡ []) all → notices_of stepped.last ≡ []
  last-untold all stepped (inl most) none = ap (λ (t : Stepped). notices_of t.last) (stepped-is stepped _ most.answer_is)
  last-untold all stepped (inr ends) none =
      passed-none ends.last stepped.last (answered-last (is_nonempty ends.before) (passed_on ends.last) stepped ends.answer_is)
      (last-of ends.before ends.last (subst (AllByRecursion (λ came. noted came ≡ [])) ends.in_order none))

  -- it came back from steps for commits alone, and what was ahead was put last in its queue
  wide-comes : (lent job virtual wide : CommitJob E) (behind : List Work) (old new : Sequencing) (did : Bool) → lent.is_for_commits ≡ true → IsExtended lent behind virtual → IsExtended job behind wide
      → ComesBack device contents is_faulted lent job old new did → Does old virtual new wide
  wide-comes lent job virtual wide behind old new did only from to ((stands, shown, remote_is, (all, steps, ends), keeps), stepped, came, did_is, told) =
      let own = subst (λ (only : Bool). AreSteps device contents is_faulted only lent.remote lent.back lent.groups all job.back job.groups) only steps in
      let ended : EndAs true all (Ok stepped) = subst (λ (only : Bool). EndAs only all (Ok stepped)) only (subst (EndAs lent.is_for_commits all) came ends) in
      let passes = all-pass all stepped ended in
      let fits = extended-fits lent virtual behind from in
      let fits' = extended-fits job wide behind to in
      let acts = wide-steps lent.remote old behind all lent.back lent.groups job.back job.groups passes own fits fits' in
      let none = last-untold all stepped ended (all-behind device contents is_faulted lent.remote behind all lent.back lent.groups job.back job.groups passes own fits).untold_are in
      let tells : FrontTold (node old [] wide.back) (node new [] wide.back) =
      subst (λ (told : List Places). FrontTold (node old told wide.back) (node new [] wide.back)) none (told-acts stepped.last wide.back old new told) in
      does-by old new virtual wide
      (then-acts
      (rw (sym (extended-node old lent virtual behind from fits), sym (extended-node old job wide behind to fits'), extended-gone lent virtual behind from, extended-gone job wide behind to) acts)
      (record {
        acts = tells.acts;
        are = tells.are;
        offered = sym (ap (λ (xs : List Group). gone_of wide.groups wide.back ++ xs) tells.none ∙ append-nil (gone_of wide.groups wide.back));
      }))

  -- ---- closing

  -- a group is closed ahead, behind all that waits for the job
  ahead-acts : (lent virtual : CommitJob E) (old new : Sequencing) (before after : Ahead) (it : IsExtended lent before.groups.items virtual)
      → (fits : length (lent.back.work.items ++ after.groups.items) ≤ PIPE_ITEMS) → ClosesGroup old before.groups new after.groups
      → FrontTold (node old [] virtual.back) (node_of device contents is_faulted seats new [] virtual.back.committer (record { items = lent.back.work.items ++ after.groups.items; within = fits }))
  ahead-acts lent virtual old new before after it fits closes =
      let queue : Waiting Work = record { items = lent.back.work.items ++ after.groups.items; within = fits } in
      let to = node_of device contents is_faulted seats new [] virtual.back.committer queue in
      let last : queue.items ≡ virtual.back.work.items ++ work.Commit closes.group ∷ [] =
      ap (λ (xs : List Work). lent.back.work.items ++ xs) closes.last ∙ sym (append_assoc lent.back.work.items before.groups.items (work.Commit closes.group ∷ []))
      ∙ ap (λ (xs : List Work). xs ++ work.Commit closes.group ∷ []) (sym it.items) in
      record {
        acts = Closed ∷ [];
        are = (to, closed-act (node old [] virtual.back) queue new (inl (record { some = closes.some; group = closes.group; last = last; hands = closes.hands; leads = closes.leads })), refl);
        none = refl;
      }

  closes-one : (due did : Bool) (k : Committer E) (old new : Sequencing) (before after : Waiting Work) → ClosesDue due old before new after did
      → FrontTold (node_of device contents is_faulted seats old [] k before) (node_of device contents is_faulted seats new [] k after)
  closes-one due true k old new before after (is, closes) =
      let to = node_of device contents is_faulted seats new [] k after in
      record { acts = Closed ∷ []; are = (to, closed-act (node_of device contents is_faulted seats old [] k before) after new closes, refl); none = refl }
  closes-one due false k old new before after (never, same, queue) = record { acts = []; are = rw (same, queue) refl; none = refl }

  told-then : {old middle new : Node} → FrontTold old middle → FrontTold middle new → FrontTold old new
  told-then {old} {middle} {new} first second = record {
    acts = first.acts ++ second.acts;
    are = acts-append old middle new first.acts second.acts first.are second.are;
    none = flat_map-append handed_by first.acts second.acts ∙ ap (λ (xs : List Group). xs ++ flat_map handed_by second.acts) first.none ∙ second.none;
  }

  closes-acts : (gathering noted : Gathering) (remote : ℕ) (is_short did : Bool) (k : Committer E) (old new : Sequencing) (before after : Waiting Work) → ClosesBoth gathering remote is_short old before new after noted did
      → FrontTold (node_of device contents is_faulted seats old [] k before) (node_of device contents is_faulted seats new [] k after)
  closes-acts gathering noted remote is_short did k old new before after both =
      told-then (closes-one _ both.is_closed k old both.between before both.middle both.group.0) (closes-one _ both.is_listed k both.between new both.middle after both.list)

  -- ---- a job that is tended

  -- what comes of a job
  pub record JobActs (old : Sequencing) (job : CommitJob E) (home' : Option (CommitJob E)) (lender' : EndView (CommitJob E)) (ahead' : Ahead) (new : Sequencing) : Type 0 where
    pub job' : CommitJob E
    pub is_job : IsJob device contents is_faulted home' lender' ahead' job'
    pub does : DoesOr old job new job'

  then-does : (old middle new : Sequencing) (job at job' : CommitJob E) → Does old job middle at → DoesOr middle at new job' → DoesOr old job new job'
  then-does old middle new job at job' first (inl second) =
      inl (does-by old new job job'
      (then-acts {at = gone_of at.groups at.back} (record { acts = first.acts; are = first.are; offered = first.offered }) (record { acts = second.acts; are = second.are; offered = second.offered })))
  then-does old middle new job at job' first (inr vain) = inr vain

  no-does : (s : Sequencing) (job : CommitJob E) → DoesOr s job s job
  no-does s job = inl (does-by s s job job (no-acts (node s [] job.back) (gone_of job.groups job.back)))

  -- whatever it is lent for
  for-any : (job : CommitJob E) (only : Bool) (old new : Sequencing) (job' : CommitJob E) → DoesOr old (record job { is_for_commits = only }) new job' → DoesOr old job new job'
  for-any job only old new job' (inl does) = inl (record { acts = does.acts; are = does.are; offered = does.offered })
  for-any job only old new job' (inr vain) = inr vain

  -- a job that is lent has as much room ahead as its queue has left
  pub lent-fits : (job : CommitJob E) (ahead : Ahead) → ahead.groups.items ≡ []
      → FitsBehind (record job { is_for_commits = commits_alone device contents is_faulted job }) (record ahead { room = room_ahead device contents is_faulted job })
  lent-fits job ahead none = by (commits_alone device contents is_faulted job) refl
    where
      by : (only : Bool) → commits_alone device contents is_faulted job ≡ only
          → FitsBehind (record job { is_for_commits = commits_alone device contents is_faulted job }) (record ahead { room = room_ahead device contents is_faulted job })
      by true is = record {
        fits = omega (arith, ap length none, job.back.work.within, ap (λ (only : Bool). if only then PIPE_ITEMS - length job.back.work.items else 0) is);
        none = λ other. absurd (true≢false (sym is ∙ other));
      }
      by false is = record {
        fits = omega (arith, ap length none, job.back.work.within, ap (λ (only : Bool). if only then PIPE_ITEMS - length job.back.work.items else 0) is);
        none = λ other. (none, ap (λ (only : Bool). if only then PIPE_ITEMS - length job.back.work.items else 0) is);
      }

  extends-alone : (job : CommitJob E) (behind : List Work) → behind ≡ [] → IsExtended job behind job
  extends-alone job behind none = record { same = refl; items = sym (ap (λ (xs : List Work). job.back.work.items ++ xs) none ∙ append-nil job.back.work.items) }

  steps-taken : (heard : ℕ) (is_short : Bool) (job : CommitJob E) (lender : EndView (CommitJob E)) (ahead : Ahead) (old : Sequencing) (home' : Option (CommitJob E)) (lender' : EndView (CommitJob E)) (ahead' : Ahead)
      (new : Sequencing) (it : JobCame) → ahead.groups.items ≡ [] → HasStepsTaken device contents is_faulted heard is_short job lender ahead old home' lender' ahead' new it
      → JobActs old job home' lender' ahead' new
  steps-taken heard is_short job lender ahead old home' lender' ahead' new came.Away none taken = absurd taken
  steps-taken heard is_short job lender ahead old home' lender' ahead' new came.Rests none (due, home, lent, same_ahead, same) =
      rw (home, same_ahead, same) (record { job' = job; is_job = (refl, none); does = no-does old job })
  steps-taken heard is_short job lender ahead old home' lender' ahead' new came.Lent none (due, long, home, lent, room, same) =
      let out = record job { is_for_commits = commits_alone device contents is_faulted job } in
      rw (home, lent, room, same) (record {
        job' = out;
        is_job = (out, refl, lent-fits job ahead none, extends-alone out ahead.groups.items none);
        does = inl (does-by old old job out (no-acts (node old [] job.back) (gone_of job.groups job.back)));
      })
  steps-taken heard is_short job lender ahead old home' lender' ahead' new (came.Stepped did) none (due, short, job', home, lent, same_ahead, back) =
      rw (home, same_ahead) (record { job' = job'; is_job = (refl, none); does = for-any job false old new job' (comes-acts (record job { is_for_commits = false }) job' old new did back) })

  tends-job : (read : MarkView) (is_short : Bool) (gathering noted : Gathering) (job : CommitJob E) (lender : EndView (CommitJob E)) (ahead : Ahead) (old : Sequencing) (home' : Option (CommitJob E)) (lender' : EndView (CommitJob E)) (ahead' : Ahead)
      (new : Sequencing) (tended : Tended) → is_ok tended.closed ≡ true → ahead.groups.items ≡ [] → TendsJob device contents is_faulted read is_short gathering noted job lender ahead old home' lender' ahead' new tended → JobActs old job home' lender' ahead' new
  tends-job read is_short gathering noted job lender ahead old home' lender' ahead' new tended ok none tends =
      let ready = tends.ready in
      let taken = steps-taken read.heard is_short ready lender ahead tends.between home' lender' ahead' new tended.job none tends.steps in
      let closes = by tended.closed ok tends.closes in
      let first : Does old job tends.between ready =
      record {
        acts = closes.acts;
        are = subst (λ (k : Committer E). AreActs (node old [] job.back) closes.acts (node_of device contents is_faulted seats tends.between [] k ready.back.work)) (sym tends.committer) closes.are;
        offered = ap₂ (λ (xs : List Group) (k : Committer E). xs ++ in_hand k.stage) tends.offered tends.committer
            ∙ sym (ap (λ (xs : List Group). gone_of job.groups job.back ++ xs) closes.none ∙ append-nil (gone_of job.groups job.back));
      } in
      record { job' = taken.job'; is_job = taken.is_job; does = then-does old tends.between new job ready taken.job' first taken.does }
    where
      by : (closed : Result Bool Refusal) → is_ok closed ≡ true → ClosesOrLacks gathering read.remote is_short old job.back.work tends.between tends.ready.back.work noted closed
          → FrontTold (node_of device contents is_faulted seats old [] job.back.committer job.back.work) (node_of device contents is_faulted seats tends.between [] job.back.committer tends.ready.back.work)
      by (Ok did) ok closes = closes-acts gathering noted read.remote is_short did job.back.committer old tends.between job.back.work tends.ready.back.work closes
      by (Err cause) ok lacks = absurd (true≢false (sym ok))

  pub tends-acts : (read : MarkView) (is_short : Bool) (gathering noted : Gathering) (home : Option (CommitJob E)) (lender : EndView (CommitJob E)) (ahead : Ahead) (old : Sequencing) (home' : Option (CommitJob E)) (lender' : EndView (CommitJob E)) (ahead' : Ahead)
      (new : Sequencing) (tended : Tended) (job : CommitJob E) → is_ok tended.closed ≡ true → IsJob device contents is_faulted home lender ahead job
      → Tends device contents is_faulted read is_short gathering noted home lender ahead old home' lender' ahead' new tended → JobActs old job home' lender' ahead' new
  tends-acts read is_short gathering noted (Some here) lender ahead old home' lender' ahead' new tended job ok is tends =
      subst (λ (j : CommitJob E). JobActs old j home' lender' ahead' new) is.0 (tends-job read is_short gathering noted here lender ahead old home' lender' ahead' new tended ok is.1 tends)
  tends-acts read is_short gathering noted None lender ahead old home' lender' ahead' new tended job ok (out, value, fits, it) (away, home, lent, closes) =
      rw (home, lent) (by tended.closed ok closes)
    where
      by : (closed : Result Bool Refusal) → is_ok closed ≡ true → ClosesAhead gathering read.remote old ahead new ahead' noted closed → JobActs old job None lender ahead' new
      by (Err cause) ok lacks = absurd (true≢false (sym ok))
      by (Ok false) ok (never, same, same_ahead, same_noted) = rw (same, same_ahead) (record { job' = job; is_job = (out, value, fits, it); does = no-does old job })
      by (Ok true) ok (due, one, room, now_noted) =
          let last = ap length one.last ∙ length-append ahead.groups.items (work.Commit one.group ∷ []) in
          let still : FitsBehind out ahead' = record {
            fits = omega (arith, fits.fits, room, last);
            none = λ other. absurd (let none = fits.none other in omega (arith, none.1, room));
          } in
          let within : length (out.back.work.items ++ ahead'.groups.items) ≤ PIPE_ITEMS = omega (arith, still.fits, length-append out.back.work.items ahead'.groups.items) in
          let queue : Waiting Work = record { items = out.back.work.items ++ ahead'.groups.items; within = within } in
          let job' : CommitJob E = record job { back = record job.back { work = queue } } in
          let tells = ahead-acts out job old new ahead ahead' it within one in
          record {
            job' = job';
            is_job = (out, value, still, record { same = ap (λ (j : CommitJob E). record j { back = record j.back { work = queue } }) it.same; items = refl });
            does = inl (does-by old new job job'
                (record { acts = tells.acts; are = tells.are; offered = sym (ap (λ (xs : List Group). gone_of job.groups job.back ++ xs) tells.none ∙ append-nil (gone_of job.groups job.back)) }));
          }

  -- ---- a job that is fetched

  pub fetches-acts : (home : Option (CommitJob E)) (lender : EndView (CommitJob E)) (ahead : Ahead) (old : Sequencing) (home' : Option (CommitJob E)) (lender' : EndView (CommitJob E)) (ahead' : Ahead) (new : Sequencing)
      (it : Fetched) (job : CommitJob E) → IsJob device contents is_faulted home lender ahead job → Fetches device contents is_faulted home lender ahead old home' lender' ahead' new it
      → JobActs old job home' lender' ahead' new
  fetches-acts home lender ahead old home' lender' ahead' new fetched.Here job is (here, same_home, lent, same_ahead, same) =
      rw (same_home, lent, same_ahead, same) (record { job' = job; is_job = is; does = no-does old job })
  fetches-acts home lender ahead old home' lender' ahead' new (fetched.Away not_yet) job is (none, found, away, lent, same_ahead, same) =
      rw (away, lent, same_ahead, same) (record { job' = job; is_job = subst (λ (h : Option (CommitJob E)). IsJob device contents is_faulted h lender ahead job) none is; does = no-does old job })
  fetches-acts home lender ahead old home' lender' ahead' new (fetched.Back did) job is (none, lent, back, wide, value, home_is, lender_is, comes, to, left) =
      let (out, at, fits, from) = subst (λ (h : Option (CommitJob E)). IsJob device contents is_faulted h lender ahead job) none is in
      let same : out ≡ lent = some-is out lent (sym at ∙ value) in
      rw (home_is, lender_is) (record {
        job' = wide;
        is_job = (refl, left.0);
        does = by lent.is_for_commits refl (subst (λ (j : CommitJob E). FitsBehind j ahead) same fits) (subst (λ (j : CommitJob E). IsExtended j ahead.groups.items job) same from);
      })
    where
      some-is : (a b : CommitJob E) → Some a ≡ Some b → a ≡ b
      some-is a b e = cc

      by : (only : Bool) → lent.is_for_commits ≡ only → FitsBehind lent ahead → IsExtended lent ahead.groups.items job → DoesOr old job new wide
      by true only fits from = inl (wide-comes lent back job wide ahead.groups.items old new did only from to comes)
      by false only fits from =
          let none = (fits.none only).0 in
          subst (λ (j : CommitJob E). DoesOr old j new wide) (sym (extended-none lent job ahead.groups.items none from))
          (subst (λ (j : CommitJob E). DoesOr old lent new j) (sym (extended-none back wide ahead.groups.items none to)) (comes-acts lent back old new did comes))
