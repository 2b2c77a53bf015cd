-- Steps for commits alone, over a job behind whose queue more waits: it is as if the committer saw it.
use Rattle.std.proofs.Common.{◌≡◌, ◌≤◌, ℕ, Bool, true, false, true≢false, nat_lt, List, [], ◌∷◌, ◌++◌, length, is_ok, Result, Ok, Err, IfOk, OnOk, IsErrOf, refl, sym, ap, subst, ◌∙◌, inl, inr, arith, length-append}
use Rattle.std.specs.List.{AllByRecursion}
use Rattle.pmem.specs.Device.{State}
use Rattle.pmem.specs.Runs.{LeavesOnly}
use Rattle.pmem.proofs.Leaving.{LeavesOnly-then}
use Rattle.kv_types.specs.declared.refusal.Refusal.{Refusal}
use Rattle.kv_types.specs.declared.refusal.Refusal.TheVariants as refusal
use Rattle.model.specs.declared.group.Group.{Group}
use Rattle.model.specs.declared.work.Work.{Work}
use Rattle.model.specs.Group.{Contents}
use Rattle.wbl_engine.specs.declared.freeing.Freed.{Freed as Places}
use Rattle.pipes.specs.Waiting.{Waiting}
use Rattle.pipes.specs.Ring.{offered_at}
use Rattle.pipes.specs.declared.limits.TheConstants.{PIPE_ITEMS}
use Rattle.pipes.specs.declared.ring_pipe.RingOutlet.{RingOutlet}
use Rattle.rtrb.specs.Ring.{known_free}
use Rattle.redis_core.specs.Sequencing.{Sequencing}
use Rattle.group_commit.specs.Due.{due_now}
use Rattle.group_commit.specs.Working.{Takes}
use Rattle.group_commit.specs.declared.committer.Committer.{Committer}
use Rattle.group_commit.specs.declared.due.Due.{Due}
use Rattle.group_commit.specs.declared.due.Due.TheVariants as due
use Rattle.group_commit.specs.declared.stage.Done.{Done}
use Rattle.group_commit.specs.declared.stage.Done.TheVariants as done
use Rattle.primary.specs.declared.back.Back.{Back}
use Rattle.primary.specs.Ahead.{is_of_commit}
use Rattle.primary.specs.Recalling.{ImageRecalls, Past}
use Rattle.primary.specs.Standing.{StandsOver, notices_of}
use Rattle.primary.proofs.BehindLemmas.{TakesWide, left-by, nothing-told, takes-wide}
use Rattle.primary.proofs.KeptImages.{turn-leaves}
use Rattle.primary.proofs.KeptTurns.{kept-for-all, refused-keeps}
use Rattle.primary.proofs.SoundTurns.{turn-sound, turn-unmoved}
use Rattle.group_commit.proofs.TurnLemmas.{hands-beside}
use Rattle.primary.proofs.TurnedLemmas.{ok_not_err, told-for-all, turn-again}
use Rattle.node_steps.specs.Clauses.{noted}
use Rattle.serving.specs.CommitJob.{AreSteps, IsStep, StandsBehind}
use Rattle.serving.specs.Keeping.{KeepsBehind}
use Rattle.serving.specs.Stepping.{passed_on}
use Rattle.serving.proofs.KeepingLemmas.{behind-leaves}

-- Where memory is refused for such a step, no list goes aside.
module _ {E O : Type 0} (device : E → State) (contents : E → Contents) (is_faulted : E → Bool) (offered : O → List Group) (known_room : O → ℕ) (old new : Committer E) (before after : Waiting Work)
    (link link' : O) (has_room : Bool) (remote : ℕ) where
  pub aside-stays : (step : Due) → is_of_commit step ≡ true → Takes device contents is_faulted offered known_room step has_room remote old before link (Err refusal.Memory) new after link'
      → new.aside.items ≡ old.aside.items
  aside-stays due.Commit is (none, inl took) = absurd (elim took.commits.causes [ inl e ↦ cc | inr e ↦ cc ])
  aside-stays due.Commit is (none, inr lacks) = lacks.aside
  aside-stays due.Raise is (same, queue, raises) = absurd (ok_not_err done.Raised (sym raises.answer))
  aside-stays due.Hand is (queue, hands) = (hands-beside device contents is_faulted offered known_room old new link link' (Err refusal.Memory) hands).aside
  aside-stays due.Free is took = absurd (true≢false (sym is))
  aside-stays due.Clear is took = absurd (true≢false (sym is))
  aside-stays due.Nothing is took = absurd (true≢false (sym is))

-- what is said of a step that was answered so
if-ok : (X : Done → Type 0) (came : Result Done Refusal) (d : Done) → came ≡ Ok d → IfOk came X → X d
if-ok X came d is it = subst (λ (answer : Result Done Refusal). IfOk answer X) is it

-- all of it, as one queue
abbrev pub Fits : {E : Type 0} → List Work → Back E → Type 0
Fits behind back = length (back.work.items ++ behind) ≤ PIPE_ITEMS

abbrev pub wide_of : {E : Type 0} (behind : List Work) (back : Back E) → Fits behind back → Waiting Work
wide_of behind back fits = record { items = back.work.items ++ behind; within = fits }

-- a step that was passed on as done
abbrev pub Pass : Result Done Refusal → Type 0
Pass came = is_ok (passed_on came) ≡ true

module _ {E : Type 0} (device : E → State) (contents : E → Contents) (is_faulted : E → Bool) (behind : List Work) where
  -- what some steps came to, whatever sequencer is ahead of it with what is behind, and whatever past is kept
  pub record DoesBehind (old new : Back E) : Type 0 where
    pub stands : (s : Sequencing) → StandsBehind device contents old behind s → StandsBehind device contents new behind s
    pub keeps : (s : Sequencing) (past : Past) → StandsBehind device contents old behind s → KeepsBehind device contents is_faulted past old behind s → KeepsBehind device contents is_faulted past new behind s
    pub sound : is_faulted old.committer.engine ≡ false → is_faulted new.committer.engine ≡ false
    pub leaves : is_faulted old.committer.engine ≡ false → (s : Sequencing) (past : Past) → StandsBehind device contents old behind s → KeepsBehind device contents is_faulted past old behind s
        → LeavesOnly (device old.committer.engine) (device new.committer.engine) (ImageRecalls past)
    pub fits : Fits behind new

  -- and of none is anything to be told
  pub record AllBehind (all : List (Result Done Refusal)) (old new : Back E) : Type 0 where
    pub does : DoesBehind old new
    pub untold_are : AllByRecursion (λ came. noted came ≡ []) all

module _ {E P : Type 0} (device : E → State) (contents : E → Contents) (is_faulted : E → Bool) (remote : ℕ) (behind : List Work) where
  -- ---- one step

  module _ (old : Back E) (link : RingOutlet Group P) (came : Result Done Refusal) (new : Back E) (link' : RingOutlet Group P) (step : IsStep device contents is_faulted remote old link came new link')
      (suits : is_of_commit (due_now contents old.committer old.work (nat_lt 0 (known_free link'.producer)) remote) ≡ true) (fits : Fits behind old) where
    abbrev has_room : Bool
    has_room = nat_lt 0 (known_free link'.producer)

    -- no more waits after it
    pub fits-then : Fits behind new
    fits-then =
        let fewer = left-by device contents is_faulted offered_at (λ (end : RingOutlet Group P). known_free end.producer) old.committer new.committer old.work new.work link link' has_room remote came
        (due_now contents old.committer old.work has_room remote) suits step in
        omega (arith, fewer, fits, length-append old.work.items behind, length-append new.work.items behind)

    -- the same step, of a queue that has all of it
    pub taken-wide : TakesWide device contents is_faulted offered_at (λ (end : RingOutlet Group P). known_free end.producer) old.committer new.committer old.work new.work link link' has_room remote came behind (wide_of behind old fits) (wide_of behind new fits-then) refl refl
    taken-wide = takes-wide device contents is_faulted offered_at (λ (end : RingOutlet Group P). known_free end.producer) old.committer new.committer old.work new.work link link' has_room remote came behind (wide_of behind old fits) (wide_of behind new fits-then) refl refl
        suits step

    one-stands : (s : Sequencing) → StandsBehind device contents old behind s → IfOk came (λ done. StandsBehind device contents new behind s)
    one-stands s over = by came refl
      where
        by : (answer : Result Done Refusal) → came ≡ answer → IfOk answer (λ done. StandsBehind device contents new behind s)
        by (Ok d) is =
            let none : notices_of d ≡ [] =
            nothing-told device contents is_faulted offered_at (λ (end : RingOutlet Group P). known_free end.producer) old.committer new.committer old.work new.work link link' has_room remote d (due_now contents old.committer old.work has_room remote) suits
            (subst (λ (answer : Result Done Refusal). IsStep device contents is_faulted remote old link answer new link') is step) in
            let told = told-for-all device contents is_faulted offered_at taken-wide.rooms old.committer new.committer (wide_of behind old fits) (wide_of behind new fits-then) link link' has_room remote came taken-wide.takes in
            let stands : StandsOver (device new.committer.engine) (contents new.committer.engine) (new.work.items ++ behind) new.committer.aside.items s (notices_of d) =
            if-ok (λ (d : Done). (s : Sequencing) (notices : List Places) → StandsOver (device old.committer.engine) (contents old.committer.engine) (old.work.items ++ behind) old.committer.aside.items s notices
            → StandsOver (device new.committer.engine) (contents new.committer.engine) (new.work.items ++ behind) new.committer.aside.items s (notices ++ notices_of d)) came d is told s [] over in
            rw none at stands
        by (Err cause) is = tt

    one-keeps : (s : Sequencing) (past : Past) → StandsBehind device contents old behind s → KeepsBehind device contents is_faulted past old behind s → IfOk came (λ done. KeepsBehind device contents is_faulted past new behind s)
    one-keeps s past over kept = by came refl
      where
        by : (answer : Result Done Refusal) → came ≡ answer → IfOk answer (λ done. KeepsBehind device contents is_faulted past new behind s)
        by (Ok d) is =
            let keeps = kept-for-all device contents is_faulted offered_at taken-wide.rooms old.committer new.committer (wide_of behind old fits) (wide_of behind new fits-then) link link' has_room remote came taken-wide.takes in
            if-ok (λ (d : Done). (s : Sequencing) (notices : List Places) (past : Past) → StandsOver (device old.committer.engine) (contents old.committer.engine) (old.work.items ++ behind) old.committer.aside.items s notices
            → KeepsBehind device contents is_faulted past old behind s → KeepsBehind device contents is_faulted past new behind s) came d is keeps s [] past over kept
        by (Err cause) is = tt

    one-again : came ≡ Err refusal.Memory → (s : Sequencing) → StandsBehind device contents old behind s → StandsBehind device contents new behind s
    one-again is s over =
        turn-again device contents is_faulted offered_at taken-wide.rooms old.committer new.committer (wide_of behind old fits) (wide_of behind new fits-then) link link' has_room remote came taken-wide.takes
        (subst (λ (answer : Result Done Refusal). IsErrOf answer refusal.Memory) (sym is) refl) s [] over

    one-still : came ≡ Err refusal.Memory → (s : Sequencing) (past : Past) → StandsBehind device contents old behind s → KeepsBehind device contents is_faulted past old behind s → KeepsBehind device contents is_faulted past new behind s
    one-still is s past over kept =
        refused-keeps device contents is_faulted past s [] offered_at taken-wide.rooms old.committer new.committer (wide_of behind old fits) (wide_of behind new fits-then) link link' has_room remote over kept came taken-wide.takes
        (subst (λ (answer : Result Done Refusal). IsErrOf answer refusal.Memory) (sym is) refl)

    one-sound : is_faulted old.committer.engine ≡ false → OnOk came (is_faulted new.committer.engine ≡ false)
    one-sound =
        by came (turn-sound device contents is_faulted offered_at (λ (end : RingOutlet Group P). known_free end.producer) old.committer new.committer old.work new.work link link' has_room remote came step)
      where
        by : (answer : Result Done Refusal) → OnOk answer (is_faulted old.committer.engine ≡ false → is_faulted new.committer.engine ≡ false) → is_faulted old.committer.engine ≡ false
            → OnOk answer (is_faulted new.committer.engine ≡ false)
        by (Ok d) is sound = is sound
        by (Err cause) is sound = tt

    one-leaves : is_faulted old.committer.engine ≡ false → (s : Sequencing) (past : Past) → StandsBehind device contents old behind s → KeepsBehind device contents is_faulted past old behind s
        → LeavesOnly (device old.committer.engine) (device new.committer.engine) (ImageRecalls past)
    one-leaves sound s past over kept =
        turn-leaves device contents is_faulted past s [] offered_at taken-wide.rooms old.committer new.committer (wide_of behind old fits) (wide_of behind new fits-then) link link' has_room remote came sound over kept taken-wide.takes

    -- what is passed on of it: a refusal of memory is as nothing
    pub passed-stands : OnOk (passed_on came) ((s : Sequencing) → StandsBehind device contents old behind s → StandsBehind device contents new behind s)
    passed-stands = by came refl
      where
        by : (answer : Result Done Refusal) → came ≡ answer → OnOk (passed_on answer) ((s : Sequencing) → StandsBehind device contents old behind s → StandsBehind device contents new behind s)
        by (Ok d) is = λ s over. subst (λ (answer : Result Done Refusal). IfOk answer (λ done. StandsBehind device contents new behind s)) is (one-stands s over)
        by (Err refusal.Memory) is = one-again is
        by (Err other) is = cc

    pub passed-sound : OnOk (passed_on came) (is_faulted old.committer.engine ≡ false → is_faulted new.committer.engine ≡ false)
    passed-sound = by came refl
      where
        by : (answer : Result Done Refusal) → came ≡ answer → OnOk (passed_on answer) (is_faulted old.committer.engine ≡ false → is_faulted new.committer.engine ≡ false)
        by (Ok d) is = λ sound. subst (λ (answer : Result Done Refusal). OnOk answer (is_faulted new.committer.engine ≡ false)) is (one-sound sound)
        by (Err refusal.Memory) is = λ sound.
            ap is_faulted
            (turn-unmoved device contents is_faulted offered_at (λ (end : RingOutlet Group P). known_free end.producer) old.committer new.committer old.work new.work link link' has_room remote came step
            (subst (λ (answer : Result Done Refusal). IsErrOf answer refusal.Memory) (sym is) refl))
            ∙ sound
        by (Err other) is = cc

    pub untold : noted came ≡ []
    untold = by came refl
      where
        by : (answer : Result Done Refusal) → came ≡ answer → noted answer ≡ []
        by (Ok d) is =
            nothing-told device contents is_faulted offered_at (λ (end : RingOutlet Group P). known_free end.producer) old.committer new.committer old.work new.work link link' has_room remote d (due_now contents old.committer old.work has_room remote) suits
            (subst (λ (answer : Result Done Refusal). IsStep device contents is_faulted remote old link answer new link') is step)
        by (Err cause) is = refl

    pub passed-keeps : OnOk (passed_on came) ((s : Sequencing) (past : Past) → StandsBehind device contents old behind s → KeepsBehind device contents is_faulted past old behind s → KeepsBehind device contents is_faulted past new behind s)
    passed-keeps = by came refl
      where
        by : (answer : Result Done Refusal) → came ≡ answer → OnOk (passed_on answer) ((s : Sequencing) (past : Past) → StandsBehind device contents old behind s → KeepsBehind device contents is_faulted past old behind s → KeepsBehind device contents is_faulted past new behind s)
        by (Ok d) is = λ s past over kept. subst (λ (answer : Result Done Refusal). IfOk answer (λ done. KeepsBehind device contents is_faulted past new behind s)) is (one-keeps s past over kept)
        by (Err refusal.Memory) is = one-still is
        by (Err other) is = cc

  -- ---- all of them

  one-does : (old : Back E) (link : RingOutlet Group P) (came : Result Done Refusal) (new : Back E) (link' : RingOutlet Group P) (step : IsStep device contents is_faulted remote old link came new link')
      → is_of_commit (due_now contents old.committer old.work (nat_lt 0 (known_free link'.producer)) remote) ≡ true → Fits behind old → Pass came → DoesBehind device contents is_faulted behind old new
  one-does old link came new link' step suits fits pass = record {
    stands = ok-then (passed_on came) pass (passed-stands old link came new link' step suits fits);
    keeps = ok-then (passed_on came) pass (passed-keeps old link came new link' step suits fits);
    sound = ok-then (passed_on came) pass (passed-sound old link came new link' step suits fits);
    leaves = one-leaves old link came new link' step suits fits;
    fits = fits-then old link came new link' step suits fits;
  }
    where
      ok-then : {X : Type 0} (answer : Result Done Refusal) → is_ok answer ≡ true → OnOk answer X → X
      ok-then (Ok d) is x = x
      ok-then (Err cause) is x = absurd (true≢false (sym is))

  pub all-behind : (all : List (Result Done Refusal)) (old : Back E) (link : RingOutlet Group P) (new : Back E) (link' : RingOutlet Group P) → AllByRecursion Pass all
      → AreSteps device contents is_faulted true remote old link all new link' → Fits behind old → AllBehind device contents is_faulted behind all old new
  all-behind [] old link new link' pass steps fits =
      rw steps.0 (record {
        does = record {
          stands = λ s over. over;
          keeps = λ s past over kept. kept;
          sound = λ sound. sound;
          leaves = λ sound s past over kept. behind-leaves device contents is_faulted old behind s past over kept;
          fits = fits;
        };
        untold_are = tt;
      })
  all-behind (came ∷ all) old link new link' pass (between, at, step, suits, rest) fits =
      let one = one-does old link came between at step (suits refl) fits pass.0 in
      let more = all-behind all between at new link' pass.1 rest one.fits in
      record {
        does = record {
          stands = λ s over. more.does.stands s (one.stands s over);
          keeps = λ s past over kept. more.does.keeps s past (one.stands s over) (one.keeps s past over kept);
          sound = λ sound. more.does.sound (one.sound sound);
          leaves = λ sound s past over kept.
              LeavesOnly-then (one.leaves sound s past over kept) (more.does.leaves (one.sound sound) s past (one.stands s over) (one.keeps s past over kept));
          fits = more.does.fits;
        };
        untold_are = (untold old link came between at step (suits refl) fits, more.untold_are);
      }

  -- whatever became of them, no more waits than before
  pub all-fit : (all : List (Result Done Refusal)) (old : Back E) (link : RingOutlet Group P) (new : Back E) (link' : RingOutlet Group P) → AreSteps device contents is_faulted true remote old link all new link' → Fits behind old → Fits behind new
  all-fit [] old link new link' steps fits = subst (Fits behind) (sym steps.0) fits
  all-fit (came ∷ all) old link new link' (between, at, step, suits, rest) fits =
      all-fit all between at new link' rest (fits-then old link came between at step (suits refl) fits)
