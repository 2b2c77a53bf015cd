-- A job that is lent, and that comes back, with what was closed ahead put last in its queue.
use Rattle.std.proofs.Common.{◌≡◌, ◌≤◌, ◌+◌, ◌-◌, ℕ, Bool, true, false, List, [], ◌++◌, length, Option, Some, None, Result, Ok, Err, if◌then◌else◌, refl, sym, ap, subst, ◌∙◌, arith, length-append}
use Rattle.lending.specs.declared.view.EndView.{EndView}
use Rattle.pmem.specs.Device.{State}
use Rattle.pmem.specs.Runs.{LeavesOnly}
use Rattle.kv_types.specs.declared.refusal.Refusal.{Refusal}
use Rattle.model.specs.declared.work.Work.{Work}
use Rattle.model.specs.Group.{Contents}
use Rattle.wbl_engine.specs.declared.freeing.Freed.{Freed as Places}
use Rattle.pipes.specs.declared.limits.TheConstants.{PIPE_ITEMS}
use Rattle.redis_core.specs.Sequencing.{Sequencing}
use Rattle.group_commit.specs.declared.committer.Committer.{Committer}
use Rattle.primary.specs.Recalling.{BackKeeps, ImageRecalls, Past}
use Rattle.primary.specs.Standing.{BackStands, StandsOver, notices_of}
use Rattle.serving.specs.declared.ahead.Ahead.{Ahead}
use Rattle.serving.specs.declared.commit_job.CommitJob.{CommitJob}
use Rattle.serving.specs.declared.committing.Stepped.{Stepped}
use Rattle.serving.specs.CommitJob.{AreSteps, DoesSteps, FitsBehind, IsExtended, IsHereOrLent, StandsAfter, StandsBehind}
use Rattle.serving.specs.Keeping.{JobKeepsThrough}
use Rattle.serving.specs.Stepping.{EndAs}
use Rattle.serving.specs.Tending.{commits_alone}
use Rattle.serving.proofs.BehindSteps.{AllBehind, all-behind, all-fit}
use Rattle.serving.proofs.HereOrLent.{alone-behind, behind-alone}
use Rattle.serving.proofs.KeepingLemmas.{here, here-keeps, through-steps}
use Rattle.serving.proofs.StepActs.{all-pass, extended-none, last-untold, lent-fits}

module _ {E : Type 0} (device : E → State) (contents : E → Contents) (is_faulted : E → Bool) where
  lent-now : (job : CommitJob E) (ahead : Ahead) (s : Sequencing) → BackStands device contents job.back s [] → ahead.groups.items ≡ []
      → IsHereOrLent device contents None (Some (record job { is_for_commits = commits_alone device contents is_faulted job }))
      (record ahead { room = if commits_alone device contents is_faulted job then PIPE_ITEMS - length job.back.work.items else 0 }) s
  lent-now job ahead s over none = (
    record job { is_for_commits = commits_alone device contents is_faulted job },
    refl,
    subst (λ (xs : List Work). StandsBehind device contents job.back xs s) (sym none) (alone-behind device contents job.back s over),
    lent-fits device contents is_faulted [] job ahead none,
  )

  -- it is lent, for commits alone where the step that is due is one, and with as much room ahead as its queue has left then
  pub lent-out : (job : CommitJob E) (home' : Option (CommitJob E)) (lender lender' : EndView (CommitJob E)) (ahead ahead' : Ahead) (s : Sequencing) (only : Bool) → home' ≡ None
      → lender' ≡ record lender { value = Some (record job { is_for_commits = only }) } → ahead' ≡ record ahead { room = if only then PIPE_ITEMS - length job.back.work.items else 0 }
      → only ≡ commits_alone device contents is_faulted job → BackStands device contents job.back s [] → ahead.groups.items ≡ [] → IsHereOrLent device contents home' lender'.value ahead' s
  lent-out job home' lender lender' ahead ahead' s only home_is lender_is ahead_is only_is over none = rw (home_is, lender_is, ahead_is, only_is) (lent-now job ahead s over none)

module _ {E : Type 0} (device : E → State) (contents : E → Contents) (is_faulted : E → Bool) (lent job : CommitJob E) (ahead : Ahead) (fits : FitsBehind lent ahead) (does : DoesSteps device contents is_faulted lent job) where
  abbrev behind : List Work
  behind = ahead.groups.items

  lent-fit : length (lent.back.work.items ++ behind) ≤ PIPE_ITEMS
  lent-fit = omega (arith, fits.fits, length-append lent.back.work.items behind)

  -- there is room for all of it
  pub fetch-fits : length job.back.work.items + length behind ≤ PIPE_ITEMS
  fetch-fits = by lent.is_for_commits refl
    where
      by : (only : Bool) → lent.is_for_commits ≡ only → length job.back.work.items + length behind ≤ PIPE_ITEMS
      by false is = omega (arith, ap length (fits.none is).0, job.back.work.within)
      by true is =
          let (all, steps, ends) = does.3 in
          let own = subst (λ (only : Bool). AreSteps device contents is_faulted only lent.remote lent.back lent.groups all job.back job.groups) is steps in
          omega (arith, all-fit device contents is_faulted lent.remote behind all lent.back lent.groups job.back job.groups own lent-fit, length-append job.back.work.items behind)

  -- of steps for commits alone that were answered
  module _ (is : lent.is_for_commits ≡ true) (stepped : Stepped) (came : job.came ≡ Ok stepped) where
    all-of : AllBehind device contents is_faulted behind does.3.0 lent.back job.back
    all-of =
        let (all, steps, ends) = does.3 in
        let own = subst (λ (only : Bool). AreSteps device contents is_faulted only lent.remote lent.back lent.groups all job.back job.groups) is steps in
        let ended : EndAs true all (Ok stepped) = subst (λ (only : Bool). EndAs only all (Ok stepped)) is (subst (EndAs lent.is_for_commits all) came ends) in
        all-behind device contents is_faulted lent.remote behind all lent.back lent.groups job.back job.groups (all-pass device contents is_faulted [] all stepped ended) own lent-fit

    none-told : notices_of stepped.last ≡ []
    none-told =
        let (all, steps, ends) = does.3 in
        last-untold device contents is_faulted [] all stepped (subst (λ (only : Bool). EndAs only all (Ok stepped)) is (subst (EndAs lent.is_for_commits all) came ends)) all-of.untold_are

  module _ (wide : CommitJob E) (to : IsExtended job behind wide) where
    engine-is : wide.back.committer ≡ job.back.committer
    engine-is = ap (λ (j : CommitJob E). j.back.committer) to.same

    came-is : wide.came ≡ job.came
    came-is = ap (λ (j : CommitJob E). j.came) to.same

    -- whatever sequencer is ahead of it with what is ahead is so once it is here, and told
    pub fetch-stands : (s : Sequencing) → StandsBehind device contents lent.back behind s → StandsAfter device contents wide.back s wide.came
    fetch-stands s over = by job.came refl
      where
        at-wide : (notices : List Places) → StandsOver (device job.back.committer.engine) (contents job.back.committer.engine) (job.back.work.items ++ behind) job.back.committer.aside.items s notices
            → BackStands device contents wide.back s notices
        at-wide notices stands = rw (engine-is, to.items) stands

        told : (stepped : Stepped) → job.came ≡ Ok stepped → (only : Bool) → lent.is_for_commits ≡ only → BackStands device contents wide.back s (notices_of stepped.last)
        told stepped came true is = at-wide (notices_of stepped.last) (rw (none-told is stepped came) ((all-of is stepped came).does.stands s over))
        told stepped came false is =
            let none = (fits.none is).0 in
            let stands : BackStands device contents job.back s (notices_of stepped.last) =
            subst (StandsAfter device contents job.back s) came (does.0 s (behind-alone device contents lent.back s (subst (λ (xs : List Work). StandsBehind device contents lent.back xs s) none over))) in
            subst (λ (j : CommitJob E). BackStands device contents j.back s (notices_of stepped.last)) (sym (extended-none device contents is_faulted [] job wide behind none to)) stands

        by : (answer : Result Stepped Refusal) → job.came ≡ answer → StandsAfter device contents wide.back s wide.came
        by (Ok stepped) came = subst (StandsAfter device contents wide.back s) (sym (came-is ∙ came)) (told stepped came lent.is_for_commits refl)
        by (Err cause) came = subst (StandsAfter device contents wide.back s) (sym (came-is ∙ came)) tt

    -- and what was kept of the past is
    pub through-fetched : (s s' : Sequencing) (stepped : Stepped) (remote : ℕ) → lent.remote ≤ remote → StandsBehind device contents lent.back behind s → job.came ≡ Ok stepped → s'.position ≡ s.position
        → ((past : Past) → BackKeeps contents past wide.back s → BackKeeps contents past wide.back s')
        → JobKeepsThrough device contents is_faulted remote (Some (record { job = lent; behind = behind })) s (Some (here device contents is_faulted wide)) s'
    through-fetched s s' stepped remote goes_by over came at told = by lent.is_for_commits refl
      where
        by : (only : Bool) → lent.is_for_commits ≡ only → JobKeepsThrough device contents is_faulted remote (Some (record { job = lent; behind = behind })) s (Some (here device contents is_faulted wide)) s'
        by true is =
            let all = (all-of is stepped came).does in
            record {
              at = at;
              kept = λ past kept. here-keeps device contents is_faulted past wide s' (told past (rw (engine-is, to.items) (all.keeps s past over kept)));
              sound = λ sound. ap (λ (k : Committer E). is_faulted k.engine) engine-is ∙ all.sound sound;
              leaves = λ sound past kept.
                  subst (λ (k : Committer E). LeavesOnly (device lent.back.committer.engine) (device k.engine) (ImageRecalls past)) (sym engine-is) (all.leaves sound s past over kept);
            }
        by false is =
            let none = (fits.none is).0 in
            let same = extended-none device contents is_faulted [] job wide behind none to in
            subst (λ (xs : List Work). JobKeepsThrough device contents is_faulted remote (Some (record { job = lent; behind = xs })) s (Some (here device contents is_faulted wide)) s') (sym none)
            (subst (λ (j : CommitJob E). JobKeepsThrough device contents is_faulted remote (Some (here device contents is_faulted lent)) s (Some (here device contents is_faulted j)) s') (sym same)
            (through-steps device contents is_faulted remote lent job s s' stepped goes_by
            (behind-alone device contents lent.back s (subst (λ (xs : List Work). StandsBehind device contents lent.back xs s) none over)) came at does.4
            (λ past kept. subst (λ (j : CommitJob E). BackKeeps contents past j.back s') same (told past (subst (λ (j : CommitJob E). BackKeeps contents past j.back s) (sym same) kept)))))
