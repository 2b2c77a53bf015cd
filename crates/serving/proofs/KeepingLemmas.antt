-- What the committer's job keeps of the past, step after step and round after round.
use Rattle.std.proofs.Common.{◌≡◌, ℕ, ◌≤◌, ◌++◌, Bool, List, [], Option, Some, None, Result, Ok, Err, inl, inr, refl, sym, ap, subst, ◌∙◌, arith, le_refl, append-nil}
use Rattle.pmem.specs.Device.{State}
use Rattle.pmem.specs.Runs.{LeavesOnly}
use Rattle.pmem.proofs.Leaving.{LeavesOnly-then, LeavesOnly-weaken, none_leaves}
use Rattle.kv_types.specs.declared.refusal.Refusal.{Refusal}
use Rattle.model.specs.declared.work.Work.{Work}
use Rattle.model.specs.Group.{Contents}
use Rattle.model.specs.Image.{Image}
use Rattle.redis_core.specs.Sequencing.{Sequencing}
use Rattle.group_commit.specs.declared.committer.Committer.{Committer}
use Rattle.primary.specs.declared.back.Back.{Back}
use Rattle.primary.specs.Ahead.{GoesAhead}
use Rattle.primary.specs.Recalling.{AgreeUpTo, AreKeyspaces, BackKeeps, ImageRecalls, KeepsPast, Past}
use Rattle.primary.specs.Standing.{BackStands}
use Rattle.primary.proofs.KeptImages.{crash-recalls}
use Rattle.serving.specs.CommitJob.{IsHereOrLent, StandsBehind}
use Rattle.serving.specs.Keeping.{Held, JobKeeps, JobKeepsThrough, JobLeaves, KeepsBehind, KeepsThrough, PastGoesOn, RunGoesOn, job_of}
use Rattle.serving.specs.Serving.{Serves}
use Rattle.serving.specs.declared.ahead.Ahead.{Ahead}
use Rattle.serving.specs.declared.commit_job.CommitJob.{CommitJob}
use Rattle.serving.specs.declared.committing.Stepped.{Stepped}
use Rattle.serving.proofs.HereOrLent.{alone-behind}

module _ {E : Type 0} (device : E → State) (contents : E → Contents) (is_faulted : E → Bool) where
  abbrev Over : Back E → Sequencing → Type 0
  Over back s = BackStands device contents back s []

  -- ---- steps

  -- with this behind its queue, now
  pub behind-leaves : (back : Back E) (behind : List Work) (s : Sequencing) (past : Past) → StandsBehind device contents back behind s → KeepsBehind device contents is_faulted past back behind s
      → LeavesOnly (device back.committer.engine) (device back.committer.engine) (ImageRecalls past)
  behind-leaves back behind s past over kept =
      none_leaves (device back.committer.engine) (ImageRecalls past)
      (λ image is. crash-recalls past (device back.committer.engine) (contents back.committer.engine) (back.work.items ++ behind) back.committer.aside.items s [] image over kept is)

  -- and with nothing
  back-leaves : (back : Back E) (s : Sequencing) (past : Past) → Over back s → BackKeeps contents past back s
      → LeavesOnly (device back.committer.engine) (device back.committer.engine) (ImageRecalls past)
  back-leaves back s past over kept =
      none_leaves (device back.committer.engine) (ImageRecalls past)
      (λ image is. crash-recalls past (device back.committer.engine) (contents back.committer.engine) back.work.items back.committer.aside.items s [] image over kept is)

  module _ (remote : ℕ) where
    pub through-none : {T : Type 0} (back : Back E) (x : T) → KeepsThrough device contents is_faulted {T = T} remote back (Ok x) back
    through-none {T} back x = record {
      kept = λ s past over kept. kept;
      sound = λ sound. sound;
      leaves = λ sound s past over kept. back-leaves back s past over kept;
    }

    pub through-then : {T U : Type 0} (old between new : Back E) (x : T) (came : Result U Refusal) → ((s : Sequencing) → Over old s → Over between s)
        → KeepsThrough device contents is_faulted {T = T} remote old (Ok x) between → KeepsThrough device contents is_faulted remote between came new
        → KeepsThrough device contents is_faulted remote old came new
    through-then {T} {U} old between new x came stands one other = record {
      kept = λ s past over kept. other.kept s past (stands s over) (one.kept s past over kept);
      sound = λ sound. other.sound (one.sound sound);
      leaves = λ sound s past over kept.
          LeavesOnly-then (one.leaves sound s past over kept)
          (other.leaves (one.sound sound) s past (stands s over) (one.kept s past over kept));
    }

    -- whatever is answered
    pub through-ok : {T U : Type 0} (old new : Back E) (x : T) (y : U) → KeepsThrough device contents is_faulted {T = T} remote old (Ok x) new → KeepsThrough device contents is_faulted {T = U} remote old (Ok y) new
    through-ok {T} {U} old new x y one = record { kept = one.kept; sound = one.sound; leaves = one.leaves }

    pub through-err : {T U : Type 0} (old new : Back E) (x : Refusal) (came : Result U Refusal) (y : Refusal) → came ≡ Err y → KeepsThrough device contents is_faulted {T = T} remote old (Err x) new
        → KeepsThrough device contents is_faulted remote old came new
    through-err {T} {U} old new x came y is one =
        subst (λ (r : Result U Refusal). KeepsThrough device contents is_faulted remote old r new) (sym is) (record { kept = λ s past over kept. tt; sound = λ sound. tt; leaves = one.leaves })

  -- ---- a job, wherever it is

  abbrev Jobs : Type 0
  Jobs = Option (Held E)

  -- one that is here
  abbrev pub here : CommitJob E → Held E
  here job = record { job = job; behind = [] }

  pub here-keeps : (past : Past) (job : CommitJob E) (s : Sequencing) → BackKeeps contents past job.back s → JobKeeps device contents is_faulted past (Some (here job)) s
  here-keeps past job s kept =
      let c = contents job.back.committer.engine in
      subst (λ (items : List Work). KeepsPast c.current.floor past c items job.back.committer.aside.items s) (sym (append-nil job.back.work.items)) kept

  pub keeps-here : (past : Past) (job : CommitJob E) (s : Sequencing) → JobKeeps device contents is_faulted past (Some (here job)) s → BackKeeps contents past job.back s
  keeps-here past job s kept =
      let c = contents job.back.committer.engine in
      subst (λ (items : List Work). KeepsPast c.current.floor past c items job.back.committer.aside.items s) (append-nil job.back.work.items) kept

  abbrev Through : ℕ → Jobs → Sequencing → Jobs → Sequencing → Type 0
  Through = JobKeepsThrough device contents is_faulted

  -- the sequencer is ahead of it
  abbrev pub JobStands : Jobs → Sequencing → Type 0
  JobStands (Some held) s = StandsBehind device contents held.job.back held.behind s
  JobStands None s = ⊥

  pub job-stands : (home lent : Option (CommitJob E)) (ahead : Ahead) (s : Sequencing) → IsHereOrLent device contents home lent ahead s → JobStands (job_of home lent ahead) s
  job-stands (Some own) lent ahead s is = alone-behind device contents own.back s is.1
  job-stands None lent ahead s is = subst (λ (there : Option (CommitJob E)). JobStands (job_of None there ahead) s) (sym is.1) is.2

  -- of one that is here
  pub job-over : (home lent : Option (CommitJob E)) (ahead : Ahead) (s : Sequencing) (job : CommitJob E) → home ≡ Some job → IsHereOrLent device contents home lent ahead s → Over job.back s
  job-over home lent ahead s job is_here is = (subst (λ (at : Option (CommitJob E)). IsHereOrLent device contents at lent ahead s) is_here is).1

  leaves-then : (P : Image → Type 0) (first second third : Jobs) → JobLeaves device contents is_faulted P first second → JobLeaves device contents is_faulted P second third
      → JobLeaves device contents is_faulted P first third
  leaves-then P (Some a) (Some b) (Some c) one other = LeavesOnly-then one other
  leaves-then P (Some a) (Some b) None one other = absurd other
  leaves-then P (Some a) None third one other = absurd one
  leaves-then P None second third one other = absurd one

  leaves-wider : (P Q : Image → Type 0) (first second : Jobs) → ((image : Image) → P image → Q image) → JobLeaves device contents is_faulted P first second → JobLeaves device contents is_faulted Q first second
  leaves-wider P Q (Some a) (Some b) wider one = LeavesOnly-weaken Q wider one
  leaves-wider P Q (Some a) None wider one = absurd one
  leaves-wider P Q None second wider one = absurd one

  -- ---- between calls

  pub through-same : (remote : ℕ) (job : Jobs) (s : Sequencing) → JobStands job s → Through remote job s job s
  through-same remote (Some held) s over = record {
    at = refl;
    kept = λ past kept. kept;
    sound = λ sound. sound;
    leaves = λ sound past kept. behind-leaves held.job.back held.behind s past over kept;
  }
  through-same remote None s over = absurd over

  pub through-raised : (remote higher : ℕ) (job job' : Jobs) (s s' : Sequencing) → remote ≤ higher → Through remote job s job' s' → Through higher job s job' s'
  through-raised remote higher job job' s s' rises one = record {
    at = one.at;
    kept = λ past kept. one.kept past kept;
    sound = one.sound;
    leaves = λ sound past kept. one.leaves sound past kept;
  }

  pub job-through-then : (remote : ℕ) (first second third : Jobs) (s between s' : Sequencing) → Through remote first s second between → Through remote second between third s' → Through remote first s third s'
  job-through-then remote first second third s between s' one other = record {
    at = other.at ∙ one.at;
    kept = λ past kept. other.kept past (one.kept past kept);
    sound = λ sound. other.sound (one.sound sound);
    leaves = λ sound past kept.
        leaves-then (ImageRecalls past) first second third (one.leaves sound past kept)
        (other.leaves (one.sound sound) past (one.kept past kept));
  }

  -- the same, by other names
  pub through-as : (remote : ℕ) (job named job' named' : Jobs) (s s' : Sequencing) → job ≡ named → job' ≡ named' → Through remote named s named' s' → Through remote job s job' s'
  through-as remote job named job' named' s s' same same' one = rw (same, same') one

  -- what waited was closed, and nothing else was done to the job
  pub through-closed : (remote : ℕ) (job job' : CommitJob E) (s s' : Sequencing) → Over job.back s → job'.back.committer ≡ job.back.committer → s'.position ≡ s.position
      → ((past : Past) → BackKeeps contents past job.back s → BackKeeps contents past job'.back s') → Through remote (Some (here job)) s (Some (here job')) s'
  through-closed remote job job' s s' over committer at keeps =
      let engine : job'.back.committer.engine ≡ job.back.committer.engine = ap (λ (c : Committer E). c.engine) committer in
      record {
        at = at;
        kept = λ past kept. here-keeps past job' s' (keeps past (keeps-here past job s kept));
        sound = λ sound. ap is_faulted engine ∙ sound;
        leaves = λ sound past kept.
            subst (λ (e : E). LeavesOnly (device job.back.committer.engine) (device e) (ImageRecalls past)) (sym engine) (back-leaves job.back s past over (keeps-here past job s kept));
      }

  -- its steps were taken, and the front was told of what they gave back
  pub through-steps : (remote : ℕ) (job job' : CommitJob E) (s s' : Sequencing) (stepped : Stepped) → job.remote ≤ remote → Over job.back s → job'.came ≡ Ok stepped → s'.position ≡ s.position
      → KeepsThrough device contents is_faulted job.remote job.back job'.came job'.back → ((past : Past) → BackKeeps contents past job'.back s → BackKeeps contents past job'.back s')
      → Through remote (Some (here job)) s (Some (here job')) s'
  through-steps remote job job' s s' stepped goes_by over came at steps told =
      let did = subst (λ (r : Result Stepped Refusal). KeepsThrough device contents is_faulted job.remote job.back r job'.back) came steps in
      record {
        at = at;
        kept = λ past kept. here-keeps past job' s' (told past (did.kept s past over (keeps-here past job s kept)));
        sound = did.sound;
        leaves = λ sound past kept. did.leaves sound s past over (keeps-here past job s kept);
      }

  -- while it is lent a group was closed ahead
  pub through-ahead : (remote : ℕ) (job : CommitJob E) (before after : List Work) (s s' : Sequencing) → StandsBehind device contents job.back before s → s'.position ≡ s.position → GoesAhead s before s' after
      → Through remote (Some (record { job = job; behind = before })) s (Some (record { job = job; behind = after })) s'
  through-ahead remote job before after s s' over at goes =
      let c = contents job.back.committer.engine in
      record {
        at = at;
        kept = λ past kept. goes.keeps c.current.floor past (device job.back.committer.engine) c job.back.work.items job.back.committer.aside.items [] over kept;
        sound = λ sound. sound;
        leaves = λ sound past kept. behind-leaves job.back before s past over kept;
      }

  -- or none was
  pub through-away : (remote : ℕ) (home home' lent : Option (CommitJob E)) (before after : Ahead) (s s' : Sequencing) → home ≡ None → home' ≡ None → IsHereOrLent device contents home lent before s
      → s'.position ≡ s.position → GoesAhead s before.groups.items s' after.groups.items → Through remote (job_of home lent before) s (job_of home' lent after) s'
  through-away remote home home' lent before after s s' none none' stood at goes =
      let (job, lent_is, over, fits) = subst (λ (h : Option (CommitJob E)). IsHereOrLent device contents h lent before s) none stood in
      rw (none, none', lent_is) (through-ahead remote job before.groups.items after.groups.items s s' over at goes)

  -- ---- while calls are made

  job-goes-on : (job : Jobs) (s s' : Sequencing) → JobStands job s → Serves s s' → (past : Past) → AreKeyspaces past → JobKeeps device contents is_faulted past job s
      → (later : Past) × AreKeyspaces later × AgreeUpTo s.position past later × JobKeeps device contents is_faulted later job s'
  job-goes-on (Some held) s s' over serves past keyspaces kept =
      let back = held.job.back in
      let c = contents back.committer.engine in
      serves.goes_on c.current.floor past c (back.work.items ++ held.behind) back.committer.aside.items over.leads keyspaces kept
  job-goes-on None s s' over serves past keyspaces kept = absurd over

  -- a round: connections are served between two looks at the job
  pub goes-round : (remote : ℕ) (first second third : Jobs) (s tended served s' : Sequencing) → Through remote first s second tended → JobStands second tended → Serves tended served
      → Through remote second served third s' → PastGoesOn device contents is_faulted remote first s third s'
  goes-round remote first second third s tended served s' one over serves other = record {
    rises = omega (arith, one.at, serves.rises, other.at);
    sound = λ sound. other.sound (one.sound sound);
    goes_on = λ past keyspaces kept.
        let later = job-goes-on second tended served over serves past keyspaces (one.kept past kept) in (
          later.0,
          later.1,
          (λ p within. later.2 p (omega (arith, within, one.at))),
          other.kept later.0 later.3,
          λ sound.
              leaves-then _ first second third (leaves-wider (ImageRecalls past) _ first second (λ image was. inl was) (one.leaves sound past kept))
              (leaves-wider (ImageRecalls later.0) _ second third (λ image is. inr is) (other.leaves (one.sound sound) later.0 later.3)),
        );
  }

  -- ---- round after round

  abbrev Run : ℕ → Jobs → Sequencing → Jobs → Sequencing → Type 0
  Run = RunGoesOn device contents is_faulted

  pub run-none : (remote : ℕ) (job : Jobs) (s : Sequencing) → JobStands job s → Run remote job s job s
  run-none remote job s over =
      let same = through-same remote job s over in
      record {
        rises = le_refl s.position;
        sound = λ sound. sound;
        goes_on = λ past keyspaces kept. (
          past,
          keyspaces,
          (λ p within. refl),
          kept,
          λ sound. leaves-wider (ImageRecalls past) _ job job (λ image is. (past, (λ p within. refl), is)) (same.leaves sound past kept),
        );
      }

  pub run-raised : (remote higher : ℕ) (job job' : Jobs) (s s' : Sequencing) → remote ≤ higher → Run remote job s job' s' → Run higher job s job' s'
  run-raised remote higher job job' s s' rises one = record {
    rises = one.rises;
    sound = one.sound;
    goes_on = λ past keyspaces kept. one.goes_on past keyspaces kept;
  }

  pub run-more : (remote : ℕ) (first second third : Jobs) (s between s' : Sequencing) → Run remote first s second between → PastGoesOn device contents is_faulted remote second between third s'
      → Run remote first s third s'
  run-more remote first second third s between s' one other = record {
    rises = omega (arith, one.rises, other.rises);
    sound = λ sound. other.sound (one.sound sound);
    goes_on = λ past keyspaces kept.
        let before = one.goes_on past keyspaces kept in
        let after = other.goes_on before.0 before.1 before.3 in
        let agrees : AgreeUpTo s.position past after.0 = λ p within. after.2 p (omega (arith, within, one.rises)) ∙ before.2 p within in (
          after.0,
          after.1,
          agrees,
          after.3,
          λ sound.
              leaves-then _ first second third (before.4 sound)
              (leaves-wider _ _ second third (λ image either. elim either [ inl was ↦ (before.0, before.2, was) | inr is ↦ (after.0, agrees, is) ]) (after.4 (one.sound sound))),
        );
  }
