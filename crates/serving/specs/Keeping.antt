-- What the committer's job keeps of the keyspaces at which a standby may stand, wherever the job is.
use Rattle.std.specs.Prelude.{◌≡◌, ◌⊎◌, ℕ, ◌≤◌, ◌++◌, Bool, false, List, [], Option, Some, None, Result, OnOk}
use Rattle.pmem.specs.Device.{State}
use Rattle.pmem.specs.Runs.{LeavesOnly}
use Rattle.kv_types.specs.declared.refusal.Refusal.{Refusal}
use Rattle.model.specs.declared.work.Work.{Work}
use Rattle.model.specs.Group.{Contents}
use Rattle.model.specs.Image.{Image}
use Rattle.redis_core.specs.Sequencing.{Sequencing}
use Rattle.primary.specs.declared.back.Back.{Back}
use Rattle.primary.specs.Recalling.{AgreeUpTo, AreKeyspaces, BackKeeps, ImageRecalls, KeepsPast, Past}
use Rattle.primary.specs.Standing.{BackStands}
use Rattle.serving.specs.declared.ahead.Ahead.{Ahead}
use Rattle.serving.specs.declared.commit_job.CommitJob.{CommitJob}

-- a job, and the groups that go behind its queue once it is here
pub record Held (E : Type 0) : Type 0 where
  pub job : CommitJob E
  pub behind : List Work

-- the job that is here, or else the one that is lent, as it was lent, with what is ahead
abbrev pub job_of : {E : Type 0} → Option (CommitJob E) → Option (CommitJob E) → Ahead → Option (Held E)
job_of (Some job) lent ahead = Some (record { job = job; behind = [] })
job_of None (Some job) ahead = Some (record { job = job; behind = ahead.groups.items })
job_of None None ahead = None

-- by what is known of an engine
module _ {E : Type 0} (device : E → State) (contents : E → Contents) (is_faulted : E → Bool) where
  -- Steps were taken by this remote mark, and came to this. Each past that was kept of what was in hand is kept, and at any moment a crash leaves an image
  -- that recalls it.
  pub record KeepsThrough {T : Type 0} (remote : ℕ) (old : Back E) (came : Result T Refusal) (new : Back E) : Type 0 where
    pub kept : (s : Sequencing) (past : Past) → BackStands device contents old s [] → BackKeeps contents past old s
        → OnOk came (BackKeeps contents past new s)
    pub sound : is_faulted old.committer.engine ≡ false → OnOk came (is_faulted new.committer.engine ≡ false)
    pub leaves : is_faulted old.committer.engine ≡ false → (s : Sequencing) (past : Past) → BackStands device contents old s []
        → BackKeeps contents past old s → LeavesOnly (device old.committer.engine) (device new.committer.engine) (ImageRecalls past)

  -- ---- a job, wherever it is

  -- no fence of its device had failed
  abbrev pub IsSound : Option (Held E) → Type 0
  IsSound (Some held) = is_faulted held.job.back.committer.engine ≡ false
  IsSound None = ⊥

  -- what it has in hand, and what is behind, keeps the past, with this sequencer
  abbrev pub KeepsBehind : Past → Back E → List Work → Sequencing → Type 0
  KeepsBehind past back behind s =
      let c = contents back.committer.engine in KeepsPast c.current.floor past c (back.work.items ++ behind) back.committer.aside.items s

  abbrev pub JobKeeps : Past → Option (Held E) → Sequencing → Type 0
  JobKeeps past (Some held) s = KeepsBehind past held.job.back held.behind s
  JobKeeps past None s = ⊥

  -- at any moment from the first to the second a crash left only such images
  abbrev pub JobLeaves : (Image → Type 0) → Option (Held E) → Option (Held E) → Type 0
  JobLeaves P (Some old) (Some new) = LeavesOnly (device old.job.back.committer.engine) (device new.job.back.committer.engine) P
  JobLeaves P _ _ = ⊥

  -- Of a job that goes by no higher remote mark than this, while nothing is called: what it kept of the past it keeps, and at any moment a crash leaves an
  -- image that recalls it.
  pub record JobKeepsThrough (remote : ℕ) (job : Option (Held E)) (old : Sequencing) (job' : Option (Held E)) (new : Sequencing) : Type 0 where
    pub at : new.position ≡ old.position
    pub kept : (past : Past) → JobKeeps past job old → JobKeeps past job' new
    pub sound : IsSound job → IsSound job'
    pub leaves : IsSound job → (past : Past) → JobKeeps past job old → JobLeaves (ImageRecalls past) job job'

  -- The same where calls were made too: the past goes on, and the image recalls it as it was or as it is.
  pub record PastGoesOn (remote : ℕ) (job : Option (Held E)) (old : Sequencing) (job' : Option (Held E)) (new : Sequencing) : Type 0 where
    pub goes_on : (past : Past) → AreKeyspaces past → JobKeeps past job old
        → (later : Past) × AreKeyspaces later × AgreeUpTo old.position past later × JobKeeps later job' new
        × (IsSound job → JobLeaves (λ image. ImageRecalls past image ⊎ ImageRecalls later image) job job')
    pub rises : old.position ≤ new.position
    pub sound : IsSound job → IsSound job'

  -- The same over any number of rounds: at any moment the image recalls a past that goes on from the first.
  pub record RunGoesOn (remote : ℕ) (job : Option (Held E)) (old : Sequencing) (job' : Option (Held E)) (new : Sequencing) : Type 0 where
    pub goes_on : (past : Past) → AreKeyspaces past → JobKeeps past job old
        → (later : Past) × AreKeyspaces later × AgreeUpTo old.position past later × JobKeeps later job' new
        × (IsSound job → JobLeaves (λ image. (between : Past) × AgreeUpTo old.position past between × ImageRecalls between image) job job')
    pub rises : old.position ≤ new.position
    pub sound : IsSound job → IsSound job'
