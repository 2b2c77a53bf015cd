-- What the committer's thread is lent, and what may become of it.
use Rattle.std.specs.Prelude.{◌≡◌, ◌≤◌, ◌+◌, ◌++◌, ℕ, Bool, nat_lt, length, Option, Some, None, List, [], ◌∷◌, true, false, Ok, Err, Result}
use Rattle.pmem.specs.Device.{State}
use Rattle.kv_types.specs.declared.refusal.Refusal.{Refusal}
use Rattle.model.specs.declared.group.Group.{Group}
use Rattle.model.specs.declared.work.Work.{Work}
use Rattle.model.specs.Group.{Contents}
use Rattle.marks.specs.declared.view.MarkView.{MarkView}
use Rattle.rtrb.specs.Ring.{known_free}
use Rattle.pipes.specs.declared.ring_pipe.RingOutlet.{RingOutlet}
use Rattle.pipes.specs.Ring.{offered_at}
use Rattle.pipes.specs.declared.limits.TheConstants.{PIPE_ITEMS}
use Rattle.redis_core.specs.Sequencing.{Sequencing}
use Rattle.group_commit.specs.declared.stage.Done.{Done}
use Rattle.group_commit.specs.Due.{due_now}
use Rattle.group_commit.specs.Working.{Takes}
use Rattle.primary.specs.Ahead.{is_of_commit}
use Rattle.primary.specs.Settled.{HasNothingInHand}
use Rattle.primary.specs.Standing.{BackStands, StandsOver, notices_of}
use Rattle.serving.specs.Keeping.{KeepsThrough}
use Rattle.serving.specs.Stepping.{EndAs}
use Rattle.serving.specs.declared.ahead.Ahead.{Ahead}
use Rattle.serving.specs.declared.committing.Stepped.{Stepped}
use Rattle.serving.specs.declared.commit_job.CommitJob.{CommitJob}
use Rattle.primary.specs.declared.back.Back.{Back}

-- the remote mark by which a job goes that is there
abbrev pub remote_of : {E : Type 0} → Option (CommitJob E) → ℕ
remote_of (Some job) = job.remote
remote_of None = 0

-- a job that is there goes by this remote mark
abbrev pub GoesBy : {E : Type 0} → ℕ → Option (CommitJob E) → Type 0
GoesBy remote (Some job) = job.remote ≡ remote
GoesBy remote None = Unit {0}

-- a job is at home that has nothing in hand; one that is lent may have
abbrev pub HasNothingAtHome : {E : Type 0} → (E → Contents) → Option (CommitJob E) → Type 0
HasNothingAtHome contents (Some job) = HasNothingInHand (contents job.back.committer.engine) job.back.work.items job.back.committer.aside.items
HasNothingAtHome contents None = ⊥

-- the same job with these groups last in its queue
pub record IsExtended {E : Type 0} (job : CommitJob E) (behind : List Work) (wide : CommitJob E) : Type 0 where
  pub same : wide ≡ record job { back = record job.back { work = wide.back.work } }
  pub items : wide.back.work.items ≡ job.back.work.items ++ behind

-- What is ahead of a job that is lent finds room behind its queue, with as much as may come. Nothing is, nor may be, of one that is lent for another step than a
-- commit's: it may free what the machine frees only where no group waits.
pub record FitsBehind {E : Type 0} (job : CommitJob E) (ahead : Ahead) : Type 0 where
  pub fits : length job.back.work.items + length ahead.groups.items + ahead.room ≤ PIPE_ITEMS
  pub none : job.is_for_commits ≡ false → (ahead.groups.items ≡ []) × (ahead.room ≡ 0)

-- by what is known of an engine
module _ {E : Type 0} (device : E → State) (contents : E → Contents) where
  -- what a thread knows that raises the local mark: it has raised it to just the engine's position
  abbrev pub IsShown : Back E → MarkView → Type 0
  IsShown back knows = (knows.raises_local ≡ true) × (knows.local ≡ (contents back.committer.engine).current.position)

  -- where it is lent for commits alone, the step that is due is one of these
  abbrev pub MayBeFirst : CommitJob E → Type 0
  MayBeFirst job =
      job.is_for_commits ≡ true → is_of_commit (due_now contents job.back.committer job.back.work (nat_lt 0 (known_free job.groups.producer)) job.remote) ≡ true

  -- some sequencer is ahead of it, all that it committed is shown, and its first step may be taken
  abbrev pub IsLed : CommitJob E → Type 0
  IsLed job = ((s : Sequencing) × BackStands device contents job.back s []) × IsShown job.back job.marks × MayBeFirst job

  -- with this behind its queue, the sequencer is ahead of it
  abbrev pub StandsBehind : Back E → List Work → Sequencing → Type 0
  StandsBehind back behind s =
      StandsOver (device back.committer.engine) (contents back.committer.engine) (back.work.items ++ behind) back.committer.aside.items s []

  -- the sequencer is ahead of it, once it is told what the last steps gave back
  abbrev pub StandsAfter : Back E → Sequencing → Result Stepped Refusal → Type 0
  StandsAfter back s (Ok stepped) = BackStands device contents back s (notices_of stepped.last)
  StandsAfter back s (Err refusal) = Unit {0}

  -- what was committed is shown
  abbrev pub IsShownAfter : Back E → MarkView → Result Stepped Refusal → Type 0
  IsShownAfter back knows (Ok stepped) = IsShown back knows
  IsShownAfter back knows (Err refusal) = Unit {0}

  -- The job is here, with nothing to tell or to show, and nothing ahead; or it is lent, and with what is ahead behind its queue as it was lent, the sequencer is ahead of
  -- it.
  abbrev pub IsHereOrLent : Option (CommitJob E) → Option (CommitJob E) → Ahead → Sequencing → Type 0
  IsHereOrLent (Some job) lent ahead s = (lent ≡ None) × BackStands device contents job.back s [] × IsShown job.back job.marks × (ahead.groups.items ≡ [])
  IsHereOrLent None lent ahead s = (job : CommitJob E) × (lent ≡ Some job) × StandsBehind job.back ahead.groups.items s × FitsBehind job ahead

  module _ (is_faulted : E → Bool) where
    module _ {P : Type 0} where
      -- the step was taken that was due by this remote mark, and came to that
      abbrev pub IsStep : ℕ → Back E → RingOutlet Group P → Result Done Refusal → Back E → RingOutlet Group P → Type 0
      IsStep remote old link came new link' =
          let has_room = nat_lt 0 (known_free link'.producer) in
          Takes device contents is_faulted offered_at (λ (end : RingOutlet Group P). known_free end.producer)
          (due_now contents old.committer old.work has_room remote) has_room remote old.committer old.work link came new.committer new.work link'

      -- where steps are taken for commits alone, that was one of these
      abbrev pub Suits : Bool → ℕ → Back E → RingOutlet Group P → Type 0
      Suits is_for_commits remote old link' =
          is_for_commits ≡ true → is_of_commit (due_now contents old.committer old.work (nat_lt 0 (known_free link'.producer)) remote) ≡ true

      -- steps were taken one after the other, each by this remote mark, and came to these
      abbrev pub AreSteps : Bool → ℕ → Back E → RingOutlet Group P → List (Result Done Refusal) → Back E → RingOutlet Group P → Type 0
      AreSteps is_for_commits remote old link [] new link' = (new ≡ old) × (link' ≡ link)
      AreSteps is_for_commits remote old link (came ∷ all) new link' =
          (between : Back E) × (at : RingOutlet Group P) × IsStep remote old link came between at × Suits is_for_commits remote old at
          × AreSteps is_for_commits remote between at all new link'

    -- All steps were taken by the remote mark of the job, which stays, until they end. Each sequencer that was ahead of it is so after them, what they
    -- committed is shown, and what was kept of the past is.
    abbrev pub DoesSteps : CommitJob E → CommitJob E → Type 0
    DoesSteps old new =
        ((s : Sequencing) → BackStands device contents old.back s [] → StandsAfter new.back s new.came)
        × IsShownAfter new.back new.marks new.came
        × (new.remote ≡ old.remote)
        × ((all : List (Result Done Refusal)) × AreSteps old.is_for_commits old.remote old.back old.groups all new.back new.groups × EndAs old.is_for_commits all new.came)
        × KeepsThrough device contents is_faulted old.remote old.back new.came new.back
