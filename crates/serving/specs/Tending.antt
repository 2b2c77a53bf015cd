-- What a round of the node's thread does with the committer's job: it looks for it, closes what is due, and has the steps taken that are due then.
use Rattle.std.specs.Prelude.{◌≡◌, ◌≢◌, ℕ, ◌+◌, ◌≤◌, ◌-◌, if◌then◌else◌, length, [], Bool, true, false, ◌&&◌, ◌||◌, nat_eq, nat_lt, Option, Some, None, Ok, Err, Result}
use Rattle.pmem.specs.Device.{State}
use Rattle.kv_types.specs.declared.refusal.Refusal.{Refusal}
use Rattle.kv_types.specs.declared.refusal.Refusal.TheVariants as refusal
use Rattle.lending.specs.declared.desk.TheConstants.{RETURNED}
use Rattle.lending.specs.declared.view.EndView.{EndView}
use Rattle.marks.specs.declared.view.MarkView.{MarkView}
use Rattle.model.specs.declared.work.Work.{Work}
use Rattle.model.specs.Group.{Contents}
use Rattle.pipes.specs.Waiting.{Waiting}
use Rattle.pipes.specs.Ring.{offered_at}
use Rattle.rtrb.specs.Ring.{known_free}
use Rattle.redis_core.specs.Sequencing.{Sequencing}
use Rattle.group_commit.specs.Due.{due_now}
use Rattle.primary.specs.Ahead.{is_of_commit}
use Rattle.primary.specs.Standing.{IsTold}
use Rattle.pipes.specs.declared.limits.TheConstants.{PIPE_ITEMS}
use Rattle.serving.specs.Closing.{ClosesAhead, ClosesBoth, LacksBoth}
use Rattle.serving.specs.CommitJob.{DoesSteps, IsExtended}
use Rattle.serving.specs.Copying.{MakesCopy, did_make}
use Rattle.serving.specs.Gathering.{with_copy}
use Rattle.serving.specs.declared.ahead.Ahead.{Ahead}
use Rattle.serving.specs.Serving.{Serves}
use Rattle.serving.specs.Steps.{does_step, is_free_worth}
use Rattle.serving.specs.Visiting.{ServesRound}
use Rattle.serving.specs.declared.commit_job.CommitJob.{CommitJob}
use Rattle.serving.specs.declared.copying.CopyMade.{CopyMade}
use Rattle.serving.specs.declared.copying.CopyMaker.{CopyMaker}
use Rattle.serving.specs.declared.committing.Stepped.{Stepped}
use Rattle.serving.specs.declared.gathering.Gathering.{Gathering}
use Rattle.serving.specs.declared.open_connections.OpenConnections.{OpenConnections}
use Rattle.serving.specs.declared.tended.Fetched.{Fetched}
use Rattle.serving.specs.declared.tended.Fetched.TheVariants as fetched
use Rattle.serving.specs.declared.tended.JobCame.{JobCame}
use Rattle.serving.specs.declared.tended.JobCame.TheVariants as came
use Rattle.serving.specs.declared.tended.Tended.{Tended}

-- ---- whether anything was done

abbrev pub did_fetch : Fetched → Bool
did_fetch (fetched.Back did) = did
did_fetch _ = false

abbrev pub did_close : Result Bool Refusal → Bool
did_close (Ok did) = did
did_close (Err refusal) = false

abbrev pub did_step : JobCame → Bool
did_step came.Lent = true
did_step (came.Stepped did) = did
did_step _ = false

abbrev pub did_tend : Tended → Bool
did_tend tended = did_close tended.closed || did_step tended.job

-- ---- what was done

-- what is due was closed, or memory for it was refused
abbrev pub ClosesOrLacks : Gathering → ℕ → Bool → Sequencing → Waiting Work → Sequencing → Waiting Work → Gathering → Result Bool Refusal → Type 0
ClosesOrLacks gathering remote is_short old before new after noted (Ok did) = ClosesBoth gathering remote is_short old before new after noted did
ClosesOrLacks gathering remote is_short old before new after noted (Err cause) = (cause ≡ refusal.Memory) × LacksBoth gathering remote is_short old before new after noted

-- by what is known of an engine
module _ {E : Type 0} (device : E → State) (contents : E → Contents) (is_faulted : E → Bool) where
  -- All steps of the job were taken that it was to take, and the front was told of what they gave back. `did` is whether they did anything.
  abbrev pub ComesBack : CommitJob E → CommitJob E → Sequencing → Sequencing → Bool → Type 0
  ComesBack lent job old new did =
      DoesSteps device contents is_faulted lent job × (stepped : Stepped) × (job.came ≡ Ok stepped) × (did ≡ stepped.any) × IsTold stepped.last old new

  -- nothing is ahead, nor may be closed ahead
  abbrev pub HasNoneAhead : Ahead → Type 0
  HasNoneAhead ahead = (ahead.groups.items ≡ []) × (ahead.room ≡ 0)

  -- The job was here; or it was asked for once, and is away by the word that was found, or has come back. Then what was ahead is last in its queue.
  abbrev pub Fetches : Option (CommitJob E) → EndView (CommitJob E) → Ahead → Sequencing → Option (CommitJob E) → EndView (CommitJob E) → Ahead → Sequencing → Fetched → Type 0
  Fetches home lender ahead old home' lender' ahead' new fetched.Here = (home ≢ None) × (home' ≡ home) × (lender' ≡ lender) × (ahead' ≡ ahead) × (new ≡ old)
  Fetches home lender ahead old home' lender' ahead' new (fetched.Away not_yet) =
      (home ≡ None) × (not_yet.found ≢ RETURNED) × (home' ≡ None) × (lender' ≡ record lender { asked = lender.asked + 1; found = not_yet.found }) × (ahead' ≡ ahead) × (new ≡ old)
  Fetches home lender ahead old home' lender' ahead' new (fetched.Back did) =
      (home ≡ None) × (lent : CommitJob E) × (job : CommitJob E) × (wide : CommitJob E) × (lender.value ≡ Some lent) × (home' ≡ Some wide)
      × (lender' ≡ record lender { value = None; asked = lender.asked + 1; found = RETURNED }) × ComesBack lent job old new did
      × IsExtended job ahead.groups.items wide × HasNoneAhead ahead'

  -- whether a step of the job is to be taken, by its remote mark: none is before the standby was heard, whose word is 1 from then on
  abbrev pub is_due : ℕ → Bool → CommitJob E → Bool
  is_due heard is_short job =
      let has_room = nat_lt 0 (known_free job.groups.producer) in
      nat_eq heard 1 && does_step has_room (is_free_worth is_short job.remote (contents job.back.committer.engine).current.floor) (due_now contents job.back.committer job.back.work has_room job.remote)

  -- it commits groups, tells of one or hands one on
  abbrev pub commits_alone : CommitJob E → Bool
  commits_alone job = is_of_commit (due_now contents job.back.committer job.back.work (nat_lt 0 (known_free job.groups.producer)) job.remote)

  -- how much may be closed ahead of the job while it is lent
  abbrev pub room_ahead : CommitJob E → ℕ
  room_ahead job = if commits_alone job then PIPE_ITEMS - length job.back.work.items else 0

  -- Where a step of the job is due it is lent, if steps took long, or else its steps are taken here. Otherwise it rests here. It is lent for commits alone just where
  -- the step that is due is one, and just then groups may be closed ahead.
  abbrev pub HasStepsTaken : ℕ → Bool → CommitJob E → EndView (CommitJob E) → Ahead → Sequencing → Option (CommitJob E) → EndView (CommitJob E) → Ahead → Sequencing → JobCame → Type 0
  HasStepsTaken heard is_short job lender ahead old home' lender' ahead' new came.Away = ⊥
  HasStepsTaken heard is_short job lender ahead old home' lender' ahead' new came.Rests =
      (is_due heard is_short job ≡ false) × (home' ≡ Some job) × (lender' ≡ lender) × (ahead' ≡ ahead) × (new ≡ old)
  HasStepsTaken heard is_short job lender ahead old home' lender' ahead' new came.Lent =
      (is_due heard is_short job ≡ true) × (job.step_time.is_long ≡ true) × (home' ≡ None)
      × (lender' ≡ record lender { value = Some (record job { is_for_commits = commits_alone job }) }) × (ahead' ≡ record ahead { room = room_ahead job }) × (new ≡ old)
  HasStepsTaken heard is_short job lender ahead old home' lender' ahead' new (came.Stepped did) =
      (is_due heard is_short job ≡ true) × (job.step_time.is_long ≡ false) × (job' : CommitJob E) × (home' ≡ Some job') × (lender' ≡ lender) × (ahead' ≡ ahead)
      × ComesBack (record job { is_for_commits = false }) job' old new did

  -- What is due is closed, and then the job, which goes by the remote mark as it was read, is lent, or has its steps taken, or rests: always where the standby was
  -- not heard in this opening. So nothing is made durable before.
  pub record TendsJob (read : MarkView) (is_short : Bool) (gathering noted : Gathering) (job : CommitJob E) (lender : EndView (CommitJob E)) (ahead : Ahead) (old : Sequencing)
      (home' : Option (CommitJob E)) (lender' : EndView (CommitJob E)) (ahead' : Ahead) (new : Sequencing) (tended : Tended) : Type 0 where
    -- once what is due is closed
    pub ready : CommitJob E
    pub between : Sequencing
    pub closes : ClosesOrLacks gathering read.remote is_short old job.back.work between ready.back.work noted tended.closed
    pub committer : ready.back.committer ≡ job.back.committer
    pub by : ready.remote ≡ read.remote
    pub offered : offered_at ready.groups ≡ offered_at job.groups
    pub times : ready.step_time ≡ job.step_time
    pub steps : HasStepsTaken read.heard is_short ready lender ahead between home' lender' ahead' new tended.job

  -- While the job is away no more is closed than what is due ahead.
  abbrev pub Tends : MarkView → Bool → Gathering → Gathering → Option (CommitJob E) → EndView (CommitJob E) → Ahead → Sequencing → Option (CommitJob E) → EndView (CommitJob E) → Ahead → Sequencing
      → Tended → Type 0
  Tends read is_short gathering noted (Some job) lender ahead old home' lender' ahead' new tended = TendsJob read is_short gathering noted job lender ahead old home' lender' ahead' new tended
  Tends read is_short gathering noted None lender ahead old home' lender' ahead' new tended =
      (tended.job ≡ came.Away) × (home' ≡ None) × (lender' ≡ lender) × ClosesAhead gathering read.remote old ahead new ahead' noted tended.closed

  -- A round of the node's thread: it looks for the job, tends it by the marks as they are then, makes what a newcomer is to get next, serves connections, and tends
  -- the job once more. `is_busy` is whether anything was done.
  pub record TakesRound (known : MarkView) (connections : OpenConnections) (gathering : Gathering) (home : Option (CommitJob E)) (lender : EndView (CommitJob E)) (ahead : Ahead)
      (copying : CopyMaker) (old : Sequencing)
      (read : MarkView) (connections' : OpenConnections) (noted : Gathering) (home' : Option (CommitJob E)) (lender' : EndView (CommitJob E)) (ahead' : Ahead)
      (copying' : CopyMaker) (new : Sequencing) (is_busy : Bool) : Type 0 where
    pub fetched : Fetched
    pub home1 : Option (CommitJob E)
    pub lender1 : EndView (CommitJob E)
    pub ahead1 : Ahead
    pub told : Sequencing
    pub fetches : Fetches home lender ahead old home1 lender1 ahead1 told fetched
    pub mark : MarkView
    pub before : Tended
    pub noted1 : Gathering
    pub home2 : Option (CommitJob E)
    pub lender2 : EndView (CommitJob E)
    pub ahead2 : Ahead
    pub tended : Sequencing
    pub tends : Tends mark connections.is_short gathering noted1 home1 lender1 ahead1 told home2 lender2 ahead2 tended before
    pub made : CopyMade
    pub copied : Sequencing
    -- by the local mark that was known then
    pub local : ℕ
    pub makes : MakesCopy local copying tended copying' copied made
    pub has_served : Bool
    pub served : Sequencing
    pub serves : Serves copied served
    pub visits : ServesRound noted1.closed connections connections' copied served
    pub after : Tended
    pub tends_again : Tends read connections'.is_short (record (with_copy copying'.stage noted1) { lines = connections'.filling.lines }) noted home2 lender2 ahead2 served home' lender' ahead' new after
    pub rises : (known.remote ≤ mark.remote) × (mark.remote ≤ read.remote) × (known.heard ≡ 1 → mark.heard ≡ 1) × (mark.heard ≡ 1 → read.heard ≡ 1)
    pub shown : (mark.local ≤ local) × (local ≤ read.local)
    pub is_busy_is : is_busy ≡ (((did_fetch fetched || did_make made) || has_served) || (did_tend before || did_tend after))
