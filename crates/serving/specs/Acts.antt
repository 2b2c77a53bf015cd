-- What a round of the node's thread did, as events of the machine.
use Rattle.std.specs.Prelude.{◌≡◌, ◌≢◌, ◌⊎◌, ℕ, Bool, List, [], ◌++◌, length, Option, Some, None, Err, true, is_ok}
use Rattle.std.specs.List.{flat_map}
use Rattle.pmem.specs.Device.{State}
use Rattle.kv_types.specs.declared.refusal.Refusal.TheVariants as refusal
use Rattle.lending.specs.declared.view.EndView.{EndView}
use Rattle.marks.specs.declared.view.MarkView.{MarkView}
use Rattle.model.specs.declared.group.Group.{Group}
use Rattle.model.specs.Group.{Contents}
use Rattle.pipes.specs.declared.ring_pipe.RingOutlet.{RingOutlet}
use Rattle.pipes.specs.Ring.{offered_at}
use Rattle.connections.specs.Session.{HasSeat}
use Rattle.redis_core.specs.Sequencing.{Sequencing}
use Rattle.group_commit.specs.Committing.{in_hand}
use Rattle.group_commit.specs.declared.stage.Stage.{Stage}
use Rattle.primary.specs.declared.back.Back.{Back}
use Rattle.node_steps.specs.Acts.{Act, AreActs, handed_by}
use Rattle.node_steps.specs.Clauses.{node_of}
use Rattle.node_steps.specs.Law.{with_seats}
use Rattle.node_steps.specs.Node.{Node}
use Rattle.serving.specs.CommitJob.{FitsBehind, IsExtended, IsStep}
use Rattle.serving.specs.declared.ahead.Ahead.{Ahead}
use Rattle.serving.specs.Places.{connection_at}
use Rattle.serving.specs.Tending.{TakesRound}
use Rattle.serving.specs.Visiting.{Admits, floor_of}
use Rattle.serving.specs.declared.commit_job.CommitJob.{CommitJob}
use Rattle.serving.specs.declared.copying.CopyMaker.{CopyMaker}
use Rattle.serving.specs.declared.gathering.Gathering.{Gathering}
use Rattle.serving.specs.declared.open_connection.OpenConnection.{OpenConnection}
use Rattle.serving.specs.declared.open_connections.OpenConnections.{OpenConnections}
use Rattle.serving.specs.declared.tended.Tended.{Tended}

-- ---- who has which seat

-- who is at a place has its seat, as one of the machine's connections
abbrev pub AreSeated : List (Option ℕ) → List (Option OpenConnection) → Type 0
AreSeated seats places =
    (k : ℕ) (connection : OpenConnection) → connection_at places k ≡ Some connection → (connection.arrival.seat ≡ k) × (c : ℕ) × HasSeat seats c k

-- ---- the front

-- What the front did is a list of acts, whatever the back has meanwhile, and nothing went to the link by it. `seats` say which seat each of the machine's connections has.
pub record ServesActs (seats : List (Option ℕ)) (old : Sequencing) (seats' : List (Option ℕ)) (new : Sequencing) : Type 0 where
  pub acts : List Act
  pub are : (node : Node) → AreActs (with_seats seats old node) acts (with_seats seats' new node)
  pub none_handed : flat_map handed_by acts ≡ []

-- ---- the back

-- the groups that were offered to the link, and behind them those in hand, the first of which is offered next
abbrev pub offered_or_in_hand : {P : Type 0} → RingOutlet Group P → Stage → List Group
offered_or_in_hand link stage = offered_at link ++ in_hand stage

-- by what is known of an engine
module _ {E : Type 0} (device : E → State) (contents : E → Contents) (is_faulted : E → Bool) where
  -- what the thread has, with this sequencer and this job, to which nothing is to be told
  abbrev pub node_at : List (Option ℕ) → Sequencing → CommitJob E → Node
  node_at seats s job = node_of device contents is_faulted seats s [] job.back.committer job.back.work

  -- What was done is a list of acts, and each group that they hand on was offered to the link, or is in hand and comes next there: with none in hand before and
  -- after, just those were offered.
  pub record DoesActs (seats : List (Option ℕ)) (old : Sequencing) (job : CommitJob E) (seats' : List (Option ℕ)) (new : Sequencing) (job' : CommitJob E) : Type 0 where
    pub acts : List Act
    pub are : AreActs (node_at seats old job) acts (node_at seats' new job')
    pub offered : offered_or_in_hand job'.groups job'.back.committer.stage
        ≡ offered_or_in_hand job.groups job.back.committer.stage ++ flat_map handed_by acts

  -- The last step was to free a list, for which the lists that waited had gone aside, and memory for that was refused: of this the machine has no event.
  abbrev pub FreesInVain : {P : Type 0} → ℕ → Back E → RingOutlet Group P → Type 0
  FreesInVain {P} remote new link' =
      (before : Back E) × (link : RingOutlet Group P) × IsStep device contents is_faulted remote before link (Err refusal.Memory) new link'
      × (length new.committer.aside.items ≢ length before.committer.aside.items)

  abbrev pub SetsAsideInVain : CommitJob E → Type 0
  SetsAsideInVain job = FreesInVain job.remote job.back job.groups

  -- the job is here, and nothing is ahead; or it is lent, and this is what it was when it was lent, with what is ahead last in its queue
  abbrev pub IsJob : Option (CommitJob E) → EndView (CommitJob E) → Ahead → CommitJob E → Type 0
  IsJob (Some here) lender ahead job = (here ≡ job) × (ahead.groups.items ≡ [])
  IsJob None lender ahead job = (lent : CommitJob E) × (lender.value ≡ Some lent) × FitsBehind lent ahead × IsExtended lent ahead.groups.items job

  -- Memory for what is due to be closed was not refused.
  abbrev pub ClosesAll : Tended → Type 0
  ClosesAll tended = is_ok tended.closed ≡ true

  -- What was done is acts, from one job to the other; unless lists went aside in vain at its end.
  abbrev pub DoesOrVain : List (Option ℕ) → Sequencing → CommitJob E → List (Option ℕ) → Sequencing → CommitJob E → Type 0
  DoesOrVain seats old job seats' new job' = DoesActs seats old job seats' new job' ⊎ SetsAsideInVain job'

  module _ (known : MarkView) (connections : OpenConnections) (gathering : Gathering) (home : Option (CommitJob E)) (lender : EndView (CommitJob E)) (ahead : Ahead)
      (copying : CopyMaker) (old : Sequencing)
      (read : MarkView) (connections' : OpenConnections) (noted : Gathering) (home' : Option (CommitJob E)) (lender' : EndView (CommitJob E)) (ahead' : Ahead)
      (copying' : CopyMaker) (new : Sequencing) (is_busy : Bool)
      (round : TakesRound device contents is_faulted known connections gathering home lender ahead copying old read connections' noted home' lender' ahead' copying' new is_busy) where
    -- the job as the round found it, as it left it before the connections were served, or as it left it
    abbrev pub IsOfRound : CommitJob E → Type 0
    IsOfRound at = IsJob round.home1 round.lender1 round.ahead1 at ⊎ IsJob round.home2 round.lender2 round.ahead2 at ⊎ IsJob home' lender' ahead' at

    -- The round, from one job to the other, is acts; unless lists went aside in vain in it.
    pub record RoundDoesActs (seats : List (Option ℕ)) (job : CommitJob E) : Type 0 where
      pub seats' : List (Option ℕ)
      pub job' : CommitJob E
      pub is_job : IsJob home' lender' ahead' job'
      pub seated : AreSeated seats' connections'.places.connections.items
      pub does : DoesActs seats old job seats' new job' ⊎ (at : CommitJob E) × IsOfRound at × SetsAsideInVain at

  -- A round of the node's thread is a list of acts. Who was admitted in it is this connection of the machine, if it has no seat and nobody else has the one that it got.
  abbrev pub RoundsAreActs : Type 0
  RoundsAreActs =
      (seats : List (Option ℕ)) (c : ℕ) (known : MarkView) (connections : OpenConnections) (gathering : Gathering) (home : Option (CommitJob E)) (lender : EndView (CommitJob E)) (ahead : Ahead)
      (copying : CopyMaker) (old : Sequencing)
      (read : MarkView) (connections' : OpenConnections) (noted : Gathering) (home' : Option (CommitJob E)) (lender' : EndView (CommitJob E)) (ahead' : Ahead)
      (copying' : CopyMaker) (new : Sequencing) (is_busy : Bool) (job : CommitJob E)
      → (round : TakesRound device contents is_faulted known connections gathering home lender ahead copying old read connections' noted home' lender' ahead' copying' new is_busy)
      → ClosesAll round.before → ClosesAll round.after → IsJob home lender ahead job → AreSeated seats connections.places.connections.items
      → ((other : ℕ) → ¬ HasSeat seats c other) → ((admits : Admits (floor_of connections round.copied) round.visits.admitted) (d : ℕ) → ¬ HasSeat seats d admits.connection.arrival.seat)
      → RoundDoesActs known connections gathering home lender ahead copying old read connections' noted home' lender' ahead' copying' new is_busy round seats job
