-- What a round does with the committer's job, put together.
use Rattle.std.proofs.Common.{◌≡◌, ℕ, Bool, true, false, ◌&&◌, nat_eq, nat_lt, if◌then◌else◌, Option, Some, None, Result, Ok, Err, IfOk, IfErr, OnErr, ap, sym, subst, ◌∙◌}
use Rattle.pmem.specs.Device.{State}
use Rattle.kv_types.specs.declared.refusal.Refusal.{Refusal}
use Rattle.kv_types.specs.declared.refusal.Refusal.TheVariants as refusal
use Rattle.lending.specs.declared.view.EndView.{EndView}
use Rattle.marks.specs.declared.view.MarkView.{MarkView}
use Rattle.model.specs.declared.work.Work.{Work}
use Rattle.model.specs.Group.{Contents}
use Rattle.pipes.specs.Waiting.{Waiting}
use Rattle.redis_core.specs.Sequencing.{Sequencing}
use Rattle.group_commit.specs.Due.{due_now}
use Rattle.primary.specs.Ahead.{is_of_commit}
use Rattle.primary.specs.declared.back.Back.{Back}
use Rattle.serving.specs.Closing.{ClosesAhead, ClosesBoth, LacksBoth}
use Rattle.serving.specs.Steps.{does_step, is_free_worth}
use Rattle.serving.specs.Tending.{ClosesOrLacks, Tends, TendsJob}
use Rattle.serving.specs.declared.ahead.Ahead.{Ahead}
use Rattle.serving.specs.declared.commit_job.CommitJob.{CommitJob}
use Rattle.serving.specs.declared.gathering.Gathering.{Gathering}
use Rattle.serving.specs.declared.tended.JobCame.TheVariants as came
use Rattle.serving.specs.declared.tended.Tended.{Tended}

pub closes-or-lacks : (gathering noted : Gathering) (remote : ℕ) (is_short : Bool) (old new : Sequencing) (before after : Waiting Work) (closed : Result Bool Refusal)
    → IfOk closed (λ did. ClosesBoth gathering remote is_short old before new after noted did) → IfErr closed (λ cause. cause ≡ refusal.Memory)
    → OnErr closed (LacksBoth gathering remote is_short old before new after noted) → ClosesOrLacks gathering remote is_short old before new after noted closed
closes-or-lacks gathering noted remote is_short old new before after (Ok did) closes memory lacks = closes
closes-or-lacks gathering noted remote is_short old new before after (Err cause) closes memory lacks = (memory, lacks)

-- by the word that was found of whether the standby was heard
pub due-by : (word : ℕ) (heard due found is : Bool) → word ≡ (if heard then 1 else 0) → (heard && due) ≡ found → found ≡ is → (nat_eq word 1 && due) ≡ is
due-by word true due found is word_is due_is found_is = ap (λ (n : ℕ). nat_eq n 1 && due) word_is ∙ due_is ∙ found_is
due-by word false due found is word_is due_is found_is = ap (λ (n : ℕ). nat_eq n 1 && due) word_is ∙ due_is ∙ found_is

-- by the room that was found at the link
module _ {E : Type 0} (contents : E → Contents) (back : Back E) (found : Bool) (known room remote : ℕ) (same : room ≡ known) where
  pub due-known : (heard is_short : Bool)
      → found ≡ (heard && does_step (nat_lt 0 room) (is_free_worth is_short remote (contents back.committer.engine).current.floor) (due_now contents back.committer back.work (nat_lt 0 room) remote))
      → (heard && does_step (nat_lt 0 known) (is_free_worth is_short remote (contents back.committer.engine).current.floor) (due_now contents back.committer back.work (nat_lt 0 known) remote)) ≡ found
  due-known heard is_short is =
      sym (subst (λ (n : ℕ). found ≡ (heard && does_step (nat_lt 0 n) (is_free_worth is_short remote (contents back.committer.engine).current.floor) (due_now contents back.committer back.work (nat_lt 0 n) remote)))
      same is)

  pub commits-known : found ≡ is_of_commit (due_now contents back.committer back.work (nat_lt 0 room) remote) → found ≡ is_of_commit (due_now contents back.committer back.work (nat_lt 0 known) remote)
  commits-known is = subst (λ (n : ℕ). found ≡ is_of_commit (due_now contents back.committer back.work (nat_lt 0 n) remote)) same is

-- what was known before is found
pub heard-known : (word before : ℕ) (found : Bool) → word ≡ (if found then 1 else 0) → (before ≡ 1 → found ≡ true) → before ≡ 1 → word ≡ 1
heard-known word before found is known was = is ∙ ap (λ (b : Bool). if b then 1 else 0) (known was)

module _ {E : Type 0} (device : E → State) (contents : E → Contents) (is_faulted : E → Bool) where
  pub tends-home : (read : MarkView) (is_short : Bool) (gathering noted : Gathering) (home : Option (CommitJob E)) (job : CommitJob E) (lender : EndView (CommitJob E)) (ahead : Ahead) (old : Sequencing)
      (home' : Option (CommitJob E)) (lender' : EndView (CommitJob E)) (ahead' : Ahead) (new : Sequencing) (tended : Tended) → home ≡ Some job
      → TendsJob device contents is_faulted read is_short gathering noted job lender ahead old home' lender' ahead' new tended
      → Tends device contents is_faulted read is_short gathering noted home lender ahead old home' lender' ahead' new tended
  tends-home read is_short gathering noted home job lender ahead old home' lender' ahead' new tended is tends =
      subst (λ (h : Option (CommitJob E)). Tends device contents is_faulted read is_short gathering noted h lender ahead old home' lender' ahead' new tended) (sym is) tends

  pub tends-away : (read : MarkView) (is_short : Bool) (gathering noted : Gathering) (home : Option (CommitJob E)) (lender : EndView (CommitJob E)) (ahead : Ahead) (old : Sequencing)
      (home' : Option (CommitJob E)) (lender' : EndView (CommitJob E)) (ahead' : Ahead) (new : Sequencing) (tended : Tended) → home ≡ None → tended.job ≡ came.Away → home' ≡ None → lender' ≡ lender
      → ClosesAhead gathering read.remote old ahead new ahead' noted tended.closed
      → Tends device contents is_faulted read is_short gathering noted home lender ahead old home' lender' ahead' new tended
  tends-away read is_short gathering noted home lender ahead old home' lender' ahead' new tended is away home_is lender_is closes =
      subst (λ (h : Option (CommitJob E)). Tends device contents is_faulted read is_short gathering noted h lender ahead old home' lender' ahead' new tended) (sym is) (away, home_is, lender_is, closes)

  -- said of other names of the same
  pub tends-same : (read : MarkView) (short short' : Bool) (gathering gathering' noted : Gathering) (home home1 : Option (CommitJob E)) (lender lender1 : EndView (CommitJob E)) (ahead ahead1 : Ahead) (old : Sequencing)
      (home' : Option (CommitJob E)) (lender' : EndView (CommitJob E)) (ahead' : Ahead) (new : Sequencing) (tended : Tended) → short ≡ short' → gathering ≡ gathering' → home ≡ home1 → lender ≡ lender1 → ahead ≡ ahead1
      → Tends device contents is_faulted read short gathering noted home lender ahead old home' lender' ahead' new tended
      → Tends device contents is_faulted read short' gathering' noted home1 lender1 ahead1 old home' lender' ahead' new tended
  tends-same read short short' gathering gathering' noted home home1 lender lender1 ahead ahead1 old home' lender' ahead' new tended is_short is_gathering is_home is_lender is_ahead tends =
      subst (λ (a : Ahead). Tends device contents is_faulted read short' gathering' noted home1 lender1 a old home' lender' ahead' new tended) is_ahead
      (subst (λ (l : EndView (CommitJob E)). Tends device contents is_faulted read short' gathering' noted home1 l ahead old home' lender' ahead' new tended) is_lender
      (subst (λ (h : Option (CommitJob E)). Tends device contents is_faulted read short' gathering' noted h lender ahead old home' lender' ahead' new tended) is_home
      (subst (λ (g : Gathering). Tends device contents is_faulted read short' g noted home lender ahead old home' lender' ahead' new tended) is_gathering
      (subst (λ (s : Bool). Tends device contents is_faulted read s gathering noted home lender ahead old home' lender' ahead' new tended) is_short tends))))
