-- A round of the node's thread is acts.
use Rattle.std.proofs.Common.{◌⊎◌, inl, inr, ℕ, Bool, List, ◌++◌, Option, sym, ap, ◌∙◌, append_assoc, append-nil}
use Rattle.std.proofs.lemmas.Grind.{flat_map-append}
use Rattle.std.specs.List.{flat_map}
use Rattle.pmem.specs.Device.{State}
use Rattle.model.specs.declared.group.Group.{Group}
use Rattle.model.specs.Group.{Contents}
use Rattle.redis_core.specs.Sequencing.{Sequencing}
use Rattle.node_steps.specs.Acts.{handed_by}
use Rattle.node_steps.proofs.HistoryLemmas.{acts-append}
use Rattle.serving.specs.Acts.{DoesActs, DoesOrVain, IsOfRound, RoundsAreActs, ServesActs, SetsAsideInVain, node_at, offered_or_in_hand}
use Rattle.serving.specs.Gathering.{with_copy}
use Rattle.serving.specs.declared.commit_job.CommitJob.{CommitJob}
use Rattle.serving.proofs.StepActs.{fetches-acts, tends-acts}
use Rattle.serving.proofs.CopyLemmas.{copied-acts, makes-alone}
use Rattle.serving.proofs.VisitActs.{serves-acts, serves-then}

module _ {E : Type 0} (device : E → State) (contents : E → Contents) (is_faulted : E → Bool) where
  abbrev Does : List (Option ℕ) → Sequencing → CommitJob E → List (Option ℕ) → Sequencing → CommitJob E → Type 0
  Does = DoesActs device contents is_faulted

  -- what was offered to its link, or is in hand
  abbrev gone_of : CommitJob E → List Group
  gone_of job = offered_or_in_hand job.groups job.back.committer.stage

  does-then : (seats at seats' : List (Option ℕ)) (old middle new : Sequencing) (job between job' : CommitJob E) → Does seats old job at middle between → Does at middle between seats' new job' → Does seats old job seats' new job'
  does-then seats at seats' old middle new job between job' first second = record {
    acts = first.acts ++ second.acts;
    are = acts-append (node_at device contents is_faulted seats old job) (node_at device contents is_faulted at middle between) (node_at device contents is_faulted seats' new job') first.acts second.acts first.are second.are;
    offered = second.offered ∙ ap (λ (xs : List Group). xs ++ flat_map handed_by second.acts) first.offered
        ∙ append_assoc (gone_of job) (flat_map handed_by first.acts) (flat_map handed_by second.acts)
        ∙ ap (λ (xs : List Group). gone_of job ++ xs) (sym (flat_map-append handed_by first.acts second.acts));
  }

  -- the front's, while the job is as it was
  serves-does : (seats seats' : List (Option ℕ)) (old new : Sequencing) (job : CommitJob E) → ServesActs seats old seats' new → Does seats old job seats' new job
  serves-does seats seats' old new job serves = record {
    acts = serves.acts;
    are = serves.are (node_at device contents is_faulted seats old job);
    offered = sym (ap (λ (xs : List Group). gone_of job ++ xs) serves.none_handed ∙ append-nil (gone_of job));
  }

  -- all of a round: the job was fetched, tended, connections were served, and it was tended again; each of the three jobs is one of it
  all-does : (Of : CommitJob E → Type 0) (seats seats' : List (Option ℕ)) (old told tended served new : Sequencing) (job job1 job2 job3 : CommitJob E)
      → DoesOrVain device contents is_faulted seats old job seats told job1 → DoesOrVain device contents is_faulted seats told job1 seats tended job2 → ServesActs seats tended seats' served
      → DoesOrVain device contents is_faulted seats' served job2 seats' new job3 → Of job1 → Of job2 → Of job3
      → Does seats old job seats' new job3 ⊎ (at : CommitJob E) × Of at × SetsAsideInVain device contents is_faulted at
  all-does Of seats seats' old told tended served new job job1 job2 job3 (inr vain) second serves third of1 of2 of3 = inr (job1, of1, vain)
  all-does Of seats seats' old told tended served new job job1 job2 job3 (inl first) (inr vain) serves third of1 of2 of3 = inr (job2, of2, vain)
  all-does Of seats seats' old told tended served new job job1 job2 job3 (inl first) (inl second) serves (inr vain) of1 of2 of3 = inr (job3, of3, vain)
  all-does Of seats seats' old told tended served new job job1 job2 job3 (inl first) (inl second) serves (inl third) of1 of2 of3 =
      inl (does-then seats seats seats' old told new job job1 job3 first
      (does-then seats seats seats' told tended new job1 job2 job3 second
      (does-then seats seats' seats' tended served new job2 job2 job3 (serves-does seats seats' tended served job2 serves) third)))

  pub rounds-are : RoundsAreActs device contents is_faulted
  rounds-are seats c known connections gathering home lender ahead copying old read connections' noted home' lender' ahead' copying' new is_busy job round closed closed' is seated unseated free =
      let first = fetches-acts device contents is_faulted seats home lender ahead old round.home1 round.lender1 round.ahead1 round.told round.fetched job is round.fetches in
      let second = tends-acts device contents is_faulted seats round.mark connections.is_short gathering round.noted1 round.home1 round.lender1 round.ahead1 round.told round.home2 round.lender2 round.ahead2 round.tended round.before first.job'
      closed first.is_job round.tends in
      let visits = serves-acts seats c round.noted1.closed connections connections' round.copied round.served seated round.visits unseated free in
      let served = serves-then (copied-acts seats round.tended round.copied (makes-alone round.local copying copying' round.tended round.copied round.made round.makes)) visits.serves in
      let third = tends-acts device contents is_faulted visits.seats' read connections'.is_short (record (with_copy copying'.stage round.noted1) { lines = connections'.filling.lines }) noted round.home2 round.lender2 round.ahead2 round.served home' lender' ahead' new round.after second.job'
      closed' second.is_job round.tends_again in
      record {
        seats' = visits.seats';
        job' = third.job';
        is_job = third.is_job;
        seated = visits.seated;
        does = all-does (IsOfRound device contents is_faulted known connections gathering home lender ahead copying old read connections' noted home' lender' ahead' copying' new is_busy round)
            seats visits.seats' old round.told round.tended round.served new job first.job' second.job' third.job' first.does second.does served third.does
            (inl first.is_job) (inr (inl second.is_job)) (inr (inr third.is_job));
      }
