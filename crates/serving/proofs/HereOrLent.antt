-- A job that is here or lent, as the sequencer goes on.
use Rattle.std.proofs.Common.{◌≡◌, ℕ, Bool, true, false, List, [], ◌∷◌, length, Option, Some, None, Result, Ok, Err, ap, subst, sym, ◌∙◌, append-nil, arith, length-append}
use Rattle.pmem.specs.Device.{State}
use Rattle.kv_types.specs.declared.refusal.Refusal.{Refusal}
use Rattle.model.specs.declared.work.Work.{Work}
use Rattle.model.specs.declared.work.Work.TheVariants as work
use Rattle.model.specs.Group.{Contents}
use Rattle.redis_core.specs.Sequencing.{Sequencing}
use Rattle.primary.specs.declared.back.Back.{Back}
use Rattle.primary.specs.Ahead.{GoesAhead}
use Rattle.primary.specs.Leading.{KeepsLead}
use Rattle.primary.specs.Standing.{BackStands, StandsOver}
use Rattle.serving.specs.declared.ahead.Ahead.{Ahead}
use Rattle.serving.specs.declared.commit_job.CommitJob.{CommitJob}
use Rattle.serving.specs.Closing.{ClosesAhead}
use Rattle.serving.specs.declared.gathering.Gathering.{Gathering}
use Rattle.serving.specs.CommitJob.{FitsBehind, IsHereOrLent, IsShown, StandsBehind}

module _ {E : Type 0} (device : E → State) (contents : E → Contents) where
  still_led : (back : Back E) (behind : List Work) (old new : Sequencing) → KeepsLead old new → StandsBehind device contents back behind old → StandsBehind device contents back behind new
  still_led back behind old new keeps stands = record { leads = keeps _ _ _ stands.leads; consistent = stands.consistent; laid = stands.laid; durable = stands.durable }

  -- with nothing behind its queue
  pub alone-behind : (back : Back E) (s : Sequencing) → BackStands device contents back s [] → StandsBehind device contents back [] s
  alone-behind back s over =
      subst (λ (items : List Work). StandsOver (device back.committer.engine) (contents back.committer.engine) items back.committer.aside.items s []) (sym (append-nil back.work.items)) over

  pub behind-alone : (back : Back E) (s : Sequencing) → StandsBehind device contents back [] s → BackStands device contents back s []
  behind-alone back s over =
      subst (λ (items : List Work). StandsOver (device back.committer.engine) (contents back.committer.engine) items back.committer.aside.items s []) (append-nil back.work.items) over

  -- wherever it is, the sequencer stays ahead of it
  pub here_or_lent_still : (home lent : Option (CommitJob E)) (ahead : Ahead) (old new : Sequencing) → KeepsLead old new → IsHereOrLent device contents home lent ahead old
      → IsHereOrLent device contents home lent ahead new
  here_or_lent_still (Some job) lent ahead old new keeps is =
      (is.0, behind-alone job.back new (still_led job.back [] old new keeps (alone-behind job.back old is.1)), is.2, is.3)
  here_or_lent_still None lent ahead old new keeps is = (is.0, is.1, still_led is.0.back ahead.groups.items old new keeps is.2, is.3)

  abbrev job-in : Option (CommitJob E) → CommitJob E → CommitJob E
  job-in (Some job) other = job
  job-in None other = other

  -- one that is lent is just that, with what is ahead behind its queue
  pub lent_stands : (home lent : Option (CommitJob E)) (ahead : Ahead) (s : Sequencing) → home ≡ None → IsHereOrLent device contents home lent ahead s
      → (job : CommitJob E) → lent ≡ Some job → StandsBehind device contents job.back ahead.groups.items s × FitsBehind job ahead
  lent_stands home lent ahead s none is job lent_is =
      let out = rw none at is in
      subst (λ (job : CommitJob E). StandsBehind device contents job.back ahead.groups.items s × FitsBehind job ahead)
      (ap (λ (there : Option (CommitJob E)). job-in there job) (sym out.1 ∙ lent_is)) (out.2, out.3)

  -- of one that is here all is shown, and nothing is ahead
  module _ (home lent : Option (CommitJob E)) (ahead : Ahead) (s : Sequencing) (job : CommitJob E) (is : home ≡ Some job) (stood : IsHereOrLent device contents home lent ahead s) where
    here-is : IsHereOrLent device contents (Some job) lent ahead s
    here-is = subst (λ (at : Option (CommitJob E)). IsHereOrLent device contents at lent ahead s) is stood

    pub here-shown : IsShown device contents job.back job.marks
    here-shown = here-is.2

    pub here-none : ahead.groups.items ≡ []
    here-none = here-is.3

    -- and it is here again
    pub here-then : (home' : Option (CommitJob E)) (job' : CommitJob E) (s' : Sequencing) → home' ≡ Some job' → BackStands device contents job'.back s' [] → IsShown device contents job'.back job'.marks
        → IsHereOrLent device contents home' lent ahead s'
    here-then home' job' s' is' over shown =
        subst (λ (at : Option (CommitJob E)). IsHereOrLent device contents at lent ahead s') (sym is') (here-is.0, over, shown, here-is.3)

  -- while it is lent, a group is closed ahead, or none
  pub ahead_closed : (lent : Option (CommitJob E)) (gathering noted : Gathering) (remote : ℕ) (before after : Ahead) (old new : Sequencing) (closed : Result Bool Refusal)
      → GoesAhead old before.groups.items new after.groups.items → ClosesAhead gathering remote old before new after noted closed → IsHereOrLent device contents None lent before old
      → IsHereOrLent device contents None lent after new
  ahead_closed lent gathering noted remote before after old new closed goes closes is =
      let back = is.0.back in
      (is.0, is.1, goes.stands (device back.committer.engine) (contents back.committer.engine) back.work.items back.committer.aside.items [] is.2, by closed closes)
    where
      by : (closed : Result Bool Refusal) → ClosesAhead gathering remote old before new after noted closed → FitsBehind is.0 after
      by (Ok true) (due, one, room, now_noted) =
          let last = ap length one.last ∙ length-append before.groups.items (work.Commit one.group ∷ []) in
          record { fits = omega (arith, is.3.fits, room, last); none = λ other. absurd (let none = is.3.none other in omega (arith, none.1, room)) }
      by (Ok false) (never, same, same_ahead, same_noted) = rw same_ahead is.3
      by (Err cause) (memory, due, same, items, room, same_noted) = record {
        fits = omega (arith, is.3.fits, room, ap length items);
        none = λ other. let none = is.3.none other in (items ∙ none.0, room ∙ none.1);
      }
