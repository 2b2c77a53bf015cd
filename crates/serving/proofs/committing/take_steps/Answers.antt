use Rattle.std.proofs.Common.{rules, ◌≡◌, ◌+◌, nat_lt, Bool, true≢false, false, ◌||◌, [], ◌∷◌, ◌++◌, Err, Result, sym, ap, subst, ◌∙◌, arith}
use Rattle.std.proofs.lemmas.Result.{err_from_is_err_and}
use Rattle.kv_types.specs.declared.refusal.Refusal.{Refusal}
use Rattle.group_commit.specs.declared.stage.Done.{Done}
use Rattle.rtrb.specs.Ring.{known_free}
use Rattle.pipes.specs.Ring.{offered_at}
use Rattle.serving.specs.Keeping.{KeepsThrough}
use Rattle.serving.proofs.EndingLemmas.{ends-here, ends-most, ends-refused, none-yet, one-more}
use Rattle.serving.specs.declared.committing.TheConstants.{MOST_STEPS}
use Rattle.serving.proofs.InHandLemmas.{goes-with, in-hand-now, only-then, suits-then}
use Rattle.serving.proofs.KeepingLemmas.{through-err, through-none, through-ok, through-then}
use Rattle.serving.proofs.StepsLemmas.{steps-more}
use Rattle.serving.proofs.committing.take_steps.Goals as goal

pub loop-init : goal.loop-init
loop-init g c =
    let E = g.E.Durable in
    (c.requires.stands, c.requires.shown, (λ s over. over), ([], (search rules, search rules), none-yet), through-none E.device E.contents E.is_faulted c.args.remote c.args.back.now false, c.requires.first)

pub returns-in_err-done-clause-steps : goal.returns-in_err-done-clause-steps
returns-in_err-done-clause-steps g c =
    let E = g.E.Durable in
    let before = c.loop.invariant.3 in
    let step = c.take_step.ensures.step in
    let exit = err_from_is_err_and c.from_residual.result c.from_residual.ensures.1 in (
      before.0 ++ step.0 ∷ [],
      steps-more E.device E.contents E.is_faulted c.args.is_for_commits c.args.remote c.args.back.now c.loop.back c.take_step.new.back c.args.groups.now c.loop.groups c.take_step.new.groups
          before.0 step.0 before.1 step.1
          (λ is.
          suits-then E.device E.contents E.is_faulted offered_at (λ end. known_free end.producer) c.loop.back.committer c.take_step.new.back.committer c.loop.back.work c.take_step.new.back.work
          c.loop.groups c.take_step.new.groups c.args.remote step.0 step.1 (c.loop.invariant.5 is)),
      ends-refused c.args.is_for_commits before.0 c.loop.counter c.loop.any step.0 c.in_err-done.field-0.0 c.from_residual.result before.2 (omega (arith, c.loop-test.true))
          (sym c.in_err-done.was ∙ step.2) (exit.1 ∙ ap Err exit.2),
    )

-- the steps before, and this one
pub returns-in_err-done-clause-past : goal.returns-in_err-done-clause-past
returns-in_err-done-clause-past g c =
    let E = g.E.Durable in
    let exit = err_from_is_err_and c.from_residual.result c.from_residual.ensures.1 in
    let past = through-then E.device E.contents E.is_faulted c.args.remote c.args.back.now c.loop.back c.take_step.new.back c.loop.any c.take_step.result c.loop.invariant.2 c.loop.invariant.4
    c.take_step.ensures.past in
    through-err E.device E.contents E.is_faulted c.args.remote c.args.back.now c.take_step.new.back c.in_err-done.field-0.0 c.from_residual.result exit.0 exit.1
    (subst (λ (r : Result Done Refusal). KeepsThrough E.device E.contents E.is_faulted c.args.remote c.args.back.now r c.take_step.new.back) c.in_err-done.was past)

pub returns-then-not-gives_nothing_back-clause-past : goal.returns-then-not-gives_nothing_back-clause-past
returns-then-not-gives_nothing_back-clause-past g c =
    let E = g.E.Durable in
    let past = through-then E.device E.contents E.is_faulted c.args.remote c.args.back.now c.loop.back c.take_step.new.back c.loop.any c.take_step.result c.loop.invariant.2 c.loop.invariant.4
    c.take_step.ensures.past in
    through-ok E.device E.contents E.is_faulted c.args.remote c.args.back.now c.take_step.new.back c.in_ok-done.done _
    (subst (λ (r : Result Done Refusal). KeepsThrough E.device E.contents E.is_faulted c.args.remote c.args.back.now r c.take_step.new.back) c.in_ok-done.was past)

pub returns-clause-past : goal.returns-clause-past
returns-clause-past g c =
    let E = g.E.Durable in
    through-ok E.device E.contents E.is_faulted c.args.remote c.args.back.now c.loop.back c.loop.any _ c.loop.invariant.4

pub returns-then-not-gives_nothing_back-clause-stands : goal.returns-then-not-gives_nothing_back-clause-stands
returns-then-not-gives_nothing_back-clause-stands g c = λ s over. c.in_ok-done.ensures.stands s (c.loop.invariant.2 s over)

pub returns-then-not-gives_nothing_back-clause-steps : goal.returns-then-not-gives_nothing_back-clause-steps
returns-then-not-gives_nothing_back-clause-steps g c =
    let E = g.E.Durable in
    let before = c.loop.invariant.3 in
    let step = c.take_step.ensures.step in (
      before.0 ++ step.0 ∷ [],
      steps-more E.device E.contents E.is_faulted c.args.is_for_commits c.args.remote c.args.back.now c.loop.back c.take_step.new.back c.args.groups.now c.loop.groups c.take_step.new.groups
          before.0 step.0 before.1 step.1
          (λ is.
          suits-then E.device E.contents E.is_faulted offered_at (λ end. known_free end.producer) c.loop.back.committer c.take_step.new.back.committer c.loop.back.work c.take_step.new.back.work
          c.loop.groups c.take_step.new.groups c.args.remote step.0 step.1 (c.loop.invariant.5 is)),
      ends-here c.args.is_for_commits before.0 c.loop.counter c.loop.any _ step.0 c.in_ok-done.done before.2 (omega (arith, c.loop-test.true)) (sym c.in_ok-done.was ∙ step.2)
          (sym c.gives_nothing_back.ensures.passed ∙ search rules) (ap (λ (b : Bool). c.loop.any || b) c.is_something-any.ensures),
    )

-- nothing is in hand
pub returns-then-is_over-clause-stands : goal.returns-then-is_over-clause-stands
returns-then-is_over-clause-stands g c = λ s over. rw (c.gives_nothing_back.ensures.nothing (search rules)) at (c.in_ok-done.ensures.stands s (c.loop.invariant.2 s over))

pub returns-then-is_over-clause-past : goal.returns-then-is_over-clause-past
returns-then-is_over-clause-past g c =
    let E = g.E.Durable in
    let past = through-then E.device E.contents E.is_faulted c.args.remote c.args.back.now c.loop.back c.take_step.new.back c.loop.any c.take_step.result c.loop.invariant.2 c.loop.invariant.4
    c.take_step.ensures.past in
    through-ok E.device E.contents E.is_faulted c.args.remote c.args.back.now c.take_step.new.back c.in_ok-done.done _
    (subst (λ (r : Result Done Refusal). KeepsThrough E.device E.contents E.is_faulted c.args.remote c.args.back.now r c.take_step.new.back) c.in_ok-done.was past)

pub returns-then-is_over-clause-steps : goal.returns-then-is_over-clause-steps
returns-then-is_over-clause-steps g c =
    let E = g.E.Durable in
    let before = c.loop.invariant.3 in
    let step = c.take_step.ensures.step in
    let only = only-then c.args.is_for_commits c.is_commit_due-has_more.result (search rules) in (
      before.0 ++ step.0 ∷ [],
      steps-more E.device E.contents E.is_faulted c.args.is_for_commits c.args.remote c.args.back.now c.loop.back c.take_step.new.back c.args.groups.now c.loop.groups c.take_step.new.groups
          before.0 step.0 before.1 step.1
          (λ is.
          suits-then E.device E.contents E.is_faulted offered_at (λ end. known_free end.producer) c.loop.back.committer c.take_step.new.back.committer c.loop.back.work c.take_step.new.back.work
          c.loop.groups c.take_step.new.groups c.args.remote step.0 step.1 (c.loop.invariant.5 is)),
      ends-most c.args.is_for_commits (before.0 ++ step.0 ∷ []) (c.loop.counter + 1) _
          (one-more before.0 c.loop.counter c.loop.any _ step.0 c.in_ok-done.done before.2 (sym c.in_ok-done.was ∙ step.2) (sym c.gives_nothing_back.ensures.passed ∙ search rules)
          (ap (λ (b : Bool). c.loop.any || b) c.is_something-any.ensures))
          (omega arith) (λ none. absurd (true≢false (sym only ∙ none))),
    )

pub loop-preserved : goal.loop-preserved
loop-preserved g c =
    let E = g.E.Durable in
    let before = c.loop.invariant.3 in
    let step = c.take_step.ensures.step in
    let led = c.loop.invariant.0 in
    let nothing = c.gives_nothing_back.ensures.nothing (search rules) in
    let past = through-then E.device E.contents E.is_faulted c.args.remote c.args.back.now c.loop.back c.take_step.new.back c.loop.any c.take_step.result c.loop.invariant.2 c.loop.invariant.4
    c.take_step.ensures.past in (
      (led.0, rw nothing at (c.in_ok-done.ensures.stands led.0 led.1)),
      c.in_ok-done.ensures.shown,
      λ s over. rw nothing at (c.in_ok-done.ensures.stands s (c.loop.invariant.2 s over)),
      (
        before.0 ++ step.0 ∷ [],
        steps-more E.device E.contents E.is_faulted c.args.is_for_commits c.args.remote c.args.back.now c.loop.back c.take_step.new.back c.args.groups.now c.loop.groups c.take_step.new.groups
            before.0 step.0 before.1 step.1
            (λ is.
            suits-then E.device E.contents E.is_faulted offered_at (λ end. known_free end.producer) c.loop.back.committer c.take_step.new.back.committer c.loop.back.work c.take_step.new.back.work
            c.loop.groups c.take_step.new.groups c.args.remote step.0 step.1 (c.loop.invariant.5 is)),
        one-more before.0 c.loop.counter c.loop.any _ step.0 c.in_ok-done.done before.2 (sym c.in_ok-done.was ∙ step.2) (sym c.gives_nothing_back.ensures.passed ∙ search rules)
            (ap (λ (b : Bool). c.loop.any || b) c.is_something-any.ensures),
      ),
      through-ok E.device E.contents E.is_faulted c.args.remote c.args.back.now c.take_step.new.back c.in_ok-done.done _
          (subst (λ (r : Result Done Refusal). KeepsThrough E.device E.contents E.is_faulted c.args.remote c.args.back.now r c.take_step.new.back) c.in_ok-done.was past),
      λ is.
          in-hand-now E.contents c.take_step.new.back.committer c.take_step.new.back.work c.args.remote
          (sym c.is_commit_due-has_more.ensures ∙ goes-with c.args.is_for_commits c.is_commit_due-has_more.result (search rules) is) (nat_lt 0 (known_free c.take_step.new.groups.producer)),
    )

pub returns-clause-steps : goal.returns-clause-steps
returns-clause-steps g c =
    let before = c.loop.invariant.3 in
    let most : c.loop.counter ≡ MOST_STEPS = omega (arith, c.loop-test.false, c.loop.auto.counter-end) in
    (before.0, before.1, ends-most c.args.is_for_commits before.0 c.loop.counter c.loop.any before.2 (omega (arith, most)) (λ none. most))
