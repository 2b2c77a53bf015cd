use Rattle.std.proofs.Common.{◌≡◌, ◌-◌, ℕ, Bool, List, None, Some, length, if◌then◌else◌, rules, refl, sym, subst, ap, le_refl, ◌∙◌}
use Rattle.lending.specs.declared.view.EndView.{EndView}
use Rattle.model.specs.declared.work.Work.{Work}
use Rattle.rtrb.specs.Ring.{known_free}
use Rattle.pipes.specs.declared.limits.TheConstants.{PIPE_ITEMS}
use Rattle.serving.specs.CommitJob.{IsHereOrLent}
use Rattle.serving.specs.Keeping.{job_of}
use Rattle.serving.specs.declared.ahead.Ahead.{Ahead}
use Rattle.serving.specs.declared.commit_job.CommitJob.{CommitJob}
use Rattle.serving.proofs.FetchLemmas.{lent-out}
use Rattle.serving.proofs.HereOrLent.{ahead_closed, here-none, here-shown, here-then}
use Rattle.serving.proofs.KeepingLemmas.{here, job-over, job-through-then, through-as, through-away, through-closed, through-steps}
use Rattle.serving.specs.Closing.{ClosesAhead}
use Rattle.serving.specs.Tending.{ClosesOrLacks}
use Rattle.serving.proofs.TendingLemmas.{closes-or-lacks, commits-known, due-by, due-known, tends-away, tends-home}
use Rattle.serving.proofs.node.commit.Goals as goal

-- ---- the job is away

pub returns-in_default-clause-stands : goal.returns-in_default-clause-stands
returns-in_default-clause-stands g c =
    let E = g.E.Durable in
    let closed = c.close_due_ahead-closed in
    let none : c.args.home.now ≡ None = search rules in
    subst (λ home. IsHereOrLent E.device E.contents home c.args.lender.now.value closed.new.ahead closed.new.front.sequencer) (sym c.take.ensures.after)
    (ahead_closed E.device E.contents c.args.lender.now.value c.args.gathering.now closed.new.gathering c.args.remote c.args.ahead.now closed.new.ahead c.args.front.now.sequencer closed.new.front.sequencer
    closed.result closed.ensures.goes closed.ensures.closes
    (subst (λ home. IsHereOrLent E.device E.contents home c.args.lender.now.value c.args.ahead.now c.args.front.now.sequencer) none c.requires.stands))

pub returns-in_default-clause-tends : goal.returns-in_default-clause-tends
returns-in_default-clause-tends g c read is_remote is_heard =
    let E = g.E.Durable in
    let closed = c.close_due_ahead-closed in
    let none : c.args.home.now ≡ None = search rules in
    tends-away E.device E.contents E.is_faulted read c.args.is_short c.args.gathering.now closed.new.gathering c.args.home.now c.args.lender.now c.args.ahead.now c.args.front.now.sequencer
    c.take.new.self c.args.lender.now closed.new.ahead closed.new.front.sequencer _ none refl c.take.ensures.after refl
    (subst (λ (mark : ℕ). ClosesAhead c.args.gathering.now mark c.args.front.now.sequencer c.args.ahead.now closed.new.front.sequencer closed.new.ahead closed.new.gathering closed.result) (sym is_remote)
    closed.ensures.closes)

-- ---- it is here, or lent

pub lend-requires-clause-offered : goal.lend-requires-clause-offered
lend-requires-clause-offered g c =
    let E = g.E.Durable in
    let job = c.in-Some.job in
    let closed = c.close_due-closed in
    let home = sym c.take.ensures.value ∙ c.in-Some.is in
    let shown = here-shown E.device E.contents c.args.home.now c.args.lender.now.value c.args.ahead.now c.args.front.now.sequencer job home c.requires.stands in
    let only = commits-known E.contents closed.new.back c.is_commit_due.result (known_free c.room-has_room.new.self.producer) c.room-has_room.result c.args.remote c.room-has_room.ensures.value c.is_commit_due.ensures in (
      (closed.new.front.sequencer, closed.ensures.stands),
      rw closed.ensures.committer shown,
      λ is. sym only ∙ is,
    )

pub settle-did-requires-clause-stands : goal.settle-did-requires-clause-stands
settle-did-requires-clause-stands g c = c.run_job-job.ensures.0 c.close_due-closed.new.front.sequencer c.close_due-closed.ensures.stands

pub returns-then-not-is_due-clause-stands : goal.returns-then-not-is_due-clause-stands
returns-then-not-is_due-clause-stands g c =
    let E = g.E.Durable in
    let job = c.in-Some.job in
    let closed = c.close_due-closed in
    let home = sym c.take.ensures.value ∙ c.in-Some.is in
    here-then E.device E.contents c.args.home.now c.args.lender.now.value c.args.ahead.now c.args.front.now.sequencer job home c.requires.stands c.replace.new.self _ closed.new.front.sequencer
    c.replace.ensures.after closed.ensures.stands
    (rw closed.ensures.committer (here-shown E.device E.contents c.args.home.now c.args.lender.now.value c.args.ahead.now c.args.front.now.sequencer job home c.requires.stands))

pub returns-then-job-clause-stands : goal.returns-then-job-clause-stands
returns-then-job-clause-stands g c =
    let E = g.E.Durable in
    let job = c.in-Some.job in
    let closed = c.close_due-closed in
    let home = sym c.take.ensures.value ∙ c.in-Some.is in
    let only = commits-known E.contents closed.new.back c.is_commit_due.result (known_free c.room-has_room.new.self.producer) c.room-has_room.result c.args.remote c.room-has_room.ensures.value c.is_commit_due.ensures in
    let ready : CommitJob g.row.E.Denot = record { back = closed.new.back; marks = job.marks; groups = c.room-has_room.new.self; link = job.link; is_for_commits = job.is_for_commits; remote = c.args.remote; came = job.came; step_time = job.step_time } in
    lent-out E.device E.contents E.is_faulted ready c.take.new.self c.args.lender.now c.lend.new.self c.args.ahead.now c.allow.new.self closed.new.front.sequencer c.is_commit_due.result
    c.take.ensures.after c.lend.ensures c.allow.ensures only closed.ensures.stands
    (here-none E.device E.contents c.args.home.now c.args.lender.now.value c.args.ahead.now c.args.front.now.sequencer job home c.requires.stands)

pub returns-clause-stands : goal.returns-clause-stands
returns-clause-stands g c =
    let E = g.E.Durable in
    let job = c.in-Some.job in
    let home = sym c.take.ensures.value ∙ c.in-Some.is in
    here-then E.device E.contents c.args.home.now c.args.lender.now.value c.args.ahead.now c.args.front.now.sequencer job home c.requires.stands c.replace-2.new.self c.run_job-job.result
    c.settle-did.new.front.sequencer c.replace-2.ensures.after c.in_ok-did.ensures.stands c.in_ok-did.ensures.shown

pub returns-then-not-is_due-clause-tends : goal.returns-then-not-is_due-clause-tends
returns-then-not-is_due-clause-tends g c read is_remote is_heard =
    let E = g.E.Durable in
    let job = c.in-Some.job in
    let closed = c.close_due-closed in
    tends-home E.device E.contents E.is_faulted read c.args.is_short c.args.gathering.now closed.new.gathering c.args.home.now job c.args.lender.now c.args.ahead.now c.args.front.now.sequencer
    c.replace.new.self c.args.lender.now c.args.ahead.now closed.new.front.sequencer _ (sym c.take.ensures.value ∙ c.in-Some.is) (record {
      ready = record { back = closed.new.back; marks = job.marks; groups = c.room-has_room.new.self; link = job.link; is_for_commits = job.is_for_commits; remote = c.args.remote; came = job.came; step_time = job.step_time };
      between = closed.new.front.sequencer;
      closes = subst (λ (mark : ℕ). ClosesOrLacks c.args.gathering.now mark c.args.is_short c.args.front.now.sequencer job.back.work closed.new.front.sequencer closed.new.back.work closed.new.gathering closed.result) (sym is_remote)
          (closes-or-lacks c.args.gathering.now closed.new.gathering c.args.remote c.args.is_short c.args.front.now.sequencer closed.new.front.sequencer job.back.work closed.new.back.work closed.result
          closed.ensures.closes closed.ensures.cause closed.ensures.lacks);
      committer = closed.ensures.committer;
      by = sym is_remote;
      offered = c.room-has_room.ensures.unchanged;
      times = refl;
      steps = (due-by read.heard c.args.is_heard _ _ _ is_heard (due-known E.contents closed.new.back c.is_due.result (known_free c.room-has_room.new.self.producer) c.room-has_room.result c.args.remote c.room-has_room.ensures.value c.args.is_heard c.args.is_short c.is_due.ensures) (search rules), c.replace.ensures.after, refl, refl, refl);
    })

pub returns-then-job-clause-tends : goal.returns-then-job-clause-tends
returns-then-job-clause-tends g c read is_remote is_heard =
    let E = g.E.Durable in
    let job = c.in-Some.job in
    let closed = c.close_due-closed in
    let only = commits-known E.contents closed.new.back c.is_commit_due.result (known_free c.room-has_room.new.self.producer) c.room-has_room.result c.args.remote c.room-has_room.ensures.value c.is_commit_due.ensures in
    let ready : CommitJob g.row.E.Denot = record { back = closed.new.back; marks = job.marks; groups = c.room-has_room.new.self; link = job.link; is_for_commits = job.is_for_commits; remote = c.args.remote; came = job.came; step_time = job.step_time } in
    tends-home E.device E.contents E.is_faulted read c.args.is_short c.args.gathering.now closed.new.gathering c.args.home.now job c.args.lender.now c.args.ahead.now c.args.front.now.sequencer
    c.take.new.self c.lend.new.self c.allow.new.self closed.new.front.sequencer _ (sym c.take.ensures.value ∙ c.in-Some.is) (record {
      ready = ready;
      between = closed.new.front.sequencer;
      closes = subst (λ (mark : ℕ). ClosesOrLacks c.args.gathering.now mark c.args.is_short c.args.front.now.sequencer job.back.work closed.new.front.sequencer closed.new.back.work closed.new.gathering closed.result) (sym is_remote)
          (closes-or-lacks c.args.gathering.now closed.new.gathering c.args.remote c.args.is_short c.args.front.now.sequencer closed.new.front.sequencer job.back.work closed.new.back.work closed.result
          closed.ensures.closes closed.ensures.cause closed.ensures.lacks);
      committer = closed.ensures.committer;
      by = sym is_remote;
      offered = c.room-has_room.ensures.unchanged;
      times = refl;
      steps = (
        due-by read.heard c.args.is_heard _ _ _ is_heard (due-known E.contents closed.new.back c.is_due.result (known_free c.room-has_room.new.self.producer) c.room-has_room.result c.args.remote c.room-has_room.ensures.value c.args.is_heard c.args.is_short c.is_due.ensures) (search rules),
        c.if-job.true,
        c.take.ensures.after,
        c.lend.ensures ∙ ap (λ (b : Bool). record c.args.lender.now { value = Some (record ready { is_for_commits = b }) }) only,
        c.allow.ensures ∙ ap (λ (b : Bool). record c.args.ahead.now { room = if b then PIPE_ITEMS - length closed.new.back.work.items else 0 }) only,
        refl,
      );
    })

pub returns-clause-tends : goal.returns-clause-tends
returns-clause-tends g c read is_remote is_heard =
    let E = g.E.Durable in
    let job = c.in-Some.job in
    let closed = c.close_due-closed in
    let told = c.in_ok-did.ensures.told in
    tends-home E.device E.contents E.is_faulted read c.args.is_short c.args.gathering.now closed.new.gathering c.args.home.now job c.args.lender.now c.args.ahead.now c.args.front.now.sequencer
    c.replace-2.new.self c.args.lender.now c.args.ahead.now c.settle-did.new.front.sequencer _ (sym c.take.ensures.value ∙ c.in-Some.is) (record {
      ready = record { back = closed.new.back; marks = job.marks; groups = c.room-has_room.new.self; link = job.link; is_for_commits = job.is_for_commits; remote = c.args.remote; came = job.came; step_time = job.step_time };
      between = closed.new.front.sequencer;
      closes = subst (λ (mark : ℕ). ClosesOrLacks c.args.gathering.now mark c.args.is_short c.args.front.now.sequencer job.back.work closed.new.front.sequencer closed.new.back.work closed.new.gathering closed.result) (sym is_remote)
          (closes-or-lacks c.args.gathering.now closed.new.gathering c.args.remote c.args.is_short c.args.front.now.sequencer closed.new.front.sequencer job.back.work closed.new.back.work closed.result
          closed.ensures.closes closed.ensures.cause closed.ensures.lacks);
      committer = closed.ensures.committer;
      by = sym is_remote;
      offered = c.room-has_room.ensures.unchanged;
      times = refl;
      steps = (due-by read.heard c.args.is_heard _ _ _ is_heard (due-known E.contents closed.new.back c.is_due.result (known_free c.room-has_room.new.self.producer) c.room-has_room.result c.args.remote c.room-has_room.ensures.value c.args.is_heard c.args.is_short c.is_due.ensures) (search rules), c.if-job.false, c.run_job-job.result, c.replace-2.ensures.after, refl, refl, (c.run_job-job.ensures, told.0, told.1, told.2, told.3));
    })

-- ---- the past

-- the job is away
pub returns-in_default-clause-past : goal.returns-in_default-clause-past
returns-in_default-clause-past g c =
    let E = g.E.Durable in
    let closed = c.close_due_ahead-closed in
    let none : c.args.home.now ≡ None = search rules in
    through-away E.device E.contents E.is_faulted c.args.remote c.args.home.now c.take.new.self c.args.lender.now.value c.args.ahead.now closed.new.ahead c.args.front.now.sequencer closed.new.front.sequencer
    none c.take.ensures.after c.requires.stands closed.ensures.at closed.ensures.goes

-- what is due was closed
pub returns-then-not-is_due-clause-past : goal.returns-then-not-is_due-clause-past
returns-then-not-is_due-clause-past g c =
    let E = g.E.Durable in
    let job = c.in-Some.job in
    let closed = c.close_due-closed in
    let home = sym c.take.ensures.value ∙ c.in-Some.is in
    through-as E.device E.contents E.is_faulted _ _ (Some (here E.device E.contents E.is_faulted job)) _ _ _ _ (ap (λ home. job_of home c.args.lender.now.value c.args.ahead.now) home)
    (ap (λ home. job_of home c.args.lender.now.value c.args.ahead.now) c.replace.ensures.after)
    (through-closed E.device E.contents E.is_faulted c.args.remote job _ _ _ (job-over E.device E.contents E.is_faulted c.args.home.now c.args.lender.now.value c.args.ahead.now c.args.front.now.sequencer job home c.requires.stands)
    closed.ensures.committer closed.ensures.at closed.ensures.past)

pub returns-then-job-clause-past : goal.returns-then-job-clause-past
returns-then-job-clause-past g c =
    let E = g.E.Durable in
    let job = c.in-Some.job in
    let closed = c.close_due-closed in
    let home = sym c.take.ensures.value ∙ c.in-Some.is in
    let none = here-none E.device E.contents c.args.home.now c.args.lender.now.value c.args.ahead.now c.args.front.now.sequencer job home c.requires.stands in
    let out : CommitJob g.row.E.Denot = record { back = closed.new.back; marks = job.marks; groups = c.room-has_room.new.self; link = job.link; is_for_commits = c.is_commit_due.result; remote = c.args.remote; came = job.came; step_time = job.step_time } in
    through-as E.device E.contents E.is_faulted _ _ (Some (here E.device E.contents E.is_faulted job)) _ (Some (here E.device E.contents E.is_faulted out)) _ _
    (ap (λ home. job_of home c.args.lender.now.value c.args.ahead.now) home)
    (ap (λ home. job_of home c.lend.new.self.value c.allow.new.self) c.take.ensures.after
    ∙ ap (λ (end : EndView (CommitJob g.row.E.Denot)). job_of None end.value c.allow.new.self) c.lend.ensures
    ∙ ap (λ (ahead : Ahead). job_of None (Some out) ahead) c.allow.ensures
    ∙ ap (λ (xs : List Work). Some (record { job = out; behind = xs })) none)
    (through-closed E.device E.contents E.is_faulted c.args.remote job out _ _ (job-over E.device E.contents E.is_faulted c.args.home.now c.args.lender.now.value c.args.ahead.now c.args.front.now.sequencer job home c.requires.stands)
    closed.ensures.committer closed.ensures.at closed.ensures.past)

-- and the steps were taken
pub returns-clause-past : goal.returns-clause-past
returns-clause-past g c =
    let E = g.E.Durable in
    let job = c.in-Some.job in
    let closed = c.close_due-closed in
    let home = sym c.take.ensures.value ∙ c.in-Some.is in
    let told = c.in_ok-did.ensures.told in
    let ready : CommitJob g.row.E.Denot = record { back = closed.new.back; marks = job.marks; groups = c.room-has_room.new.self; link = job.link; is_for_commits = job.is_for_commits; remote = c.args.remote; came = job.came; step_time = job.step_time } in
    through-as E.device E.contents E.is_faulted _ _ (Some (here E.device E.contents E.is_faulted job)) _ (Some (here E.device E.contents E.is_faulted c.run_job-job.result)) _ _ (ap (λ home. job_of home c.args.lender.now.value c.args.ahead.now) home)
    (ap (λ home. job_of home c.args.lender.now.value c.args.ahead.now) c.replace-2.ensures.after)
    (job-through-then E.device E.contents E.is_faulted c.args.remote (Some (here E.device E.contents E.is_faulted job)) (Some (here E.device E.contents E.is_faulted ready)) (Some (here E.device E.contents E.is_faulted c.run_job-job.result)) _ closed.new.front.sequencer _
    (through-closed E.device E.contents E.is_faulted c.args.remote job ready _ _ (job-over E.device E.contents E.is_faulted c.args.home.now c.args.lender.now.value c.args.ahead.now c.args.front.now.sequencer job home c.requires.stands)
    closed.ensures.committer closed.ensures.at closed.ensures.past)
    (through-steps E.device E.contents E.is_faulted c.args.remote ready c.run_job-job.result _ _ told.0 (le_refl c.args.remote) closed.ensures.stands told.1 c.settle-did.ensures.at c.run_job-job.ensures.4
    c.settle-did.ensures.past))
