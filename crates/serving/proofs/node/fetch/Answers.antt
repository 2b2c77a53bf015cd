use Rattle.std.proofs.Common.{◌≡◌, ◌∙◌, None, Some, [], ap, arith, refl, rules}
use Rattle.serving.specs.CommitJob.{remote_of}
use Rattle.serving.specs.Keeping.{job_of}
use Rattle.serving.specs.declared.commit_job.CommitJob.{CommitJob}
use Rattle.serving.proofs.FetchLemmas.{fetch-fits, fetch-stands, through-fetched}
use Rattle.serving.proofs.HereOrLent.{lent_stands}
use Rattle.serving.proofs.KeepingLemmas.{job-stands, through-as, through-same}
use Rattle.serving.proofs.node.fetch.Goals as goal

pub take_ahead-requires : goal.take_ahead-requires
take_ahead-requires g c =
    let E = g.E.Durable in
    let kept = c.in-Ok.ensures.back in
    let over = lent_stands E.device E.contents c.args.home.now c.args.lender.now.value c.args.ahead.now c.args.front.now.sequencer (search rules) c.requires kept.0 kept.1 in
    record { fits = fetch-fits E.device E.contents E.is_faulted kept.0 c.in-Ok.job c.args.ahead.now over.1 kept.2 }

pub settle-did-requires-clause-stands : goal.settle-did-requires-clause-stands
settle-did-requires-clause-stands g c =
    let E = g.E.Durable in
    let kept = c.in-Ok.ensures.back in
    let over = lent_stands E.device E.contents c.args.home.now c.args.lender.now.value c.args.ahead.now c.args.front.now.sequencer (search rules) c.requires kept.0 kept.1 in
    let wide : CommitJob g.row.E.Denot = record c.in-Ok.job { back = c.take_ahead.new.back } in
    fetch-stands E.device E.contents E.is_faulted kept.0 c.in-Ok.job c.args.ahead.now over.1 kept.2 wide
    (record { same = ap (λ k. record c.in-Ok.job { back = record c.take_ahead.new.back { committer = k } }) c.take_ahead.ensures.committer; items = c.take_ahead.ensures.last }) c.args.front.now.sequencer over.0

pub returns-clause-fetches : goal.returns-clause-fetches
returns-clause-fetches g c =
    let kept = c.in-Ok.ensures.back in
    let told = c.in_ok-did.ensures.told in (
      search rules,
      kept.0,
      c.in-Ok.job,
      record c.in-Ok.job { back = c.take_ahead.new.back },
      kept.1,
      c.replace.ensures.after,
      c.in-Ok.ensures.home,
      (kept.2, told.0, told.1, told.2, told.3),
      record { same = ap (λ k. record c.in-Ok.job { back = record c.take_ahead.new.back { committer = k } }) c.take_ahead.ensures.committer; items = c.take_ahead.ensures.last },
      (c.take_ahead.ensures.none, refl),
    )

-- it is where it was
pub returns-then-is_some-clause-past : goal.returns-then-is_some-clause-past
returns-then-is_some-clause-past g c =
    let E = g.E.Durable in
    through-same E.device E.contents E.is_faulted _ _ _ (job-stands E.device E.contents E.is_faulted c.args.home.now c.args.lender.now.value c.args.ahead.now c.args.front.now.sequencer c.requires)

pub returns-in-Err-clause-past : goal.returns-in-Err-clause-past
returns-in-Err-clause-past g c =
    let E = g.E.Durable in
    through-as E.device E.contents E.is_faulted _ _ _ _ (job_of c.args.home.now c.args.lender.now.value c.args.ahead.now) _ _ refl
    (ap (λ end. job_of c.args.home.now end.value c.args.ahead.now) c.in-Err.ensures.out.0)
    (through-same E.device E.contents E.is_faulted _ _ _ (job-stands E.device E.contents E.is_faulted c.args.home.now c.args.lender.now.value c.args.ahead.now c.args.front.now.sequencer c.requires))

pub returns-clause-past : goal.returns-clause-past
returns-clause-past g c =
    let E = g.E.Durable in
    let kept = c.in-Ok.ensures.back in
    let told = c.in_ok-did.ensures.told in
    let none : c.args.home.now ≡ None = search rules in
    let over = lent_stands E.device E.contents c.args.home.now c.args.lender.now.value c.args.ahead.now c.args.front.now.sequencer none c.requires kept.0 kept.1 in
    let wide : CommitJob g.row.E.Denot = record c.in-Ok.job { back = c.take_ahead.new.back } in
    through-as E.device E.contents E.is_faulted _ _ (Some (record { job = kept.0; behind = c.args.ahead.now.groups.items })) _ (Some (record { job = wide; behind = [] })) _ _
    (ap (λ home. job_of home c.args.lender.now.value c.args.ahead.now) none ∙ ap (λ value. job_of None value c.args.ahead.now) kept.1)
    (ap (λ home. job_of home c.take_back.new.self.value (record { groups = c.take_ahead.new.ahead; room = 0 })) c.replace.ensures.after)
    (through-fetched E.device E.contents E.is_faulted kept.0 c.in-Ok.job c.args.ahead.now over.1 kept.2 wide
    (record { same = ap (λ k. record c.in-Ok.job { back = record c.take_ahead.new.back { committer = k } }) c.take_ahead.ensures.committer; items = c.take_ahead.ensures.last })
    c.args.front.now.sequencer c.settle-did.new.front.sequencer told.0 _ (omega (arith, ap (λ there. remote_of there) kept.1)) over.0 told.1 c.settle-did.ensures.at c.settle-did.ensures.past)
