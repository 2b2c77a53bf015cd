use Rattle.std.proofs.Common.{◌≡◌, ◌∙◌, ℕ, ap, ap₂, arith, subst, subst₂, sym}
use Rattle.serving.specs.Copying.{MakesCopy}
use Rattle.serving.specs.Gathering.{with_copy}
use Rattle.serving.specs.Keeping.{JobKeepsThrough, job_of}
use Rattle.serving.specs.Visiting.{ServesRound}
use Rattle.serving.specs.declared.copying.CopyMaker.{CopyMaker}
use Rattle.serving.specs.declared.gathering.Gathering.{Gathering}
use Rattle.serving.specs.declared.open_connections.OpenConnections.{OpenConnections}
use Rattle.serving.proofs.CopyLemmas.{copied-serves, makes-alone}
use Rattle.serving.proofs.HereOrLent.{here_or_lent_still}
use Rattle.serving.proofs.KeepingLemmas.{goes-round, job-stands, job-through-then, through-raised}
use Rattle.serving.proofs.TendingLemmas.{tends-same}
use Rattle.serving.proofs.TurnsLemmas.{serves-then}
use Rattle.serving.proofs.node.take_round.Goals as goal

-- the job stayed where it was while a copy was made and connections were served
pub commit_due-requires-2-clause-stands : goal.commit_due-requires-2-clause-stands
commit_due-requires-2-clause-stands g c =
    let E = g.E.Durable in
    let before = c.commit_due.new.state in
    let copied = c.make_copy-made.new.state in
    let after = c.serve_connections-served.new.state in
    let made = c.make_copy-made.ensures in
    let served = c.serve_connections-served.ensures in
    let serves = serves-then before.front.sequencer copied.front.sequencer after.front.sequencer
    (copied-serves before.front.sequencer copied.front.sequencer (makes-alone copied.marks.local before.copying copied.copying before.front.sequencer copied.front.sequencer c.make_copy-made.result made.made)) served.serves in
    rw (served.home, served.lender, served.ahead, made.home, made.lender, made.ahead) (here_or_lent_still E.device E.contents before.home before.lender.value before.ahead _ _ serves.keeps c.in_ok-before.ensures.stands)

pub returns-clause-round : goal.returns-clause-round
returns-clause-round g c =
    let E = g.E.Durable in
    let tended = c.commit_due.new.state in
    let copied = c.make_copy-made.new.state in
    let served = c.serve_connections-served.new.state in
    let last = c.commit_due-2.new.state in
    let making = c.make_copy-made.ensures in
    let serving = c.serve_connections-served.ensures in
    let still : last.connections ≡ served.connections = c.commit_due-2.ensures.connections in
    let copying : last.copying ≡ copied.copying = c.commit_due-2.ensures.copying ∙ serving.copying in
    let first_read = c.commit_due.ensures.read in
    let last_read = c.commit_due-2.ensures.read in
    let one = c.is_busy.ensures in
    let two = c.is_busy-2.ensures in
    let three = c.is_busy-3.ensures in
    let four = c.is_busy-4.ensures in
    record {
      fetched = c.in_ok-fetched.fetched;
      home1 = c.fetch.new.home;
      lender1 = c.fetch.new.lender;
      ahead1 = c.fetch.new.ahead;
      told = c.fetch.new.front.sequencer;
      fetches = c.in_ok-fetched.ensures.fetches;
      mark = tended.marks;
      before = c.in_ok-before.before;
      noted1 = tended.gathering;
      home2 = tended.home;
      lender2 = tended.lender;
      ahead2 = tended.ahead;
      tended = tended.front.sequencer;
      tends = c.in_ok-before.ensures.tends;
      made = c.make_copy-made.result;
      copied = copied.front.sequencer;
      local = copied.marks.local;
      makes = subst (λ (after : CopyMaker). MakesCopy copied.marks.local c.args.state.now.copying tended.front.sequencer after copied.front.sequencer c.make_copy-made.result) (sym copying)
          (subst (λ (before : CopyMaker). MakesCopy copied.marks.local before tended.front.sequencer copied.copying copied.front.sequencer c.make_copy-made.result) c.commit_due.ensures.copying making.made);
      has_served = c.serve_connections-served.result;
      served = served.front.sequencer;
      serves = serving.serves;
      visits = subst (λ (after : OpenConnections). ServesRound tended.gathering.closed c.args.state.now.connections after copied.front.sequencer served.front.sequencer) (sym still)
          (subst₂ (λ (closed : ℕ) (before : OpenConnections). ServesRound closed before served.connections copied.front.sequencer served.front.sequencer)
          (ap (λ (g : Gathering). g.closed) making.gathering) (making.connections ∙ c.commit_due.ensures.connections) serving.visits);
      after = c.in_ok-after.after;
      tends_again = tends-same E.device E.contents E.is_faulted last.marks served.connections.is_short last.connections.is_short served.gathering (record (with_copy last.copying.stage tended.gathering) { lines = last.connections.filling.lines }) last.gathering
          served.home tended.home served.lender tended.lender served.ahead tended.ahead served.front.sequencer last.home last.lender last.ahead last.front.sequencer c.in_ok-after.after
          (ap (λ (connections : OpenConnections). connections.is_short) (sym still))
          (serving.gathering ∙ ap₂ (λ (g : Gathering) (connections : OpenConnections). record g { lines = connections.filling.lines })
          (making.gathering ∙ ap (λ (maker : CopyMaker). with_copy maker.stage tended.gathering) (sym copying)) (sym still))
          (serving.home ∙ making.home) (serving.lender ∙ making.lender) (serving.ahead ∙ making.ahead) c.in_ok-after.ensures.tends;
      rises = (first_read.1, omega (arith, making.read.1, serving.read.1, last_read.1), first_read.2, λ heard. last_read.2 (serving.read.2 (making.read.2 heard)));
      shown = (making.read.0, omega (arith, serving.read.0, last_read.0));
      is_busy_is = cc;
    }

-- the job was looked for and tended, connections were served, and it was tended again
pub returns-clause-past : goal.returns-clause-past
returns-clause-past g c =
    let E = g.E.Durable in
    let old = c.args.state.now in
    let fetched = c.fetch.new in
    let tended = c.commit_due.new.state in
    let copied = c.make_copy-made.new.state in
    let served = c.serve_connections-served.new.state in
    let last = c.commit_due-2.new.state in
    let making = c.make_copy-made.ensures in
    let serving = c.serve_connections-served.ensures in
    let serves = serves-then tended.front.sequencer copied.front.sequencer served.front.sequencer
    (copied-serves tended.front.sequencer copied.front.sequencer (makes-alone copied.marks.local tended.copying copied.copying tended.front.sequencer copied.front.sequencer c.make_copy-made.result making.made)) serving.serves in
    let mark = last.marks.remote in
    let first_read = c.commit_due.ensures.read in
    let last_read = c.commit_due-2.ensures.read in
    let fetching = through-raised E.device E.contents E.is_faulted _ mark _ _ _ _ (omega (arith, c.requires.remote.1, first_read.1, making.read.1, serving.read.1, last_read.1)) c.in_ok-fetched.ensures.past in
    let tending = through-raised E.device E.contents E.is_faulted _ mark _ _ _ _ (omega (arith, making.read.1, serving.read.1, last_read.1)) c.in_ok-before.ensures.past in
    let again : JobKeepsThrough E.device E.contents E.is_faulted mark (job_of tended.home tended.lender.value tended.ahead) served.front.sequencer (job_of last.home last.lender.value last.ahead) last.front.sequencer =
    rw (serving.home, serving.lender, serving.ahead, making.home, making.lender, making.ahead) at c.in_ok-after.ensures.past in
    goes-round E.device E.contents E.is_faulted mark (job_of old.home old.lender.value old.ahead) (job_of tended.home tended.lender.value tended.ahead) (job_of last.home last.lender.value last.ahead)
    old.front.sequencer tended.front.sequencer served.front.sequencer last.front.sequencer
    (job-through-then E.device E.contents E.is_faulted mark (job_of old.home old.lender.value old.ahead) (job_of fetched.home fetched.lender.value fetched.ahead) (job_of tended.home tended.lender.value tended.ahead)
    old.front.sequencer fetched.front.sequencer tended.front.sequencer fetching tending)
    (job-stands E.device E.contents E.is_faulted tended.home tended.lender.value tended.ahead tended.front.sequencer c.in_ok-before.ensures.stands) serves again
