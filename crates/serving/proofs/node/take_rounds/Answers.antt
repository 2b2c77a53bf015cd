use Rattle.serving.specs.Keeping.{job_of}
use Rattle.serving.proofs.KeepingLemmas.{job-stands, run-more, run-none, run-raised}
use Rattle.serving.proofs.node.take_rounds.Goals as goal

pub loop-init : goal.loop-init
loop-init g c =
    let E = g.E.Durable in
    let state = c.args.state.now in (
      c.requires.stands,
      c.requires.remote.0,
      c.requires.remote.1,
      run-none E.device E.contents E.is_faulted state.marks.remote (job_of state.home state.lender.value state.ahead) state.front.sequencer
          (job-stands E.device E.contents E.is_faulted state.home state.lender.value state.ahead state.front.sequencer c.requires.stands),
    )

pub loop-preserved : goal.loop-preserved
loop-preserved g c =
    let E = g.E.Durable in
    let first = c.args.state.now in
    let before = c.loop.state in
    let after = c.take_round.new.state in (
      c.in-Ok.ensures.stands,
      c.in-Ok.ensures.remote.0,
      c.in-Ok.ensures.remote.1,
      run-more E.device E.contents E.is_faulted after.marks.remote (job_of first.home first.lender.value first.ahead) (job_of before.home before.lender.value before.ahead) (job_of after.home after.lender.value after.ahead)
          first.front.sequencer before.front.sequencer after.front.sequencer
          (run-raised E.device E.contents E.is_faulted before.marks.remote after.marks.remote _ _ _ _ c.take_round.ensures.read.1 c.loop.invariant.3) c.in-Ok.ensures.past,
    )

pub returns-then-is_set : goal.returns-then-is_set
returns-then-is_set g c =
    let E = g.E.Durable in
    let first = c.args.state.now in
    let before = c.loop.state in
    let after = c.take_round.new.state in
    record {
      past = λ is.
          run-more E.device E.contents E.is_faulted after.marks.remote (job_of first.home first.lender.value first.ahead) (job_of before.home before.lender.value before.ahead) (job_of after.home after.lender.value after.ahead)
          first.front.sequencer before.front.sequencer after.front.sequencer
          (run-raised E.device E.contents E.is_faulted before.marks.remote after.marks.remote _ _ _ _ c.take_round.ensures.read.1 c.loop.invariant.3) c.in-Ok.ensures.past;
    }
