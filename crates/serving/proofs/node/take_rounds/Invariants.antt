use Rattle.std.proofs.Common.{◌≤◌}
use Rattle.serving.specs.CommitJob.{IsHereOrLent, remote_of}
use Rattle.serving.specs.Keeping.{RunGoesOn, job_of}
use Rattle.serving.proofs.node.take_rounds.Given as goal

abbrev pub invariant-loop : goal.invariant-loop
invariant-loop g l =
    IsHereOrLent g.E.Durable.device g.E.Durable.contents l.state.home l.state.lender.value l.state.ahead l.state.front.sequencer
    × (remote_of l.state.home ≤ l.state.marks.remote) × (remote_of l.state.lender.value ≤ l.state.marks.remote)
    × RunGoesOn g.E.Durable.device g.E.Durable.contents g.E.Durable.is_faulted l.state.marks.remote (job_of l.fn.state.home l.fn.state.lender.value l.fn.state.ahead) l.fn.state.front.sequencer
    (job_of l.state.home l.state.lender.value l.state.ahead) l.state.front.sequencer
