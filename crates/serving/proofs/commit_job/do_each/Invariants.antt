use Rattle.std.proofs.Common.{◌≡◌, None}
use Rattle.serving.proofs.commit_job.do_each.Given as goal

abbrev pub invariant-loop : goal.invariant-loop
invariant-loop g l = l.borrower.value ≡ None
