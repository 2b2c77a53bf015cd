use Rattle.std.proofs.Common.{◌≡◌, [], Bool, true, List, Ok, Result, nat_lt}
use Rattle.kv_types.specs.declared.refusal.Refusal.{Refusal}
use Rattle.redis_core.specs.Sequencing.{Sequencing}
use Rattle.group_commit.specs.declared.stage.Done.{Done}
use Rattle.rtrb.specs.Ring.{known_free}
use Rattle.group_commit.specs.Due.{due_now}
use Rattle.primary.specs.Ahead.{is_of_commit}
use Rattle.primary.specs.Standing.{BackStands}
use Rattle.serving.specs.CommitJob.{AreSteps, IsShown}
use Rattle.serving.specs.Keeping.{KeepsThrough}
use Rattle.serving.proofs.EndingLemmas.{GoOn}
use Rattle.serving.proofs.committing.take_steps.Given as goal

abbrev pub invariant-loop : goal.invariant-loop
invariant-loop g l =
    let E = g.E.Durable in
    ((s : Sequencing) × BackStands E.device E.contents l.back s [])
    × IsShown E.device E.contents l.back l.marks
    × ((s : Sequencing) → BackStands E.device E.contents l.fn.back s [] → BackStands E.device E.contents l.back s [])
    × ((all : List (Result Done Refusal)) × AreSteps E.device E.contents E.is_faulted l.is_for_commits l.remote l.fn.back l.fn.groups all l.back l.groups × GoOn all l.counter l.any)
    × KeepsThrough E.device E.contents E.is_faulted {T = Bool} l.remote l.fn.back (Ok l.any) l.back
    × (l.is_for_commits ≡ true → is_of_commit (due_now E.contents l.back.committer l.back.work (nat_lt 0 (known_free l.groups.producer)) l.remote) ≡ true)
