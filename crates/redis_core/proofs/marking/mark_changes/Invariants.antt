use Rattle.std.proofs.Common.{◌≡◌, ℕ, drop}
use Rattle.std.specs.List.{list_any}
use Rattle.model.specs.Group.{change_of}
use Rattle.multi_watch.specs.Modified.{names}
use Rattle.multi_watch.specs.Sessions.{slot}
use Rattle.redis_core.proofs.MarkingLemmas.{marked}
use Rattle.redis_core.proofs.marking.mark_changes.Given as goal

abbrev pub invariant-loop-change : goal.invariant-loop-change
invariant-loop-change l =
    (seat : ℕ) → marked (λ own. list_any (λ change. names own (change_of change)) (drop l.change-index l.changes)) (slot l.seats seat)
    ≡ marked (λ own. list_any (λ change. names own (change_of change)) l.changes) (slot l.fn.seats seat)
