use Rattle.std.proofs.Common.{◌≡◌, ℕ, Bool, List, ap, ◌∙◌}
use Rattle.model.specs.Group.{change_of}
use Rattle.multi_watch.specs.Modified.{names}
use Rattle.multi_watch.specs.Sessions.{slot}
use Rattle.redis_core.proofs.MarkingLemmas.{marked, marked_next, marked_last, marked_key, no_key, marked_mapped}
use Rattle.redis_core.proofs.marking.mark_changes.Goals.{in-Some, in_default}
use Rattle.redis_core.proofs.marking.mark_changes.Goals as goal

pub loop-change-preserved : goal.loop-change-preserved
loop-change-preserved c = λ seat.
    let was = slot c.loop-change.seats seat in
    let now = slot c.match-changed_key.seats seat in
    let change = c.change-item.result in
    let test : List ℕ → Bool = λ own. names own (change_of change) in
    let step : now ≡ marked test was = elim c.match-changed_key.branch [
      | in-Some w ↦ marked_key w.in-Some.key.now test w.in-Some.ensures was now (ap (λ seats. slot seats seat) w.seats-is ∙ w.modified.ensures seat)
      | in_default w ↦ ap (λ seats. slot seats seat) w.seats-is ∙ no_key test w.in_default.ensures was
    ] in
    marked_next (λ own change. names own (change_of change)) c.args.changes.now c.loop-change.change-index change c.loop-change-test.true c.change-item.is was now step
    ∙ c.loop-change.invariant seat

pub returns : goal.returns
returns c = λ seat.
    let changes = c.args.changes.now in
    (marked_last (λ own change. names own (change_of change)) changes c.loop-change.change-index c.loop-change-test.false (slot c.loop-change.seats seat) ∙ c.loop-change.invariant seat ∙ marked_mapped names change_of changes (slot c.args.seats.now seat))
