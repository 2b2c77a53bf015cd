use Rattle.std.proofs.Common.{◌∙◌}
use Rattle.cmd_core.specs.Contents.{same_bytes}
use Rattle.multi_watch.specs.Sessions.{slot}
use Rattle.redis_core.proofs.MarkingLemmas.{marked_next, marked_last}
use Rattle.redis_core.proofs.marking.mark_keys.Goals as goal

pub loop-key-preserved : goal.loop-key-preserved
loop-key-preserved c = λ seat.
    (marked_next (λ own key. same_bytes own key) c.args.keys.now c.loop-key.key-index _ c.loop-key-test.true c.key-item.is _ _ (c.modified.ensures seat)
    ∙ c.loop-key.invariant seat)

pub returns : goal.returns
returns c = λ seat.
    (marked_last (λ own key. same_bytes own key) c.args.keys.now c.loop-key.key-index c.loop-key-test.false (slot c.loop-key.seats seat) ∙ c.loop-key.invariant seat)
