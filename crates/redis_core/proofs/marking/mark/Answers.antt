use Rattle.std.proofs.Common.{List, ap, ◌∙◌}
use Rattle.std.specs.List.{list_any}
use Rattle.kv_types.specs.declared.change.Change.{Change}
use Rattle.multi_watch.specs.Modified.{names}
use Rattle.multi_watch.specs.Sessions.{slot}
use Rattle.redis_core.proofs.MarkingLemmas.{marked, marks_parts}
use Rattle.redis_core.proofs.marking.mark.Goals as goal

pub returns : goal.returns
returns c = λ s made is are.
    marks_parts s made c.args.seats.now c.mark_changes.new.seats c.mark_keys.new.seats c.args.cleared.now are
    (λ seat. c.mark_changes.ensures seat ∙ ap (λ (changes : List Change). marked (λ own. list_any (names own) changes) (slot c.args.seats.now seat)) is)
    c.mark_keys.ensures
