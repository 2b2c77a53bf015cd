use Rattle.std.proofs.Common.{sym, ap, ◌∙◌}
use Rattle.std.specs.List.{list_any}
use Rattle.multi_watch.proofs.WatchesLemmas.{some_modified}
use Rattle.multi_watch.proofs.watches.Watches.has_modified.Goals as goal

pub loop-is_modified-init : goal.loop-is_modified-init
loop-is_modified-init c =
    sym
    (ap (list_any (λ is_modified. is_modified)) (c.into_iter-is_modified-iterator.ensures.into_iter_gives ∙ c.values-is_modified-items.ensures.rest)
    ∙ some_modified c.self.inside.marks.entries ∙ ap (list_any (λ watch. watch.is_modified)) c.self.view_is)
