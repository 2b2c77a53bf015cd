use Rattle.std.proofs.Common.{◌≡◌, ◌++◌, false, drop, IsTrue}
use Rattle.std.specs.List.{list_any}
use Rattle.cmd_core.specs.declared.shape.Keys.TheVariants as shape
use Rattle.cmd_core.specs.Shape.{are_short}
use Rattle.multi_watch.specs.Session.{is_watched, watching}
use Rattle.multi_watch.proofs.session.Session.fresh.Given as goal

abbrev pub invariant-loop-key : goal.invariant-loop-key
invariant-loop-key l =
    IsTrue (are_short shape.All (drop l.key-index l.keys))
    × (watching (drop l.key-index l.keys) (l.self.watched ++ l.fresh) ≡ watching l.keys l.self.watched)
    × (list_any (λ watch. is_watched watch.key l.self.watched) l.fresh ≡ false)
