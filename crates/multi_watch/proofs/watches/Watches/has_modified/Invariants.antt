use Rattle.std.proofs.Common.{◌≡◌}
use Rattle.std.specs.List.{list_any}
use Rattle.multi_watch.proofs.watches.Watches.has_modified.Given as goal

abbrev pub invariant-loop-is_modified : goal.invariant-loop-is_modified
invariant-loop-is_modified l = list_any (λ watch. watch.is_modified) l.self ≡ list_any (λ is_modified. is_modified) l.is_modified-iterator
