use Rattle.std.proofs.Common.{◌≡◌, ◌++◌, drop, map}
use Rattle.model.specs.declared.group.Put.{Put}
use Rattle.mv_keyspace.specs.Row.{numbers_of}
use Rattle.mv_keyspace.specs.Table.{puts_of}
use Rattle.mv_keyspace.proofs.clearing.name_puts.Given as goal

abbrev pub invariant-loop-change : goal.invariant-loop-change
invariant-loop-change l =
    numbers_of l.named.items ++ map (λ (put : Put). put.entry.0) (puts_of (drop l.change-index l.changes))
    ≡ numbers_of l.initial.named.items ++ map (λ (put : Put). put.entry.0) (puts_of l.changes)
