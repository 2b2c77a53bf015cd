use Rattle.std.proofs.Common.{◌≡◌, ◌&&◌, List, ℕ, is_some}
use Rattle.cmd_core.specs.Contents.{has_key}
use Rattle.multi_watch.specs.Watchers.{numbers_at}
use Rattle.multi_watch.proofs.HeldLemmas.{finds, AllShort}
use Rattle.multi_watch.proofs.watchers.Watchers.held_in.Given as goal

abbrev pub invariant-loop-key : goal.invariant-loop-key
invariant-loop-key g l = record {
  held : (own : List ℕ) → finds (g.L.Lookup.keyspace l.lookup) own l.held.items l.key-iterator ≡ (is_some (numbers_at l.self.table.entries own) && has_key (g.L.Lookup.keyspace l.lookup) own);
  short : AllShort l.key-iterator;
}
