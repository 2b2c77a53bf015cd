use Rattle.std.proofs.Common.{◌≡◌, drop}
use Rattle.wbl_engine.specs.Freeing.{is_listed}
use Rattle.wbl_migrate.proofs.choosing.lists.Given as goal

abbrev pub invariant-loop-one : goal.invariant-loop-one
invariant-loop-one l = is_listed l.entry.0 (drop l.one-index l.entries) ≡ is_listed l.entry.0 l.entries
