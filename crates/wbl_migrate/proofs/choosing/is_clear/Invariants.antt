use Rattle.std.proofs.Common.{◌≡◌, drop}
use Rattle.wbl_migrate.specs.Moving.{is_clear}
use Rattle.wbl_migrate.proofs.choosing.is_clear.Given as goal

abbrev pub invariant-loop-other : goal.invariant-loop-other
invariant-loop-other l = is_clear l.place (drop l.other-index l.others) ≡ is_clear l.place l.others
