use Rattle.std.proofs.Common.{◌≡◌, take, map}
use Rattle.wbl_migrate.specs.Moving.{place_read}
use Rattle.wbl_migrate.proofs.choosing.places_of.Given as goal

abbrev pub invariant-loop-no : goal.invariant-loop-no
invariant-loop-no l = l.places.items ≡ map place_read (take l.no-index l.counted)
