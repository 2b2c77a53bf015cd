use Rattle.std.proofs.Common.{◌≡◌, ◌++◌, drop, take}
use Rattle.mv_keyspace.specs.Versions.{without_pin}
use Rattle.mv_keyspace.proofs.past.place_of.Given as goal

abbrev pub invariant-loop-at : goal.invariant-loop-at
invariant-loop-at l = take l.at l.pins ++ without_pin l.position (drop l.at l.pins) ≡ without_pin l.position l.pins
