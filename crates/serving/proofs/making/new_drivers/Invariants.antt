use Rattle.std.proofs.Common.{◌≡◌}
use Rattle.std.specs.Arc.{arc_value}
use Rattle.serving.proofs.making.new_drivers.Given as goal

-- the seat stays one of these marks
abbrev pub invariant-loop : goal.invariant-loop
invariant-loop g l = l.root.marks ≡ arc_value l.marks
