use Rattle.std.proofs.Common.{◌≡◌, ◌+◌, ◌<◌, ◌≤◌, drop, length}
use Rattle.placing.specs.Fitting.{lines_wanted, most}
use Rattle.placing.proofs.fitting.wanted_by.Given as goal

abbrev pub invariant-loop-change : goal.invariant-loop-change
invariant-loop-change l = record {
  some : 0 < l.longest;
  few : l.count ≤ l.change-index;
  counted : l.count + length (lines_wanted (drop l.change-index l.changes)) ≡ length (lines_wanted l.changes);
  greatest : most l.longest (lines_wanted (drop l.change-index l.changes)) ≡ most 1 (lines_wanted l.changes);
}
