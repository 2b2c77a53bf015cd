use Rattle.std.proofs.Common.{◌≡◌, ◌≤◌, length, drop}
use Rattle.reply_gate.specs.Parts.{all_bytes}
use Rattle.reply_gate.proofs.parts.Parts.advance.Given as goal

abbrev pub invariant-loop-left : goal.invariant-loop-left
invariant-loop-left l = record {
  within : l.left ≤ length (all_bytes l.self);
  rest : drop l.left (all_bytes l.self) ≡ drop l.fn.n (all_bytes l.fn.self);
}

abbrev pub decreases-loop-left : goal.decreases-loop-left
decreases-loop-left l = l.left
