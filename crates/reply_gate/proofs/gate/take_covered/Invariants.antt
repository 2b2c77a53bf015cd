use Rattle.std.proofs.Common.{◌≡◌, ◌+◌, length}
use Rattle.reply_gate.specs.Gate.{covered_bytes, uncovered_rest, held_bytes}
use Rattle.reply_gate.proofs.gate.take_covered.Given as goal

-- what was taken and what is still to be taken together make up what there was
abbrev pub invariant-loop-reply : goal.invariant-loop-reply
invariant-loop-reply l = record {
  bytes : l.bytes + covered_bytes l.seen l.held.items ≡ covered_bytes l.seen l.initial.held.items;
  rest : uncovered_rest l.seen l.held.items ≡ uncovered_rest l.seen l.initial.held.items;
  within : l.bytes + held_bytes l.held.items ≡ held_bytes l.initial.held.items;
}

abbrev pub decreases-loop-reply : goal.decreases-loop-reply
decreases-loop-reply l = length l.held.items
