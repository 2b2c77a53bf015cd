use Rattle.std.proofs.Common.{◌≡◌, ◌+◌, ◌≤◌, ◌++◌, length, take, drop, vec_len, vec_capacity}
use Rattle.reply_gate.specs.Parts.{all_bytes}
use Rattle.reply_gate.proofs.parts.Parts.move_to.Given as goal

-- what was moved and what is still to be moved together are the first bytes
abbrev pub invariant-loop-left : goal.invariant-loop-left
invariant-loop-left l = record {
  within : l.left ≤ length (all_bytes l.self);
  rest : drop l.left (all_bytes l.self) ≡ drop l.fn.n (all_bytes l.fn.self);
  moved : l.out.items ++ take l.left (all_bytes l.self) ≡ l.fn.out.items ++ take l.fn.n (all_bytes l.fn.self);
  room : vec_len l.out + l.left ≤ vec_capacity l.out;
}

abbrev pub decreases-loop-left : goal.decreases-loop-left
decreases-loop-left l = l.left
