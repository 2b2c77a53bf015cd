use Rattle.std.proofs.Common.{deque_capacity, deque_len, length, ◌+◌, ◌≤◌}
use Rattle.group_commit.proofs.TakingLemmas.{Taken}
use Rattle.group_commit.proofs.queue.take_group.Given as goal

abbrev pub invariant-loop : goal.invariant-loop
invariant-loop l = record {
  taken : Taken l.initial.work.items l.initial.aside.items l.counter l.work.items l.aside.items;
  room : deque_len l.aside + length l.work.items ≤ deque_capacity l.aside;
}
