use Rattle.std.proofs.Common.{◌≡◌, ◌+◌, ◌≤◌, deque_capacity, deque_len, length, vec_capacity}
use Rattle.group_commit.proofs.TakingLemmas.{TakesEach, many_in}
use Rattle.group_commit.proofs.queue.take_groups.Given as goal

abbrev pub invariant-loop : goal.invariant-loop
invariant-loop l = record {
  takes : TakesEach l.initial.work.items l.initial.aside.items l.groups.items l.work.items l.aside.items;
  count : length l.groups.items ≡ l.counter;
  short : l.counter ≤ l.many;
  left : l.counter + many_in l.work.items ≡ many_in l.initial.work.items;
  room : deque_len l.aside + length l.work.items ≤ deque_capacity l.aside;
  spare : l.many ≤ vec_capacity l.groups;
}
