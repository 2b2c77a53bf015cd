use Rattle.std.proofs.Common.{◌≡◌, ◌+◌, ◌-◌, ◌≤◌, vec_len}
use Rattle.std.specs.Vec.{vec_capacity}
use Rattle.extent_heap.proofs.spare.Spare.make.Given as goal

abbrev pub invariant-loop-self : goal.invariant-loop-self
invariant-loop-self l = record {
  within : vec_len l.self.forks ≤ l.self.made;
  more : vec_len l.initial.self.forks ≤ vec_len l.self.forks;
  counted : l.self.made + vec_len l.initial.self.forks ≡ l.initial.self.made + vec_len l.self.forks;
  room : l.self.made ≤ vec_capacity l.self.forks;
}

abbrev pub decreases-loop-self : goal.decreases-loop-self
decreases-loop-self l = l.wanted - vec_len l.self.forks
