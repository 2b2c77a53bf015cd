use Rattle.std.proofs.Common.{ap, refl, length, arith}
use Rattle.group_commit.proofs.TakingLemmas.{Taken-none, Taken-push, Taken-group, Taken-all, none-left-over}
use Rattle.group_commit.proofs.queue.take_group.Goals as goal

pub loop-init : goal.loop-init
loop-init c = record { taken = Taken-none c.args.work.now.items c.args.aside.now.items; room = c.requires.room }

pub returns-in-Some-Commit-clause-came : goal.returns-in-Some-Commit-clause-came
returns-in-Some-Commit-clause-came c =
    Taken-group c.args.work.now.items c.loop.work.items c.take.new.self.items c.args.aside.now.items c.loop.aside.items c.loop.aside.items c.loop.counter c.in-Some-Commit.group c.loop.invariant.taken
    (rw c.in-Some-Commit.field-0-is at c.in-Some-Commit.ensures) refl

pub returns-in-Some-Commit-clause-room : goal.returns-in-Some-Commit-clause-room
returns-in-Some-Commit-clause-room c = let some = ap length c.in-Some-Commit.ensures in omega (arith, c.loop.invariant.room, some)

pub push_back_reserved-requires : goal.push_back_reserved-requires
push_back_reserved-requires c = let some = ap length c.in-Some-Free.ensures in omega (arith, c.loop.invariant.room, some)

pub returns-in-None-clause-came : goal.returns-in-None-clause-came
returns-in-None-clause-came c =
    Taken-all c.args.work.now.items c.loop.work.items c.take.new.self.items c.args.aside.now.items c.loop.aside.items c.loop.counter c.loop.invariant.taken c.in-None.ensures.0 c.in-None.ensures.1

pub returns-in-None-clause-room : goal.returns-in-None-clause-room
returns-in-None-clause-room c = let before = ap length c.in-None.ensures.0 in let after = ap length c.in-None.ensures.1 in omega (arith, c.loop.invariant.room, before, after)

pub loop-preserved : goal.loop-preserved
loop-preserved c = record {
  taken = Taken-push c.args.work.now.items c.loop.work.items c.take.new.self.items c.args.aside.now.items c.loop.aside.items c.push_back_reserved.new.self.items c.loop.counter c.in-Some-Free.list c.loop.invariant.taken
      (rw c.in-Some-Free.field-0-is at c.in-Some-Free.ensures) c.push_back_reserved.ensures.items;
  room = let some = ap length c.in-Some-Free.ensures in omega (arith, c.loop.invariant.room, some, c.push_back_reserved.ensures.len, c.push_back_reserved.ensures.capacity);
}

pub returns-clause-came : goal.returns-clause-came
returns-clause-came c =
    let none = none-left-over c.args.work.now.items c.loop.work.items c.args.aside.now.items c.loop.aside.items c.loop.counter 256 c.loop.invariant.taken c.args.work.now.within (omega (arith, c.loop-test.false)) in
    Taken-all c.args.work.now.items c.loop.work.items c.loop.work.items c.args.aside.now.items c.loop.aside.items c.loop.counter c.loop.invariant.taken none none
