use Rattle.std.proofs.Common.{arith}
use Rattle.group_commit.proofs.TakingLemmas.{from-same, none-comes}
use Rattle.group_commit.proofs.queue.set_aside.Goals as goal

pub take_group-requires : goal.take_group-requires
take_group-requires c = record { room = omega (arith, c.in_ok-reserve.ensures.ok, c.len.ensures, c.reserve.ensures.len) }

pub returns-clause-all : goal.returns-clause-all
returns-clause-all c =
    from-same c.reserve.ensures.items
    (none-comes c.reserve.new.self.items c.args.work.now.items c.take_group.result c.take_group.new.aside.items c.take_group.new.work.items c.take_group.ensures.came c.requires.none)
