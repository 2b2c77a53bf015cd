use Rattle.std.proofs.Common.{rules}
use Rattle.extent_heap.proofs.Rooms.{undo_entry}
use Rattle.extent_heap.proofs.heap.ExtentHeap.give_entry.Goals as goal

pub returns-clause-after : goal.returns-clause-after
returns-clause-after c = search rules

pub returns-clause-undoes : goal.returns-clause-undoes
returns-clause-undoes c = λ before takes. undo_entry before c.args.entry c.args.self.now _ takes (returns-clause-after c)
