use Rattle.std.proofs.Common.{sym, subst, arith, rules}
use Rattle.extent_heap.specs.Room.{Room, IsOut}
use Rattle.extent_heap.proofs.Pools.{free_fits}
use Rattle.extent_heap.proofs.Rooms.{undo_extent}
use Rattle.extent_heap.proofs.heap.ExtentHeap.give.Goals as goal

pub overflow_add-self : goal.overflow_add-self
overflow_add-self c =
    let out = subst (λ (r : Room). IsOut r c.args.extent) (sym c.self.view_is) c.requires in
    omega (arith, free_fits c.self.inside.end_line c.self.inside.lines c.give.new.runs c.self.inside.line_forks c.self.inside.free c.self.inside.held c.args.extent c.self.invariant out.within c.give.ensures.given)

pub returns-clause-after : goal.returns-clause-after
returns-clause-after c = search rules

pub returns-clause-undoes : goal.returns-clause-undoes
returns-clause-undoes c = λ before takes. undo_extent before c.args.extent c.args.self.now _ takes (returns-clause-after c)
