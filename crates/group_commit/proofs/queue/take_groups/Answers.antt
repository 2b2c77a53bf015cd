use Rattle.std.proofs.Common.{List, [], ◌∷◌, ◌++◌, length, refl, sym, ap, subst, ◌∙◌, length-append, arith}
use Rattle.model.specs.declared.group.Group.{Group}
use Rattle.model.specs.declared.work.FreeList.{FreeList}
use Rattle.group_commit.proofs.TakingLemmas.{TakesEach, TakesEach-more, TakesEach-none, none-many, one-less}
use Rattle.group_commit.proofs.queue.take_groups.Goals as goal

pub loop-init : goal.loop-init
loop-init c = record {
  takes = subst (λ (groups : List Group). TakesEach c.args.work.now.items c.reserve.new.self.items groups c.args.work.now.items c.reserve.new.self.items) (sym c.in_ok-groups.ensures.items)
      (TakesEach-none c.args.work.now.items c.reserve.new.self.items c.reserve.new.self.items refl);
  count = ap length c.in_ok-groups.ensures.items;
  short = omega arith;
  left = omega arith;
  room = omega (arith, c.in_ok-reserve.ensures.ok, c.len.ensures, c.reserve.ensures.len);
  spare = c.in_ok-groups.ensures.capacity;
}

pub unreachable-requires : goal.unreachable-requires
unreachable-requires c =
    let none = none-many c.loop.aside.items c.loop.work.items c.take_group.new.aside.items c.take_group.new.work.items c.in_default.ensures.came in
    omega (arith, none, c.loop.invariant.left, c.loop-test.true, c.min-many.ensures, c.count_groups.ensures)

pub push_reserved-requires : goal.push_reserved-requires
push_reserved-requires c = omega (arith, c.loop.invariant.count, c.loop.invariant.spare, c.loop-test.true, c.loop.groups.ok.0)

pub loop-preserved : goal.loop-preserved
loop-preserved c =
    let less = one-less c.loop.aside.items c.loop.work.items c.in-Some.group c.take_group.new.aside.items c.take_group.new.work.items c.in-Some.ensures.came in
    let grown = ap length c.push_reserved.ensures.items in
    let sum = length-append c.loop.groups.items (c.in-Some.group ∷ []) in
    record {
      takes = subst (λ (groups : List Group). TakesEach c.args.work.now.items c.reserve.new.self.items groups c.take_group.new.work.items c.take_group.new.aside.items)
          (sym c.push_reserved.ensures.items)
          (TakesEach-more c.args.work.now.items c.reserve.new.self.items c.loop.groups.items c.loop.work.items c.loop.aside.items c.in-Some.group c.take_group.new.work.items
          c.take_group.new.aside.items c.loop.invariant.takes c.in-Some.ensures.came);
      count = omega (arith, grown, sum, c.loop.invariant.count);
      short = omega (arith, c.loop-test.true);
      left = omega (arith, less, c.loop.invariant.left);
      room = c.in-Some.ensures.room;
      spare = omega (arith, c.loop.invariant.spare, c.push_reserved.ensures.capacity);
    }

pub returns-clause-many : goal.returns-clause-many
returns-clause-many c = omega (arith, c.loop.invariant.count, c.loop.invariant.short, c.loop-test.false, c.min-many.ensures, c.count_groups.ensures)

pub returns-clause-taken : goal.returns-clause-taken
returns-clause-taken c =
    let takes = c.loop.invariant.takes in
    (takes.lists, takes.set_aside ∙ ap (λ (xs : List FreeList). xs ++ takes.lists) c.reserve.ensures.items, takes.taken)
