use Rattle.std.proofs.Common.{rules, ◌≡◌, ◌+◌, ◌<◌, length, false, subst}
use Rattle.kv_types.specs.declared.place.Extent.{Extent}
use Rattle.packing.specs.Taken.{IsMarked, Takes, nth}
use Rattle.packing.proofs.Marks.{free_of_all, taken_moved}
use Rattle.packing.proofs.taken.make.Goals as goal

pub returns-clause-is : goal.returns-clause-is
returns-clause-is c = λ _.
    let took : Takes c.args.taken.now.items c.args.step.to c.take.new.taken.items = search rules in
    record {
      given = search rules;
      lines = search rules;
      from = search rules;
      within = took.free.within;
      free = free_of_all c.args.taken.now.items c.args.extents.now.items c.args.step.to c.requires took.some took.free;
    }

pub returns-clause-taken : goal.returns-clause-taken
returns-clause-taken c = λ _.
    let took : Takes c.args.taken.now.items c.args.step.to c.take.new.taken.items = search rules in
    let has : c.args.step.index < length c.args.extents.now.items = search rules in
    let extent : c.in-Some.extent ≡ nth c.args.extents.now.items c.args.step.index = search rules in
    let left = subst (λ (e : Extent). IsMarked c.take.new.taken.items e.first_line (e.first_line + e.lines) false c.mark.new.taken.items) extent c.mark.ensures in
    taken_moved c.args.taken.now.items c.take.new.taken.items c.mark.new.taken.items c.args.extents.now.items c.args.step.index c.args.step.to c.requires has took left
