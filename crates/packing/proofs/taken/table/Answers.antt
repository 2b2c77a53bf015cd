use Rattle.std.proofs.Common.{rules, ◌≡◌, ◌+◌, ◌∙◌, ℕ, suc, subst, arith}
use Rattle.packing.specs.Taken.{AreTaken, Takes, nth}
use Rattle.packing.proofs.Marks.{taken_more}
use Rattle.packing.proofs.taken.table.Goals as goal

pub loop-extent-preserved : goal.loop-extent-preserved
loop-extent-preserved c =
    let i = c.loop-extent.extent-index in
    let took : Takes c.loop-extent.taken.items (nth c.args.extents.now i) c.take.new.taken.items = search rules in
    let next : suc i ≡ i + 1 = omega arith in
    record {
      taken = subst (λ (n : ℕ). AreTaken c.take.new.taken.items n c.args.extents.now) next
          (taken_more c.loop-extent.taken.items c.take.new.taken.items i c.args.extents.now c.loop-extent.invariant.taken took);
      lines = took.marked.count ∙ c.loop-extent.invariant.lines;
    }
