use Rattle.std.proofs.Common.{◌≡◌, ◌∙◌, length, subst}
use Rattle.extent_heap.specs.Room.{Room, free_lines_below}
use Rattle.extent_heap.proofs.Counting.{free_lines_are}
use Rattle.extent_heap.proofs.heap.ExtentHeap.free_lines.Goals as goal

pub returns : goal.returns
returns c =
    let room : Room = record { lines = c.self.inside.lines; end_line = c.self.inside.end_line; held = c.self.inside.held; entries = c.self.inside.entries; end_entry = length c.self.inside.entries } in
    subst (λ (r : Room). c.self.inside.free ≡ free_lines_below r r.end_line) c.self.view_is (c.self.invariant.count ∙ free_lines_are room c.self.invariant.pool.ordered)
