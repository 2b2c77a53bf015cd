use Rattle.std.proofs.Common.{rules}
use Rattle.extent_heap.proofs.HeapLemmas.{fresh_lines}
use Rattle.extent_heap.proofs.heap.ExtentHeap.new.Goals as goal

pub returns-clause-lines : goal.returns-clause-lines
returns-clause-lines c = fresh_lines c.args.first c.args.end c.saturating_sub-free.result c.in_ok-lines.lines c.in_ok-lines.ensures.runs (search rules)
