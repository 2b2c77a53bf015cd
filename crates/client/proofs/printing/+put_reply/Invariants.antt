use Rattle.std.proofs.Common.{◌≡◌, ◌++◌, drop}
use Rattle.std.specs.List.{flat_map}
use Rattle.client.specs.Printed.{lines_at}
use Rattle.client.proofs.printing.+put_reply.Given as goal

abbrev pub invariant-loop-element : goal.invariant-loop-element
invariant-loop-element l = l.text.items ++ flat_map (lines_at l.inner) (drop l.element-index l.element-items) ≡ l.fn.text.items ++ lines_at l.depth l.reply
