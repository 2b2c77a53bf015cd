use Rattle.std.proofs.Common.{◌≡◌, ◌+◌, arith, length-drop, ap}
use Rattle.std.proofs.Math.Seq.{take-add}
use Rattle.reply_gate.specs.Gate.{covered_bytes, held_bytes}
use Rattle.reply_gate.specs.Parts.{all_bytes}
use Rattle.reply_gate.proofs.HeldLemmas.{held_bytes-split}
use Rattle.reply_gate.proofs.gate.Gate.release.Goals as goal

pub invariant_of-self : goal.invariant_of-self
invariant_of-self c =
    let text = all_bytes c.self.inside.parts in
    let p = c.self.inside.pending in
    let n = c.take_covered.result in
    let split = held_bytes-split c.args.seen.now c.self.inside.held.items in
    let left : held_bytes c.take_covered.new.held.items + n ≡ held_bytes c.self.inside.held.items =
    omega (arith, split, c.take_covered.ensures.bytes, ap held_bytes c.take_covered.ensures.rest) in (
      omega (arith, c.take_covered.ensures.within, c.self.invariant.0, c.self.invariant.1, length-drop p text, left),
      omega (arith, c.self.invariant.0, c.self.invariant.1, length-drop p text, length-drop (p + n) text, left),
    )

pub returns-clause-pending : goal.returns-clause-pending
returns-clause-pending c =
    rw (← c.self.view_is, c.take_covered.ensures.bytes)
    (take-add c.self.inside.pending (covered_bytes c.args.seen.now c.self.inside.held.items) (all_bytes c.self.inside.parts))
