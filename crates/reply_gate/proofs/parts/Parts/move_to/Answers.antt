use Rattle.std.proofs.Common.{◌≡◌, ◌+◌, ◌-◌, ◌++◌, take, drop, ap, sym, ◌∙◌, arith, append_assoc, length-drop}
use Rattle.std.proofs.lemmas.List.{drop-drop}
use Rattle.std.proofs.Math.Seq.{take-add}
use Rattle.reply_gate.specs.Parts.{all_bytes}
use Rattle.reply_gate.proofs.parts.Parts.move_to.Goals as goal

pub loop-left-preserved : goal.loop-left-preserved
loop-left-preserved c =
    let bytes = all_bytes c.loop-left.self in
    let count = c.move_first-left.result in
    let left = c.loop-left.left - count in
    let split : count + left ≡ c.loop-left.left = omega (arith, c.move_first-left.ensures.within) in
    let both = rw split at (take-add count left bytes) in
    let rest = rw split at (drop-drop left count bytes) in
    rw c.move_first-left.ensures.rest (record {
      within = omega (arith, length-drop count bytes, c.loop-left.invariant.within);
      rest = rest ∙ c.loop-left.invariant.rest;
      moved =
          ap (λ items. items ++ take left (drop count bytes)) c.move_first-left.ensures.out ∙ append_assoc c.loop-left.out.items (take count bytes) (take left (drop count bytes))
          ∙ ap (λ more. c.loop-left.out.items ++ more) (sym both) ∙ c.loop-left.invariant.moved;
      room = omega (arith, c.loop-left.invariant.room, c.move_first-left.ensures.len, c.move_first-left.ensures.room);
    })
