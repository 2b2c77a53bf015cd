use Rattle.std.proofs.Common.{rules}
use Rattle.extent_heap.proofs.BitsLemmas.{assigns_mark, assigns_none}
use Rattle.extent_heap.proofs.bits.Bits.assign.Goals as goal
use Rattle.extent_heap.proofs.bits.Bits.assign.Goals.{then-mark, else-mark}

pub returns : goal.returns
returns c =
    let words = c.args.self.now.words.items in
    elim c.if-mark.branch [
      | then-mark w ↦ assigns_mark words c.args.number c.index-word.result.now c.if-mark.word c.args.mark (search rules) c.index-word.ensures w.if-mark.true w.word-is
      | else-mark w ↦ assigns_none words c.args.number c.index-word.result.now c.if-mark.word c.args.mark (search rules) c.index-word.ensures w.if-mark.false w.word-is
    ]
