use Rattle.std.proofs.Common.{◌∷◌, [], ◌++◌, ◌-◌, ◌+◌, sym, ap, ◌∙◌, append_assoc}
use Rattle.client.specs.Printed.{indentation}
use Rattle.client.proofs.PrintedLemmas.{indentation-less}
use Rattle.client.proofs.printing.put_indentation.Goals as goal

pub loop-level-preserved : goal.loop-level-preserved
loop-level-preserved c =
    let rest = indentation (c.args.depth - (c.loop-level._level + 1)) in
    ap (λ xs. xs ++ rest) c.in_ok-extend_from_slice.ensures.items ∙ append_assoc c.loop-level.text.items (32 ∷ 32 ∷ []) rest
    ∙ ap (λ xs. c.loop-level.text.items ++ xs) (sym (indentation-less c.args.depth c.loop-level._level c.loop-level-test.true)) ∙ c.loop-level.invariant
