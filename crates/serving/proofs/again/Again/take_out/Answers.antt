use Rattle.std.proofs.Common.{ℕ, List, rules, ap, ◌∙◌}
use Rattle.std.specs.List.{remove}
use Rattle.serving.proofs.AgainLemmas.{takes-out}
use Rattle.serving.proofs.again.Again.take_out.Goals as goal

pub returns : goal.returns
returns c =
    takes-out c.remove.result c.self.inside.numbers.items c.remove.new.self.items _ c.args.index c.remove.ensures.items c.remove.ensures.unchanged (λ same. ap (λ deque. deque.items) same) c.remove.ensures.variant (search rules)
    ∙ ap (λ (xs : List ℕ). remove xs c.args.index) (search rules)
