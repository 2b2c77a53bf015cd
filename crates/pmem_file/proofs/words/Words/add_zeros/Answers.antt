use Rattle.std.proofs.Common.{ℕ, ◌+◌, ◌++◌, List, replicate, ap, ◌∙◌}
use Rattle.pmem_file.proofs.WordsLemmas.{whole, whole-longer}
use Rattle.pmem_file.proofs.words.Words.add_zeros.Goals as goal

pub returns : goal.returns
returns c =
    let count = c.self.inside.count in
    ap (λ (kept : List ℕ). whole kept (count + c.args.count)) c.reserve.ensures.items
    ∙ whole-longer c.self.inside.kept.items count c.args.count c.self.invariant.0
    ∙ ap (λ (words : List ℕ). words ++ replicate c.args.count 0) c.self.view_is
