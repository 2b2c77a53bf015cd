use Rattle.std.proofs.Common.{◌<◌, ◌^◌, ◌-◌, List, ℕ, get_or, length, subst, arith}
use Rattle.pmem_file.proofs.WordsLemmas.{fit-front}
use Rattle.pmem_file.proofs.words.Words.len.Goals as goal

pub returns-clause-fit : goal.returns-clause-fit
returns-clause-fit c =
    let kept = c.self.inside.kept.items in
    subst (λ (words : List ℕ). (word : ℕ) → get_or words word 0 < 2 ^ 64) c.self.view_is
    (fit-front kept (c.self.inside.count - length kept) (2 ^ 64) (omega arith) (rw c.deref.ensures.value at c.fit.ensures))
