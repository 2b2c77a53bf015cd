use Rattle.std.proofs.Common.{◌≡◌, ℕ, length, subst, ap, arith}
use Rattle.pmem.proofs.Compacting.{Unlinking, Unlinking-end}
use Rattle.pmem.proofs.cells.unlink.Goals as goal

pub returns-clause-unlinked : goal.returns-clause-unlinked
returns-clause-unlinked c =
    let pool = c.args.pool.now.items in
    let same : length c.deref-candidate-items.result.now ≡ length pool = ap length c.deref-candidate-items.ensures.value in
    let end : c.loop-candidate.candidate-index ≡ length pool =
    omega (arith, same, c.loop-candidate-test.false, c.loop-candidate.auto.candidate-index-end) in
    Unlinking-end c.args.heads.now.items c.loop-candidate.heads.items pool c.requires
    (subst (λ (i : ℕ). Unlinking c.args.heads.now.items c.loop-candidate.heads.items pool i) end c.loop-candidate.invariant)
