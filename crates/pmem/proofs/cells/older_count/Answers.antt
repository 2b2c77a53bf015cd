use Rattle.std.proofs.Common.{length-append, sym, ◌<◌, ◌/◌, length, ap, arith, ◌∙◌}
use Rattle.pmem.specs.Cell.{at, older_below, older_of}
use Rattle.pmem.proofs.Chains.{older_of-hit, older_of-miss}
use Rattle.pmem.proofs.Walks.{end_of}
use Rattle.pmem.proofs.Picking.{Walking-start, Walking-next, length-older_in}
use Rattle.pmem.proofs.cells.older_count.Goals as goal
use Rattle.pmem.proofs.cells.older_count.Goals.{then-candidate-word, else-candidate-word}

pub loop-place-init : goal.loop-place-init
loop-place-init c =
    let heads = c.args.heads.now in
    let below : c.args.word / 8 < length heads.items = omega (arith, c.requires.in_range, heads.ok.0) in
    let start = Walking-start heads.items c.args.pool.now.items c.args.word c.requires.chained below c.index-place.result.now c.index-place.ensures in
    let same = ap length start.1 in
    record { walking = start.0; counted = omega (arith, same) }

pub overflow_add-count : goal.overflow_add-count
overflow_add-count c =
    let pool = c.args.pool.now in
    let all = length-older_in pool.items c.args.word in
    omega (arith, all, pool.ok.0, pool.ok.1, pool.small, c.loop-place.invariant.counted)

pub loop-place-smaller : goal.loop-place-smaller
loop-place-smaller c =
    (Walking-next c.args.heads.now.items c.args.pool.now.items c.args.word c.loop-place.place c.in-Some.k c.index-candidate.result.now
    c.requires.chained c.loop-place.invariant.walking c.in-Some.is c.index-candidate.ensures).1

pub loop-place-preserved : goal.loop-place-preserved
loop-place-preserved c =
    let pool = c.args.pool.now.items in
    let candidate = c.index-candidate.result.now in
    let next = Walking-next c.args.heads.now.items pool c.args.word c.loop-place.place c.in-Some.k candidate
    c.requires.chained c.loop-place.invariant.walking c.in-Some.is c.index-candidate.ensures in
    let split = ap length next.3 ∙ length-append (older_below (at pool) c.args.word (end_of candidate.next)) (older_of candidate c.args.word) in
    record {
      walking = next.0;
      counted =
          elim c.if-candidate-word.branch [
            | then-candidate-word w ↦
                let one = ap length (older_of-hit candidate c.args.word (sym w.if-candidate-word.true)) in
                omega (arith, w.count-is, split, one, c.loop-place.invariant.counted)
            | else-candidate-word w ↦
                let none = ap length (older_of-miss candidate c.args.word (λ e. w.if-candidate-word.false (sym e))) in
                omega (arith, w.count-is, split, none, c.loop-place.invariant.counted)
          ];
    }

pub returns-clause-bound : goal.returns-clause-bound
returns-clause-bound c =
    let pool = c.args.pool.now in
    let all = length-older_in pool.items c.args.word in
    omega (arith, all, pool.ok.0, c.loop-place.invariant.counted)
