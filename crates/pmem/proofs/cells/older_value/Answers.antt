use Rattle.std.proofs.Common.{ℕ, ◌<◌, ◌/◌, ◌-◌, length, arith, sym, subst}
use Rattle.pmem.specs.Cell.{older_in}
use Rattle.pmem.proofs.Walks.{end_of}
use Rattle.pmem.proofs.Picking.{Walking-start, Walking-next, Seeking, Seeking-start, seek-hit, seek-miss}
use Rattle.pmem.proofs.cells.older_value.Goals as goal
use Rattle.pmem.proofs.cells.older_value.Goals.{then-candidate-word+else-newer-eq0, else-candidate-word}

pub loop-place-init : goal.loop-place-init
loop-place-init c =
    let heads = c.args.heads.now in
    let pool = c.args.pool.now.items in
    let below : c.args.word / 8 < length heads.items = omega (arith, c.requires.in_range, heads.ok.0) in
    let start = Walking-start heads.items pool c.args.word c.requires.chained below c.index-place.result.now c.index-place.ensures in
    record {
      walking = start.0;
      seeking = Seeking-start pool c.args.word (end_of c.index-place.result.now) c.args.newer start.1 c.requires.there;
    }

pub loop-place-smaller : goal.loop-place-smaller
loop-place-smaller c =
    (Walking-next c.args.heads.now.items c.args.pool.now.items c.args.word c.loop-place.place c.in-Some.k c.index-candidate.result.now
    c.requires.chained c.loop-place.invariant.walking c.in-Some.is c.index-candidate.ensures).1

pub loop-place-preserved : goal.loop-place-preserved
loop-place-preserved c =
    let pool = c.args.pool.now.items in
    let candidate = c.index-candidate.result.now in
    let next = Walking-next c.args.heads.now.items pool c.args.word c.loop-place.place c.in-Some.k candidate
    c.requires.chained c.loop-place.invariant.walking c.in-Some.is c.index-candidate.ensures in
    let number = length (older_in pool c.args.word) - 1 - c.args.newer in
    record {
      walking = next.0;
      seeking =
          elim c.if-candidate-word.branch [
            | then-candidate-word+else-newer-eq0 w ↦
                subst (λ (newer : ℕ). Seeking pool c.args.word (end_of candidate.next) number newer) (sym w.newer-is)
                (seek-hit pool c.args.word (end_of c.loop-place.place) (end_of candidate.next) number c.loop-place.newer candidate next.3
                c.loop-place.invariant.seeking w.if-candidate-word.true w.if-newer-eq0.false)
            | else-candidate-word w ↦
                subst (λ (newer : ℕ). Seeking pool c.args.word (end_of candidate.next) number newer) (sym w.newer-is)
                (seek-miss pool c.args.word (end_of c.loop-place.place) (end_of candidate.next) number c.loop-place.newer candidate next.3
                c.loop-place.invariant.seeking w.if-candidate-word.false)
          ];
    }
