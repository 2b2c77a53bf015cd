use Rattle.std.proofs.Common.{◌<◌, ℕ, length, get_or, ap, sym, ◌∙◌, arith, ◌+◌, ◌%◌, ◌++◌, ◌∷◌, [], map}
use Rattle.pmem.specs.Device.{Older}
use Rattle.std.proofs.lemmas.List.{get_or_read_under}
use Rattle.pmem.specs.Cell.{older_in}
use Rattle.pmem.proofs.Picking.{Picked-hit, Picked-miss, Picked-end}
use Rattle.pmem.proofs.cells.pick_all.Goals as goal
use Rattle.pmem.proofs.cells.pick_all.Goals.{then-older_count-gt0, else-older_count-gt0}

pub loop-word-preserved : goal.loop-word-preserved
loop-word-preserved c =
    let newest = c.args.newest.now in
    let pool = c.args.pool.now.items in
    let below : c.loop-word.word < length newest.items = omega (arith, c.loop-word-test.true, c.len-word-end.ensures, newest.ok.0) in
    elim c.if-older_count-gt0.branch [
      | then-older_count-gt0 w ↦
          Picked-hit newest.items c.loop-word.newest.items c.if-older_count-gt0.newest.items pool c.args.picks.now c.loop-word.word c.loop-word.used
          c.if-older_count-gt0.used w.pick_at.result w.candidate_at.result below c.loop-word.invariant
          (omega (arith, w.if-older_count-gt0.true, c.older_count.ensures.count)) w.pick_at.ensures
          (w.candidate_at.ensures
          ∙ ap (λ (x : ℕ). get_or (map (λ (o : Older). o.value) (older_in pool c.loop-word.word) ++ x ∷ [])
          (w.pick_at.result % (length (older_in pool c.loop-word.word) + 1)) 0)
          (get_or_read_under c.loop-word.newest.items c.loop-word.word (length newest.items) w.index.result.now 0 w.index.ensures below
          (sym c.loop-word.invariant.size)
          ∙ c.loop-word.invariant.rest c.loop-word.word (omega arith)))
          (ap (λ v. v.items) w.newest-is) w.used-is
      | else-older_count-gt0 w ↦
          Picked-miss newest.items c.loop-word.newest.items c.if-older_count-gt0.newest.items pool c.args.picks.now c.loop-word.word c.loop-word.used
          c.if-older_count-gt0.used c.loop-word.invariant (omega (arith, w.if-older_count-gt0.false, c.older_count.ensures.count))
          (ap (λ v. v.items) w.newest-is) w.used-is
    ]

pub returns-clause-picked : goal.returns-clause-picked
returns-clause-picked c word =
    let newest = c.args.newest.now in
    let heads = c.args.heads.now in
    Picked-end newest.items c.loop-word.newest.items heads.items c.args.pool.now.items c.args.picks.now c.loop-word.word c.loop-word.used c.requires.chained
    (omega (arith, c.requires.sizes, newest.ok.0, heads.ok.0)) (omega (arith, c.loop-word-test.false, c.len-word-end.ensures, newest.ok.0))
    c.loop-word.invariant word
