use Rattle.std.proofs.Common.{◌≡◌, ℕ, ◌<◌, ◌/◌, false, true, None, length, refl, sym, subst, ap, ◌∙◌, arith}
use Rattle.std.proofs.lemmas.List.{get_or_read_under}
use Rattle.pmem.specs.declared.cells.Candidate.{Candidate}
use Rattle.pmem.specs.Cell.{at}
use Rattle.pmem.proofs.Compacting.{Compacting-keep, Compacting-drop}
use Rattle.pmem.proofs.cells.compact.Goals as goal
use Rattle.pmem.proofs.cells.compact.Goals.{then-not-candidate, else-not-candidate}

pub loop-i-preserved : goal.loop-i-preserved
loop-i-preserved c =
    let pool = c.args.pool.now in
    let heads = c.args.heads.now in
    let x = c.index-candidate.result.now in
    let old = c.loop-i.pool.items in
    let going = c.loop-i.invariant in
    let below : c.loop-i.i < length pool.items = omega (arith, c.loop-i-test.true, c.len-i-end.ensures, pool.ok.0) in
    let is : x ≡ at old c.loop-i.i =
    get_or_read_under old c.loop-i.i (length old) x (record { word = 0; value = 0; passed = false; next = None }) c.index-candidate.ensures (omega (arith, going.size)) refl in
    elim c.if-not-candidate.branch [
      | then-not-candidate w ↦
          let word : x.word ≡ (at pool.items c.loop-i.i).word = ap (λ (y : Candidate). y.word) (is ∙ going.ahead c.loop-i.i (omega arith)) in
          let line : x.word / 8 < length c.loop-i.heads.items =
          subst (λ (w : ℕ). w / 8 < length c.loop-i.heads.items) (sym word) (omega (arith, c.requires.lines c.loop-i.i (omega (arith, pool.ok.0)), going.lines, heads.ok.0)) in
          let fresh : x.passed ≡ false = grind (arith, w.if-not-candidate.true) in
          rw (w.pool-is, w.heads-is, w.kept-is)
          (Compacting-keep pool.items old heads.items c.loop-i.heads.items c.loop-i.i c.loop-i.kept x w.index.result.now below line going is fresh
          (get_or_read_under c.loop-i.heads.items (x.word / 8) (length c.loop-i.heads.items) w.index.result.now None w.index.ensures line refl))
      | else-not-candidate w ↦
          let passed : x.passed ≡ true = grind (arith, w.if-not-candidate.false) in
          rw (w.pool-is, w.heads-is, w.kept-is)
          (Compacting-drop pool.items old heads.items c.loop-i.heads.items c.loop-i.i c.loop-i.kept x going is passed)
    ]
