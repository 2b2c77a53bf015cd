use Rattle.std.proofs.Common.{◌<◌, None, length, refl, arith}
use Rattle.std.proofs.lemmas.List.{get_or_read_under}
use Rattle.pmem.proofs.Walks.{Flushing, Flushing-start, Flushing-turn, HoldsIn-flush}
use Rattle.pmem.proofs.cells.Cells.flush.Goals as goal

pub loop-place-init : goal.loop-place-init
loop-place-init c =
    let cells = c.args.self.now in
    let below : c.args.line < length cells.heads.items = omega (arith, c.requires.in_range, cells.heads.ok.0) in
    record {
      newest = refl;
      heads = refl;
      flushing = Flushing-start cells.heads.items cells.pool.items c.args.line c.requires.chained below c.index-place.result.now
          (get_or_read_under cells.heads.items c.args.line (length cells.heads.items) c.index-place.result.now None c.index-place.ensures below refl);
    }

pub loop-place-smaller : goal.loop-place-smaller
loop-place-smaller c =
    (Flushing-turn c.args.self.now.heads.items c.args.self.now.pool.items c.loop-place.self.pool.items c.args.line c.loop-place.place c.in-Some.k
    c.index_mut-candidate.result.now c.requires.chained c.loop-place.invariant.flushing c.in-Some.is c.index_mut-candidate.ensures.value).1

pub loop-place-preserved : goal.loop-place-preserved
loop-place-preserved c =
    record {
      newest = c.loop-place.invariant.newest;
      heads = c.loop-place.invariant.heads;
      flushing =
          (Flushing-turn c.args.self.now.heads.items c.args.self.now.pool.items c.loop-place.self.pool.items c.args.line c.loop-place.place c.in-Some.k
          c.index_mut-candidate.result.now c.requires.chained c.loop-place.invariant.flushing c.in-Some.is c.index_mut-candidate.ensures.value).0;
    }

pub returns-clause-held : goal.returns-clause-held
returns-clause-held c words starved holds =
    let cells = c.args.self.now in
    let done : Flushing cells.pool.items c.loop-place.self.pool.items c.args.line None = rw c.in_default.is at c.loop-place.invariant.flushing in
    rw (c.loop-place.invariant.newest, c.loop-place.invariant.heads)
    (HoldsIn-flush cells.newest.items cells.heads.items cells.pool.items c.loop-place.self.pool.items c.args.line done.size (λ k under. done.beyond k (omega arith) under)
    words starved holds)
