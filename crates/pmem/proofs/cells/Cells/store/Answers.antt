use Rattle.std.proofs.Common.{◌≡◌, ◌<◌, ◌/◌, None, length, refl, arith}
use Rattle.std.proofs.lemmas.List.{get_or_read_under}
use Rattle.std.proofs.lemmas.Result.{err_from_is_err_and}
use Rattle.pmem.proofs.Chains.{HoldsIn-store, HoldsIn-starved_store}
use Rattle.pmem.proofs.cells.Cells.store.Goals as goal

pub returns-in_err-push-clause-err : goal.returns-in_err-push-clause-err
returns-in_err-push-clause-err c =
    let p = err_from_is_err_and c.from_residual.result c.from_residual.ensures.1 in
    rw p.1 (λ words starved holds.
    let cells = c.args.self.now in
    let inside : c.args.word < length cells.newest.items = omega (arith, c.requires.in_range, cells.newest.ok.0) in
    rw c.in_err-push.ensures.items
    (HoldsIn-starved_store cells.newest.items cells.heads.items cells.pool.items words starved c.args.word c.args.value inside holds))

pub returns-clause-ok : goal.returns-clause-ok
returns-clause-ok c words starved holds =
    let cells = c.args.self.now in
    let inside : c.args.word < length cells.newest.items = omega (arith, c.requires.in_range, cells.newest.ok.0) in
    let line_inside : c.args.word / 8 < length cells.heads.items = omega (arith, c.requires.in_range, c.requires.sizes, cells.heads.ok.0) in
    let value = get_or_read_under cells.newest.items c.args.word (length cells.newest.items) c.index.result.now 0 c.index.ensures inside refl in
    let next = get_or_read_under cells.heads.items (c.args.word / 8) (length cells.heads.items) c.index-2.result.now None c.index-2.ensures line_inside refl in
    let place : c.len-place.result ≡ length cells.pool.items = omega (arith, c.len-place.ensures, cells.pool.ok.0) in
    rw (c.in_ok-push.ensures.items, value, next, place)
    (HoldsIn-store cells.newest.items cells.heads.items cells.pool.items words starved c.args.word c.args.value inside holds)
