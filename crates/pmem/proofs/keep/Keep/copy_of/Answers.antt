use Rattle.std.proofs.Common.{vec_len, sym}
use Rattle.pmem.proofs.Keeping.{HoldsCopy-now}
use Rattle.pmem.proofs.keep.Keep.copy_of.Goals as goal

pub returns-in-Ok-clause-held : goal.returns-in-Ok-clause-held
returns-in-Ok-clause-held c starved holds =
    let cells = c.args.cells.now in
    HoldsCopy-now cells c.in-Ok.copy c.of.result.value c.args.history.now (vec_len cells.heads) starved c.of.ensures
    c.in-Ok.ensures.0 c.in-Ok.ensures.1 c.in-Ok.ensures.2 (sym cells.heads.ok.0) holds
