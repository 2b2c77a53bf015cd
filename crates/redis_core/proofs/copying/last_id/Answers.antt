use Rattle.std.proofs.Common.{◌-◌, length, arith}
use Rattle.mv_keyspace.proofs.PagingLemmas.{last-split}
use Rattle.redis_core.proofs.copying.last_id.Goals as goal

pub returns-in-len1-up : goal.returns-in-len1-up
returns-in-len1-up c =
    let rows = c.args.rows.now in
    last-split rows (length rows - 1) c.last-item.result (omega (arith, c.in-len1-up.len_at_least)) c.last-item.is
