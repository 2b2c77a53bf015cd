use Rattle.mv_keyspace.specs.Row.{table_of}
use Rattle.mv_keyspace.specs.Versions.{table_in}
use Rattle.mv_keyspace.proofs.PagingLemmas.{none-in, with_rows-none}
use Rattle.mv_keyspace.proofs.overlaying.overlaid.Goals as goal

pub returns-then-is_empty : goal.returns-then-is_empty
returns-then-is_empty c = with_rows-none (table_of c.args.live.items) (table_in c.args.past.entries) c.requires.order (none-in c.args.past.entries (c.is_empty.ensures.0 c.if-is_empty.true))
