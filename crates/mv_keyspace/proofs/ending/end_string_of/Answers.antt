use Rattle.std.proofs.Common.{sym, subst}
use Rattle.mv_keyspace.specs.Row.{TakesOut, is_string_of}
use Rattle.mv_keyspace.proofs.PuttingLemmas.{takes_out-none}
use Rattle.mv_keyspace.proofs.ending.end_string_of.Goals as goal

pub returns-in-Str : goal.returns-in-Str
returns-in-Str c =
    subst (λ id. TakesOut (is_string_of id) c.args.rows.now c.args.rows.now c.args.ended.now c.args.ended.now) (sym c.in-Str.is) (takes_out-none c.in-Str.field-0 c.args.rows.now c.args.ended.now)
