use Rattle.std.proofs.Common.{arith}
use Rattle.model.specs.Group.{change_of}
use Rattle.mv_keyspace.specs.Row.{records_of}
use Rattle.mv_keyspace.proofs.KeyCountLemmas.{keys_counted}
use Rattle.mv_keyspace.proofs.counting.count_others.Goals as goal

pub overflow_sub-result : goal.overflow_sub-result
overflow_sub-result c = grind (arith, keys_counted (change_of c.args.change.now) (records_of c.args.rows.now))
