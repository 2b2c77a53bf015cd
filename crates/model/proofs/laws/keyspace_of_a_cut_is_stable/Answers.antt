use Rattle.model.proofs.CallsLemmas.{keyspace_after-cut_at-append, keyspace_after-cut_at-position, keyspace_after-cut_at-zero, position_of-cut_at}
use Rattle.model.proofs.laws.keyspace_of_a_cut_is_stable.Goals as goal

pub returns : goal.returns
returns c = record {
  stable = keyspace_after-cut_at-append;
  newest = keyspace_after-cut_at-position;
  oldest = keyspace_after-cut_at-zero;
  position = position_of-cut_at;
}
