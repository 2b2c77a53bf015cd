use Rattle.std.proofs.Common.{arith}
use Rattle.model.proofs.CallsLemmas.{IsPrefix-cut_at, position_of-cut_at, IsPrefix-into-cut_at}
use Rattle.model.proofs.laws.cut_is_the_longest_prefix.Goals as goal

pub returns : goal.returns
returns c = record {
  prefix = IsPrefix-cut_at;
  few = λ calls p. omega (arith, position_of-cut_at calls p);
  longest = λ calls prefix p. IsPrefix-into-cut_at p;
}
