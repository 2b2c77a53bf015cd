use Rattle.resp_codec.proofs.Pieces.{AsksFor-Reaches, AsksFor-Reaches_all}
use Rattle.resp_codec.proofs.laws.in_any_pieces.Goals as goal

pub returns-clause-begins : goal.returns-clause-begins
returns-clause-begins c = λ text given held r. AsksFor-Reaches r

pub returns-clause-all : goal.returns-clause-all
returns-clause-all c = λ text given held r none. AsksFor-Reaches_all r none
