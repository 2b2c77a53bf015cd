use Rattle.kv_types.proofs.GrammarSpellings.{spelling-parted}
use Rattle.kv_types.proofs.grammar_laws.one_spelling.Goals as goal

pub returns : goal.returns
returns c = λ limits few short a b x y within_a within_b e. spelling-parted limits a b x y (record { words = few; word_bytes = short }) within_a within_b e
