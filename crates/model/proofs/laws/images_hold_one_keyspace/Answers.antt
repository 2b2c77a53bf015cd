use Rattle.model.proofs.MapLemmas.{IsMapOf-unique}
use Rattle.model.proofs.StandingLemmas.{Holds-record, Holds-keyspace}
use Rattle.model.proofs.laws.images_hold_one_keyspace.Goals as goal

pub returns : goal.returns
returns c = record {
  map = λ versions entries s t lawful_s lawful_t a b. IsMapOf-unique a b lawful_s lawful_t;
  current = λ lines a b s t image few in_a in_b. Holds-record few in_a in_b;
  keyspace = λ lines r s t image lawful_s lawful_t in_s in_t. Holds-keyspace lawful_s lawful_t in_s in_t;
}
