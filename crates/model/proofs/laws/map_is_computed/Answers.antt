use Rattle.model.proofs.MapLemmas.{map_below-map, IsMapOf-none}
use Rattle.model.proofs.laws.map_is_computed.Goals as goal

pub returns : goal.returns
returns c = record { computed = λ versions entries s lawful map. map_below-map map lawful; none = IsMapOf-none }
