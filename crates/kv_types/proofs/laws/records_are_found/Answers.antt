use Rattle.kv_types.proofs.MemberLemmas.{found_at, member-from_found}
use Rattle.kv_types.proofs.laws.records_are_found.Goals as goal

pub returns : goal.returns
returns c s id value ok = (member-from_found s id value, λ m. found_at s id value m.0 ok.sorted m.1 m.2)
