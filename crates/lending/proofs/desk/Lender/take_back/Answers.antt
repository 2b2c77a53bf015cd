use Rattle.std.proofs.Common.{rules, Some}
use Rattle.lending.proofs.Keeps.{takes_back, begins_with}
use Rattle.lending.proofs.desk.Lender.take_back.Goals as goal

pub compare_exchange-word-requires : goal.compare_exchange-word-requires
compare_exchange-word-requires g c = (search rules, search rules, takes_back g.L.Terms.offers g.L.Terms.keeps _ _ _ _ c.self.invariant.3)

pub exchange-requires : goal.exchange-requires
exchange-requires g c = let t = c.compare_exchange-word.ensures.2.0 c.if-word-ne-RETURNED.false in (search rules, (Some t.1, begins_with _ _ _ t.5))
