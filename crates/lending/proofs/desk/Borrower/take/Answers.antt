use Rattle.std.proofs.Common.{rules, ◌∙◌, ap, Some}
use Rattle.lending.specs.Phases.{borrower_has}
use Rattle.lending.proofs.Keeps.{takes_lent, begins_with}
use Rattle.lending.proofs.desk.Borrower.take.Goals as goal

pub compare_exchange-found-requires : goal.compare_exchange-found-requires
compare_exchange-found-requires g c = let i = c.self.invariant in (search rules, search rules, takes_lent g.L.Terms.offers g.L.Terms.keeps _ _ _ (i.4 ∙ ap borrower_has (ap (λ v. v.value) c.self.view_is ∙ c.requires)) i.3)

pub exchange-requires : goal.exchange-requires
exchange-requires g c = let t = c.compare_exchange-found.ensures.2.0 c.if-found-ne-LENT.false in (search rules, (Some t.0, begins_with _ _ _ t.3))
