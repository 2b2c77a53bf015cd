use Rattle.std.proofs.Common.{rules, ◌∙◌, ap}
use Rattle.lending.proofs.Keeps.{opened, splits}
use Rattle.lending.proofs.desk.lending.Goals as goal

pub store-requires : goal.store-requires
store-requires g c = (search rules, search rules, opened g.L.Terms.offers g.L.Terms.keeps _ _ _ c.in-Ok.ensures.ok.4)

pub split_seat-other-requires : goal.split_seat-other-requires
split_seat-other-requires g c = (search rules, search rules, splits g.L.Terms.offers g.L.Terms.keeps _ _ (ap (λ v. v.borrows) c.store.ensures.2.0 ∙ ap (λ m. m.0.borrows) c.in-Ok.ensures.ok.4))
