use Rattle.std.proofs.Common.{rules, ◌∙◌, ap}
use Rattle.lending.proofs.Keeps.{lends}
use Rattle.lending.proofs.desk.Lender.lend.Goals as goal

pub store-requires : goal.store-requires
store-requires g c = let i = c.self.invariant in (search rules, search rules, lends g.L.Terms.offers g.L.Terms.keeps c.deref-table.result.now.shared.table_id.slots c.exchange.new.seat.id c.self.inside.seat.me c.exchange.new.seat.me c.args.value c.requires.offered c.exchange.ensures.3 i.5 i.3 i.4 (ap (λ v. v.value) c.self.view_is ∙ c.requires.home))
