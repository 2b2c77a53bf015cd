use Rattle.std.proofs.Common.{rules, ◌∙◌, ap}
use Rattle.lending.proofs.Keeps.{gives_back}
use Rattle.lending.proofs.desk.Borrower.give_back.Goals as goal

pub store-requires : goal.store-requires
store-requires g c = let i = c.self.invariant in (search rules, search rules, gives_back g.L.Terms.offers g.L.Terms.keeps c.deref-table.result.now.shared.table_id.slots c.exchange.new.seat.id c.self.inside.seat.me c.exchange.new.seat.me c.requires.0 c.args.value c.exchange.ensures.3 i.4 i.3 (ap (λ v. v.value) c.self.view_is ∙ c.requires.1) c.requires.2)
