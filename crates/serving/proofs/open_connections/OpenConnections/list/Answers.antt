use Rattle.std.proofs.Common.{refl, sym, ◌∙◌}
use Rattle.serving.specs.Visiting.{floor_of}
use Rattle.serving.proofs.VisitLemmas.{heeds-lists}
use Rattle.serving.proofs.open_connections.OpenConnections.list.Goals as goal

pub returns-in-Some-clause-heeds : goal.returns-in-Some-clause-heeds
returns-in-Some-clause-heeds c s =
    heeds-lists c.args.number.number (floor_of c.args.self.now s) (floor_of c.serve_again.new.self s) c.lift.new.self.connections.items c.in-Some.connection (sym c.in-Some.ensures.lifted)
    c.in-Some.ensures.seat (sym c.is_again.ensures ∙ c.if-is_again.false) c.lift.ensures.rest (c.serve_again.ensures.listed s) c.serve_again.ensures.short c.serve_again.ensures.filling refl
