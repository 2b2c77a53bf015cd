use Rattle.std.proofs.Common.{rules}
use Rattle.serving.proofs.PlacesLemmas.{own-lifted}
use Rattle.serving.proofs.places.Places.lift.Goals as goal

pub returns-in-Some-clause-seat : goal.returns-in-Some-clause-seat
returns-in-Some-clause-seat c = own-lifted c.args.self.now.connections.items c.args.number.number c.take.result c.args.self.now.in_place (search rules)
