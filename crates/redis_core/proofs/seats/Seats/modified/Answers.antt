use Rattle.std.proofs.Common.{◌≡◌, ℕ, subst}
use Rattle.std.specs.Option.{option_map}
use Rattle.multi_watch.specs.Session.{modified}
use Rattle.multi_watch.specs.Sessions.{Sessions, slot}
use Rattle.redis_core.specs.Seats.{by_seat}
use Rattle.redis_core.proofs.SeatsLemmas.{modified_seat, modified_seats}
use Rattle.redis_core.proofs.seats.Seats.modified.Goals as goal

pub returns : goal.returns
returns c =
    let numbers = c.self.inside.numbers.items in
    subst (λ (old : Sessions). (seat : ℕ) → slot (by_seat c.modified.new.self numbers) seat ≡ option_map (modified c.args.key.now) (slot old seat)) c.self.view_is
    (modified_seat c.self.inside.sessions c.modified.new.self numbers c.args.key.now c.modified.ensures.slots)

pub invariant_of-self : goal.invariant_of-self
invariant_of-self c = modified_seats c.self.inside.sessions c.modified.new.self c.self.inside.numbers.items c.args.key.now c.self.invariant c.modified.ensures.slots
