use Rattle.std.proofs.Common.{◌≡◌, ◌<◌, arith, length, slice_set, None, sym, ap, subst, ◌∙◌}
use Rattle.std.proofs.lemmas.List.{length-set}
use Rattle.lobby.specs.Book.{Book}
use Rattle.connections.specs.Session.{SeatsRefine, seat_of, seats_of}
use Rattle.connections.proofs.OverLemmas.{ended-seats, none-seated, none-seated_next, over-seats}
use Rattle.connections.proofs.connections.end_all.Goals as goal
use Rattle.connections.proofs.connections.end_all.Goals.{in-Some, in_default}

pub loop-connection-preserved : goal.loop-connection-preserved
loop-connection-preserved c =
    let codes = c.loop-connection.connection-items in
    let at = c.loop-connection.connection-index in
    let code = c.connection-item.result in
    let new = c.leave.new.self in
    let own : seat_of code ≡ c.leave.result = ap seat_of c.connection-item.is ∙ sym c.leave.ensures.seat in
    let over : seat_of new ≡ None = c.leave.ensures.over in
    let within : at < length codes = omega (arith, c.loop-connection-test.true, c.loop-connection.auto.connection-items) in
    record {
      seats = λ stand. elim c.match-leave.branch [
        | in-Some b ↦ subst (λ (book : Book). SeatsRefine book.statuses (seats_of (slice_set codes at new))) (sym b.lobby-is)
            (ended-seats c.loop-connection.lobby b.leave-in-Some.new.self codes at b.in-Some.seat code new within c.connection-item.is (own ∙ b.in-Some.is) over b.leave-in-Some.ensures.moves
            (c.loop-connection.invariant.seats stand))
        | in_default b ↦ subst (λ (book : Book). SeatsRefine book.statuses (seats_of (slice_set codes at new))) (sym b.lobby-is)
            (over-seats c.loop-connection.lobby codes at code new c.connection-item.is (own ∙ b.in_default.is) over (c.loop-connection.invariant.seats stand))
      ];
      none = none-seated_next codes at new over c.loop-connection.invariant.none;
      count = length-set codes at new ∙ c.loop-connection.invariant.count;
    }

pub returns-clause-unseated : goal.returns-clause-unseated
returns-clause-unseated c =
    let codes = c.loop-connection.connection-items in
    none-seated codes _ c.loop-connection.connection-index _ (omega (arith, c.loop-connection.auto.connection-items, c.deref_mut-connection-items.ensures.len))
    (omega (arith, c.loop-connection-test.false, c.loop-connection.auto.connection-items)) c.loop-connection.invariant.none
