use Rattle.std.proofs.Common.{[]}
use Rattle.std.proofs.lemmas.Result.{err_from_is_err_and}
use Rattle.links.specs.Giving.{untaken}
use Rattle.links.proofs.SentRounds.{OnOk-err}
use Rattle.links.proofs.GivenCopies.{TakesGroup-by, TakesGroup-stays}
use Rattle.links.proofs.giving.give_next.Goals as goal

pub returns-in-Err : goal.returns-in-Err
returns-in-Err g c =
    let refused = c.in-Err.ensures.refused in
    record { gives = ([], c.take_group.new.self.link, TakesGroup-stays g.I.Inlet.take_gives _ _ _ _ refused.2.0 refused.2.1 refused.2.2, untaken _ _, tt) }

pub returns-in_err-came : goal.returns-in_err-came
returns-in_err-came g c =
    let took = c.in-Ok.ensures in
    let takes = c.in_err-came.ensures.takes in
    let exit = err_from_is_err_and c.from_residual.result c.from_residual.ensures.1 in
    record {
      gives = (takes.0, c.take_group.new.self.link, TakesGroup-by g.I.Inlet.take_gives c.in-Ok.took _ _ _ _ took.follows took.full took.next, takes.1, OnOk-err _ _ exit.0 exit.1);
    }

pub returns-then-took : goal.returns-then-took
returns-then-took g c =
    let took = c.in-Ok.ensures in
    let takes = c.in_ok-came.ensures.takes in
    record { gives = (takes.0, c.take_group.new.self.link, TakesGroup-by g.I.Inlet.take_gives c.in-Ok.took _ _ _ _ took.follows took.full took.next, takes.1, takes.2) }

pub returns-else-took : goal.returns-else-took
returns-else-took g c =
    let took = c.in-Ok.ensures in
    let takes = c.in_ok-came.ensures.takes in
    record { gives = (takes.0, c.take_group.new.self.link, TakesGroup-by g.I.Inlet.take_gives c.in-Ok.took _ _ _ _ took.follows took.full took.next, takes.1, takes.2) }
