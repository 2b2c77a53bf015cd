use Rattle.std.proofs.Common.{◌≡◌, Bool, true, Result, Err, Ok, ap, subst, ◌∙◌}
use Rattle.std.proofs.lemmas.Result.{err_from_is_err_and}
use Rattle.standby.specs.Taking.{Rearranges}
use Rattle.standby.proofs.RoomLemmas.{Rearranges-done, Rearranges-passed, Rearranges-then}
use Rattle.standby.proofs.standby.Standby.move_for.Given.{Over}
use Rattle.standby.proofs.standby.Standby.move_for.Goals as goal
use Rattle.standby.proofs.standby.Standby.move_for.Goals.{After-move_by, After-move_by-2}

-- after the first plan, and after the second
first : (g : Over) (c : After-move_by g) (done : Bool) → c.move_by.result ≡ Ok done → Rearranges g.E.Durable.device g.E.Durable.contents g.E.Durable.is_faulted g.K.Keyspace.table {X = Unit {0}} c.args.frame.now c.args.self.now (Ok tt) c.move_by.new.self
first g c done is =
    Rearranges-done g.E.Durable.device g.E.Durable.contents g.E.Durable.is_faulted g.K.Keyspace.table c.args.frame.now c.args.self.now c.move_by.new.self done tt
    (subst (λ (result : Result Bool _). Rearranges g.E.Durable.device g.E.Durable.contents g.E.Durable.is_faulted g.K.Keyspace.table {X = Bool} c.args.frame.now c.args.self.now result c.move_by.new.self) is c.move_by.ensures.rearranges)

second : (g : Over) (c : After-move_by-2 g) (done : Bool) → c.move_by-2.result ≡ Ok done → Rearranges g.E.Durable.device g.E.Durable.contents g.E.Durable.is_faulted g.K.Keyspace.table {X = Unit {0}} c.args.frame.now c.args.self.now (Ok tt) c.move_by.new.self
    → Rearranges g.E.Durable.device g.E.Durable.contents g.E.Durable.is_faulted g.K.Keyspace.table {X = Unit {0}} c.args.frame.now c.args.self.now (Ok tt) c.move_by-2.new.self
second g c done is before =
    Rearranges-then g.E.Durable.device g.E.Durable.contents g.E.Durable.is_faulted g.K.Keyspace.table c.args.frame.now c.args.self.now c.move_by.new.self c.move_by-2.new.self tt (Ok tt) before
    (Rearranges-done g.E.Durable.device g.E.Durable.contents g.E.Durable.is_faulted g.K.Keyspace.table c.args.frame.now c.move_by.new.self c.move_by-2.new.self done tt
    (subst (λ (result : Result Bool _). Rearranges g.E.Durable.device g.E.Durable.contents g.E.Durable.is_faulted g.K.Keyspace.table {X = Bool} c.args.frame.now c.move_by.new.self result c.move_by-2.new.self) is c.move_by-2.ensures.rearranges))

pub returns-in_err-move_by-clause-rearranges : goal.returns-in_err-move_by-clause-rearranges
returns-in_err-move_by-clause-rearranges g c =
    let exit = err_from_is_err_and c.from_residual.result c.from_residual.ensures.1 in
    rw (exit.1 ∙ ap Err exit.2) (Rearranges-passed g.E.Durable.device g.E.Durable.contents g.E.Durable.is_faulted g.K.Keyspace.table c.args.frame.now c.args.self.now c.move_by.new.self c.in_err-move_by.field-0.0 c.in_err-move_by.ensures.rearranges)

pub returns-then-branch-clause-rearranges : goal.returns-then-branch-clause-rearranges
returns-then-branch-clause-rearranges g c =
    Rearranges-done g.E.Durable.device g.E.Durable.contents g.E.Durable.is_faulted g.K.Keyspace.table c.args.frame.now c.args.self.now c.move_by.new.self tt true
    (first g (goal.at.returns-then-branch-clause-rearranges g c).After-move_by c.in_ok-move_by.field-0 c.in_ok-move_by.was)

pub move_by-requires-2-clause-durable : goal.move_by-requires-2-clause-durable
move_by-requires-2-clause-durable g c = c.in_ok-move_by.ensures.rearranges.durable (λ is. cc)

pub returns-in_err-move_by-2-clause-rearranges : goal.returns-in_err-move_by-2-clause-rearranges
returns-in_err-move_by-2-clause-rearranges g c =
    let exit = err_from_is_err_and c.from_residual-in_err-move_by-2.result c.from_residual-in_err-move_by-2.ensures.1 in
    let at = goal.at.returns-in_err-move_by-2-clause-rearranges g c in
    rw (exit.1 ∙ ap Err exit.2)
    (Rearranges-then g.E.Durable.device g.E.Durable.contents g.E.Durable.is_faulted g.K.Keyspace.table c.args.frame.now c.args.self.now c.move_by.new.self c.move_by-2.new.self tt (Err c.in_err-move_by-2.field-0.0) (first g at.After-move_by c.in_ok-move_by.field-0 c.in_ok-move_by.was)
    (Rearranges-passed g.E.Durable.device g.E.Durable.contents g.E.Durable.is_faulted g.K.Keyspace.table c.args.frame.now c.move_by.new.self c.move_by-2.new.self c.in_err-move_by-2.field-0.0 c.in_err-move_by-2.ensures.rearranges))

pub returns-then-branch-2-clause-rearranges : goal.returns-then-branch-2-clause-rearranges
returns-then-branch-2-clause-rearranges g c =
    let at = goal.at.returns-then-branch-2-clause-rearranges g c in
    Rearranges-done g.E.Durable.device g.E.Durable.contents g.E.Durable.is_faulted g.K.Keyspace.table c.args.frame.now c.args.self.now c.move_by-2.new.self tt true
    (second g at.After-move_by-2 c.in_ok-move_by-2.field-0 c.in_ok-move_by-2.was (first g at.After-move_by c.in_ok-move_by.field-0 c.in_ok-move_by.was))

pub move_by-requires-3-clause-durable : goal.move_by-requires-3-clause-durable
move_by-requires-3-clause-durable g c = c.in_ok-move_by-2.ensures.rearranges.durable (λ is. cc)

pub returns-clause-rearranges : goal.returns-clause-rearranges
returns-clause-rearranges g c =
    let at = goal.at.returns-clause-rearranges g c in
    let before = second g at.After-move_by-2 c.in_ok-move_by-2.field-0 c.in_ok-move_by-2.was (first g at.After-move_by c.in_ok-move_by.field-0 c.in_ok-move_by.was) in
    Rearranges-then g.E.Durable.device g.E.Durable.contents g.E.Durable.is_faulted g.K.Keyspace.table c.args.frame.now c.args.self.now c.move_by-2.new.self c.move_by-3.new.self tt c.move_by-3.result before
    c.move_by-3.ensures.rearranges

pub returns-clause-gapless : goal.returns-clause-gapless
returns-clause-gapless g c = λ none. c.move_by-3.ensures.gapless (c.in_ok-move_by-2.ensures.gapless (c.in_ok-move_by.ensures.gapless none))
