use Rattle.std.proofs.Common.{◌≡◌, ℕ, Result, Err, Ok, ap, subst, ◌∙◌}
use Rattle.std.proofs.lemmas.Result.{err_from_is_err_and}
use Rattle.standby.specs.Taking.{Rearranges}
use Rattle.standby.proofs.RoomLemmas.{IsReady, IsReady-then, Rearranges-done, Rearranges-passed, Rearranges-still, Rearranges-then}
use Rattle.standby.proofs.standby.Standby.make_moves.Given.{Over}
use Rattle.standby.proofs.standby.Standby.make_moves.Goals as goal
use Rattle.standby.proofs.standby.Standby.make_moves.Goals.{After-move_some}

pub loop-init : goal.loop-init
loop-init g c =
    let ready : IsReady g.E.Durable.device g.E.Durable.contents g.E.Durable.is_faulted g.K.Keyspace.table c.args.frame.now c.args.self.now =
    record { follows = c.requires.follows; none = c.requires.none; sound = c.requires.sound; durable = c.requires.durable; counters = c.requires.counters } in
    record {
      so_far = Rearranges-still g.E.Durable.device g.E.Durable.contents g.E.Durable.is_faulted g.K.Keyspace.table c.args.frame.now c.args.self.now tt ready;
      ready = ready;
      gapless = λ none. none;
    }

pub returns-in_err-made-clause-rearranges : goal.returns-in_err-made-clause-rearranges
returns-in_err-made-clause-rearranges g c =
    let exit = err_from_is_err_and c.from_residual.result c.from_residual.ensures.1 in
    rw (exit.1 ∙ ap Err exit.2)
    (Rearranges-then g.E.Durable.device g.E.Durable.contents g.E.Durable.is_faulted g.K.Keyspace.table c.args.frame.now c.args.self.now c.loop.self c.move_some.new.self tt (Err c.in_err-made.field-0.0)
    c.loop.invariant.so_far
    (Rearranges-passed g.E.Durable.device g.E.Durable.contents g.E.Durable.is_faulted g.K.Keyspace.table c.args.frame.now c.loop.self c.move_some.new.self c.in_err-made.field-0.0
    c.in_err-made.ensures.rearranges))

-- the move, after those before it
so_far : (g : Over) (c : After-move_some g) (done : ℕ) → c.move_some.result ≡ Ok done
    → Rearranges g.E.Durable.device g.E.Durable.contents g.E.Durable.is_faulted g.K.Keyspace.table {X = Unit {0}} c.args.frame.now c.args.self.now (Ok tt) c.move_some.new.self
so_far g c done is =
    Rearranges-then g.E.Durable.device g.E.Durable.contents g.E.Durable.is_faulted g.K.Keyspace.table c.args.frame.now c.args.self.now c.loop.self c.move_some.new.self tt (Ok tt) c.loop.invariant.so_far
    (Rearranges-done g.E.Durable.device g.E.Durable.contents g.E.Durable.is_faulted g.K.Keyspace.table c.args.frame.now c.loop.self c.move_some.new.self done tt
    (subst (λ (result : Result ℕ _). Rearranges g.E.Durable.device g.E.Durable.contents g.E.Durable.is_faulted g.K.Keyspace.table {X = ℕ} c.args.frame.now c.loop.self result c.move_some.new.self) is
    c.move_some.ensures.rearranges))

pub returns-then-made-eq0-clause-rearranges : goal.returns-then-made-eq0-clause-rearranges
returns-then-made-eq0-clause-rearranges g c = so_far g (goal.at.returns-then-made-eq0-clause-rearranges g c).After-move_some c.in_ok-made.made c.in_ok-made.was

pub loop-preserved : goal.loop-preserved
loop-preserved g c =
    let now = so_far g (goal.at.loop-preserved g c).After-move_some c.in_ok-made.made c.in_ok-made.was in
    record {
      so_far = now;
      ready = IsReady-then g.E.Durable.device g.E.Durable.contents g.E.Durable.is_faulted g.K.Keyspace.table c.args.frame.now c.args.self.now c.move_some.new.self tt now;
      gapless = λ none. c.in_ok-made.ensures.gapless (c.loop.invariant.gapless none);
    }
