use Rattle.std.proofs.Common.{arith, refl}
use Rattle.world.proofs.PairClosing.{accept-does, accept-none, no_notices}
use Rattle.world.proofs.pair.Pair.accept_freed.Goals as goal

pub returns-in_default-clause-does : goal.returns-in_default-clause-does
returns-in_default-clause-does g c = λ history.
    let cases = rw c.in_default.is at c.pop_front.ensures.cases in
    let old = c.args.self.now.notices in
    let new = c.pop_front.new.self in
    accept-none _ new.items (no_notices old.items (omega (arith, cases.0, old.ok.0))) (no_notices new.items (omega (arith, cases.1, new.ok.0)))

pub returns-clause-does : goal.returns-clause-does
returns-clause-does g c = λ history.
    accept-does _ c.take_back.new.self.sequencer c.in-Some.freed c.pop_front.new.self.items c.in-Some.ensures.items
    c.take_back.ensures.back
    c.take_back.ensures.stands

pub returns-clause-leaves : goal.returns-clause-leaves
returns-clause-leaves g c = λ history. record {
  primary = λ idle. refl;
  standby = λ idle. refl;
  frames = refl;
  acknowledgements = refl;
  effect = record { notice = c.in-Some.freed; notices_are = c.in-Some.ensures.items; back = c.take_back.ensures.back };
}
