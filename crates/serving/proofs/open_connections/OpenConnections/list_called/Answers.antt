use Rattle.std.proofs.Common.{arith, refl, sym, ap, ◌∙◌}
use Rattle.serving.specs.Callers.{answers_of}
use Rattle.serving.specs.declared.callers.Callers.{Callers}
use Rattle.serving.proofs.VisitLemmas.{answer-none, heeding-ends, heeding-more, heeding-most, heeding-none}
use Rattle.serving.proofs.open_connections.OpenConnections.list_called.Goals as goal

pub loop-init : goal.loop-init
loop-init g c = record { arrivals = refl; heeds = λ s. heeding-none _ _ }

pub loop-preserved : goal.loop-preserved
loop-preserved g c =
    let now = c.list.ensures in
    record {
      arrivals = ap (λ (callers : Callers). callers.arrivals) now.callers ∙ (c.next.ensures.arrivals ∙ c.loop.invariant.arrivals);
      heeds = λ s. heeding-more _ _ _ c.loop.counter _ _ _ c.in-Some.number.number (c.loop.invariant.heeds s)
          (ap (λ (callers : Callers). answers_of callers.answers) now.callers ∙ rw (sym c.in-Some.ensures) at c.next.ensures.answers) (now.heeds s);
    }

pub returns-in_default-clause-heeds : goal.returns-in_default-clause-heeds
returns-in_default-clause-heeds g c s =
    let nobody = answer-none c.next.result.seat (rw c.seat.ensures at c.in_default.not-Some) in
    heeding-ends _ (answers_of c.loop.self.callers.answers) _ c.loop.counter _ _ (c.loop.invariant.heeds s) (rw nobody at c.next.ensures.answers)

pub returns-clause-heeds : goal.returns-clause-heeds
returns-clause-heeds g c s = heeding-most _ _ c.loop.counter _ _ (c.loop.invariant.heeds s) (omega (arith, c.loop-test.false, c.loop.auto.counter-end))
