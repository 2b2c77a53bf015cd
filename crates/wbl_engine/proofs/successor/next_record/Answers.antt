use Rattle.std.proofs.Common.{refl, ap, arith}
use Rattle.std.proofs.lemmas.Bool.{both_ways}
use Rattle.wbl_engine.proofs.SuccessorLemmas.{lawful_later}
use Rattle.wbl_engine.proofs.successor.next_record.Goals as goal

pub returns-then-group-lt-COUNTER_LIMIT-clause-lawful : goal.returns-then-group-lt-COUNTER_LIMIT-clause-lawful
returns-then-group-lt-COUNTER_LIMIT-clause-lawful c =
    lawful_later c.args.current.now _ c.requires.lawful
    (record {
      number = omega (arith, c.if-number-lt-COUNTER_LIMIT.true);
      position = omega (arith, c.if-position-lt-COUNTER_LIMIT.true);
      room = omega (arith, c.if-cd-lt-COUNTER_LIMIT.true);
      epoch = omega (arith, c.if-group-lt-COUNTER_LIMIT.true);
    })
    refl refl (omega arith) c.requires.epoch (ap (λ gaps. gaps.items) c.copy_gaps.ensures) refl
    (λ is. absurd (both_ways c.is_newcomer.result c.if-is_newcomer.false (c.is_newcomer.ensures.1 is)))

pub returns-then-group-lt-COUNTER_LIMIT-clause-other : goal.returns-then-group-lt-COUNTER_LIMIT-clause-other
returns-then-group-lt-COUNTER_LIMIT-clause-other c is = both_ways c.is_newcomer.result c.if-is_newcomer.false (c.is_newcomer.ensures.1 is)
