use Rattle.std.proofs.Common.{refl, ap, arith}
use Rattle.wbl_engine.proofs.SuccessorLemmas.{lawful_later, standby_other}
use Rattle.wbl_engine.proofs.copying.copied_record.Goals as goal

pub returns-then-number-lt-COUNTER_LIMIT-clause-lawful : goal.returns-then-number-lt-COUNTER_LIMIT-clause-lawful
returns-then-number-lt-COUNTER_LIMIT-clause-lawful c =
    lawful_later c.args.current.now _ c.requires.lawful
    (record {
      number = omega (arith, c.if-number-lt-COUNTER_LIMIT.true);
      position = omega (arith, c.if-position-lt-COUNTER_LIMIT.true);
      room = omega (arith, c.if-cd-lt-COUNTER_LIMIT.true);
      epoch = c.requires.lawful.epoch;
    })
    refl refl (omega arith) (omega arith) (ap (λ gaps. gaps.items) c.copy_gaps.ensures) refl (λ is. absurd (standby_other is))
