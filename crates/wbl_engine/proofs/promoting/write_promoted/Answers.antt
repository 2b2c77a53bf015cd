use Rattle.std.proofs.lemmas.Result.{on_ok_weaker, on_err_weaker}
use Rattle.wbl_engine.proofs.PromotingLemmas.{promoted_rest, promoted_same, promotion_fault, promotion_moments}
use Rattle.wbl_engine.proofs.promoting.write_promoted.Goals as goal

pub returns-clause-rest : goal.returns-clause-rest
returns-clause-rest g c =
    on_ok_weaker c.write_durably.result (λ recorded. promoted_rest c.requires.rest c.args.next.now c.requires.after c.requires.lawful recorded)
    c.write_durably.ensures.ok

pub returns-clause-moved : goal.returns-clause-moved
returns-clause-moved g c =
    on_ok_weaker c.write_durably.result (λ recorded. promoted_same c.requires.rest c.args.next.now c.requires.after recorded) c.write_durably.ensures.ok

pub returns-clause-stays : goal.returns-clause-stays
returns-clause-stays g c =
    on_err_weaker c.write_durably.result (λ fault. promotion_fault c.requires.rest c.args.next.now c.requires.after fault) c.write_durably.ensures.err

pub returns-clause-moments : goal.returns-clause-moments
returns-clause-moments g c =
    promotion_moments c.requires.rest c.args.next.now c.requires.after c.write_durably.ensures.moments
