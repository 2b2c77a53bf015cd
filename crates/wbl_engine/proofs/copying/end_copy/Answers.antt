use Rattle.std.proofs.lemmas.Result.{on_ok_weaker, on_err_weaker}
use Rattle.wbl_engine.proofs.CopyEnding.{copied_fault, copied_moments, copied_rest, copied_same}
use Rattle.wbl_engine.proofs.copying.end_copy.Goals as goal

pub returns-clause-rest : goal.returns-clause-rest
returns-clause-rest g c =
    on_ok_weaker c.write_durably.result
    (λ recorded. copied_rest c.requires.half c.args.next.now.position c.requires.asked c.args.next.now c.requires.after c.requires.lawful recorded)
    c.write_durably.ensures.ok

pub returns-clause-moved : goal.returns-clause-moved
returns-clause-moved g c =
    on_ok_weaker c.write_durably.result
    (λ recorded. copied_same c.requires.half c.args.next.now.position c.requires.asked c.args.next.now c.requires.after recorded)
    c.write_durably.ensures.ok

pub returns-clause-stays : goal.returns-clause-stays
returns-clause-stays g c =
    on_err_weaker c.write_durably.result
    (λ fault. copied_fault c.requires.half c.args.next.now.position c.requires.asked c.args.next.now c.requires.after fault)
    c.write_durably.ensures.err

pub returns-clause-moments : goal.returns-clause-moments
returns-clause-moments g c =
    copied_moments c.requires.half c.args.next.now.position c.requires.asked c.args.next.now c.requires.after c.write_durably.ensures.moments
