use Rattle.std.proofs.lemmas.Result.{on_ok_weaker, on_err_weaker}
use Rattle.wbl_record.proofs.Results.{on_err_from}
use Rattle.wbl_engine.proofs.RaisingLemmas.{raised_none, raised_rises, raised_same, unraised_rest, unraised_same, written_fault, written_moments, written_rest, written_same}
use Rattle.wbl_engine.proofs.raising.write_raised.Goals as goal

pub returns-then-next-current-clause-rest : goal.returns-then-next-current-clause-rest
returns-then-next-current-clause-rest g c =
    unraised_rest c.requires.rest (raised_same c.args.current.now c.args.next.now c.requires.after c.if-next-current.true)

pub returns-then-next-current-clause-moved : goal.returns-then-next-current-clause-moved
returns-then-next-current-clause-moved g c =
    unraised_same c.requires.rest (raised_same c.args.current.now c.args.next.now c.requires.after c.if-next-current.true)

pub returns-then-next-current-clause-moments : goal.returns-then-next-current-clause-moments
returns-then-next-current-clause-moments g c = raised_none c.requires.rest

pub returns-clause-rest : goal.returns-clause-rest
returns-clause-rest g c =
    on_ok_weaker c.write_next.result (λ recorded. written_rest c.requires.rest c.requires.after c.if-next-current.false c.requires.lawful recorded)
    c.write_next.ensures.ok

pub returns-clause-moved : goal.returns-clause-moved
returns-clause-moved g c =
    on_ok_weaker c.write_next.result (λ recorded. written_same c.requires.rest c.requires.after c.if-next-current.false recorded) c.write_next.ensures.ok

pub returns-clause-rises : goal.returns-clause-rises
returns-clause-rises g c =
    on_err_from c.write_next.result (raised_rises c.args.current.now c.args.next.now c.requires.after c.if-next-current.false)

pub returns-clause-stays : goal.returns-clause-stays
returns-clause-stays g c =
    on_err_weaker c.write_next.result (λ fault. written_fault c.requires.rest c.requires.after c.if-next-current.false fault) c.write_next.ensures.err

pub returns-clause-moments : goal.returns-clause-moments
returns-clause-moments g c = written_moments c.requires.rest c.requires.after c.if-next-current.false c.write_next.ensures.moments
