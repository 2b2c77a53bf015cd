use Rattle.std.proofs.lemmas.Result.{on_ok_weaker, on_err_weaker}
use Rattle.wbl_record.proofs.Results.{on_both}
use Rattle.wbl_engine.proofs.CopyDropping.{copied_lines, drop_moments, drop_rest, drop_same}
use Rattle.wbl_engine.proofs.copying.erase_copy.Goals as goal

pub erase_durably-requires-clause-begins : goal.erase_durably-requires-clause-begins
erase_durably-requires-clause-begins g c = copied_lines c.requires.half c.args.entries.now c.requires.all

pub returns-clause-rest : goal.returns-clause-rest
returns-clause-rest g c =
    on_ok_weaker c.erase_durably.result (λ staged. drop_rest c.requires.half c.args.entries.now c.requires.all staged) c.erase_durably.ensures.ok

pub returns-clause-stays : goal.returns-clause-stays
returns-clause-stays g c =
    on_both c.erase_durably.result
    (on_ok_weaker c.erase_durably.result (λ staged. drop_same c.requires.half (g.P.Pmem.state c.erase_durably.new.device) c.args.entries.now c.requires.all staged.newest staged.stays.lines)
    c.erase_durably.ensures.ok)
    (on_err_weaker c.erase_durably.result (λ failed. drop_same c.requires.half (g.P.Pmem.state c.erase_durably.new.device) c.args.entries.now c.requires.all failed.newest failed.stays.lines)
    c.erase_durably.ensures.err)

pub returns-clause-moments : goal.returns-clause-moments
returns-clause-moments g c =
    drop_moments c.requires.half c.args.entries.now c.requires.all
    (on_both c.erase_durably.result (on_ok_weaker c.erase_durably.result (λ staged. staged.moments) c.erase_durably.ensures.ok)
    (on_err_weaker c.erase_durably.result (λ failed. failed.moments) c.erase_durably.ensures.err))
