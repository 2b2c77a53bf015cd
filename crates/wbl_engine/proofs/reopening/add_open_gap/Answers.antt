use Rattle.wbl_engine.proofs.OpenGap.{open_readable, open_moments, open_beside}
use Rattle.wbl_engine.proofs.reopening.add_open_gap.Goals as goal

pub returns-in_err-write_durably-clause-moments : goal.returns-in_err-write_durably-clause-moments
returns-in_err-write_durably-clause-moments g c =
    open_moments c.with_open_gap-next.result c.with_open_gap-next.ensures c.requires.readable
    (record { room = c.requires.room; limit = c.requires.limit; number = c.requires.number }) c.in_err-write_durably.ensures.moments

pub returns-clause-readable : goal.returns-clause-readable
returns-clause-readable g c =
    open_readable c.with_open_gap-next.result c.with_open_gap-next.ensures c.requires.readable
    (record { room = c.requires.room; limit = c.requires.limit; number = c.requires.number }) c.in_ok-write_durably.ensures.ok

pub returns-clause-beside : goal.returns-clause-beside
returns-clause-beside g c = open_beside c.with_open_gap-next.result c.with_open_gap-next.ensures c.requires.readable c.in_ok-write_durably.ensures.ok

pub returns-clause-moments : goal.returns-clause-moments
returns-clause-moments g c =
    open_moments c.with_open_gap-next.result c.with_open_gap-next.ensures c.requires.readable
    (record { room = c.requires.room; limit = c.requires.limit; number = c.requires.number }) c.in_ok-write_durably.ensures.moments
