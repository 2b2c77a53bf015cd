use Rattle.resp_codec.proofs.UnreadReads.{Steps-no_len, held-same, held-measured, IsStanding-measured}
use Rattle.resp_codec.proofs.request_reading.Reading.read_len.Goals as goal

pub returns-in-Ok-clause-standing : goal.returns-in-Ok-clause-standing
returns-in-Ok-clause-standing c =
    IsStanding-measured c.args.self.now c.in-Ok.len c.line.new.self c.requires.standing c.requires.begun (rw c.in-Ok.is at c.in_ok-len.ensures.ok)

pub returns-in-Ok-clause-ok : goal.returns-in-Ok-clause-ok
returns-in-Ok-clause-ok c =
    let old = c.args.self.now in
    held-measured old.passed old.count old.words.items old.len _ c.in-Ok.len _ c.requires.next (rw c.in-Ok.is at c.in_ok-len.ensures.ok)

pub returns-in-Err-clause-ok : goal.returns-in-Err-clause-ok
returns-in-Err-clause-ok c =
    let old = c.args.self.now in
    let taken = rw c.in-Err.is at c.in_ok-len.ensures.ok in
    Steps-no_len old _ c.in-Err.stop (held-same old.passed old.count old.words.items old.len _ _ taken.1) c.requires.standing c.requires.begun c.requires.next taken.0
