use Rattle.std.proofs.Common.{◌≡◌, ◌+◌, ◌<◌, arith}
use Rattle.resp_codec.proofs.UnreadReads.{Steps-no_count, held-same, held-passed, held-counted, IsStanding-counted}
use Rattle.resp_codec.proofs.request_reading.Reading.read_count.Goals as goal

pub returns-in-Err-clause-ok : goal.returns-in-Err-clause-ok
returns-in-Err-clause-ok c =
    let old = c.args.self.now in
    let taken = rw c.in-Err.is at c.in_ok-count.ensures.ok in
    Steps-no_count old _ c.in-Err.stop (held-same old.passed old.count old.words.items old.len _ _ taken.1) c.requires.standing c.requires.between taken.0

pub returns-then-count-eq0-clause-ok : goal.returns-then-count-eq0-clause-ok
returns-then-count-eq0-clause-ok c =
    let old = c.args.self.now in
    let next : c.in_ok-passed.passed ≡ old.passed + 1 = grind arith in
    rw next (held-passed old.passed old.count old.words.items old.len _ _ c.requires.between (c.requires.standing.between c.requires.between).1 (rw (c.in-Ok.is, c.if-count-eq0.true) at c.in_ok-count.ensures.ok))

pub returns-clause-standing : goal.returns-clause-standing
returns-clause-standing c =
    IsStanding-counted c.args.self.now c.in-Ok.count _ _ c.requires.standing c.requires.between (rw c.in-Ok.is at c.in_ok-count.ensures.ok)

pub returns-clause-ok : goal.returns-clause-ok
returns-clause-ok c =
    let old = c.args.self.now in
    let clean = c.requires.standing.between c.requires.between in
    let some : 0 < c.in-Ok.count = omega (arith, c.if-count-eq0.false) in
    held-counted old.passed old.count old.words.items old.len _ c.in-Ok.count _ c.requires.between clean.0 clean.1 some (rw c.in-Ok.is at c.in_ok-count.ensures.ok)
