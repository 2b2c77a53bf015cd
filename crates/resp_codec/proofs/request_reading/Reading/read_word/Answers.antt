use Rattle.std.proofs.Common.{◌≡◌, ◌≤◌, ◌+◌, ◌∷◌, [], ◌++◌, length, ap, ◌∙◌, arith}
use Rattle.std.proofs.lemmas.List.{length-append}
use Rattle.resp_codec.proofs.UnreadReads.{Steps-no_payload, held-same, held-word, Steps-given}
use Rattle.resp_codec.proofs.request_reading.Reading.read_word.Goals as goal

pub returns-in-Err-clause-ok : goal.returns-in-Err-clause-ok
returns-in-Err-clause-ok c =
    let old = c.args.self.now in
    let taken = rw c.in-Err.is at c.in_ok-word.ensures.ok in
    Steps-no_payload old _ c.in-Err.stop c.args.len (rw c.in_ok-reserve.ensures.items (held-same old.passed old.count old.words.items old.len _ _ taken.1)) c.requires.standing c.requires.begun c.requires.next taken.0

pub returns-then-len-self-clause-ok : goal.returns-then-len-self-clause-ok
returns-then-len-self-clause-ok c =
    let old = c.args.self.now in
    let pushed : c.push.new.self.items ≡ old.words.items ++ c.in-Ok.word ∷ [] =
    (rw c.unwrap.ensures at c.push.ensures.items) ∙ ap (λ words. words ++ c.in-Ok.word ∷ []) c.in_ok-reserve.ensures.items in
    rw pushed (held-word old.passed old.count old.words.items old.len _ c.args.len c.in-Ok.word _ c.requires.begun c.requires.next (rw c.in-Ok.is at c.in_ok-word.ensures.ok))

pub returns-clause-ok : goal.returns-clause-ok
returns-clause-ok c =
    let old = c.args.self.now in
    let pushed : c.push.new.self.items ≡ old.words.items ++ c.in-Ok.word ∷ [] =
    (rw c.unwrap.ensures at c.push.ensures.items) ∙ ap (λ words. words ++ c.in-Ok.word ∷ []) c.in_ok-reserve.ensures.items in
    let last : old.count ≤ length old.words.items + 1 = omega (arith, c.if-len-self.false, c.len.ensures, c.push.new.self.ok.0, ap length pushed, length-append old.words.items (c.in-Ok.word ∷ [])) in
    rw (c.new.ensures, c.replace.ensures.value, pushed)
    (Steps-given old c.args.len c.in-Ok.word _ c.requires.standing c.requires.begun c.requires.next (rw c.in-Ok.is at c.in_ok-word.ensures.ok) last)
