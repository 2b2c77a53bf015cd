use Rattle.std.proofs.Common.{◌++◌, sym, ap₂, ◌∙◌, arith}
use Rattle.std.proofs.lemmas.List.{take-append-drop}
use Rattle.stream_codec.proofs.Heads.{ack_read}
use Rattle.stream_codec.proofs.Waiting.{ack_waits}
use Rattle.stream_codec.proofs.head.ack_at.Goals as goal

pub returns-in-None : goal.returns-in-None
returns-in-None c = ack_waits c.args.bytes.now (λ k. omega (arith, c.type_inv.bytes k)) c.in-None.ensures.cases

pub returns-in-Some : goal.returns-in-Some
returns-in-Some c =
    let s = c.in-Some in
    let whole = sym (take-append-drop 16 c.args.bytes.now) ∙ ap₂ (λ x y. x ++ y) (sym s.ensures.cases.0) (sym s.ensures.cases.1) in
    ack_read c.read.result c.args.bytes.now s.numbers.now s.rest.now c.read.ensures.numbers c.read.ensures.fits.0 c.read.ensures.fits.1 whole
