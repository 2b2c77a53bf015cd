use Rattle.std.proofs.Common.{false, subst, arith}
use Rattle.stream_codec.specs.Scanning.{IsTaken}
use Rattle.stream_codec.proofs.Skipping.{kept_at, still_taken}
use Rattle.stream_codec.proofs.decoder.Begun.take.Goals as goal

pub split-requires : goal.split-requires
split-requires c =
    let begun = c.args.self.now in
    kept_at c.keep.new.unread.items begun.unread.items c.args.piece.now begun.progress c.in_ok-keep.ensures.ok c.requires (λ k. omega (arith, c.type_inv.piece k))

pub returns-then-len-self-clause-taken : goal.returns-then-len-self-clause-taken
returns-then-len-self-clause-taken c =
    let begun = c.args.self.now in
    let all = c.keep.new.unread.items in
    let at = kept_at all begun.unread.items c.args.piece.now begun.progress c.in_ok-keep.ensures.ok c.requires (λ k. omega (arith, c.type_inv.piece k)) in
    subst (λ bytes. IsTaken bytes c.new.result.items false all begun.progress) c.in_ok-keep.ensures.ok
    (still_taken all begun.progress c.new.result.items at (omega (arith, c.len.ensures.value, c.if-len-self.true)) c.new.ensures.items)
