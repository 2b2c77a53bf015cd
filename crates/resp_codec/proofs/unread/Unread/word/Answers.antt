use Rattle.std.proofs.Common.{◌+◌, drop, Ok, ap, sym, ◌∙◌}
use Rattle.kv_types.specs.Reading.{payload_at}
use Rattle.kv_types.proofs.GrammarGrows.{payload_at-more}
use Rattle.resp_codec.specs.Unread.{unread_bytes}
use Rattle.resp_codec.proofs.UnreadReads.{front-stops, word-fits, word-reads, payload_at-short}
use Rattle.resp_codec.proofs.unread.Unread.word.Goals as goal

pub take_word-requires : goal.take_word-requires
take_word-requires c = word-fits c.join_word.new.self c.args.len c.in-Ok.field-0.0.now c.in-Ok.field-0.1.now (rw c.front.ensures at c.in-Ok.ensures)

pub returns-in_ok-take_word-in-Ok-clause-ok : goal.returns-in_ok-take_word-in-Ok-clause-ok
returns-in_ok-take_word-in-Ok-clause-ok c =
    let read = word-reads c.join_word.new.self c.args.len c.in-Ok.field-0.0.now c.in-Ok.field-0.1.now (rw c.front.ensures at c.in-Ok.ensures) in
    ap (payload_at c.args.len) (sym c.join_word.ensures.same)
    ∙ read
    ∙ ap (λ word. Ok (word, drop (c.args.len + 2) (unread_bytes c.join_word.new.self))) (sym c.in_ok-take_word-in-Ok.ensures.word)
    ∙ ap (λ left. Ok (c.in_ok-take_word-in-Ok.field-0, left)) (sym c.in_ok-take_word-in-Ok.ensures.ok)

pub returns-in-Err-clause-ok : goal.returns-in-Err-clause-ok
returns-in-Err-clause-ok c = (
  ap (payload_at c.args.len) (sym c.join_word.ensures.same)
      ∙ front-stops (payload_at c.args.len) (λ more bytes. payload_at-more more c.args.len bytes) c.join_word.new.self c.in-Err.stop (rw c.front.ensures at c.in-Err.ensures)
      (λ short. c.in_ok-join_word.ensures.whole (payload_at-short c.args.len _ short)),
  c.join_word.ensures.same,
)
