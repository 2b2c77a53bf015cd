use Rattle.std.proofs.Common.{Ok, ap, sym, ◌∙◌}
use Rattle.resp_codec.specs.Lines.{line_at}
use Rattle.resp_codec.proofs.UnreadReads.{line_at-more, line-smaller, line-reads, front-stops}
use Rattle.resp_codec.proofs.unread.Unread.line.Goals as goal

pub overflow_sub-taken : goal.overflow_sub-taken
overflow_sub-taken c =
    rw c.front-front.ensures (line-smaller c.args.line c.join_line.new.self c.in-Ok.number c.in-Ok.after.now (rw c.front-front.ensures at c.in-Ok.ensures))

pub returns-in-Ok-clause-ok : goal.returns-in-Ok-clause-ok
returns-in-Ok-clause-ok c =
    let read = line-reads c.args.line c.join_line.new.self c.in-Ok.number c.in-Ok.after.now (rw c.front-front.ensures at c.in-Ok.ensures) in
    ap (line_at c.args.line) (sym c.join_line.ensures.same) ∙ read ∙ ap (λ left. Ok (c.in-Ok.number, left)) (sym (rw c.front-front.ensures at c.advance.ensures))

pub returns-in-Err-clause-ok : goal.returns-in-Err-clause-ok
returns-in-Err-clause-ok c = (
  ap (line_at c.args.line) (sym c.join_line.ensures.same)
      ∙ front-stops (line_at c.args.line) (line_at-more c.args.line) c.join_line.new.self c.in-Err.stop (rw c.front-front.ensures at c.in-Err.ensures) c.in_ok-join_line.ensures.whole,
  c.join_line.ensures.same,
)
