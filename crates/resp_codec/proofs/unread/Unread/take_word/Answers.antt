use Rattle.std.proofs.Common.{sym, ◌∙◌}
use Rattle.std.proofs.lemmas.Bool.{eqb-true}
use Rattle.resp_codec.proofs.UnreadReads.{left-in_rest, left-in_cut}
use Rattle.resp_codec.proofs.unread.Unread.take_word.Goals as goal

pub returns-in_ok-word-clause-ok : goal.returns-in_ok-word-clause-ok
returns-in_ok-word-clause-ok c =
    rw (c.skip.ensures, c.in_ok-word.ensures.rest) (left-in_rest c.args.len c.args.self.now.cut.items c.args.self.now.rest (eqb-true _ 0 (sym c.is_empty.ensures ∙ c.if-is_empty.true)))

pub returns-in_ok-word-2-clause-ok : goal.returns-in_ok-word-2-clause-ok
returns-in_ok-word-2-clause-ok c =
    rw (c.let_go.ensures, c.advance.ensures.items, c.in_ok-word-2.ensures.rest.0) (left-in_cut c.args.len c.args.self.now.cut.items c.args.self.now.rest (rw (← c.is_empty.ensures, c.if-is_empty.false) at c.requires))
