use Rattle.std.proofs.Common.{deque_len, refl, sym, ◌∙◌, arith}
use Rattle.group_commit.proofs.TurnLemmas.{shown-list, some-left}
use Rattle.group_commit.proofs.committer.shown.Goals as goal

pub returns : goal.returns
returns c =
    let some = some-left (deque_len c.args.groups) (sym c.is_empty.ensures ∙ c.if-is_empty.false) in
    shown-list c.args.groups c.args.groups.items refl (omega (arith, some, c.args.groups.ok.0))
