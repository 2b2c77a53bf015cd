use Rattle.std.proofs.Common.{◌∷◌, ap, sym, deque_len, ◌∙◌, arith}
use Rattle.std.proofs.lemmas.Bool.{eqb-true}
use Rattle.model.specs.declared.work.Work.{Work}
use Rattle.group_commit.specs.Group.{lists_of}
use Rattle.group_commit.proofs.TakingLemmas.{first-waits, no-items}
use Rattle.group_commit.proofs.due.first_reached.Goals as goal

pub returns-in-Some-Free : goal.returns-in-Some-Free
returns-in-Some-Free c =
    let first = c.in-Some-Free.ensures in (
      lists_of first.0,
      first-waits c.args.has_room c.args.aside.now.items c.args.work.now.items c.in-Some-Free.list first.0 c.if-not-has_room.false (no-items c.args.aside.now.items (omega (arith, eqb-true (deque_len c.args.aside.now) 0 (sym c.is_empty.ensures ∙ c.if-not-is_empty.false), c.args.aside.now.ok.0)))
          (first.1 ∙ ap (λ (item : Work). item ∷ first.0) c.in-Some-Free.field-0-is),
    )
