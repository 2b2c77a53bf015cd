use Rattle.std.proofs.Common.{List, ap, sym, ◌∙◌}
use Rattle.model.specs.declared.work.FreeList.{FreeList}
use Rattle.group_commit.specs.Due.{due_beside}
use Rattle.group_commit.proofs.due.due_beside.Goals as goal

pub returns-in-Some : goal.returns-in-Some
returns-in-Some c =
    c.due_of_list.ensures c.in-Some.ensures.0 c.args.has_room c.args.has_gap
    ∙ sym (ap (λ (lists : List FreeList). due_beside lists c.args.has_room c.args.has_gap c.args.remote) c.in-Some.ensures.1)

pub returns-in-None : goal.returns-in-None
returns-in-None c = c.due_of_gap.ensures c.args.remote ∙ sym (ap (λ (lists : List FreeList). due_beside lists c.args.has_room c.args.has_gap c.args.remote) c.in-None.ensures)
