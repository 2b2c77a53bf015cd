-- The words of a script.
use Rattle.std.specs.Prelude.{ℕ, List, [], codes}
use Rattle.machine.specs.declared.event.Cut.{Cut}
use Rattle.machine.specs.declared.event.Cut.TheVariants as cut

-- the name of the event that a crash cuts; none, where it comes between two events
abbrev pub name_of : Cut → List ℕ
name_of cut.Between = []
name_of cut.Commit = codes "commit"
name_of cut.Apply = codes "apply"
name_of cut.Free = codes "free"
name_of cut.ClearGap = codes "clear-gap"
name_of cut.Reopen = codes "reopen"
name_of cut.Promote = codes "promote"
