use Rattle.std.proofs.Common.{◌≡◌, ◌++◌, drop}
use Rattle.std.specs.List.{flat_map}
use Rattle.model.specs.Group.{changes_of_part, last_position}
use Rattle.standby_stream.proofs.frame_of.frame_of.Given as goal

abbrev pub invariant-loop-part : goal.invariant-loop-part
invariant-loop-part l = record {
  last : last_position l.after (drop l.part-index l.group.parts.items) ≡ last_position l.group.before l.group.parts.items;
  added : l.changes.items ++ flat_map changes_of_part (drop l.part-index l.group.parts.items) ≡ flat_map changes_of_part l.group.parts.items;
}
