use Rattle.std.proofs.Common.{◌≡◌, ◌+◌, ◌-◌, if◌then◌else◌, arith}
use Rattle.extent_heap.proofs.EntriesLemmas.{has_word, has_block, has_top, count_fits, count_some, set_assigned, view_assigned}
use Rattle.extent_heap.proofs.entries.EntrySet.assign.Goals as goal
use Rattle.extent_heap.proofs.entries.EntrySet.assign.Goals.{then-free, else-free}

pub assign-any-requires : goal.assign-any-requires
assign-any-requires c = has_word _ _ _ _ _ c.self.invariant _ c.self.view_is c.args.entry c.args.free c.requires.within c.requires.changes

pub assign-any-requires-2 : goal.assign-any-requires-2
assign-any-requires-2 c = has_block _ _ _ _ _ c.self.invariant _ c.self.view_is c.args.entry c.args.free c.requires.within c.requires.changes

pub assign-requires : goal.assign-requires
assign-requires c = has_top _ _ _ _ _ c.self.invariant _ c.self.view_is c.args.entry c.args.free c.requires.within c.requires.changes

pub overflow_add-self : goal.overflow_add-self
overflow_add-self c = omega (arith, count_fits _ _ _ _ _ c.self.invariant _ c.self.view_is c.args.entry c.args.free c.requires.within c.requires.changes c.if-free.true)

pub overflow_sub-self : goal.overflow_sub-self
overflow_sub-self c = count_some _ _ _ _ _ c.self.invariant _ c.self.view_is c.args.entry c.args.free c.requires.within c.requires.changes c.if-free.false

pub invariant_of-self : goal.invariant_of-self
invariant_of-self c =
    let count : c.if-free.self ≡ (if c.args.free then c.self.inside.free + 1 else c.self.inside.free - 1) =
    elim c.if-free.branch [ then-free w ↦ rw w.if-free.true w.self-is | else-free w ↦ rw w.if-free.false w.self-is ] in
    set_assigned _ _ _ _ _ c.self.invariant _ c.self.view_is c.args.entry c.args.free c.requires.within c.requires.changes _ _ _ _ _ _ _ c.assign-any.ensures c.assign-any-2.ensures c.assign.ensures count

pub returns : goal.returns
returns c =
    view_assigned _ _ _ _ _ c.self.invariant _ c.self.view_is c.args.entry c.args.free c.requires.within c.requires.changes _ _ _ c.if-free.self _ _ _ c.assign-any.ensures c.assign-any-2.ensures c.assign.ensures
