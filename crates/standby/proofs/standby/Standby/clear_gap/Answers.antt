use Rattle.std.proofs.Common.{rules, List, Err, ◌<◌, length, refl, sym, ap, subst, subst₂, ◌∙◌}
use Rattle.std.proofs.lemmas.Result.{err_from_is_err_and}
use Rattle.kv_types.specs.declared.place.EntryNo.{EntryNo}
use Rattle.kv_types.specs.declared.place.Extent.{Extent}
use Rattle.placing.specs.Back.{CanGiveAll, GivesAll}
use Rattle.wbl_engine.specs.Freeing.{Clears}
use Rattle.standby.specs.Following.{Follows, IsGapless, IsNearLimit}
use Rattle.standby.specs.Taking.{Stands}
use Rattle.std.proofs.lemmas.Bool.{true≢false}
use Rattle.standby.proofs.ClearingLemmas.{CanGiveAll-cleared, Tidies-cleared, Tidies-still, Tidies-uncleared, failed_now, not_exhausting, some_gap}
use Rattle.standby.proofs.standby.Standby.clear_gap.Given.{Over}
use Rattle.standby.proofs.standby.Standby.clear_gap.Goals as goal
use Rattle.standby.proofs.standby.Standby.clear_gap.Goals.{After-has_no_gap, After-clear_gap, After-deref-2}

stands : (g : Over) (c : After-has_no_gap g) → Stands g.E.Durable.device g.E.Durable.contents g.E.Durable.is_faulted g.K.Keyspace.table c.args.self.now
stands g c = record {
  follows = subst (Follows (g.E.Durable.contents c.args.self.now.engine) (g.K.Keyspace.table c.args.self.now.keyspace) c.args.self.now.heap) (sym c.requires.none) c.requires.follows;
  sound = c.requires.sound;
  durable = c.requires.durable;
}

pub returns-then-has_no_gap-clause-tidies : goal.returns-then-has_no_gap-clause-tidies
returns-then-has_no_gap-clause-tidies g c =
    let gapless : IsGapless (g.E.Durable.contents c.args.self.now.engine).current = search rules in
    Tidies-still g.E.Durable.device g.E.Durable.contents g.E.Durable.is_faulted g.K.Keyspace.table c.args.self.now
    (stands g (goal.at.returns-then-has_no_gap-clause-tidies g c).After-has_no_gap) c.requires.none gapless

far : (g : Over) (c : After-clear_gap g) → ¬ IsNearLimit (g.E.Durable.contents c.args.self.now.engine).current
far g c = λ near. true≢false (sym (c.is_near_limit.ensures.1 (subst IsNearLimit (sym c.record-current.ensures) near)) ∙ c.if-is_near_limit.false)

some : (g : Over) (c : After-clear_gap g) → 0 < length (g.E.Durable.contents c.args.self.now.engine).current.gaps.items
some g c =
    some_gap (g.E.Durable.contents c.args.self.now.engine).current.gaps.items
    (λ none. true≢false (sym (c.has_no_gap.ensures.1 (rw c.record-current.ensures none)) ∙ c.if-has_no_gap.false))

pub returns-in_err-freed-clause-tidies : goal.returns-in_err-freed-clause-tidies
returns-in_err-freed-clause-tidies g c =
    let exit = err_from_is_err_and c.from_residual.result c.from_residual.ensures.1 in
    let at = goal.at.returns-in_err-freed-clause-tidies g c in
    let told = c.in_err-freed.ensures in
    rw (exit.1 ∙ ap Err exit.2)
    (Tidies-uncleared g.E.Durable.device g.E.Durable.contents g.E.Durable.is_faulted g.K.Keyspace.table c.args.self.now (stands g at.After-has_no_gap) c.requires.none (far g at.After-clear_gap)
    c.clear_gap.new.self c.in_err-freed.field-0.0 _ refl refl refl refl told.causes (λ exhausted. (told.exhausted (ap Err exhausted)).1) (λ memory. told.memory (ap Err memory)) (λ fault. told.stays (ap Err fault))
    (λ fault. (told.fences.stopped (ap Err fault), failed_now (g.E.Durable.is_faulted c.args.self.now.engine) (told.fences.fault (ap Err fault)) c.requires.sound)) told.fences.asked_moment (told.moments c.requires.sound))

clears : (g : Over) (c : After-deref-2 g) → 0 < length (g.E.Durable.contents c.args.self.now.engine).current.gaps.items → Clears (g.E.Durable.contents c.args.self.now.engine) c.in_ok-freed.freed.entries.items (g.E.Durable.contents c.clear_gap.new.self)
clears g c some = c.in_ok-freed.ensures.clears some

pub give_all-requires : goal.give_all-requires
give_all-requires g c =
    let prefix = (goal.at.give_all-requires g c).After-deref-2 in
    subst₂ (CanGiveAll c.args.self.now.heap) (sym c.deref.ensures.value) (sym (c.deref-2.ensures.value ∙ c.in_ok-freed.ensures.extents))
    (CanGiveAll-cleared (g.E.Durable.contents c.args.self.now.engine) (g.E.Durable.contents c.clear_gap.new.self) (g.K.Keyspace.table c.args.self.now.keyspace) c.args.self.now.heap c.requires.follows
    c.in_ok-freed.freed.entries.items (clears g prefix (some g (goal.at.give_all-requires g c).After-clear_gap)))

pub returns-clause-tidies : goal.returns-clause-tidies
returns-clause-tidies g c =
    let at = goal.at.returns-clause-tidies g c in
    let told = c.in_ok-freed.ensures in
    let given = subst₂ (λ (entries : List EntryNo) (extents : List Extent). GivesAll c.args.self.now.heap entries extents c.give_all.new.heap) c.deref.ensures.value (c.deref-2.ensures.value ∙ told.extents) c.give_all.ensures in
    Tidies-cleared g.E.Durable.device g.E.Durable.contents g.E.Durable.is_faulted g.K.Keyspace.table c.args.self.now (stands g at.After-has_no_gap) c.requires.none (far g at.After-clear_gap)
    c.clear_gap.new.self c.in_ok-freed.freed.entries.items c.give_all.new.heap _ refl refl refl refl (some g at.After-clear_gap) (clears g at.After-deref-2 (some g at.After-clear_gap)) given
    told.durable told.fences.sound told.fences.asked_moment (told.moments c.requires.sound)

pub returns-clause-counters : goal.returns-clause-counters
returns-clause-counters g c = λ frame fits _.
    let at = goal.at.returns-clause-counters g c in
    let cleared = clears g at.After-deref-2 (some g at.After-clear_gap) in
    rw cleared.current (not_exhausting (g.E.Durable.contents c.args.self.now.engine).current frame (far g at.After-clear_gap) fits)
