use Rattle.std.proofs.Common.{◌≡◌, inl, inr, List, Err, refl, sym, ap, subst, subst₂, ◌∙◌}
use Rattle.std.proofs.lemmas.Result.{err_from_is_err_and}
use Rattle.pmem.proofs.Leaving.{none_leaves}
use Rattle.pmem.specs.Crash.{image_of}
use Rattle.kv_types.specs.declared.place.EntryNo.{EntryNo}
use Rattle.kv_types.specs.declared.place.Extent.{Extent}
use Rattle.placing.specs.Back.{CanGiveAll, GivesAll}
use Rattle.wbl_engine.specs.Contents.{IsDurable, Same}
use Rattle.wbl_engine.specs.Freeing.{after_free, extents_of}
use Rattle.standby.specs.Following.{Follows}
use Rattle.standby.proofs.EndedLemmas.{KeepsWithoutSome-none}
use Rattle.standby.proofs.FreedLemmas.{CanGiveAll-ended, Follows-freed, lawful_freed}
use Rattle.standby.proofs.standby.Standby.free_ended.Given.{Over}
use Rattle.standby.proofs.standby.Standby.free_ended.Goals as goal
use Rattle.standby.proofs.standby.Standby.free_ended.Goals.{After-deref-3}

pub returns-then-is_empty-clause-moments : goal.returns-then-is_empty-clause-moments
returns-then-is_empty-clause-moments g c =
    none_leaves _ _ (λ image is. KeepsWithoutSome-none c.args.self.now.ended.items (g.E.Durable.contents c.args.self.now.engine) image (c.requires.durable image is))

pub returns-in_err-freed-clause-durable : goal.returns-in_err-freed-clause-durable
returns-in_err-freed-clause-durable g c = λ no_fault.
    let exit = err_from_is_err_and c.from_residual.result c.from_residual.ensures.1 in
    elim c.in_err-freed.ensures.causes [
      | inl fault ↦ absurd (no_fault (exit.1 ∙ ap Err (exit.2 ∙ fault)))
      | inr memory ↦
          subst (λ engine. IsDurable (g.E.Durable.device engine) (g.E.Durable.contents engine)) (sym (c.in_err-freed.ensures.memory (ap Err memory))) c.requires.durable
    ]

-- what came back is what had ended
entries_are : (g : Over) (c : After-deref-3 g) → c.deref-2.result.now ≡ c.args.self.now.ended.items
entries_are g c = c.deref-2.ensures.value ∙ c.in_ok-freed.ensures.entries ∙ c.deref.ensures.value

extents_are : (g : Over) (c : After-deref-3 g) → c.deref-3.result.now ≡ extents_of (g.E.Durable.contents c.args.self.now.engine).versions c.args.self.now.ended.items
extents_are g c = c.deref-3.ensures.value ∙ c.in_ok-freed.ensures.extents ∙ ap (extents_of (g.E.Durable.contents c.args.self.now.engine).versions) c.deref.ensures.value

pub give_all-requires : goal.give_all-requires
give_all-requires g c =
    let prefix = (goal.at.give_all-requires g c).After-deref-3 in
    let contents = g.E.Durable.contents c.args.self.now.engine in
    let image = image_of (g.E.Durable.device c.args.self.now.engine).words in
    subst₂ (CanGiveAll c.args.self.now.heap) (sym (entries_are g prefix)) (sym (extents_are g prefix))
    (CanGiveAll-ended contents (g.K.Keyspace.table c.args.self.now.keyspace) c.args.self.now.heap c.args.self.now.ended.items c.requires.follows image (c.requires.durable image (λ word. inl refl)))

pub returns-clause-still : goal.returns-clause-still
returns-clause-still g c = λ _.
    let prefix = (goal.at.returns-clause-still g c).After-deref-3 in
    let contents = g.E.Durable.contents c.args.self.now.engine in
    let new = g.E.Durable.contents c.free_unraised.new.engine in
    let table = g.K.Keyspace.table c.args.self.now.keyspace in
    let image = image_of (g.E.Durable.device c.args.self.now.engine).words in
    let gives = subst₂ (λ (entries : List EntryNo) (extents : List Extent). GivesAll c.args.self.now.heap entries extents c.give_all.new.heap) (entries_are g prefix) (extents_are g prefix) c.give_all.ensures in
    let same = subst (λ (entries : List EntryNo). Same (after_free entries contents) new) c.deref.ensures.value c.in_ok-freed.ensures.moved in
    subst (λ (entries : List EntryNo). Follows new table c.give_all.new.heap entries) (sym c.clear.ensures.items)
    (Follows-freed contents table c.args.self.now.heap c.args.self.now.ended.items c.requires.follows image (c.requires.durable image (λ word. inl refl)) c.give_all.new.heap gives new same)

pub returns-clause-lawful : goal.returns-clause-lawful
returns-clause-lawful g c = λ lawful _.
    let contents = g.E.Durable.contents c.args.self.now.engine in
    let new = g.E.Durable.contents c.free_unraised.new.engine in
    lawful_freed contents new c.args.self.now.ended.items c.requires.follows.listed
    (subst (λ (entries : List EntryNo). Same (after_free entries contents) new) c.deref.ensures.value c.in_ok-freed.ensures.moved) lawful
