use Rattle.std.proofs.Common.{◌≡◌, ◌<◌, [], ◌∷◌, ◌++◌, List, arith, inl, refl, sym, ap, subst, subst₂, ◌∙◌}
use Rattle.std.specs.Option.{option_to_list}
use Rattle.kv_types.specs.declared.place.EntryNo.{EntryNo}
use Rattle.kv_types.specs.declared.place.Extent.{Extent}
use Rattle.pmem.specs.Crash.{image_of}
use Rattle.pmem.specs.Runs.{LeavesOnly}
use Rattle.pmem.proofs.Leaving.{none_leaves}
use Rattle.model.specs.declared.group.Group.{Group}
use Rattle.model.specs.declared.group.Part.{Part}
use Rattle.model.specs.Group.{Contents, IsGroup, after_group}
use Rattle.placing.specs.Back.{CanGiveAll, GivesAll}
use Rattle.wbl_engine.specs.Contents.{Same}
use Rattle.wbl_engine.specs.Freeing.{KeepsFreedOr, after_free, extents_of}
use Rattle.wbl_engine.proofs.RaisingLemmas.{group_reached}
use Rattle.standby.specs.Following.{Follows}
use Rattle.standby.proofs.BesideLemmas.{AreGone-beside, CanGiveAll-beside, Follows-then, HasTaken-beside, IsGroup-beside, IsGroup-freed, LeavesOnly-beside, lawful_beside}
use Rattle.standby.proofs.EndedLemmas.{KeepsWithoutSome-none}
use Rattle.standby.proofs.standby.Standby.commit_beside.Given.{Over}
use Rattle.standby.proofs.standby.Standby.commit_beside.Goals as goal
use Rattle.standby.proofs.standby.Standby.commit_beside.Goals.{After-push_reserved}

-- the group that is committed
abbrev the_group : (g : Over) (c : After-push_reserved g) → Group
the_group g c = record { epoch = c.args.frame.epoch; before = c.args.frame.before; parts = c.push_reserved.new.self }

one : (g : Over) (c : After-push_reserved g) → c.push_reserved.new.self.items ≡ c.in_ok-part.part ∷ []
one g c = c.push_reserved.ensures.items ∙ ap (λ (parts : List Part). parts ++ c.in_ok-part.part ∷ []) c.in_ok-parts.ensures.items

later : (g : Over) (c : After-push_reserved g) → (g.E.Durable.contents c.args.self.now.engine).current.position < c.in_ok-part.part.position
later g c = subst (λ n. (g.E.Durable.contents c.args.self.now.engine).current.position < n) (sym c.in_ok-part.ensures.ok.position_is) c.requires.next.next.later

is_group : (g : Over) (c : After-push_reserved g) → IsGroup (g.E.Durable.contents c.args.self.now.engine) (the_group g c)
is_group g c =
    let image = image_of (g.E.Durable.device c.args.self.now.engine).words in
    IsGroup-beside (g.E.Durable.contents c.args.self.now.engine) (g.K.Keyspace.table c.args.self.now.keyspace) c.args.self.now.heap c.args.self.now.ended.items c.requires.follows image (c.requires.durable image (λ word. inl refl))
    c.in_ok-part.part c.make_part.new.heap c.in_ok-part.ensures.ok.places c.in_ok-part.ensures.ok.ended (the_group g c) (one g c) c.requires.next.next.joined c.requires.next.epoch (later g c)

is_group_freed : (g : Over) (c : After-push_reserved g) → IsGroup (after_free c.args.self.now.ended.items (g.E.Durable.contents c.args.self.now.engine)) (the_group g c)
is_group_freed g c =
    let image = image_of (g.E.Durable.device c.args.self.now.engine).words in
    IsGroup-freed (g.E.Durable.contents c.args.self.now.engine) (g.K.Keyspace.table c.args.self.now.keyspace) c.args.self.now.heap c.args.self.now.ended.items c.requires.follows image (c.requires.durable image (λ word. inl refl))
    c.in_ok-part.part c.make_part.new.heap c.in_ok-part.ensures.ok.places c.in_ok-part.ensures.ok.ended (the_group g c) (one g c) c.requires.next.next.joined c.requires.next.epoch (later g c)

pub commit_and_free-requires-clause-group : goal.commit_and_free-requires-clause-group
commit_and_free-requires-clause-group g c = is_group g (goal.at.commit_and_free-requires-clause-group g c).After-push_reserved

pub commit_and_free-requires-clause-freed : goal.commit_and_free-requires-clause-freed
commit_and_free-requires-clause-freed g c =
    let prefix = (goal.at.commit_and_free-requires-clause-freed g c).After-push_reserved in
    subst (λ (entries : List EntryNo). IsGroup (after_free entries (g.E.Durable.contents c.args.self.now.engine)) (the_group g prefix)) (sym c.deref-2.ensures.value) (is_group_freed g prefix)

-- ---- nothing is stored

pub returns-in_err-parts-clause-moments : goal.returns-in_err-parts-clause-moments
returns-in_err-parts-clause-moments g c =
    none_leaves _ _ (λ image is. inl (KeepsWithoutSome-none c.args.self.now.ended.items (g.E.Durable.contents c.args.self.now.engine) image (c.requires.durable image is)))

pub returns-in_err-extents-clause-moments : goal.returns-in_err-extents-clause-moments
returns-in_err-extents-clause-moments g c =
    none_leaves _ _ (λ image is. inl (KeepsWithoutSome-none c.args.self.now.ended.items (g.E.Durable.contents c.args.self.now.engine) image (c.requires.durable image is)))

pub returns-in_err-part-clause-moments : goal.returns-in_err-part-clause-moments
returns-in_err-part-clause-moments g c =
    none_leaves _ _ (λ image is. inl (KeepsWithoutSome-none c.args.self.now.ended.items (g.E.Durable.contents c.args.self.now.engine) image (c.requires.durable image is)))

-- ---- the commit

pub returns-in_err-commit_and_free-clause-moments : goal.returns-in_err-commit_and_free-clause-moments
returns-in_err-commit_and_free-clause-moments g c =
    let prefix = (goal.at.returns-in_err-commit_and_free-clause-moments g c).After-push_reserved in
    let contents = g.E.Durable.contents c.args.self.now.engine in
    let device = g.E.Durable.device c.args.self.now.engine in
    let device' = g.E.Durable.device c.commit_and_free.new.self in
    let image = image_of device.words in
    LeavesOnly-beside contents (g.K.Keyspace.table c.args.self.now.keyspace) c.args.self.now.heap c.args.self.now.ended.items c.requires.follows image (c.requires.durable image (λ word. inl refl))
    c.in_ok-part.part c.make_part.new.heap c.in_ok-part.ensures.ok.places c.in_ok-part.ensures.ok.ended (the_group g prefix) (one g prefix) c.requires.next.next.joined c.requires.next.epoch (later g prefix)
    c.args.frame c.in_ok-part.ensures.ok.changes_are c.in_ok-part.ensures.ok.position_is refl c.requires.counters device device'
    (subst (λ (entries : List EntryNo). LeavesOnly device device' (KeepsFreedOr entries contents (after_group (after_free entries contents) (the_group g prefix)))) c.deref-2.ensures.value
    (subst (λ (there : Contents). LeavesOnly device device' (KeepsFreedOr c.deref-2.result.now contents there)) (group_reached 0 (after_free c.deref-2.result.now contents) (the_group g prefix) (omega arith))
    (c.commit_and_free.ensures.moments c.requires.sound)))

pub returns-clause-moments : goal.returns-clause-moments
returns-clause-moments g c =
    let prefix = (goal.at.returns-clause-moments g c).After-push_reserved in
    let contents = g.E.Durable.contents c.args.self.now.engine in
    let device = g.E.Durable.device c.args.self.now.engine in
    let device' = g.E.Durable.device c.commit_and_free.new.self in
    let image = image_of device.words in
    LeavesOnly-beside contents (g.K.Keyspace.table c.args.self.now.keyspace) c.args.self.now.heap c.args.self.now.ended.items c.requires.follows image (c.requires.durable image (λ word. inl refl))
    c.in_ok-part.part c.make_part.new.heap c.in_ok-part.ensures.ok.places c.in_ok-part.ensures.ok.ended (the_group g prefix) (one g prefix) c.requires.next.next.joined c.requires.next.epoch (later g prefix)
    c.args.frame c.in_ok-part.ensures.ok.changes_are c.in_ok-part.ensures.ok.position_is refl c.requires.counters device device'
    (subst (λ (entries : List EntryNo). LeavesOnly device device' (KeepsFreedOr entries contents (after_group (after_free entries contents) (the_group g prefix)))) c.deref-2.ensures.value
    (subst (λ (there : Contents). LeavesOnly device device' (KeepsFreedOr c.deref-2.result.now contents there)) (group_reached 0 (after_free c.deref-2.result.now contents) (the_group g prefix) (omega arith))
    (c.commit_and_free.ensures.moments c.requires.sound)))

-- ---- what comes back

pub give_all-requires : goal.give_all-requires
give_all-requires g c =
    let prefix = (goal.at.give_all-requires g c).After-push_reserved in
    let contents = g.E.Durable.contents c.args.self.now.engine in
    let image = image_of (g.E.Durable.device c.args.self.now.engine).words in
    let extents : c.deref-4.result.now ≡ extents_of contents.versions c.args.self.now.ended.items =
    c.deref-4.ensures.value ∙ c.in_ok-extents.ensures ∙ ap (extents_of contents.versions) c.deref.ensures.value in
    subst₂ (CanGiveAll c.make_part.new.heap) (sym c.deref-3.ensures.value) (sym extents)
    (CanGiveAll-beside contents (g.K.Keyspace.table c.args.self.now.keyspace) c.args.self.now.heap c.args.self.now.ended.items c.requires.follows image (c.requires.durable image (λ word. inl refl))
    c.in_ok-part.part c.make_part.new.heap c.in_ok-part.ensures.ok.places c.in_ok-part.ensures.ok.ended (the_group g prefix) (one g prefix) c.requires.next.next.joined c.requires.next.epoch (later g prefix))

alone : (parts : List Part) (part last : Part) → part ∷ [] ≡ parts ++ last ∷ [] → last ≡ part
alone [] part last is = cc
alone (first ∷ []) part last is = cc
alone (first ∷ (second ∷ parts)) part last is = cc

pub returns-clause-still : goal.returns-clause-still
returns-clause-still g c =
    let prefix = (goal.at.returns-clause-still g c).After-push_reserved in
    let contents = g.E.Durable.contents c.args.self.now.engine in
    let new = g.E.Durable.contents c.commit_and_free.new.self in
    let image = image_of (g.E.Durable.device c.args.self.now.engine).words in
    let extents : c.deref-4.result.now ≡ extents_of contents.versions c.args.self.now.ended.items =
    c.deref-4.ensures.value ∙ c.in_ok-extents.ensures ∙ ap (extents_of contents.versions) c.deref.ensures.value in
    let gives = subst₂ (λ (entries : List EntryNo) (extents : List Extent). GivesAll c.make_part.new.heap entries extents c.give_all.new.heap) c.deref-3.ensures.value extents c.give_all.ensures in
    let same = subst (λ (entries : List EntryNo). Same (after_group (after_free entries contents) (the_group g prefix)) new) c.deref-2.ensures.value
    (subst (λ (there : Contents). Same there new) (group_reached 0 (after_free c.deref-2.result.now contents) (the_group g prefix) (omega arith)) c.in_ok-commit_and_free.ensures.moved) in
    let part : c.unwrap-part.result ≡ c.in_ok-part.part =
    alone c.pop.new.self.items c.in_ok-part.part c.unwrap-part.result
    (sym (one g prefix) ∙ c.pop.ensures.items ∙ ap (λ last. c.pop.new.self.items ++ option_to_list last) c.unwrap-part.ensures) in
    subst (λ (last : Part). Follows new (g.K.Keyspace.table c.make_part.new.keyspace) c.give_all.new.heap last.ended.items) (sym part)
    (subst (λ rows. Follows new rows c.give_all.new.heap c.in_ok-part.part.ended.items) (sym c.in_ok-part.ensures.ok.table_is)
    (Follows-then contents (g.K.Keyspace.table c.args.self.now.keyspace) c.args.self.now.heap c.args.self.now.ended.items c.requires.follows image (c.requires.durable image (λ word. inl refl))
    c.in_ok-part.part c.make_part.new.heap c.in_ok-part.ensures.ok.places c.in_ok-part.ensures.ok.ended (the_group g prefix) (one g prefix) c.requires.next.next.joined c.requires.next.epoch (later g prefix)
    c.give_all.new.heap gives new same))

pub returns-clause-taken : goal.returns-clause-taken
returns-clause-taken g c =
    let prefix = (goal.at.returns-clause-taken g c).After-push_reserved in
    let contents = g.E.Durable.contents c.args.self.now.engine in
    let new = g.E.Durable.contents c.commit_and_free.new.self in
    let image = image_of (g.E.Durable.device c.args.self.now.engine).words in
    let same = subst (λ (entries : List EntryNo). Same (after_group (after_free entries contents) (the_group g prefix)) new) c.deref-2.ensures.value
    (subst (λ (there : Contents). Same there new) (group_reached 0 (after_free c.deref-2.result.now contents) (the_group g prefix) (omega arith)) c.in_ok-commit_and_free.ensures.moved) in
    HasTaken-beside contents (g.K.Keyspace.table c.args.self.now.keyspace) c.args.self.now.heap c.args.self.now.ended.items c.requires.follows image (c.requires.durable image (λ word. inl refl))
    c.in_ok-part.part c.make_part.new.heap c.in_ok-part.ensures.ok.places c.in_ok-part.ensures.ok.ended (the_group g prefix) (one g prefix) c.requires.next.next.joined c.requires.next.epoch (later g prefix)
    c.args.frame c.in_ok-part.ensures.ok.changes_are c.in_ok-part.ensures.ok.position_is refl new (g.K.Keyspace.table c.make_part.new.keyspace) same c.in_ok-part.ensures.ok.table_is

pub returns-clause-gone : goal.returns-clause-gone
returns-clause-gone g c =
    let prefix = (goal.at.returns-clause-gone g c).After-push_reserved in
    let contents = g.E.Durable.contents c.args.self.now.engine in
    let new = g.E.Durable.contents c.commit_and_free.new.self in
    let image = image_of (g.E.Durable.device c.args.self.now.engine).words in
    let same = subst (λ (entries : List EntryNo). Same (after_group (after_free entries contents) (the_group g prefix)) new) c.deref-2.ensures.value
    (subst (λ (there : Contents). Same there new) (group_reached 0 (after_free c.deref-2.result.now contents) (the_group g prefix) (omega arith)) c.in_ok-commit_and_free.ensures.moved) in
    AreGone-beside contents (g.K.Keyspace.table c.args.self.now.keyspace) c.args.self.now.heap c.args.self.now.ended.items c.requires.follows image (c.requires.durable image (λ word. inl refl))
    c.in_ok-part.part c.make_part.new.heap c.in_ok-part.ensures.ok.places c.in_ok-part.ensures.ok.ended (the_group g prefix) (one g prefix) c.requires.next.next.joined c.requires.next.epoch (later g prefix)
    c.args.frame c.in_ok-part.ensures.ok.changes_are c.in_ok-part.ensures.ok.position_is refl new same

pub returns-clause-lawful : goal.returns-clause-lawful
returns-clause-lawful g c = λ lawful.
    let prefix = (goal.at.returns-clause-lawful g c).After-push_reserved in
    let contents = g.E.Durable.contents c.args.self.now.engine in
    let new = g.E.Durable.contents c.commit_and_free.new.self in
    let image = image_of (g.E.Durable.device c.args.self.now.engine).words in
    let same = subst (λ (entries : List EntryNo). Same (after_group (after_free entries contents) (the_group g prefix)) new) c.deref-2.ensures.value
    (subst (λ (there : Contents). Same there new) (group_reached 0 (after_free c.deref-2.result.now contents) (the_group g prefix) (omega arith)) c.in_ok-commit_and_free.ensures.moved) in
    lawful_beside contents (g.K.Keyspace.table c.args.self.now.keyspace) c.args.self.now.heap c.args.self.now.ended.items c.requires.follows image (c.requires.durable image (λ word. inl refl))
    c.in_ok-part.part c.make_part.new.heap c.in_ok-part.ensures.ok.places c.in_ok-part.ensures.ok.ended (the_group g prefix) (one g prefix) c.requires.next.next.joined c.requires.next.epoch (later g prefix)
    c.args.frame c.in_ok-part.ensures.ok.changes_are c.in_ok-part.ensures.ok.position_is refl c.requires.counters new same lawful
