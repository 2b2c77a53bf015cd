use Rattle.std.proofs.Common.{◌≡◌, ◌<◌, [], ◌∷◌, ◌++◌, List, Err, arith, inl, inr, refl, sym, ap, subst, ◌∙◌}
use Rattle.std.proofs.lemmas.Result.{err_from_is_err_and}
use Rattle.std.specs.Option.{option_to_list}
use Rattle.pmem.specs.Runs.{LeavesOnly}
use Rattle.pmem.proofs.Leaving.{none_leaves}
use Rattle.model.specs.declared.group.Group.{Group}
use Rattle.model.specs.declared.group.Part.{Part}
use Rattle.model.specs.Group.{Contents, IsGroup, after_group, puts_of_part}
use Rattle.mv_keyspace.specs.Table.{place_all}
use Rattle.wbl_engine.specs.Contents.{Exhausts, IsDurable, Same}
use Rattle.wbl_engine.proofs.Committing.{KeepsEither}
use Rattle.wbl_engine.proofs.LawfulLemmas.{group_lawful, same_lawful}
use Rattle.wbl_engine.proofs.RaisingLemmas.{group_reached}
use Rattle.standby.specs.Following.{Follows}
use Rattle.standby.proofs.EndedLemmas.{KeepsWithoutSome-none}
use Rattle.std.proofs.lemmas.Bool.{true≢false}
use Rattle.standby.proofs.GoneLemmas.{gone-group}
use Rattle.standby.proofs.PlacesTaken.{AreTaken-places}
use Rattle.standby.proofs.FollowingLemmas.{IsGroup-one, Follows-after, Follows-same, HasTaken-group, LeavesOnly-group}
use Rattle.standby.proofs.standby.Standby.commit_frame.Given.{Over}
use Rattle.standby.proofs.standby.Standby.commit_frame.Goals as goal
use Rattle.standby.proofs.standby.Standby.commit_frame.Goals.{After-push_reserved}

-- the group that is committed
abbrev the_group : (g : Over) (c : After-push_reserved g) → Group
the_group g c = record { epoch = c.args.frame.epoch; before = c.args.frame.before; parts = c.push_reserved.new.self }

one : (g : Over) (c : After-push_reserved g) → c.push_reserved.new.self.items ≡ c.in_ok-part.part ∷ []
one g c = c.push_reserved.ensures.items ∙ ap (λ (parts : List Part). parts ++ c.in_ok-part.part ∷ []) c.in_ok-parts.ensures.items

is_group : (g : Over) (c : After-push_reserved g) → IsGroup (g.E.Durable.contents c.args.self.now.engine) (the_group g c)
is_group g c =
    let contents = g.E.Durable.contents c.args.self.now.engine in
    let later : contents.current.position < c.in_ok-part.part.position = subst (λ n. contents.current.position < n) (sym c.in_ok-part.ensures.ok.position_is) c.requires.next.next.later in
    IsGroup-one contents (g.K.Keyspace.table c.args.self.now.keyspace) c.args.self.now.heap c.requires.follows c.in_ok-part.part c.make_part.new.heap
    (AreTaken-places c.args.self.now.heap (puts_of_part c.in_ok-part.part) c.make_part.new.heap c.in_ok-part.ensures.ok.places) c.in_ok-part.ensures.ok.ended (the_group g c) (one g c) c.requires.next.next.joined c.requires.next.epoch later

-- the tables after the part are those of the contents after the group
follows_after : (g : Over) (c : After-push_reserved g)
    → Follows (after_group (g.E.Durable.contents c.args.self.now.engine) (the_group g c)) (place_all c.in_ok-part.part.position (g.K.Keyspace.table c.args.self.now.keyspace) c.in_ok-part.part.changes.items) c.make_part.new.heap c.in_ok-part.part.ended.items
follows_after g c =
    Follows-after (g.E.Durable.contents c.args.self.now.engine) (g.K.Keyspace.table c.args.self.now.keyspace) c.args.self.now.heap c.requires.follows c.in_ok-part.part c.make_part.new.heap
    (AreTaken-places c.args.self.now.heap (puts_of_part c.in_ok-part.part) c.make_part.new.heap c.in_ok-part.ensures.ok.places) c.in_ok-part.ensures.ok.ended (the_group g c) (one g c) (is_group g c)

pub commit-requires : goal.commit-requires
commit-requires g c = is_group g (goal.at.commit-requires g c).After-push_reserved

pub returns-in_err-parts-clause-moments : goal.returns-in_err-parts-clause-moments
returns-in_err-parts-clause-moments g c = none_leaves _ _ (λ image is. inl (KeepsWithoutSome-none [] (g.E.Durable.contents c.args.self.now.engine) image (c.requires.durable image is)))

pub returns-in_err-part-clause-moments : goal.returns-in_err-part-clause-moments
returns-in_err-part-clause-moments g c = none_leaves _ _ (λ image is. inl (KeepsWithoutSome-none [] (g.E.Durable.contents c.args.self.now.engine) image (c.requires.durable image is)))

pub returns-in_err-commit-clause-moments : goal.returns-in_err-commit-clause-moments
returns-in_err-commit-clause-moments g c =
    let prefix = (goal.at.returns-in_err-commit-clause-moments g c).After-push_reserved in
    LeavesOnly-group (g.E.Durable.contents c.args.self.now.engine) (g.K.Keyspace.table c.args.self.now.keyspace) c.args.frame c.in_ok-part.part c.in_ok-part.ensures.ok.changes_are c.in_ok-part.ensures.ok.position_is
    (the_group g prefix) (one g prefix) refl c.make_part.new.heap c.in_ok-part.part.ended.items (follows_after g prefix) (is_group g prefix) c.requires.counters
    (g.E.Durable.device c.args.self.now.engine) (g.E.Durable.device c.commit.new.self) (subst (λ (there : Contents). LeavesOnly (g.E.Durable.device c.args.self.now.engine) (g.E.Durable.device c.commit.new.self) (KeepsEither (g.E.Durable.contents c.args.self.now.engine) there))
    (group_reached 0 (g.E.Durable.contents c.args.self.now.engine) (the_group g prefix) (omega arith)) (c.commit.ensures.moments c.requires.sound))

pub returns-clause-moments : goal.returns-clause-moments
returns-clause-moments g c =
    let prefix = (goal.at.returns-clause-moments g c).After-push_reserved in
    LeavesOnly-group (g.E.Durable.contents c.args.self.now.engine) (g.K.Keyspace.table c.args.self.now.keyspace) c.args.frame c.in_ok-part.part c.in_ok-part.ensures.ok.changes_are c.in_ok-part.ensures.ok.position_is
    (the_group g prefix) (one g prefix) refl c.make_part.new.heap c.in_ok-part.part.ended.items (follows_after g prefix) (is_group g prefix) c.requires.counters
    (g.E.Durable.device c.args.self.now.engine) (g.E.Durable.device c.commit.new.self) (subst (λ (there : Contents). LeavesOnly (g.E.Durable.device c.args.self.now.engine) (g.E.Durable.device c.commit.new.self) (KeepsEither (g.E.Durable.contents c.args.self.now.engine) there))
    (group_reached 0 (g.E.Durable.contents c.args.self.now.engine) (the_group g prefix) (omega arith)) (c.commit.ensures.moments c.requires.sound))

pub returns-clause-taken : goal.returns-clause-taken
returns-clause-taken g c =
    let prefix = (goal.at.returns-clause-taken g c).After-push_reserved in
    HasTaken-group (g.E.Durable.contents c.args.self.now.engine) (g.K.Keyspace.table c.args.self.now.keyspace) c.args.frame c.in_ok-part.part c.in_ok-part.ensures.ok.changes_are c.in_ok-part.ensures.ok.position_is
    (the_group g prefix) (one g prefix) refl (g.E.Durable.contents c.commit.new.self) (g.K.Keyspace.table c.make_part.new.keyspace)
    (subst (λ (there : Contents). Same there (g.E.Durable.contents c.commit.new.self)) (group_reached 0 (g.E.Durable.contents c.args.self.now.engine) (the_group g prefix) (omega arith)) c.in_ok-commit.ensures.moved) c.in_ok-part.ensures.ok.table_is

pub returns-clause-gone : goal.returns-clause-gone
returns-clause-gone g c =
    let prefix = (goal.at.returns-clause-gone g c).After-push_reserved in
    gone-group (g.E.Durable.contents c.args.self.now.engine) (the_group g prefix) c.in_ok-part.part c.args.frame.after (one g prefix) c.in_ok-part.ensures.ok.position_is
    (λ i ended. true≢false (sym (c.requires.follows.all i ended))) (g.E.Durable.contents c.commit.new.self)
    (subst (λ (there : Contents). Same there (g.E.Durable.contents c.commit.new.self)) (group_reached 0 (g.E.Durable.contents c.args.self.now.engine) (the_group g prefix) (omega arith)) c.in_ok-commit.ensures.moved)

pub returns-in_err-commit-clause-durable : goal.returns-in_err-commit-clause-durable
returns-in_err-commit-clause-durable g c = λ no_fault.
    let exit = err_from_is_err_and c.from_residual-in_err-commit.result c.from_residual-in_err-commit.ensures.1 in
    elim c.in_err-commit.ensures.causes [
      | inl fault ↦ absurd (no_fault (exit.1 ∙ ap Err (exit.2 ∙ fault)))
      | inr exhausted ↦
          subst (λ engine. IsDurable (g.E.Durable.device engine) (g.E.Durable.contents engine)) (sym (c.in_err-commit.ensures.exhausted (ap Err exhausted)).1) c.requires.durable
    ]

alone : (parts : List Part) (part last : Part) → part ∷ [] ≡ parts ++ last ∷ [] → last ≡ part
alone [] part last is = cc
alone (first ∷ []) part last is = cc
alone (first ∷ (second ∷ parts)) part last is = cc

pub returns-clause-still : goal.returns-clause-still
returns-clause-still g c =
    let prefix = (goal.at.returns-clause-still g c).After-push_reserved in
    let contents = g.E.Durable.contents c.args.self.now.engine in
    let after = g.E.Durable.contents c.commit.new.self in
    let table = g.K.Keyspace.table c.make_part.new.keyspace in
    let part : c.unwrap-part.result ≡ c.in_ok-part.part =
    alone c.pop.new.self.items c.in_ok-part.part c.unwrap-part.result
    (sym (one g prefix) ∙ c.pop.ensures.items ∙ ap (λ last. c.pop.new.self.items ++ option_to_list last) c.unwrap-part.ensures) in
    subst (λ (last : Part). Follows after table c.make_part.new.heap last.ended.items) (sym part)
    (Follows-same (after_group contents (the_group g prefix)) after table c.make_part.new.heap c.in_ok-part.part.ended.items
    (subst (λ (there : Contents). Same there (g.E.Durable.contents c.commit.new.self)) (group_reached 0 (g.E.Durable.contents c.args.self.now.engine) (the_group g prefix) (omega arith)) c.in_ok-commit.ensures.moved)
    (subst (λ rows. Follows (after_group contents (the_group g prefix)) rows c.make_part.new.heap c.in_ok-part.part.ended.items) (sym c.in_ok-part.ensures.ok.table_is) (follows_after g prefix)))

pub returns-clause-lawful : goal.returns-clause-lawful
returns-clause-lawful g c = λ lawful _.
    let prefix = (goal.at.returns-clause-lawful g c).After-push_reserved in
    let contents = g.E.Durable.contents c.args.self.now.engine in
    let fits : ¬ Exhausts contents (the_group g prefix) = λ reached. let told = c.in_ok-commit.ensures.exhausts c.requires.sound reached in cc in
    same_lawful (after_group contents (the_group g prefix)) (g.E.Durable.contents c.commit.new.self)
    (subst (λ (there : Contents). Same there (g.E.Durable.contents c.commit.new.self)) (group_reached 0 (g.E.Durable.contents c.args.self.now.engine) (the_group g prefix) (omega arith)) c.in_ok-commit.ensures.moved) (group_lawful contents (the_group g prefix) lawful (is_group g prefix) fits)
