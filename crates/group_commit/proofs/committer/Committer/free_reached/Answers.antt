use Rattle.std.proofs.Common.{List, true, inl, subst}
use Rattle.model.specs.declared.work.FreeList.{FreeList}
use Rattle.model.specs.Group.{AreEnded}
use Rattle.group_commit.specs.Working.{entries_of_lists}
use Rattle.group_commit.proofs.TakingLemmas.{AllAside, all-aside}
use Rattle.group_commit.proofs.TurnLemmas.{aside-ended, freed-from, reached-ended}
use Rattle.group_commit.proofs.committer.Committer.free_reached.Given.{Over}
use Rattle.group_commit.proofs.committer.Committer.free_reached.Goals as goal
use Rattle.group_commit.proofs.committer.Committer.free_reached.Goals.{In_ok-set_aside}

all : (g : Over) (c : In_ok-set_aside g) → AllAside c.args.self.now.aside.items c.args.work.now.items c.set_aside.new.aside.items c.set_aside.new.work.items
all g c =
    all-aside c.args.self.now.aside.items c.args.work.now.items c.set_aside.new.aside.items c.set_aside.new.work.items c.in_ok-set_aside.ensures.all

pub set_aside-requires : goal.set_aside-requires
set_aside-requires g c = record { none = c.requires.none c.if-not-has_room.false }

pub free_first-requires-clause-lawful : goal.free_first-requires-clause-lawful
free_first-requires-clause-lawful g c = aside-ended (g.E.Durable.contents c.args.self.now.engine) c.args.self.now.aside.items c.args.work.now.items c.requires.lawful

pub free_first-requires-2-clause-lawful : goal.free_first-requires-2-clause-lawful
free_first-requires-2-clause-lawful g c =
    let contents = g.E.Durable.contents c.args.self.now.engine in
    subst (λ (lists : List FreeList). AreEnded contents (entries_of_lists lists)) (all g (goal.at.free_first-requires-2-clause-lawful g c).In_ok-set_aside).reached
    (reached-ended contents true c.args.self.now.aside.items c.args.work.now.items (λ room. c.requires.none c.if-not-has_room.false) c.requires.lawful)

pub returns-clause-frees : goal.returns-clause-frees
returns-clause-frees g c =
    let E = g.E.Durable in
    rw c.if-not-has_room.false
    (λ list rest reached.
    inl (freed-from E.device E.contents E.is_faulted c.args.self.now c.set_aside.new.aside c.args.work.now c.set_aside.new.work list rest c.free_first-2.result c.free_first-2.new.self
    (all g (goal.at.returns-clause-frees g c).In_ok-set_aside) reached c.free_first-2.ensures.frees))
