use Rattle.std.proofs.Common.{inl, ap, ◌∙◌, arith}
use Rattle.group_commit.proofs.TakingLemmas.{each-asked, many-some}
use Rattle.group_commit.proofs.TurnLemmas.{commits-from}
use Rattle.group_commit.proofs.committer.Committer.commit_all.Goals as goal

pub commit-requires-clause-lawful : goal.commit-requires-clause-lawful
commit-requires-clause-lawful g c =
    let (lists, aside, taken) = c.in_ok-groups.ensures.taken in
    each-asked (g.E.Durable.contents c.args.self.now.engine) c.args.self.now.aside.items c.args.work.now.items lists c.in_ok-groups.groups.items c.take_groups.new.work.items
    c.requires.lawful taken

pub returns-clause-takes : goal.returns-clause-takes
returns-clause-takes g c =
    let E = g.E.Durable in
    let (lists, aside, taken) = c.in_ok-groups.ensures.taken in
    inl (record {
      lists = lists;
      groups = c.in_ok-groups.groups.items;
      some = let waits = many-some c.args.work.now.items c.requires.some in omega (arith, waits, c.in_ok-groups.ensures.many, c.requires.room);
      many = c.in_ok-groups.ensures.many;
      taken = taken;
      set_aside = ap (λ lists. lists.items) c.commit.ensures.aside ∙ aside;
      commits = commits-from E.device E.contents E.is_faulted c.args.self.now c.take_groups.new.aside c.args.remote c.in_ok-groups.groups.items c.commit.result c.commit.new.self
          c.commit.ensures.commits;
    })
