use Rattle.std.proofs.Common.{rules, Err, ap, refl, ◌∙◌}
use Rattle.std.proofs.lemmas.Result.{err_from_is_err_and}
use Rattle.group_commit.specs.Committing.{HasCommitted}
use Rattle.group_commit.specs.declared.stage.Stage.TheVariants.{Durable}
use Rattle.group_commit.proofs.committer.Committer.commit.Goals as goal

pub commit_all-requires : goal.commit_all-requires
commit_all-requires g c = rw c.as_slice.ensures.value c.requires.lawful

pub returns-in_err-committed-clause-commits : goal.returns-in_err-committed-clause-commits
returns-in_err-committed-clause-commits g c =
    let exit = err_from_is_err_and c.from_residual.result c.from_residual.ensures.1 in
    let engine = rw c.as_slice.ensures.value at c.in_err-committed.ensures in
    rw (exit.1 ∙ ap Err exit.2) (search (rules, engine))

pub returns-clause-commits : goal.returns-clause-commits
returns-clause-commits g c =
    let engine = rw c.as_slice.ensures.value at c.in_ok-committed.ensures in
    let list : HasCommitted c.args.groups.items (Durable c.from_vec.result) = (c.from_vec.result, refl, c.from_vec.ensures.items) in
    search (rules, engine, list)
