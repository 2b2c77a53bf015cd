use Rattle.std.proofs.Common.{Err, [], ap, refl, subst, sym, ◌∙◌}
use Rattle.std.proofs.lemmas.Result.{err_from_is_err_and}
use Rattle.standby.specs.declared.standby.Standby.{Standby}
use Rattle.standby.specs.Taking.{Stands}
use Rattle.links.specs.Serving.{keeps}
use Rattle.links.proofs.JoinedFrames.{IsLeft-same, ran-from, says-from}
use Rattle.links.proofs.Says.{IsLeft-refl, says-all, says-err, says-none}
use Rattle.links.proofs.Serving.{same_end}
use Rattle.links.proofs.following.answer_piece.Goals as goal

pub answer_all-requires : goal.answer_all-requires
answer_all-requires g c = record {
  stands = subst (λ (node : Standby _ _ _). Stands g.E.Durable.device g.E.Durable.contents g.E.Durable.is_faulted g.K.Keyspace.table node) (sym c.in_ok-told.ensures.same) c.requires.stands;
  empty = c.requires.empty;
}

-- there was no memory for what came
pub returns-in-Err-clause-says : goal.returns-in-Err-clause-says
returns-in-Err-clause-says g c = ([], says-none _ _ _ _ (keeps _ _ _ (IsLeft-refl _)), λ _. refl)

pub returns-in_err-told-clause-stands : goal.returns-in_err-told-clause-stands
returns-in_err-told-clause-stands g c = λ _.
    subst (λ (node : Standby _ _ _). Stands g.E.Durable.device g.E.Durable.contents g.E.Durable.is_faulted g.K.Keyspace.table node) (sym c.in_err-told.ensures.same) c.requires.stands

pub returns-in_err-told-clause-says : goal.returns-in_err-told-clause-says
returns-in_err-told-clause-says g c =
    says-err _ [] (says-none _ _ _ _ (keeps _ _ _ (IsLeft-same g.E.Durable.contents g.K.Keyspace.table c.args.node.now c.join_frames.new.node c.in_err-told.ensures.same))) (λ _. refl)

pub returns-in_err-answer_all-clause-says : goal.returns-in_err-answer_all-clause-says
returns-in_err-answer_all-clause-says g c =
    let exit = err_from_is_err_and c.from_residual-in_err-answer_all.result c.from_residual-in_err-answer_all.ensures.1 in
    let says = c.in_err-answer_all.ensures.says in
    says-err _ says.0
    (says-from g.E.Durable.contents g.K.Keyspace.table c.args.node.now c.join_frames.new.node _ _ _ _ _ _ says.0 c.in_ok-told.ensures.same c.in_ok-told.ensures.told c.in-Ok.ensures.given says.1)
    (λ unclosed. says.2 (λ is. unclosed (exit.1 ∙ ap Err (exit.2 ∙ same_end _ _ is))))

-- all that came was answered

pub returns-clause-all : goal.returns-clause-all
returns-clause-all g c =
    ran-from g.E.Durable.contents g.K.Keyspace.table c.args.node.now c.join_frames.new.node _ _ _ _ _ _ c.in_ok-told.ensures.same c.in_ok-told.ensures.told c.in-Ok.ensures.given c.in_ok-answer_all.ensures.all

pub returns-then-is_broken-clause-says : goal.returns-then-is_broken-clause-says
returns-then-is_broken-clause-says g c = (
  [],
  says-all _ _ _ _ _ _ (ran-from g.E.Durable.contents g.K.Keyspace.table c.args.node.now c.join_frames.new.node _ _ _ _ _ _ c.in_ok-told.ensures.same c.in_ok-told.ensures.told c.in-Ok.ensures.given
      c.in_ok-answer_all.ensures.all) (IsLeft-refl _),
  λ _. refl,
)

pub returns-in-Some-clause-says : goal.returns-in-Some-clause-says
returns-in-Some-clause-says g c = (
  [],
  says-all _ _ _ _ _ _ (ran-from g.E.Durable.contents g.K.Keyspace.table c.args.node.now c.join_frames.new.node _ _ _ _ _ _ c.in_ok-told.ensures.same c.in_ok-told.ensures.told c.in-Ok.ensures.given
      c.in_ok-answer_all.ensures.all) (IsLeft-refl _),
  λ _. refl,
)
