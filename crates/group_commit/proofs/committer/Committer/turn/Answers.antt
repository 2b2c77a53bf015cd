use Rattle.std.proofs.Common.{Ok, inl, inr, refl, ap, sym, subst, nat_lt, ◌∙◌}
use Rattle.group_commit.specs.Due.{due_now}
use Rattle.group_commit.specs.Working.{Takes}
use Rattle.group_commit.specs.declared.committer.Committer.{Committer}
use Rattle.group_commit.specs.declared.due.Due.TheVariants as due
use Rattle.group_commit.specs.declared.stage.Stage.{Stage}
use Rattle.group_commit.proofs.DueLemmas.{hand-now, raise-now}
use Rattle.group_commit.proofs.TurnLemmas.{takes-step}
use Rattle.group_commit.proofs.committer.Committer.turn.Goals as goal

-- the stage that was put in place of `Ready` is `Ready` again
pub returns-in-Ready-clause-takes : goal.returns-in-Ready-clause-takes
returns-in-Ready-clause-takes g c =
    let E = g.E.Durable in
    let O = g.O.Outlet in
    let room = nat_lt 0 (O.known_room c.do_next.new.link) in
    subst (λ (self : Committer g.row.E.Denot).
    Takes E.device E.contents E.is_faulted O.offered O.known_room (due_now E.contents self c.args.work.now room c.args.remote) room c.args.remote self c.args.work.now c.args.link.now c.do_next.result
    c.do_next.new.self c.do_next.new.work c.do_next.new.link)
    (ap (λ (stage : Stage). record c.args.self.now { stage = stage }) (c.replace.ensures.after ∙ c.in-Ready.ensures.value)) c.do_next.ensures.takes

pub returns-in-Durable-clause-takes : goal.returns-in-Durable-clause-takes
returns-in-Durable-clause-takes g c =
    let E = g.E.Durable in
    let O = g.O.Outlet in
    let old = c.args.self.now in
    let in_hand = sym c.in-Durable.ensures.value in
    takes-step E.device E.contents E.is_faulted O.offered O.known_room old c.raise_local.new.self c.args.work.now c.args.work.now c.args.link.now c.args.link.now c.args.remote (Ok c.raise_local.result)
    due.Raise (O.known_room c.args.link.now) refl (raise-now E.contents old c.args.work.now (nat_lt 0 (O.known_room c.args.link.now)) c.args.remote c.in-Durable.groups in_hand) (
      refl,
      refl,
      record { groups = c.in-Durable.groups; were = in_hand; answer = ap Ok c.raise_local.ensures.value; now = c.raise_local.ensures.raised },
    )

pub returns-in-Shown-clause-takes : goal.returns-in-Shown-clause-takes
returns-in-Shown-clause-takes g c =
    let E = g.E.Durable in
    let O = g.O.Outlet in
    let old = c.args.self.now in
    let in_hand = sym c.in-Shown.ensures.value in
    takes-step E.device E.contents E.is_faulted O.offered O.known_room old c.hand.new.self c.args.work.now c.args.work.now c.args.link.now c.hand.new.link c.args.remote (Ok c.hand.result)
    due.Hand (O.known_room c.hand.new.link) refl (hand-now E.contents old c.args.work.now (nat_lt 0 (O.known_room c.hand.new.link)) c.args.remote c.in-Shown.groups in_hand) (
      refl,
      record {
        groups = c.in-Shown.groups;
        were = in_hand;
        came = elim c.hand.ensures.handed [
          | inl first ↦ inl (record {
            group = first.group;
            rest = first.rest;
            first = first.first;
            answer = first.answer;
            left = first.left;
            now = first.now;
            offered_is = first.offered_is;
          })
          | inr (inl full) ↦ inr (inl (ap Ok full.0, full.1 ∙ ap (λ (stage : Stage). record old { stage = stage }) (sym in_hand), full.2, full.3))
          | inr (inr none) ↦ inr (inr (none.0, ap Ok none.1, none.2 ∙ ap (λ (stage : Stage). record old { stage = stage }) c.replace.ensures.after, none.3))
        ];
      },
    )
