use Rattle.std.proofs.Common.{◌∷◌, [], ◌++◌, List, inl, refl, ap, ◌∙◌}
use Rattle.model.specs.declared.group.Group.{Group}
use Rattle.group_commit.proofs.committer.Committer.hand.Goals as goal

pub offer-requires : goal.offer-requires
offer-requires g c =
    g.met.O.Outlet.may_still c.args.link.now c.room.new.self c.in-Some.group c.room.ensures.same c.room.ensures.unchanged
    (c.requires.may c.in-Some.group c.pop_front.new.self.items c.in-Some.ensures.items)

pub returns-clause-handed : goal.returns-clause-handed
returns-clause-handed g c =
    inl (record {
      group = c.in-Some.group;
      rest = c.pop_front.new.self.items;
      first = c.in-Some.ensures.items;
      answer = refl;
      left = c.shown.ensures;
      now = refl;
      offered_is = c.in-Ok.ensures.last ∙ ap (λ (xs : List Group). xs ++ c.in-Some.group ∷ []) c.room.ensures.unchanged;
    })
