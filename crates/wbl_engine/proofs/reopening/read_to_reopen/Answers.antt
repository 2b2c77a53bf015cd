use Rattle.std.proofs.Common.{◌≡◌, inl, inr, refl, sym, ap, ◌∙◌}
use Rattle.model.specs.declared.record.Record.{Record}
use Rattle.wbl_engine.proofs.ReadingLemmas.{undamaged_unique}
use Rattle.wbl_engine.proofs.reopening.read_to_reopen.Goals as goal

pub returns-then-not-has_role-clause-refused : goal.returns-then-not-has_role-clause-refused
returns-then-not-has_role-clause-refused g c =
    inr (inl (
      refl,
      λ r whole is.
          let same = undamaged_unique c.in_ok-current.current r c.in_ok-current.ensures.undamaged.current whole in
          let e : c.in_ok-current.current.role ≡ c.args.role = sym (ap (λ (q : Record). q.role) same) ∙ is in
          let right = c.if-not-has_role.ensures.1 e in cc,
    ))
