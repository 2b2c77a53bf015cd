use Rattle.std.proofs.Common.{ap, refl, sym, true≢false, ◌∙◌}
use Rattle.model.specs.declared.record.Record.{Record}
use Rattle.wbl_engine.proofs.ReadingLemmas.{undamaged_unique}
use Rattle.standby.proofs.opening.refusal_of_role.Goals as goal

pub returns-then-is_newcomer-clause-newcomer : goal.returns-then-is_newcomer-clause-newcomer
returns-then-is_newcomer-clause-newcomer g c = λ copied r whole.
    ap (λ (x : Record). x.role) (undamaged_unique c.in-Ok.current r c.in-Ok.ensures.undamaged.current whole) ∙ c.if-is_newcomer.ensures.0 refl

pub returns-else-is_newcomer-clause-other : goal.returns-else-is_newcomer-clause-other
returns-else-is_newcomer-clause-other g c = λ other r whole newcomer.
    let same = ap (λ (x : Record). x.role) (undamaged_unique c.in-Ok.current r c.in-Ok.ensures.undamaged.current whole) in
    true≢false (sym (c.is_newcomer.ensures.1 (sym same ∙ newcomer)) ∙ c.if-is_newcomer.false)
