use Rattle.std.proofs.Common.{◌≡◌, sym, ap, subst, ◌∙◌}
use Rattle.model.specs.declared.record.Record.{Record}
use Rattle.model.specs.declared.record.Role.{Role}
use Rattle.model.specs.declared.record.Role.TheVariants.{Newcomer, Primary, Standby}
use Rattle.wbl_engine.proofs.ReadingLemmas.{undamaged_unique}
use Rattle.images.proofs.promoting.may_promote.Goals as goal

abbrev is-standby : Role → Type 0
is-standby Primary = ⊥
is-standby Standby = Unit {0}
is-standby Newcomer = ⊥

pub returns-in-Primary-clause-asked : goal.returns-in-Primary-clause-asked
returns-in-Primary-clause-asked g c = λ r whole empty standby asked.
    let same : r ≡ c.in_ok-current.current = undamaged_unique c.in_ok-current.current r c.in_ok-current.ensures.undamaged.current whole in
    let both : Primary ≡ Standby = sym c.in-Primary.is ∙ sym (ap (λ (x : Record). x.role) same) ∙ standby in
    absurd (subst is-standby (sym both) tt)

pub returns-in-Newcomer-clause-asked : goal.returns-in-Newcomer-clause-asked
returns-in-Newcomer-clause-asked g c = λ r whole empty standby asked.
    let same : r ≡ c.in_ok-current.current = undamaged_unique c.in_ok-current.current r c.in_ok-current.ensures.undamaged.current whole in
    let both : Newcomer ≡ Standby = sym c.in-Newcomer.is ∙ sym (ap (λ (x : Record). x.role) same) ∙ standby in
    absurd (subst is-standby (sym both) tt)
