use Rattle.std.proofs.Common.{length, ap, sym, ◌∙◌}
use Rattle.std.proofs.lemmas.Bool.{ltb-true}
use Rattle.model.specs.declared.group.Part.{Part}
use Rattle.wbl_engine.proofs.SuccessorLemmas.{last_position-get}
use Rattle.wbl_engine.proofs.successor.last_position.Goals as goal

pub returns-in-Some : goal.returns-in-Some
returns-in-Some c =
    let item = c.in-Some.ensures.item in
    ap (λ (part : Part). part.position) item.1
    ∙ sym (last_position-get c.args.before c.args.parts.now c.in-Some.part.now (ltb-true 0 (length c.args.parts.now) (sym item.0)))
