use Rattle.std.proofs.Common.{◌∙◌}
use Rattle.simulator.proofs.NumberLemmas.{IsUtf8-number, parsed_number, written_back, same_Ok}
use Rattle.simulator.proofs.number.read_number.Goals as goal

pub returns-in_default-clause-refused : goal.returns-in_default-clause-refused
returns-in_default-clause-refused c n fits is = c.in_default.ensures.cases.0 (IsUtf8-number n c.args.text.now fits is)

pub returns-in_default-parse-clause-refused : goal.returns-in_default-parse-clause-refused
returns-in_default-parse-clause-refused c n fits is = c.in_default-parse.not-Ok n (parsed_number n c.in-Ok.shown.now c.parse.result fits (c.in-Ok.ensures.cases.0 ∙ is) c.parse.ensures.value.0)

pub returns-else-eq-clause-refused : goal.returns-else-eq-clause-refused
returns-else-eq-clause-refused c n fits is =
    let parsed = parsed_number n c.in-Ok.shown.now c.parse.result fits (c.in-Ok.ensures.cases.0 ∙ is) c.parse.ensures.value.0 in
    written_back c.in-Ok-parse.number n c.as_bytes.result.now c.args.text.now (same_Ok c.in-Ok-parse.number n c.parse.result c.in-Ok-parse.is parsed) (c.as_bytes.ensures.value ∙ c.format.ensures.text) is c.if-eq.ensures
