use Rattle.std.proofs.Common.{◌≡◌, ◌∙◌}
use Rattle.kv_types.proofs.IntegerLemmas.{IsUtf8-integer, parsed_integer, written_back}
use Rattle.kv_types.proofs.integer.read_int.Goals as goal

pub returns-in_default-clause-refused : goal.returns-in_default-clause-refused
returns-in_default-clause-refused c n fits is = c.in_default.ensures.cases.0 (IsUtf8-integer n c.args.text.now fits is)

pub returns-in_default-parse-clause-refused : goal.returns-in_default-parse-clause-refused
returns-in_default-parse-clause-refused c n fits is = c.in_default-parse.not-Ok n (parsed_integer n c.in-Ok.shown.now c.parse.result fits (c.in-Ok.ensures.cases.0 ∙ is) c.parse.ensures.value.0)

pub returns-else-eq-clause-refused : goal.returns-else-eq-clause-refused
returns-else-eq-clause-refused c n fits is =
    let parsed = parsed_integer n c.in-Ok.shown.now c.parse.result fits (c.in-Ok.ensures.cases.0 ∙ is) c.parse.ensures.value.0 in
    let same : c.in-Ok-parse.number ≡ n = cc in
    written_back c.in-Ok-parse.number n c.as_bytes.result.now c.args.text.now same fits (c.as_bytes.ensures.value ∙ c.format.ensures.text) is c.if-eq.ensures
