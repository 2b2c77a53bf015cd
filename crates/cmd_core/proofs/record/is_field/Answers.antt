use Rattle.cmd_core.proofs.RecordsLemmas.{field_of_same_key, field_of_other_key}
use Rattle.cmd_core.proofs.record.is_field.Goals as goal

pub returns-then-eq : goal.returns-then-eq
returns-then-eq c = rw c.in-Field.is (let same = field_of_same_key c.args.key.now c.args.field.now c.in-Field.own c.in-Field.name (cc) in cc)

pub returns-else-eq : goal.returns-else-eq
returns-else-eq c = rw c.in-Field.is (let other = field_of_other_key c.args.key.now c.args.field.now c.in-Field.own c.in-Field.name (cc) in cc)
