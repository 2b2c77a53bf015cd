use Rattle.std.proofs.Common.{true, false, length, sym, ap, ◌∙◌, arith}
use Rattle.std.specs.Prelude.{is_some}
use Rattle.cmd_core.specs.Record.{field_at}
use Rattle.cmd_core.proofs.RecordsLemmas.{fields_counted, fields_end, is_some-copied}
use Rattle.cmd_core.proofs.record.count_fields_in.Goals as goal
use Rattle.cmd_core.proofs.record.count_fields_in.Goals.{then-is_some, else-is_some}

pub loop-record-preserved : goal.loop-record-preserved
loop-record-preserved g c =
    let key = c.args.key.now in
    let found = ap (λ id. is_some (field_at id key)) (sym c.id.ensures) ∙ ap is_some (sym c.field_if_of.ensures) ∙ is_some-copied c.field_if_of.result ∙ sym c.is_some.ensures in
    let step = fields_counted _ g.R.KeptRecord.kept c.args.records.now c.loop-record.record-index c.record-item.result c.loop-record-test.true c.record-item.is key in
    elim c.if-is_some.branch [
      | then-is_some w ↦ let more = step true (found ∙ w.if-is_some.true) in (omega (arith, more, c.loop-record.invariant.0, w.count-is), omega (arith, c.loop-record.invariant.1, w.count-is))
      | else-is_some w ↦ let same = step false (found ∙ w.if-is_some.false) in (omega (arith, same, c.loop-record.invariant.0, w.count-is), omega (arith, c.loop-record.invariant.1, w.count-is))
    ]

pub returns-clause-value : goal.returns-clause-value
returns-clause-value g c =
    let none = ap (λ fields. length fields) (fields_end _ g.R.KeptRecord.kept c.args.records.now c.loop-record.record-index c.args.key.now c.loop-record-test.false) in
    omega (arith, none, c.loop-record.invariant.0)
