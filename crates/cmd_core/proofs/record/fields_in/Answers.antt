use Rattle.std.proofs.Common.{◌≡◌, ◌+◌, [], ◌∷◌, ◌++◌, map, drop, rules, sym, ap, ◌∙◌}
use Rattle.std.specs.Option.{option_copied}
use Rattle.cmd_core.specs.Contents.{fields_of}
use Rattle.cmd_core.specs.Record.{field_at}
use Rattle.cmd_core.proofs.RecordsLemmas.{field_elsewhere, field_pushed, fields_end}
use Rattle.cmd_core.proofs.record.fields_in.Goals as goal
use Rattle.cmd_core.proofs.record.fields_in.Goals.{in-Some+in_ok-clone+in_ok-clone-2+in_ok-push, in_default}

pub loop-record-preserved : goal.loop-record-preserved
loop-record-preserved g c =
    let key = c.args.key.now in
    let kept = g.R.KeptRecord.kept in
    let found = ap (λ id. field_at id key) (sym c.id.ensures) ∙ sym c.field_if_of.ensures in
    elim c.match-field_if_of.branch [
      | in-Some+in_ok-clone+in_ok-clone-2+in_ok-push w ↦
          let pushed : c.match-field_if_of.fields.items ≡ c.loop-record.fields.items ++ (w.in-Some.field.now, (kept c.record-item.result).1) ∷ [] = search rules in
          field_pushed _ kept c.args.records.now c.loop-record.record-index c.record-item.result c.loop-record-test.true c.record-item.is key _ _ _ _ (found ∙ ap option_copied w.in-Some.is) c.loop-record.invariant pushed
      | in_default w ↦
          c.loop-record.invariant
          ∙ ap (λ fields. c.loop-record.fields.items ++ fields)
          (field_elsewhere _ kept c.args.records.now c.loop-record.record-index c.record-item.result c.loop-record-test.true c.record-item.is key (found ∙ ap option_copied w.in_default.is))
          ∙ ap (λ (fields : _). fields.items ++ fields_of (map kept (drop (c.loop-record.record-index + 1) c.args.records.now)) key) (sym w.fields-is)
    ]

pub returns : goal.returns
returns g c =
    let none = fields_end _ g.R.KeptRecord.kept c.args.records.now c.loop-record.record-index c.args.key.now c.loop-record-test.false in
    search rules
