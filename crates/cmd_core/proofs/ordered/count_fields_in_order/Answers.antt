use Rattle.std.proofs.Common.{not, length, ap, sym, ◌∙◌, refl, arith}
use Rattle.std.proofs.lemmas.List.Filters.{length-filter_both}
use Rattle.cmd_core.proofs.OrderedLemmas.{fields-counted, is_field_of}
use Rattle.cmd_core.proofs.ordered.count_fields_in_order.Goals as goal

pub returns-clause-value : goal.returns-clause-value
returns-clause-value g c =
    ap (λ records. length records) c.fields_of_key.ensures ∙ sym (fields-counted g.R.KeptRecord.kept c.args.key.now c.args.records.now)

pub returns-clause-bound : goal.returns-clause-bound
returns-clause-bound g c =
    let kept = g.R.KeptRecord.kept in
    let key = c.args.key.now in
    let both = length-filter_both (λ x. is_field_of key (kept x).0) (λ x. not (is_field_of key (kept x).0)) (λ x. refl) c.args.records.now in
    omega (arith, ap (λ records. length records) c.fields_of_key.ensures, both, c.requires.few)
