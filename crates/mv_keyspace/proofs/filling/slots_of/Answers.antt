use Rattle.std.proofs.Common.{rules, sym, ap, subst, ◌∙◌}
use Rattle.std.proofs.lemmas.List.{map-id}
use Rattle.std.proofs.lemmas.Iterator.{items_from_drains}
use Rattle.std.proofs.lemmas.Iterator.Adapters.{YieldsList-from_vec}
use Rattle.std.specs.BTreeMap.{IsFromIterResult}
use Rattle.kv_types.specs.Keyspace.{bytes_cmp}
use Rattle.mv_keyspace.specs.Slots.{AreSlots, rows_in}
use Rattle.mv_keyspace.proofs.FillingLemmas.{slots-made}
use Rattle.mv_keyspace.proofs.filling.slots_of.Goals as goal

pub returns-clause-slots : goal.returns-clause-slots
returns-clause-slots c =
    let pairs = c.in_ok-pairs.pairs.items in
    let (it, taken, begins, drains, gives) = c.in_ok-from_iter.ensures.ran in
    let all = sym (map-id taken) ∙ items_from_drains taken drains (YieldsList-from_vec {s = it} pairs begins.0 (search rules)) in
    let slots = c.in_ok-from_iter.field-0 in
    subst AreSlots (sym (slots-made pairs slots c.in_ok-pairs.ensures.slots.sorted (subst (λ es. IsFromIterResult bytes_cmp es slots) all gives))) c.in_ok-pairs.ensures.slots

pub returns-clause-rows : goal.returns-clause-rows
returns-clause-rows c =
    let pairs = c.in_ok-pairs.pairs.items in
    let (it, taken, begins, drains, gives) = c.in_ok-from_iter.ensures.ran in
    let all = sym (map-id taken) ∙ items_from_drains taken drains (YieldsList-from_vec {s = it} pairs begins.0 (search rules)) in
    let slots = c.in_ok-from_iter.field-0 in
    ap rows_in (slots-made pairs slots c.in_ok-pairs.ensures.slots.sorted (subst (λ es. IsFromIterResult bytes_cmp es slots) all gives)) ∙ c.in_ok-pairs.ensures.rows
