use Rattle.std.proofs.Common.{◌+◌, ◌↔◌, Bool, ℕ, not, get_or, IsTrue, rules}
use Rattle.std.proofs.lemmas.Cmp.{nat_cmp_total}
use Rattle.std.proofs.lemmas.List.Sorted.{answers_always, ranks_by}
use Rattle.std.proofs.lemmas.Bool.{not-false}
use Rattle.std.specs.Cmp.{then_total, on_total}
use Rattle.std.specs.List.Sorted.{IsSortedBy}
use Rattle.kv_types.specs.declared.record_id.RecordId.{RecordId}
use Rattle.kv_types.specs.Order.{record_cmp_total}
use Rattle.model.specs.ReadImage.{is_clash}
use Rattle.heap_layout.specs.declared.tagged.Tagged.{Tagged}
use Rattle.heap_layout.specs.Versions.{NoTwo}
use Rattle.heap_layout.proofs.NoTwo.{NoTwo-moved, NoTwo-decided}
use Rattle.heap_layout.proofs.Clashes.{is_clash-flips}
use Rattle.heap_layout.proofs.TaggedLemmas.{tagged_before, no_clash-tagged}
use Rattle.heap_layout.proofs.apart.are_distinct.Goals as goal

abbrev clash : Tagged → Tagged → Bool
clash a b = is_clash a.id.now b.id.now

abbrev differ : Tagged → Tagged → Bool
differ a b = not (clash a b)

abbrev rank : Tagged → ℕ × RecordId
rank a = (a.tag, a.id.now)

pub returns : goal.returns
returns c =
    let old = c.args.ids.now in
    let new = c.sort_unstable_by.new.self in
    let same = NoTwo-moved clash (λ a b. is_clash-flips a.id.now b.id.now) old new c.sort_unstable_by.ensures.permutation in
    let order = ranks_by (then_total (on_total (λ (r : ℕ × RecordId). r.0) nat_cmp_total) (on_total (λ (r : ℕ × RecordId). r.1) record_cmp_total)) rank in
    let up : IsSortedBy tagged_before new =
    c.sort_unstable_by.ensures.sorted tagged_before order (answers_always _ _ _ (λ f a r g called. search rules)) in
    let decided : IsTrue c.is_sorted_by.result ↔ NoTwo clash new =
    NoTwo-decided tagged_before clash differ order no_clash-tagged new up
    (λ k d within e. not-false (clash (get_or new k d) (get_or new (k + 1) d)) e) c.is_sorted_by.result
    (c.is_sorted_by.ensures.cases differ (answers_always _ _ _ (λ f a r g called. search rules))) in
    (λ distinct. same.1 (decided.0 distinct), λ none. decided.1 (same.0 none))
