use Rattle.std.proofs.Common.{ℕ, ◌+◌, ◌<◌, ◌↔◌, All, get_or, IsTrue, rules, arith}
use Rattle.std.proofs.lemmas.Cmp.{nat_cmp_total}
use Rattle.std.proofs.lemmas.List.Sorted.{All-permutation, answers_always, ranks_by}
use Rattle.std.specs.List.Sorted.{IsSortedBy}
use Rattle.kv_types.specs.declared.place.Extent.{Extent}
use Rattle.heap_layout.specs.Versions.{NoTwo, overlap}
use Rattle.heap_layout.proofs.NoTwo.{NoTwo-moved, NoTwo-decided}
use Rattle.heap_layout.proofs.Clashes.{starts_before, ends_before, overlap-flips, overlap-far, overlap-near}
use Rattle.heap_layout.proofs.apart.are_apart.Goals as goal

abbrev first_of : Extent → ℕ
first_of run = run.first_line

pub returns : goal.returns
returns c =
    let old = c.args.runs.now in
    let new = c.sort_unstable_by_key.new.self in
    let moved = c.sort_unstable_by_key.ensures.permutation in
    let up : IsSortedBy starts_before new = c.sort_unstable_by_key.ensures.sorted first_of (answers_always _ _ _ (λ f a r g called. search rules)) in
    let some : All (λ run. 0 < run.lines) new = All-permutation (λ (run : Extent). 0 < run.lines) old new moved c.requires in
    let same = NoTwo-moved overlap overlap-flips old new moved in
    let decided : IsTrue c.is_sorted_by.result ↔ NoTwo overlap new =
    NoTwo-decided starts_before overlap ends_before (ranks_by nat_cmp_total first_of) overlap-far new up
    (λ k d within. overlap-near (get_or new k d) (get_or new (k + 1) d) (some k d (omega arith)) (some (k + 1) d within) (up k d (omega arith) within))
    c.is_sorted_by.result
    (c.is_sorted_by.ensures.cases ends_before (answers_always _ _ _ (λ f a r g called. search rules))) in
    (λ apart. same.1 (decided.0 apart), λ none. decided.1 (same.0 none))
