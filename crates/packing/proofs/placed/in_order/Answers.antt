use Rattle.std.proofs.Common.{◌≡◌, ◌≤◌, ◌++◌, List, [], length, drop, rules, sym, ap, subst, ◌∙◌, arith, append-nil}
use Rattle.std.proofs.lemmas.List.Sorted.{IsNonDecreasingBy-from_sort_by_key}
use Rattle.std.proofs.Math.ListN.{drop_of_length-le}
use Rattle.std.specs.List.Sorted.{IsPermutation}
use Rattle.kv_types.specs.declared.place.Extent.{Extent}
use Rattle.packing.specs.declared.placed.Placed.{Placed}
use Rattle.packing.specs.Sliding.{numbered}
use Rattle.packing.proofs.placed.in_order.Goals as goal

pub returns : goal.returns
returns c =
    let all : length c.args.extents.now ≤ c.loop-index.index = omega (arith, c.loop-index-test.false) in
    let none : drop c.loop-index.index c.args.extents.now ≡ [] = drop_of_length-le c.args.extents.now all in
    let is : c.loop-index.placed.items ≡ numbered 0 c.args.extents.now =
    sym (append-nil c.loop-index.placed.items) ∙ ap (λ (rest : List Extent). c.loop-index.placed.items ++ numbered c.loop-index.index rest) (sym none) ∙ c.loop-index.invariant in
    record {
      permutation = subst (λ (xs : List Placed). IsPermutation xs c.sort_unstable_by_key.new.self.items) is c.sort_unstable_by_key.ensures.permutation;
      sorted = IsNonDecreasingBy-from_sort_by_key (λ (p : Placed). p.extent.first_line) _ c.sort_unstable_by_key.ensures.sorted (λ a r q k. search rules);
    }
