use Rattle.std.proofs.Common.{List, ◌++◌, [], ◌∷◌, ap, refl, ◌∙◌}
use Rattle.model.specs.declared.group.Part.{Part}
use Rattle.model.specs.declared.group.PlacedChange.{PlacedChange}
use Rattle.wbl_migrate.proofs.ended_tests.two_sets.Goals as goal

pub returns : goal.returns
returns c =
    let first = c.in_ok-first.first in
    let second = c.in_ok-second.second in
    record {
      epoch = refl;
      before = refl;
      first = first;
      second = second;
      parts = c.push_reserved-2.ensures.items
          ∙ ap (λ (parts : List Part). parts ++ second ∷ []) (c.push_reserved.ensures.items ∙ ap (λ (parts : List Part). parts ++ first ∷ []) c.in_ok-parts.ensures.items);
      first_position = c.in_ok-first.ensures.position;
      first_changes = c.in_ok-first.ensures.changes ∙ ap (λ (change : PlacedChange). change ∷ []) c.in_ok-set.ensures;
      first_ended = c.in_ok-first.ensures.ended ∙ c.new.ensures.items;
      second_position = c.in_ok-second.ensures.position;
      second_changes = c.in_ok-second.ensures.changes ∙ ap (λ (change : PlacedChange). change ∷ []) c.in_ok-set-2.ensures;
      second_ended = c.in_ok-second.ensures.ended ∙ c.in_ok-ended.ensures;
    }
