use Rattle.std.proofs.Common.{ap, ◌∙◌, rules}
use Rattle.std.proofs.lemmas.Fn.{filter_same}
use Rattle.multi_watch.specs.Watchers.{has_number}
use Rattle.multi_watch.proofs.TableLemmas.{filtered}
use Rattle.multi_watch.proofs.watchers.remove_number.Goals as goal

pub returns : goal.returns
returns c = λ n.
    let items = filter_same _ _ _ (λ x b f' k. search rules) _ _ c.retain.ensures.filtered in
    ap (λ xs. has_number n xs) items ∙ filtered n c.args.number c.args.numbers.now.items
