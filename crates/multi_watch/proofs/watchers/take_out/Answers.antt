use Rattle.std.proofs.Common.{◌≡◌, ◌≢◌, [], ◌&&◌, not, nat_eq, Some, rules, sym, ap, ◌∙◌}
use Rattle.multi_watch.specs.Watchers.{numbers_of, numbers_at, has_number}
use Rattle.multi_watch.proofs.TableLemmas.{becomes_at, removes, others_stay, still_watched}
use Rattle.multi_watch.proofs.watchers.take_out.Goals as goal

pub returns-clause-removed : goal.returns-clause-removed
returns-clause-removed c =
    let old = c.args.table.now.entries in
    let key = c.args.key.now in
    let number = c.args.number in
    let left = c.remove_number.new.numbers in
    let new = (c.get_mut.follows.lender left).entries in
    let updates = (c.get_mut.follows.holds left).3 (search rules) in
    let was : numbers_at old key ≡ Some c.in-Some.numbers.now = search rules in
    removes old new key (Some left) (becomes_at old new key (Some left) updates.1 updates.3) number
    (λ n. c.remove_number.ensures n ∙ ap (λ o. has_number n (numbers_of o) && not (nat_eq number n)) (sym was))

pub returns-clause-others : goal.returns-clause-others
returns-clause-others c =
    let old = c.args.table.now.entries in
    let key = c.args.key.now in
    let left = c.remove_number.new.numbers in
    let new = (c.get_mut.follows.lender left).entries in
    let updates = (c.get_mut.follows.holds left).3 (search rules) in
    others_stay old new key (Some left) (becomes_at old new key (Some left) updates.1 updates.3)

pub returns-clause-watched : goal.returns-clause-watched
returns-clause-watched c = λ has_some.
    let old = c.args.table.now.entries in
    let key = c.args.key.now in
    let left = c.remove_number.new.numbers in
    let new = (c.get_mut.follows.lender left).entries in
    let updates = (c.get_mut.follows.holds left).3 (search rules) in
    let was : numbers_at old key ≡ Some c.in-Some.numbers.now = search rules in
    let some : left.items ≢ [] = search rules in
    still_watched old new key c.requires left some (c.requires key c.in-Some.numbers.now was).1 (becomes_at old new key (Some left) updates.1 updates.3)
