use Rattle.std.proofs.Common.{None, rules, sym, ◌∙◌}
use Rattle.multi_watch.specs.Watchers.{SaysSame}
use Rattle.multi_watch.proofs.TableLemmas.{Becomes, becomes_at, says_same, watched_without}
use Rattle.multi_watch.proofs.watchers.remove_from.Goals as goal

pub returns-then-take_out : goal.returns-then-take_out
returns-then-take_out c =
    let old = c.args.table.now.entries in
    let key = c.args.key.now in
    let left = c.take_out.new.table.entries in
    let new = c.remove.new.self.entries in
    let becomes : Becomes left key None new = becomes_at left new key None c.remove.ensures.updates.1 c.remove.ensures.updates.3 in
    let same : SaysSame left new = says_same left new key None becomes (λ n. sym (c.take_out.ensures.empty (search rules) n)) in
    record {
      removed = λ q n. (same q n ∙ c.take_out.ensures.removed q n);
      watched = watched_without old new key c.requires left c.take_out.ensures.others becomes;
    }
