use Rattle.std.proofs.Common.{not, ◌==◌, sym, ap, ◌∙◌}
use Rattle.mv_keyspace.proofs.PastLemmas.{first-pin}
use Rattle.mv_keyspace.proofs.past.Past.is_pinned.Goals as goal

pub returns-clause-some : goal.returns-clause-some
returns-clause-some c = λ some.
    let pins = c.args.self.now.pins in
    first-pin pins.items (sym (ap not c.is_empty.ensures ∙ ap (λ n. not (n == 0)) pins.ok.0) ∙ some)
