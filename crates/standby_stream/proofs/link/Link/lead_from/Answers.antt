use Rattle.std.proofs.Common.{List, [], refl, subst}
use Rattle.kv_types.specs.declared.change.Change.{Change}
use Rattle.standby_stream.specs.Leading.{Leads, ending_above}
use Rattle.standby_stream.specs.Stream.{Stream}
use Rattle.standby_stream.proofs.link.Link.lead_from.Goals as goal

pub returns-clause-over : goal.returns-clause-over
returns-clause-over c = λ reaches.
    let whole = c.lead_over.new.whole in
    let leads =
    subst (λ (changes : List Change). Leads c.self.inside.epoch c.args.position c.args.position changes (ending_above c.args.position c.self.inside.aside.items) whole) c.new.ensures.items
    c.in_ok-lead_over.ensures in
    (whole, refl, subst (λ (s : Stream). Leads s.epoch c.args.position c.args.position [] (ending_above c.args.position s.aside) whole) c.self.view_is leads)
