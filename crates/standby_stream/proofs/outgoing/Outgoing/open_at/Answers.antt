use Rattle.std.proofs.Common.{Option, ap, ◌∙◌}
use Rattle.frames.specs.declared.frame.Frame.{Frame}
use Rattle.standby_stream.specs.Stream.{opened}
use Rattle.standby_stream.proofs.LeadLemmas.{is_delta}
use Rattle.standby_stream.proofs.outgoing.Outgoing.open_at.Goals as goal

pub returns-clause-behind : goal.returns-clause-behind
returns-clause-behind c = λ below unknown none.
    let own = c.args.self.now in
    let led = c.in_ok-delta.ensures.behind below in
    (led.0, is_delta own.link.epoch own.opening own.link.aside c.args.position led.0 none led.2, c.reopen.ensures ∙ ap (λ (delta : Option Frame). opened delta own.link) led.1)

pub returns-clause-behind_aside : goal.returns-clause-behind_aside
returns-clause-behind_aside c = λ below unknown.
    let led = c.in_ok-delta.ensures.behind below in
    (led.0, led.2, c.reopen.ensures ∙ ap (λ (delta : Option Frame). opened delta c.args.self.now.link) led.1)

pub returns-clause-level_aside : goal.returns-clause-level_aside
returns-clause-level_aside c = λ at known reaches.
    let led = c.in_ok-delta.ensures.over at reaches in
    (led.0, led.2, c.reopen.ensures ∙ ap (λ (delta : Option Frame). opened delta c.args.self.now.link) led.1)
