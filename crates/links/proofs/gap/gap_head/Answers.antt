use Rattle.std.proofs.Common.{List, ◌++◌, ℕ, take, refl, ap, ◌∙◌}
use Rattle.frames.specs.declared.frame.Frame.{Frame as Begun}
use Rattle.stream_codec.specs.Message.{sent_of_frame, sent_text}
use Rattle.links.proofs.gap.gap_head.Goals as goal

pub returns : goal.returns
returns c =
    let frame : Begun = record { epoch = c.args.epoch; before = c.args.before; after = c.saturating_add.result; changes = c.push.new.self } in (
      frame,
      refl,
      refl,
      c.truncate.ensures.items
          ∙ ap (take 33) (c.in_ok-write_group.ensures.ok ∙ ap (λ (xs : List ℕ). xs ++ sent_text (sent_of_frame frame)) c.new-head.ensures.items),
    )
