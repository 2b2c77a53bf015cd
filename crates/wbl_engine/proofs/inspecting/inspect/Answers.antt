use Rattle.std.proofs.Common.{length, ap, ◌∙◌}
use Rattle.heap_layout.specs.Versions.{live_in}
use Rattle.pmem.specs.Crash.{image_of}
use Rattle.model.specs.Image.{entries_of_lines}
use Rattle.wbl_engine.proofs.LiveEntries.{live_counted}
use Rattle.wbl_engine.proofs.inspecting.inspect.Goals as goal

pub returns-clause-live : goal.returns-clause-live
returns-clause-live g c =
    c.count_live-live.ensures ∙ ap (λ versions. length (live_in versions)) c.in_ok-current.ensures.counted
    ∙ live_counted c.in_ok-current.current (image_of (g.P.Pmem.state c.args.device.now).words)
    (entries_of_lines c.in_ok-current.current.layout (g.P.Pmem.state c.args.device.now).lines)
