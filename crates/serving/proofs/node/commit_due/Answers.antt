use Rattle.std.proofs.Common.{ap, arith, ◌∙◌}
use Rattle.marks.specs.declared.view.MarkView.{MarkView}
use Rattle.serving.proofs.TendingLemmas.{heard-known}
use Rattle.serving.proofs.node.commit_due.Goals as goal

pub returns-clause-read : goal.returns-clause-read
returns-clause-read g c =
    let one = c.read_remote-remote.ensures in
    let two = c.has_heard-is_heard.ensures in (
      omega (arith, ap (λ (v : MarkView). v.local) two.knows, ap (λ (v : MarkView). v.local) one.knows),
      omega (arith, ap (λ (v : MarkView). v.remote) two.knows, ap (λ (v : MarkView). v.remote) one.knows, one.rises),
      λ was. heard-known _ _ c.has_heard-is_heard.result (ap (λ (v : MarkView). v.heard) two.knows) two.known (ap (λ (v : MarkView). v.heard) one.knows ∙ was),
    )
