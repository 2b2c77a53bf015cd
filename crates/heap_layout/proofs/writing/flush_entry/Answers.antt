use Rattle.std.proofs.Common.{ℕ, [], ◌∷◌, subst}
use Rattle.pmem.specs.Runs.{Runs, flushes, lines_from}
use Rattle.pmem.proofs.Chaining.{Runs-step_flush}
use Rattle.model.specs.Image.{entry_line}
use Rattle.heap_layout.proofs.LayoutRuns.{Runs-more_flushes}
use Rattle.heap_layout.proofs.writing.flush_entry.Goals as goal

pub returns : goal.returns
returns g c =
    let put = c.args.put.now in
    let old = g.P.Pmem.state c.flush_lines.new.device in
    Runs-more_flushes (lines_from put.extent.first_line put.extent.lines) (entry_line put.entry.0 ∷ []) c.flush_lines.ensures
    (subst (λ (line : ℕ). Runs old (g.P.Pmem.state c.flush.new.self) (flushes (line ∷ []) old.words)) c.entry_line.ensures (Runs-step_flush _ c.flush.ensures.steps))
