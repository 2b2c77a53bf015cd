use Rattle.std.proofs.Common.{◌≡◌, ℕ, [], ◌∷◌, inl, inr, arith, subst}
use Rattle.std.proofs.lemmas.Result.{on_ok_weaker, on_err_weaker}
use Rattle.pmem.specs.Crash.{image_of}
use Rattle.pmem.specs.Runs.{Runs, flushes, stores}
use Rattle.pmem.proofs.Chaining.{Runs-step_flush, stage_ok, stage_err}
use Rattle.model.specs.Image.{entry_word}
use Rattle.wbl_migrate.specs.Ended.{copy_lines, copy_pairs}
use Rattle.wbl_migrate.proofs.EndedRuns.{copy_runs, loaded}
use Rattle.wbl_migrate.proofs.ended.copy_version.Goals as goal
use Rattle.wbl_migrate.proofs.ended.copy_version.Given.{Over}
use Rattle.wbl_migrate.proofs.ended.copy_version.Goals.{After-flush}

pub copy_extent-requires-clause-within : goal.copy_extent-requires-clause-within
copy_extent-requires-clause-within g c =
    let old = g.P.Pmem.state c.args.device.now in
    omega (arith, loaded old c.load-first_line.ensures c.entry_word.ensures, loaded old c.load-lines.ensures c.entry_word-2.ensures, c.requires.extent)

pub copy_extent-requires-clause-to_within : goal.copy_extent-requires-clause-to_within
copy_extent-requires-clause-to_within g c =
    let old = g.P.Pmem.state c.args.device.now in
    omega (arith, loaded old c.load-lines.ensures c.entry_word-2.ensures, c.requires.within)

pub copy_extent-requires-clause-apart : goal.copy_extent-requires-clause-apart
copy_extent-requires-clause-apart g c =
    let old = g.P.Pmem.state c.args.device.now in
    let line : c.load-first_line.result ≡ image_of old.words (entry_word c.args.from.0 3) = loaded old c.load-first_line.ensures c.entry_word.ensures in
    let count : c.load-lines.result ≡ image_of old.words (entry_word c.args.from.0 4) = loaded old c.load-lines.ensures c.entry_word-2.ensures in
    elim c.requires.apart [
      | inl before ↦ inl (omega (arith, before, line, count))
      | inr behind ↦ inr (omega (arith, behind, line, count))
    ]

-- what is stored and flushed before the fence
copied : (g : Over) (c : After-flush g) → Runs (g.P.Pmem.state c.args.device.now) (g.P.Pmem.state c.flush.new.self)
    (flushes (copy_lines (image_of (g.P.Pmem.state c.args.device.now).words) c.args.from.0 c.args.to.0 c.args.to_line)
    (stores (copy_pairs (image_of (g.P.Pmem.state c.args.device.now).words) c.args.from.0 c.args.to.0 c.args.to_line) (g.P.Pmem.state c.args.device.now).words))
copied g c =
    let old = g.P.Pmem.state c.args.device.now in
    let flushed = g.P.Pmem.state c.flush_lines.new.device in
    copy_runs c.args.from.0 c.args.to.0 c.args.to_line c.load-first_line.result c.load-lines.result c.requires (loaded old c.load-first_line.ensures c.entry_word.ensures)
    (loaded old c.load-lines.ensures c.entry_word-2.ensures) c.copy_extent.ensures c.copy_entry.ensures c.flush_lines.ensures
    (subst (λ (l : ℕ). Runs flushed (g.P.Pmem.state c.flush.new.self) (flushes (l ∷ []) flushed.words)) c.entry_line.ensures
    (Runs-step_flush _ c.flush.ensures.steps))

pub returns-clause-ok : goal.returns-clause-ok
returns-clause-ok g c =
    let image = image_of (g.P.Pmem.state c.args.device.now).words in
    on_ok_weaker c.fence.result
    (stage_ok (copy_pairs image c.args.from.0 c.args.to.0 c.args.to_line) (copy_lines image c.args.from.0 c.args.to.0 c.args.to_line)
    (copied g (goal.at.returns-clause-ok g c).After-flush))
    c.fence.ensures.ok

pub returns-clause-err : goal.returns-clause-err
returns-clause-err g c =
    let image = image_of (g.P.Pmem.state c.args.device.now).words in
    on_err_weaker c.fence.result
    (stage_err (copy_pairs image c.args.from.0 c.args.to.0 c.args.to_line) (copy_lines image c.args.from.0 c.args.to.0 c.args.to_line)
    (copied g (goal.at.returns-clause-err g c).After-flush))
    c.fence.ensures.err
