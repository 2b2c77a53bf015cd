use Rattle.std.proofs.Common.{◌∙◌}
use Rattle.std.proofs.lemmas.Result.{on_ok_weaker, on_err_weaker}
use Rattle.pmem.specs.Runs.{Runs, flushes, lines_from, stores}
use Rattle.pmem.proofs.Chaining.{Runs-flushes, stage_ok, stage_err}
use Rattle.model.specs.Image.{first_extent_line}
use Rattle.wbl_engine.specs.Formatting.{new_pairs}
use Rattle.wbl_engine.proofs.FormatRuns.{new_run, new_flushes}
use Rattle.wbl_engine.proofs.format.write_new.Goals as goal
use Rattle.wbl_engine.proofs.format.write_new.Given.{Over}
use Rattle.wbl_engine.proofs.format.write_new.Goals.{After-flush_lines}

-- what is stored and flushed before the fence
written : (g : Over) (c : After-flush_lines g) → Runs (g.P.Pmem.state c.args.device.now) (g.P.Pmem.state c.flush_lines.new.device)
    (flushes (lines_from 0 (first_extent_line (g.P.Pmem.state c.args.device.now).lines))
    (stores (new_pairs (g.P.Pmem.state c.args.device.now).lines c.args.first.now) (g.P.Pmem.state c.args.device.now).words))
written g c =
    let d = g.P.Pmem.state c.args.device.now in
    let stored =
    new_run c.args.first.now c.lines-lines.ensures.count c.directory_room-room.ensures c.first_extent_line-extents.ensures c.slot_line-slot.ensures c.version.ensures
    (c.as_slice.ensures.value ∙ c.words_of.ensures) c.root_word.ensures c.clear_words.ensures c.store_words.ensures c.store_words-2.ensures
    c.store_words-3.ensures in
    Runs-flushes (lines_from 0 (first_extent_line d.lines)) stored (new_flushes d.lines c.lines-lines.result c.first_extent_line-extents.result c.lines-lines.ensures.count
    c.first_extent_line-extents.ensures c.flush_lines.ensures)

pub returns-clause-ok : goal.returns-clause-ok
returns-clause-ok g c =
    let lines = (g.P.Pmem.state c.args.device.now).lines in
    on_ok_weaker c.fence.result (stage_ok (new_pairs lines c.args.first.now) (lines_from 0 (first_extent_line lines)) (written g (goal.at.returns-clause-ok g c).After-flush_lines)) c.fence.ensures.ok

pub returns-clause-err : goal.returns-clause-err
returns-clause-err g c =
    let lines = (g.P.Pmem.state c.args.device.now).lines in
    on_err_weaker c.fence.result (stage_err (new_pairs lines c.args.first.now) (lines_from 0 (first_extent_line lines)) (written g (goal.at.returns-clause-err g c).After-flush_lines)) c.fence.ensures.err
