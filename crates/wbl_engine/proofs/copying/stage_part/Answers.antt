use Rattle.std.proofs.lemmas.Result.{on_ok_weaker, on_err_weaker}
use Rattle.model.specs.Layout.{directory_room}
use Rattle.model.specs.Image.{entries_of_lines}
use Rattle.model.proofs.GroupsLemmas.{placed_in_more}
use Rattle.model.proofs.LayoutLemmas.{entries_fit}
use Rattle.wbl_record.proofs.Results.{on_both}
use Rattle.wbl_engine.proofs.CopyStaging.{part_half, part_moments, part_same, part_staged}
use Rattle.wbl_engine.proofs.CopyImages.{is_part}
use Rattle.wbl_engine.proofs.copying.stage_part.Goals as goal

pub stage_durably-requires-clause-placed : goal.stage_durably-requires-clause-placed
stage_durably-requires-clause-placed g c =
    let d = g.P.Pmem.state c.args.device.now in
    placed_in_more (entries_of_lines c.args.current.now.layout d.lines) (directory_room d.lines) d.lines c.args.puts.now
    (entries_fit c.args.current.now.layout d.lines) c.requires.asked.placed

pub returns-clause-half : goal.returns-clause-half
returns-clause-half g c =
    on_ok_weaker c.stage_durably.result
    (λ staged. part_half c.requires.half (is_part c.requires.half c.requires.asked c.stage_durably.ensures.writable) c.args.position staged)
    c.stage_durably.ensures.ok

pub returns-clause-staged : goal.returns-clause-staged
returns-clause-staged g c =
    on_ok_weaker c.stage_durably.result
    (λ staged.
    part_staged c.requires.half (is_part c.requires.half c.requires.asked c.stage_durably.ensures.writable) c.args.position
    (g.P.Pmem.state c.stage_durably.new.device) staged.newest staged.stays.lines)
    c.stage_durably.ensures.ok

pub returns-clause-stays : goal.returns-clause-stays
returns-clause-stays g c =
    let part = is_part c.requires.half c.requires.asked c.stage_durably.ensures.writable in
    on_both c.stage_durably.result
    (on_ok_weaker c.stage_durably.result (λ staged. part_same c.requires.half part c.args.position (g.P.Pmem.state c.stage_durably.new.device) staged.newest staged.stays.lines) c.stage_durably.ensures.ok)
    (on_err_weaker c.stage_durably.result (λ failed. part_same c.requires.half part c.args.position (g.P.Pmem.state c.stage_durably.new.device) failed.newest failed.stays.lines)
    c.stage_durably.ensures.err)

pub returns-clause-moments : goal.returns-clause-moments
returns-clause-moments g c =
    part_moments c.requires.half (is_part c.requires.half c.requires.asked c.stage_durably.ensures.writable) c.args.position
    (on_both c.stage_durably.result (on_ok_weaker c.stage_durably.result (λ staged. staged.moments) c.stage_durably.ensures.ok)
    (on_err_weaker c.stage_durably.result (λ failed. failed.moments) c.stage_durably.ensures.err))
