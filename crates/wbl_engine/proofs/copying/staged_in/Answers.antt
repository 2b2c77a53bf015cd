use Rattle.std.proofs.Common.{◌∙◌}
use Rattle.wbl_engine.proofs.CopyDropping.{copied_drops, copied_lines, ok_from_both}
use Rattle.wbl_engine.proofs.copying.staged_in.Goals as goal

pub freed_by-requires : goal.freed_by-requires
freed_by-requires g c = copied_lines c.requires _ (c.as_slice.ensures.value ∙ c.in_ok-stamped.ensures.begins)

pub returns-clause-drops : goal.returns-clause-drops
returns-clause-drops g c =
    ok_from_both c.freed_by.result
    (λ freed entries extents.
    copied_drops c.requires freed.entries.items c.as_slice.result.now freed.extents.items (c.as_slice.ensures.value ∙ c.in_ok-stamped.ensures.begins) entries extents)
    c.freed_by.ensures.entries c.freed_by.ensures.extents
