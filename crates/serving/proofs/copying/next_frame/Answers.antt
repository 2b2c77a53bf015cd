use Rattle.std.proofs.Common.{sym, ◌∙◌}
use Rattle.serving.proofs.PinLemmas.{copy-pinned}
use Rattle.serving.proofs.copying.next_frame.Goals as goal

pub copy_part-requires : goal.copy_part-requires
copy_part-requires g c = record { begun = copy-pinned c.args.front.now.sequencer.copy c.in-Some.position (sym c.copy_at.ensures ∙ c.in-Some.is) }
