use Rattle.std.proofs.Common.{sym, ap, ◌∙◌, ◌++◌, List, below_more}
use Rattle.pmem.specs.Crash.{image_of}
use Rattle.kv_types.specs.declared.place.EntryNo.{EntryNo}
use Rattle.heap_layout.specs.declared.entry.Entry.{Entry}
use Rattle.heap_layout.specs.Version.{IsUnder}
use Rattle.heap_layout.specs.Versions.{counted_at, gapped_at}
use Rattle.heap_layout.proofs.VersionsLemmas.{counted_below-more, gapped_below-more}
use Rattle.heap_layout.proofs.versions.read_entries.Goals as goal

pub loop-i-preserved : goal.loop-i-preserved
loop-i-preserved g c =
    let r = c.args.current.now in
    let state = g.P.Pmem.state c.args.device.now in
    let image = image_of state.words in
    let i = c.loop-i.i in (
      c.in_ok-add_entry.ensures.counted
          ∙ ap (λ (before : List (EntryNo × Entry)). before ++ counted_at r image i) c.loop-i.invariant.0 ∙ sym (counted_below-more r image i),
      c.in_ok-add_entry.ensures.gapped
          ∙ ap (λ (before : List EntryNo). before ++ gapped_at r image i) c.loop-i.invariant.1 ∙ sym (gapped_below-more r image i),
      below_more (λ k. IsUnder r state.lines image k) i c.loop-i.invariant.2 c.in_ok-add_entry.ensures.under,
    )
