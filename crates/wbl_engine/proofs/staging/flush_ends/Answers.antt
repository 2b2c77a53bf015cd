use Rattle.std.proofs.Common.{ℕ, ◌+◌, ◌<◌, [], ◌∷◌, arith, subst}
use Rattle.kv_types.specs.declared.place.EntryNo.{EntryNo}
use Rattle.pmem.specs.Runs.{Runs, flushes}
use Rattle.pmem.proofs.Chaining.{Runs-none, Runs-step_flush}
use Rattle.model.specs.Image.{entry_line}
use Rattle.wbl_engine.proofs.StagingLemmas.{all_at, entries_flushed, no_entry}
use Rattle.wbl_engine.proofs.staging.flush_ends.Goals as goal

pub loop-entry-init : goal.loop-entry-init
loop-entry-init g c = Runs-none (g.P.Pmem.state c.args.device.now)

pub flush-requires : goal.flush-requires
flush-requires g c =
    omega (
      arith,
      c.entry_line.ensures,
      c.loop-entry.invariant.stays.lines,
      all_at (λ (entry : EntryNo). 8 + entry.0 < (g.P.Pmem.state c.args.device.now).lines) c.args.ended.now c.loop-entry.entry-index
          no_entry c.loop-entry-test.true c.requires,
    )

pub loop-entry-preserved : goal.loop-entry-preserved
loop-entry-preserved g c =
    let old = g.P.Pmem.state c.loop-entry.device in
    entries_flushed (λ (entry : EntryNo). entry_line entry.0) c.args.ended.now c.loop-entry.entry-index no_entry c.loop-entry-test.true c.loop-entry.invariant
    (subst (λ (line : ℕ). Runs old (g.P.Pmem.state c.flush.new.self) (flushes (line ∷ []) old.words)) c.entry_line.ensures (Runs-step_flush _ c.flush.ensures.steps))
