use Rattle.std.proofs.Common.{ℕ, ◌+◌, ◌<◌, arith, subst}
use Rattle.kv_types.specs.declared.place.EntryNo.{EntryNo}
use Rattle.pmem.specs.Device.{Steps, store_at}
use Rattle.pmem.proofs.Chaining.{Runs-none, Runs-step_store}
use Rattle.model.specs.Image.{entry_word}
use Rattle.wbl_engine.proofs.StagingLemmas.{all_at, entries_stored, no_entry}
use Rattle.wbl_engine.proofs.erasing.store_zeros.Goals as goal

pub loop-entry-init : goal.loop-entry-init
loop-entry-init g c = Runs-none (g.P.Pmem.state c.args.device.now)

pub store-requires : goal.store-requires
store-requires g c =
    omega (
      arith,
      c.entry_word.ensures,
      c.requires.word,
      c.loop-entry.invariant.stays.lines,
      all_at (λ (entry : EntryNo). 8 + entry.0 < (g.P.Pmem.state c.args.device.now).lines) c.args.entries.now c.loop-entry.entry-index
          no_entry c.loop-entry-test.true c.requires.within,
    )

pub loop-entry-preserved : goal.loop-entry-preserved
loop-entry-preserved g c =
    let old = g.P.Pmem.state c.loop-entry.device in
    entries_stored (λ (entry : EntryNo). (entry_word entry.0 c.args.k, 0)) c.args.entries.now c.loop-entry.entry-index no_entry c.loop-entry-test.true c.loop-entry.invariant
    (Runs-step_store _ 0
    (subst (λ (word : ℕ). Steps old (g.P.Pmem.state c.store.new.self) (store_at word 0 old.words) old.failures old.fences)
    c.entry_word.ensures c.store.ensures.steps))
