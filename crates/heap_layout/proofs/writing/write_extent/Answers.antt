use Rattle.std.proofs.Common.{ℕ, ◌*◌, ◌++◌, ◌<◌, List, length, subst, arith}
use Rattle.pmem.specs.Device.{Steps, store_at}
use Rattle.pmem.specs.Runs.{pairs_from}
use Rattle.pmem.proofs.Chaining.{Runs-none, Runs-next_store, Runs-all_stored}
use Rattle.heap_layout.specs.Put.{packed}
use Rattle.heap_layout.proofs.LayoutRuns.{bytes-append, length-extent_pairs, extent_pair}
use Rattle.heap_layout.proofs.writing.write_extent.Goals as goal

pub loop-i-init : goal.loop-i-init
loop-i-init g c = Runs-none (g.P.Pmem.state c.args.device.now)

pub loop-i-preserved : goal.loop-i-preserved
loop-i-preserved g c =
    let line = c.args.extent.now.first_line in
    let count : ℕ = 8 * c.args.extent.now.lines in
    let bytes : List ℕ = c.args.key.now ++ c.args.field.now ++ c.args.value.now in
    let below : c.loop-i.i < length (pairs_from (8 * line) (packed bytes 0 count)) =
    omega (arith, length-extent_pairs line bytes count, c.loop-i-test.true) in
    let old = g.P.Pmem.state c.loop-i.device in
    Runs-next_store (pairs_from (8 * line) (packed bytes 0 count)) c.loop-i.i below c.loop-i.invariant
    (subst (λ (pair : ℕ × ℕ). Steps old (g.P.Pmem.state c.store.new.self) (store_at pair.0 pair.1 old.words) old.failures old.fences)
    (extent_pair line bytes count c.loop-i.i c.word_at.result c.loop-i-test.true c.word_at.ensures)
    c.store.ensures.steps)

pub returns-clause-stored : goal.returns-clause-stored
returns-clause-stored g c =
    let line = c.args.extent.now.first_line in
    let count : ℕ = 8 * c.args.extent.now.lines in
    let bytes : List ℕ = c.args.key.now ++ c.args.field.now ++ c.args.value.now in
    Runs-all_stored (pairs_from (8 * line) (packed bytes 0 count)) c.loop-i.i
    (omega (arith, length-extent_pairs line bytes count, c.loop-i-test.false)) c.loop-i.invariant

pub returns-clause-bytes : goal.returns-clause-bytes
returns-clause-bytes g c =
    bytes-append (c.args.key.now ++ c.args.field.now) c.args.value.now
    (bytes-append c.args.key.now c.args.field.now (λ k. omega (arith, c.type_inv.key k)) (λ k. omega (arith, c.type_inv.field k)))
    (λ k. omega (arith, c.type_inv.value k))
