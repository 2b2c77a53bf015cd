use Rattle.std.proofs.Common.{length, ap, arith}
use Rattle.std.proofs.Math.Logic.{∥∥₁_map}
use Rattle.pmem.specs.History.{words_of, past_of}
use Rattle.pmem.proofs.Staging.{newest-flush_at}
use Rattle.pmem_file.specs.Call.{read_of, calls_of}
use Rattle.pmem_file.proofs.FollowingLemmas.{Keeps-moment, flushed-grows, blank-step}
use Rattle.pmem_file.proofs.CopiesLemmas.{Copies-flushed}
use Rattle.pmem_file.proofs.journaled.JournaledFilePmem.flush.Goals as goal

pub invariant_of-self-clause-copies : goal.invariant_of-self-clause-copies
invariant_of-self-clause-copies c =
    let device = c.args.self.now in
    rw c.flushed.ensures.words
    (Copies-flushed device.words device.notes c.add.new.self (words_of device.history) c.args.line c.add.ensures.noted device.copies)

pub invariant_of-self-clause-blank : goal.invariant_of-self-clause-blank
invariant_of-self-clause-blank c =
    let device = c.args.self.now in
    rw (c.flushed.ensures.words, c.flushed.ensures.past, c.add.ensures.lines)
    (blank-step _ (words_of device.history) _ (past_of device.history) (λ word behind. newest-flush_at c.args.line (words_of device.history) word) device.blank)

pub invariant_of-self-clause-kept : goal.invariant_of-self-clause-kept
invariant_of-self-clause-kept c =
    let device = c.args.self.now in
    let words = words_of device.history in
    ∥∥₁_map device.kept (λ k.
    rw c.flushed.ensures.words
    (Keeps-moment device.journal (read_of device.file.calls) (calls_of device.file.calls) words _ (past_of device.history) (past_of c.flushed.new.self)
    (length (past_of device.synced.value)) c.flushed.ensures.past device.reached (flushed-grows words c.args.line) k))

pub invariant_of-self-clause-reached : goal.invariant_of-self-clause-reached
invariant_of-self-clause-reached c = omega (arith, ap length c.flushed.ensures.past, c.args.self.now.reached)
