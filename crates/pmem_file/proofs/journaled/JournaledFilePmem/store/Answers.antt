use Rattle.std.proofs.Common.{◌<◌, length, ap, arith}
use Rattle.std.proofs.Math.Logic.{∥∥₁_map}
use Rattle.pmem.specs.History.{words_of, past_of}
use Rattle.pmem_file.specs.Call.{read_of, calls_of}
use Rattle.pmem_file.proofs.FollowingLemmas.{Keeps-moment, stored-grows, blank-step, blank-stored}
use Rattle.pmem_file.proofs.CopiesLemmas.{Copies-stored}
use Rattle.pmem_file.proofs.journaled.JournaledFilePmem.store.Goals as goal

pub invariant_of-self-clause-copies : goal.invariant_of-self-clause-copies
invariant_of-self-clause-copies c =
    let device = c.args.self.now in
    let below : c.args.word < length device.words = omega (arith, c.requires, device.sized) in
    rw (c.stored.ensures.words, c.set.ensures) (Copies-stored device.words device.notes (words_of device.history) c.args.word c.args.value below device.copies)

pub invariant_of-self-clause-blank : goal.invariant_of-self-clause-blank
invariant_of-self-clause-blank c =
    let device = c.args.self.now in
    rw (c.stored.ensures.words, c.stored.ensures.past)
    (blank-step _ (words_of device.history) _ (past_of device.history)
    (λ word behind. blank-stored _ (words_of device.history) c.args.word c.args.value word c.requires behind) device.blank)

pub invariant_of-self-clause-kept : goal.invariant_of-self-clause-kept
invariant_of-self-clause-kept c =
    let device = c.args.self.now in
    let words = words_of device.history in
    ∥∥₁_map device.kept (λ k.
    rw (c.stored.ensures.words)
    (Keeps-moment device.journal (read_of device.file.calls) (calls_of device.file.calls) words _ (past_of device.history) (past_of c.stored.new.self)
    (length (past_of device.synced.value)) c.stored.ensures.past device.reached (stored-grows words c.args.word c.args.value) k))

pub invariant_of-self-clause-reached : goal.invariant_of-self-clause-reached
invariant_of-self-clause-reached c = omega (arith, ap length c.stored.ensures.past, c.args.self.now.reached)
