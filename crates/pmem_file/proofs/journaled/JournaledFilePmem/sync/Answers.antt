use Rattle.std.proofs.Common.{◌≡◌, true, false, not, length, sym, ap, ◌∙◌, arith}
use Rattle.std.proofs.lemmas.Bool.{false_from_ne_true, true≢false}
use Rattle.std.proofs.Math.Logic.{∥∥₁_map}
use Rattle.journal.specs.declared.shape.Head.{Head}
use Rattle.pmem.specs.History.{words_of, past_of}
use Rattle.pmem_file.specs.declared.logged_file.LoggedFile.{LoggedFile}
use Rattle.pmem_file.specs.Call.{read_of, calls_of, has_failed}
use Rattle.pmem_file.proofs.FollowingLemmas.{Keeps-synced, Keeps-undone}
use Rattle.pmem_file.proofs.journaled.JournaledFilePmem.sync.Goals as goal

pub invariant_of-self-clause-shaped : goal.invariant_of-self-clause-shaped
invariant_of-self-clause-shaped c = c.args.self.now.shaped ∙ sym (ap (λ (h : Head). h.shape.lines) c.sync.ensures.head)

pub invariant_of-self-clause-kept : goal.invariant_of-self-clause-kept
invariant_of-self-clause-kept c =
    let device = c.args.self.now in
    let words = words_of device.history in
    let past = past_of device.history in
    let t = length (past_of device.synced.value) in
    let read = read_of device.file.calls in
    let calls = calls_of device.file.calls in
    let after = calls_of c.sync.new.file.calls in
    let fine : has_failed calls ≡ false =
    false_from_ne_true (has_failed calls)
    (λ e.
    true≢false (sym e ∙ sym (ap (λ (f : LoggedFile). has_failed (calls_of f.calls)) (c.sync.ensures.lasting e)) ∙ c.sync.ensures.failed ∙ ap not c.if-sync.true)) in
    ∥∥₁_map device.kept (λ k.
    rw (c.of.ensures, c.sync.ensures.read)
    (Keeps-synced device.journal c.sync.new.self read calls after words past t fine (c.sync.ensures.durable c.if-sync.true) k))

pub invariant_of-self-clause-reached : goal.invariant_of-self-clause-reached
invariant_of-self-clause-reached c = rw c.of.ensures (omega arith)

pub invariant_of-self-else-sync-clause-shaped : goal.invariant_of-self-else-sync-clause-shaped
invariant_of-self-else-sync-clause-shaped c = c.args.self.now.shaped ∙ sym (ap (λ (h : Head). h.shape.lines) c.sync.ensures.head)

pub invariant_of-self-else-sync-clause-copies : goal.invariant_of-self-else-sync-clause-copies
invariant_of-self-else-sync-clause-copies c = rw c.unsynced.ensures.words c.args.self.now.copies

pub invariant_of-self-else-sync-clause-blank : goal.invariant_of-self-else-sync-clause-blank
invariant_of-self-else-sync-clause-blank c = rw (c.unsynced.ensures.words, c.unsynced.ensures.past) c.args.self.now.blank

pub invariant_of-self-else-sync-clause-kept : goal.invariant_of-self-else-sync-clause-kept
invariant_of-self-else-sync-clause-kept c =
    let device = c.args.self.now in
    let words = words_of device.history in
    let past = past_of device.history in
    let t = length (past_of device.synced.value) in
    let read = read_of device.file.calls in
    ∥∥₁_map device.kept (λ k. rw (c.unsynced.ensures.words, c.unsynced.ensures.past, c.sync.ensures.read) (Keeps-undone device.journal c.sync.new.self device.file c.sync.new.file read words past t device.words device.notes
    c.sync.ensures.lasting (λ had. c.sync.ensures.same c.if-sync.false) (c.sync.ensures.failed ∙ ap not c.if-sync.false) (ap (λ (h : Head). h.shape) c.sync.ensures.head) device.copies
    (λ fine. c.sync.ensures.stopped device.words fine c.if-sync.false) k))

pub invariant_of-self-else-sync-clause-reached : goal.invariant_of-self-else-sync-clause-reached
invariant_of-self-else-sync-clause-reached c = rw c.unsynced.ensures.past c.args.self.now.reached
