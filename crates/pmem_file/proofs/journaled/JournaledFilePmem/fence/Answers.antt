use Rattle.std.proofs.Common.{◌≡◌, true, false, not, length, refl, sym, ap, ◌∙◌, arith}
use Rattle.std.proofs.lemmas.Bool.{false_from_ne_true, true≢false}
use Rattle.std.proofs.Math.Logic.{∥∥₁_map}
use Rattle.pmem.specs.History.{words_of, past_of}
use Rattle.pmem_file.specs.declared.logged_file.LoggedFile.{LoggedFile}
use Rattle.pmem_file.specs.Call.{read_of, calls_of, has_failed}
use Rattle.pmem_file.proofs.FollowingLemmas.{Keeps-moment, Keeps-fenced, Keeps-undone, blank-step}
use Rattle.pmem_file.proofs.CopiesLemmas.{Copies-fenced, Copies-noted}
use Rattle.pmem_file.proofs.journaled.JournaledFilePmem.fence.Goals as goal

pub invariant_of-self-clause-copies : goal.invariant_of-self-clause-copies
invariant_of-self-clause-copies c =
    let device = c.args.self.now in
    rw c.fenced.ensures.words (Copies-fenced device.words device.notes c.clear.new.self (words_of device.history) device.copies)

pub invariant_of-self-clause-blank : goal.invariant_of-self-clause-blank
invariant_of-self-clause-blank c =
    let device = c.args.self.now in
    rw (c.fenced.ensures.words, c.fenced.ensures.past, c.clear.ensures.lines, c.sort.ensures.lines)
    (blank-step _ (words_of device.history) _ (past_of device.history) (λ word behind. refl) device.blank)

pub invariant_of-self-clause-kept : goal.invariant_of-self-clause-kept
invariant_of-self-clause-kept c =
    let device = c.args.self.now in
    let words = words_of device.history in
    let past = past_of device.history in
    let t = length (past_of device.synced.value) in
    let read = read_of device.file.calls in
    let calls = calls_of device.file.calls in
    let after = calls_of c.order.new.file.calls in
    let fine : has_failed calls ≡ false =
    false_from_ne_true (has_failed calls)
    (λ e.
    true≢false (sym e ∙ sym (ap (λ (f : LoggedFile). has_failed (calls_of f.calls)) (c.order.ensures.lasting e)) ∙ c.order.ensures.failed ∙ ap not c.if-order.true)) in
    ∥∥₁_map device.kept (λ k.
    rw (c.fenced.ensures.words, c.order.ensures.read)
    (Keeps-fenced device.journal c.order.new.self read calls after words past (past_of c.fenced.new.self) t device.words c.lines.result.now device.notes
    c.fenced.ensures.past device.reached fine (λ line. c.lines.ensures.listed line ∙ c.sort.ensures.noted line) device.copies (c.order.ensures.ordered c.if-order.true) k))

pub invariant_of-self-clause-reached : goal.invariant_of-self-clause-reached
invariant_of-self-clause-reached c = omega (arith, ap length c.fenced.ensures.past, c.args.self.now.reached)

pub invariant_of-self-else-order-clause-copies : goal.invariant_of-self-else-order-clause-copies
invariant_of-self-else-order-clause-copies c =
    let device = c.args.self.now in
    rw c.failed.ensures.words (Copies-noted device.words device.notes c.sort.new.self (words_of device.history) c.sort.ensures.noted device.copies)

pub invariant_of-self-else-order-clause-blank : goal.invariant_of-self-else-order-clause-blank
invariant_of-self-else-order-clause-blank c =
    let device = c.args.self.now in
    rw (c.failed.ensures.words, c.failed.ensures.past, c.sort.ensures.lines)
    (blank-step _ (words_of device.history) _ (past_of device.history) (λ word behind. refl) device.blank)

pub invariant_of-self-else-order-clause-kept : goal.invariant_of-self-else-order-clause-kept
invariant_of-self-else-order-clause-kept c =
    let device = c.args.self.now in
    let words = words_of device.history in
    let past = past_of device.history in
    let t = length (past_of device.synced.value) in
    let read = read_of device.file.calls in
    ∥∥₁_map device.kept (λ k.
    rw (c.failed.ensures.words, c.order.ensures.read)
    (Keeps-moment c.order.new.self read (calls_of c.order.new.file.calls) words words past (past_of c.failed.new.self) t c.failed.ensures.past device.reached (λ image is. is)
    (Keeps-undone device.journal c.order.new.self device.file c.order.new.file read words past t device.words device.notes c.order.ensures.lasting c.order.ensures.same
    (c.order.ensures.failed ∙ ap not c.if-order.false) c.order.ensures.shape device.copies (λ fine. c.order.ensures.stopped fine c.if-order.false) k)))

pub invariant_of-self-else-order-clause-reached : goal.invariant_of-self-else-order-clause-reached
invariant_of-self-else-order-clause-reached c = omega (arith, ap length c.failed.ensures.past, c.args.self.now.reached)
