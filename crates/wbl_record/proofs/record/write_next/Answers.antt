use Rattle.std.proofs.Common.{ap, ◌∙◌}
use Rattle.std.proofs.lemmas.Result.{on_ok_weaker, on_err_weaker}
use Rattle.pmem.specs.Runs.{LeavesOnly, IsPartlyStored}
use Rattle.model.specs.Layout.{slot_line}
use Rattle.wbl_record.specs.Record.{root_pairs}
use Rattle.wbl_record.proofs.RecordLemmas.{staged_body, failed_body, staged_root, failed_root, recorded, body_fault, root_fault, body_moments, root_moments}
use Rattle.wbl_record.proofs.Results.{on_err_from, on_both}
use Rattle.wbl_record.proofs.record.write_next.Goals as goal

pub returns-in_err-persist_words-clause-err : goal.returns-in_err-persist_words-clause-err
returns-in_err-persist_words-clause-err g c =
    on_err_from c.from_residual.result
    (body_fault c.args.next.now
    (failed_body c.args.next.now c.slot_line-first_line.result c.as_slice.result.now (c.slot_line-first_line.ensures ∙ ap (λ lines. slot_line c.args.next.now.layout lines c.args.next.now.number) c.lines.ensures.count) (c.as_slice.ensures.value ∙ c.words_of-words.ensures)
    c.in_err-persist_words.ensures.err))

pub returns-in_err-persist_words-clause-moments : goal.returns-in_err-persist_words-clause-moments
returns-in_err-persist_words-clause-moments g c current succeeded =
    body_moments current c.args.next.now succeeded
    (failed_body c.args.next.now c.slot_line-first_line.result c.as_slice.result.now (c.slot_line-first_line.ensures ∙ ap (λ lines. slot_line c.args.next.now.layout lines c.args.next.now.number) c.lines.ensures.count) (c.as_slice.ensures.value ∙ c.words_of-words.ensures)
    c.in_err-persist_words.ensures.err).moments

pub returns-clause-ok : goal.returns-clause-ok
returns-clause-ok g c =
    let next = c.args.next.now in
    let body =
    staged_body next c.slot_line-first_line.result c.slot_lines.result c.as_slice.result.now (c.slot_line-first_line.ensures ∙ ap (λ lines. slot_line c.args.next.now.layout lines c.args.next.now.number) c.lines.ensures.count) c.slot_lines.ensures
    (c.as_slice.ensures.value ∙ c.words_of-words.ensures) c.in_ok-persist_words.ensures.ok in
    on_ok_weaker c.persist.result (λ root. recorded next body (staged_root next c.root_word.result c.root_word.ensures root)) c.persist.ensures.ok

pub returns-clause-err : goal.returns-clause-err
returns-clause-err g c =
    let next = c.args.next.now in
    let body =
    staged_body next c.slot_line-first_line.result c.slot_lines.result c.as_slice.result.now (c.slot_line-first_line.ensures ∙ ap (λ lines. slot_line c.args.next.now.layout lines c.args.next.now.number) c.lines.ensures.count) c.slot_lines.ensures
    (c.as_slice.ensures.value ∙ c.words_of-words.ensures) c.in_ok-persist_words.ensures.ok in
    on_err_weaker c.persist.result (λ root. root_fault next body (failed_root next c.root_word.result c.root_word.ensures root)) c.persist.ensures.err

pub returns-clause-moments : goal.returns-clause-moments
returns-clause-moments g c current succeeded =
    let next = c.args.next.now in
    let body =
    staged_body next c.slot_line-first_line.result c.slot_lines.result c.as_slice.result.now (c.slot_line-first_line.ensures ∙ ap (λ lines. slot_line c.args.next.now.layout lines c.args.next.now.number) c.lines.ensures.count) c.slot_lines.ensures
    (c.as_slice.ensures.value ∙ c.words_of-words.ensures) c.in_ok-persist_words.ensures.ok in
    let root : LeavesOnly (g.P.Pmem.state c.persist_words.new.device) (g.P.Pmem.state c.persist.new.device)
    (IsPartlyStored (root_pairs next) (g.P.Pmem.state c.persist_words.new.device).words) =
    on_both c.persist.result (on_ok_weaker c.persist.result (λ root. (staged_root next c.root_word.result c.root_word.ensures root).moments) c.persist.ensures.ok)
    (on_err_weaker c.persist.result (λ root. (failed_root next c.root_word.result c.root_word.ensures root).moments) c.persist.ensures.err) in
    root_moments current next succeeded body root
