use Rattle.std.proofs.Common.{◌≡◌, ℕ, ap, ◌∙◌, arith}
use Rattle.std.proofs.lemmas.Result.{on_ok_weaker}
use Rattle.model.specs.declared.record.Record.{Record}
use Rattle.model.specs.Layout.{slot_line}
use Rattle.wbl_record.proofs.RecordLemmas.{failed_body, staged_body, staged_root}
use Rattle.wbl_migrate.proofs.Touching.{failed_step, staged_step}
use Rattle.wbl_migrate.proofs.Renewing.{body_keeps, body_moments, next_durable, root_keeps, root_moments, root_step}
use Rattle.wbl_migrate.proofs.record.write_record.Goals as goal

-- the first line of the slot, where the lines are counted
slot : {counted lines line : ℕ} (next : Record) → counted ≡ lines → line ≡ slot_line next.layout counted next.number
    → line ≡ slot_line next.layout lines next.number
slot next same at = at ∙ ap (λ (lines : ℕ). slot_line next.layout lines next.number) same

pub returns-in_err-persist_words-clause-elsewhere : goal.returns-in_err-persist_words-clause-elsewhere
returns-in_err-persist_words-clause-elsewhere g c =
    let next = c.args.next.now in
    body_keeps next c.requires.layout (g.P.Pmem.state c.args.device.now) (g.P.Pmem.state c.persist_words.new.device)
    (failed_step (failed_body next c.slot_line-first_line.result c.as_slice.result.now
    (slot next c.lines.ensures.count c.slot_line-first_line.ensures)
    (c.as_slice.ensures.value ∙ c.words_of-words.ensures) c.in_err-persist_words.ensures.err))

pub returns-in_err-persist_words-clause-moments : goal.returns-in_err-persist_words-clause-moments
returns-in_err-persist_words-clause-moments g c r s all =
    let next = c.args.next.now in
    body_moments next c.requires.layout (g.P.Pmem.state c.args.device.now) (g.P.Pmem.state c.persist_words.new.device) r s
    (let size = c.requires.size in omega arith)
    (failed_step (failed_body next c.slot_line-first_line.result c.as_slice.result.now
    (slot next c.lines.ensures.count c.slot_line-first_line.ensures)
    (c.as_slice.ensures.value ∙ c.words_of-words.ensures) c.in_err-persist_words.ensures.err)) all

pub returns-clause-ok : goal.returns-clause-ok
returns-clause-ok g c =
    let next = c.args.next.now in
    let body =
    staged_body next c.slot_line-first_line.result c.slot_lines.result c.as_slice.result.now
    (slot next c.lines.ensures.count c.slot_line-first_line.ensures) c.slot_lines.ensures
    (c.as_slice.ensures.value ∙ c.words_of-words.ensures) c.in_ok-persist_words.ensures.ok in
    on_ok_weaker c.persist.result (λ root. next_durable next body (staged_root next c.root_word.result c.root_word.ensures root)) c.persist.ensures.ok

pub returns-clause-elsewhere : goal.returns-clause-elsewhere
returns-clause-elsewhere g c =
    let next = c.args.next.now in
    let body =
    staged_body next c.slot_line-first_line.result c.slot_lines.result c.as_slice.result.now
    (slot next c.lines.ensures.count c.slot_line-first_line.ensures) c.slot_lines.ensures
    (c.as_slice.ensures.value ∙ c.words_of-words.ensures) c.in_ok-persist_words.ensures.ok in
    root_keeps next c.requires.layout (g.P.Pmem.state c.args.device.now) (g.P.Pmem.state c.persist_words.new.device) (g.P.Pmem.state c.persist.new.device)
    (staged_step body) (root_step c.persist.result next c.root_word.ensures c.persist.ensures.ok c.persist.ensures.err)

pub returns-clause-moments : goal.returns-clause-moments
returns-clause-moments g c r s all =
    let next = c.args.next.now in
    let body =
    staged_body next c.slot_line-first_line.result c.slot_lines.result c.as_slice.result.now
    (slot next c.lines.ensures.count c.slot_line-first_line.ensures) c.slot_lines.ensures
    (c.as_slice.ensures.value ∙ c.words_of-words.ensures) c.in_ok-persist_words.ensures.ok in
    root_moments next c.requires.layout (g.P.Pmem.state c.args.device.now) (g.P.Pmem.state c.persist_words.new.device) (g.P.Pmem.state c.persist.new.device)
    r s (let size = c.requires.size in omega arith) body (root_step c.persist.result next c.root_word.ensures c.persist.ensures.ok c.persist.ensures.err) all
