use Rattle.std.proofs.Common.{◌+◌, sym, ap, ◌∙◌, refl}
use Rattle.model.specs.Layout.{first_word}
use Rattle.model.specs.ReadImage.{image_of, line_count}
use Rattle.model.proofs.ReadRecordLemmas.{IsSought, no_record-role, no_record-filled, IsRecordOf-read}
use Rattle.model.proofs.image_words.read_record.Goals as goal
use Rattle.model.proofs.image_words.read_record.Goals.{After-role_word}

found : (c : After-role_word) → IsSought c.in_ok-layout.layout (line_count c.args.words.now) (image_of c.args.words.now) c.word_at-number.result (first_word c.slot_line-first.result)
found c = record {
  version_is = sym c.word_at.ensures ∙ sym c.in_ok-layout.ensures;
  root = sym (ap (image_of c.args.words.now) c.root_word.ensures) ∙ sym c.word_at-number.ensures;
  slot = ap first_word c.slot_line-first.ensures;
}

pub returns-in_err-role : goal.returns-in_err-role
returns-in_err-role c =
    let image = image_of c.args.words.now in
    let sought = found (goal.at.returns-in_err-role c).After-role_word in
    rw c.from_residual-in_err-role.ensures
    (no_record-role c.in_ok-layout.layout (line_count c.args.words.now) image c.word_at-number.result (first_word c.slot_line-first.result) c.word_at-2.result
    sought (sym (ap (λ k. image (first_word c.slot_line-first.result + k)) c.role_word.ensures) ∙ sym c.word_at-2.ensures) c.in_err-role.ensures)

pub returns-then-not-is_filled : goal.returns-then-not-is_filled
returns-then-not-is_filled c =
    let image = image_of c.args.words.now in
    let sought = found (goal.at.returns-then-not-is_filled c).After-role_word in
    no_record-filled c.in_ok-layout.layout (line_count c.args.words.now) image c.word_at-number.result (first_word c.slot_line-first.result)
    c.word_at-gap_count.result sought (sym c.word_at-gap_count.ensures) (λ filled. let is = c.if-not-is_filled.ensures.1 filled in cc)

pub returns : goal.returns
returns c =
    let image = image_of c.args.words.now in
    let sought = found (goal.at.returns c).After-role_word in
    IsRecordOf-read (line_count c.args.words.now) image c.word_at-number.result (first_word c.slot_line-first.result) c.word_at-gap_count.result _
    sought refl (sym c.word_at-3.ensures) (sym c.word_at-4.ensures) (sym c.word_at-5.ensures) (sym c.word_at-6.ensures)
    (sym c.word_at-gap_count.ensures) c.in_ok-gaps.ensures.0 c.in_ok-gaps.ensures.1
    (sym (ap (λ k. image (first_word c.slot_line-first.result + k)) c.role_word.ensures) ∙ sym c.word_at-2.ensures ∙ sym c.in_ok-role.ensures)
    (sym (ap (λ k. image (first_word c.slot_line-first.result + k + 1)) c.role_word.ensures) ∙ sym c.word_at-7.ensures) (c.if-not-is_filled.ensures.0 refl)
