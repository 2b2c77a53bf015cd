use Rattle.std.proofs.Common.{◌+◌, sym, ap, ◌∙◌, refl}
use Rattle.pmem.specs.Crash.{image_of}
use Rattle.model.specs.Layout.{first_word, slot_line}
use Rattle.model.proofs.ReadRecordLemmas.{IsSought, no_record-role, no_record-filled, IsRecordOf-read}
use Rattle.wbl_record.proofs.current.read_record.Goals as goal
use Rattle.wbl_record.proofs.current.read_record.Given.{Over}
use Rattle.wbl_record.proofs.current.read_record.Goals.{After-role_word}

found : (g : Over) (c : After-role_word g) → IsSought c.in_ok-layout.layout (g.P.Pmem.state c.args.device.now).lines (image_of (g.P.Pmem.state c.args.device.now).words) c.load-number.result (first_word c.slot_line-first.result)
found g c = record {
  version_is = sym c.load.ensures ∙ sym c.in_ok-layout.ensures;
  root = sym (ap (image_of (g.P.Pmem.state c.args.device.now).words) c.root_word.ensures) ∙ sym c.load-number.ensures;
  slot = ap first_word (c.slot_line-first.ensures ∙ ap (λ lines. slot_line c.in_ok-layout.layout lines c.load-number.result) c.lines.ensures.count);
}

pub returns-in_err-role : goal.returns-in_err-role
returns-in_err-role g c =
    let state = g.P.Pmem.state c.args.device.now in
    let image = image_of state.words in
    let sought = found g (goal.at.returns-in_err-role g c).After-role_word in
    rw c.from_residual-in_err-role.ensures
    (no_record-role c.in_ok-layout.layout state.lines image c.load-number.result (first_word c.slot_line-first.result) c.load-2.result sought
    (sym (ap (λ k. image (first_word c.slot_line-first.result + k)) c.role_word.ensures) ∙ sym c.load-2.ensures) c.in_err-role.ensures)

pub returns-then-not-is_filled : goal.returns-then-not-is_filled
returns-then-not-is_filled g c =
    let state = g.P.Pmem.state c.args.device.now in
    let image = image_of state.words in
    let sought = found g (goal.at.returns-then-not-is_filled g c).After-role_word in
    no_record-filled c.in_ok-layout.layout state.lines image c.load-number.result (first_word c.slot_line-first.result) c.load-gap_count.result sought
    (sym c.load-gap_count.ensures) (λ filled. let is = c.if-not-is_filled.ensures.1 filled in cc)

pub returns : goal.returns
returns g c =
    let state = g.P.Pmem.state c.args.device.now in
    let image = image_of state.words in
    let sought = found g (goal.at.returns g c).After-role_word in
    IsRecordOf-read state.lines image c.load-number.result (first_word c.slot_line-first.result) c.load-gap_count.result _ sought refl
    (sym c.load-3.ensures) (sym c.load-4.ensures) (sym c.load-5.ensures) (sym c.load-6.ensures) (sym c.load-gap_count.ensures) c.in_ok-gaps.ensures.0
    c.in_ok-gaps.ensures.1 (sym (ap (λ k. image (first_word c.slot_line-first.result + k)) c.role_word.ensures) ∙ sym c.load-2.ensures ∙ sym c.in_ok-role.ensures)
    (sym (ap (λ k. image (first_word c.slot_line-first.result + k + 1)) c.role_word.ensures) ∙ sym c.load-7.ensures) (c.if-not-is_filled.ensures.0 refl)
