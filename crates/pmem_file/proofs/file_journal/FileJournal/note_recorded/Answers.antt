use Rattle.std.proofs.Common.{◌≡◌, ℕ, ◌<◌, true, false, refl, sym, ap, ◌∙◌, arith}
use Rattle.std.proofs.lemmas.Bool.{false_from_ne_true, true≢false}
use Rattle.journal.specs.Record.{are_below}
use Rattle.journal.specs.Journal.{passes}
use Rattle.journal.proofs.RecordLemmas.{passed}
use Rattle.pmem_file.specs.Noted.{is_noted}
use Rattle.pmem_file.proofs.NotingLemmas.{noting-next, noted-all}
use Rattle.pmem_file.proofs.ReplayedLemmas.{below-one}
use Rattle.pmem_file.proofs.file_journal.FileJournal.note_recorded.Goals as goal

pub add_all-requires : goal.add_all-requires
add_all-requires c line has =
    let lines = c.args.self.now.head.shape.lines in
    let rest = c.loop-record.rest.now in
    let numbers = c.in-Some.record.numbers.now in
    let whole : passes lines rest ≡ true = c.in-Some.ensures.passes.0 refl in
    let below : are_below lines numbers ≡ true = ap (are_below lines) c.in-Some.ensures.numbers ∙ (passed lines rest whole).below in
    let inside : line < lines = below-one lines numbers line below has in
    omega (arith, inside, c.loop-record.invariant.lines, c.loop-record.self.marked)

pub loop-record-preserved : goal.loop-record-preserved
loop-record-preserved c =
    let lines = c.args.self.now.head.shape.lines in
    let rest = c.loop-record.rest.now in
    let whole : passes lines rest ≡ true = c.in-Some.ensures.passes.0 refl in
    record {
      noting =
          noting-next lines c.args.part.now rest c.in-Some.record.behind.now c.in-Some.record.numbers.now
          (λ (line : ℕ). is_noted c.args.self.now.recorded line) (λ (line : ℕ). is_noted c.loop-record.self.recorded line)
          (λ (line : ℕ). is_noted c.add_all.new.self line) whole c.in-Some.ensures.numbers c.in-Some.ensures.behind c.add_all.ensures.noted
          c.loop-record.invariant.noting;
      lines = c.loop-record.invariant.lines;
      head = c.loop-record.invariant.head;
      used = c.loop-record.invariant.used;
      sealed = c.loop-record.invariant.sealed;
    }

pub returns-clause-noted : goal.returns-clause-noted
returns-clause-noted c records journal line =
    let lines = c.args.self.now.head.shape.lines in
    let rest = c.loop-record.rest.now in
    let none : passes lines rest ≡ false = false_from_ne_true (passes lines rest) (λ e. absurd (true≢false (sym (c.in_default.ensures.passes.1 e)))) in
    noted-all lines c.args.part.now rest (λ (line : ℕ). is_noted c.args.self.now.recorded line) (λ (line : ℕ). is_noted c.loop-record.self.recorded line) none
    c.loop-record.invariant.noting records journal line
