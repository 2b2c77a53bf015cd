use Rattle.std.proofs.Common.{ℕ, ◌*◌, ◌≤◌, refl, subst, ap, ◌∙◌, arith}
use Rattle.pmem_file.specs.Call.{calls_of}
use Rattle.pmem_file.specs.Written.{MayWrite, Writes, is_among, blank}
use Rattle.pmem_file.proofs.JournalLemmas.{Puts, IsNext, Stops-lines, Stops-head, Stops-zeros, ChecksPoint-from}
use Rattle.pmem_file.proofs.file_journal.FileJournal.checkpoint.Goals as goal
use Rattle.pmem_file.proofs.file_journal.FileJournal.checkpoint.Goals.{After-begin_next, After-commit_lines}

puts : (c : After-commit_lines) → Puts c.args.self.now c.args.words.now c.lines.result.now
puts c = record {
  sized = c.requires.sized;
  within = λ line has. let inside = c.lines.ensures.within line has in omega (arith, inside, c.sort.ensures.lines, c.args.self.now.marked);
  noted = λ line. c.lines.ensures.listed line ∙ c.sort.ensures.noted line;
  none = c.requires.clear;
}

next : (c : After-begin_next) → IsNext c.args.self.now c.begin_next.new.self
next c = record {
  shape = c.begin_next.ensures.shape;
  generation = c.begin_next.ensures.generation;
  used = c.begin_next.ensures.used;
  sealed = ap (λ v. v.items) c.begin_next.ensures.sealed ∙ c.requires.clear;
  recorded = c.begin_next.ensures.recorded;
}

pub returns-then-not-commit_lines-clause-stopped : goal.returns-then-not-commit_lines-clause-stopped
returns-then-not-commit_lines-clause-stopped c e =
    Stops-lines c.args.self.now _ (calls_of c.args.file.now.calls) (calls_of c.commit_lines.new.self.calls) c.args.words.now c.lines.result.now
    (puts (goal.at.returns-then-not-commit_lines-clause-stopped c).After-commit_lines) refl c.commit_lines.ensures.only

pub returns-then-not-begin_next-clause-stopped : goal.returns-then-not-begin_next-clause-stopped
returns-then-not-begin_next-clause-stopped c e =
    let here = goal.at.returns-then-not-begin_next-clause-stopped c in
    Stops-head c.args.self.now c.begin_next.new.self (calls_of c.args.file.now.calls) (calls_of c.commit_lines.new.self.calls) (calls_of c.begin_next.new.file.calls)
    c.args.words.now c.lines.result.now (puts here.After-commit_lines) (next here.After-begin_next) (c.commit_lines.ensures.committed c.if-not-commit_lines.false)
    c.begin_next.ensures.within

pub returns-clause-stopped : goal.returns-clause-stopped
returns-clause-stopped c e =
    let here = goal.at.returns-clause-stopped c in
    let old = c.args.self.now in
    let few : old.used ≤ 8 * old.head.shape.part = omega (arith, old.fits) in
    Stops-zeros old c.begin_next.new.self (calls_of c.args.file.now.calls) (calls_of c.commit_lines.new.self.calls) (calls_of c.begin_next.new.file.calls)
    (calls_of c.write_zeros.new.self.calls) c.args.words.now c.lines.result.now old.used (puts here.After-commit_lines) (next here.After-begin_next) few
    (c.commit_lines.ensures.committed c.if-not-commit_lines.false) (c.begin_next.ensures.done c.if-not-begin_next.false)
    (subst (λ (first : ℕ). MayWrite (is_among first old.used) blank (calls_of c.begin_next.new.file.calls) (calls_of c.write_zeros.new.self.calls))
    c.part_at-old.ensures.value c.write_zeros.ensures.only)

pub returns-clause-begun : goal.returns-clause-begun
returns-clause-begun c e =
    let here = goal.at.returns-clause-begun c in
    let old = c.args.self.now in
    let few : old.used ≤ 8 * old.head.shape.part = omega (arith, old.fits) in
    ChecksPoint-from old c.begin_next.new.self (calls_of c.args.file.now.calls) (calls_of c.commit_lines.new.self.calls) (calls_of c.begin_next.new.file.calls)
    (calls_of c.write_zeros.new.self.calls) c.args.words.now c.lines.result.now (puts here.After-commit_lines) (next here.After-begin_next) few
    (c.commit_lines.ensures.committed c.if-not-commit_lines.false) (c.begin_next.ensures.done c.if-not-begin_next.false)
    (subst (λ (first : ℕ). Writes (is_among first old.used) blank (calls_of c.begin_next.new.file.calls) (calls_of c.write_zeros.new.self.calls))
    c.part_at-old.ensures.value (c.write_zeros.ensures.written e))
