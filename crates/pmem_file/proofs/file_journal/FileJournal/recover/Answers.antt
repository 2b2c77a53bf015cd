use Rattle.std.proofs.Common.{◌≡◌, ℕ, ◌+◌, ◌*◌, ◌/◌, ◌%◌, ◌^◌, ◌<◌, ◌≤◌, Bool, true, false, ◌||◌, List, [], get_or, refl, sym, subst, ap, ◌∙◌, arith}
use Rattle.journal.specs.Record.{Record}
use Rattle.journal.specs.Replay.{replayed, is_recorded}
use Rattle.journal.specs.declared.shape.Head.{Head}
use Rattle.journal.specs.Head.{head_of}
use Rattle.journal.specs.File.{head_at, part_at, generation_in, part_in}
use Rattle.pmem_file.specs.Call.{Call, calls_of, read_of}
use Rattle.pmem_file.specs.Line.{has_line}
use Rattle.pmem_file.specs.Written.{MayWrite, Commits, Writes, is_among, is_in, from, word_of, blank}
use Rattle.pmem_file.specs.Journaled.{IsHead, IsUnbegun, Journals, LeavesTheSame, LeavesTheFirst}
use Rattle.journal.specs.Journal.{IsJournal}
use Rattle.journal.specs.declared.shape.Shape.{Shape}
use Rattle.pmem_file.proofs.PlacesLemmas.{part-next, part-behind}
use Rattle.pmem_file.proofs.FirstLemmas.{AreFirst, first-records, first-read, first-lines, first-zeros, first-head, leaves-first}
use Rattle.pmem_file.proofs.RecoverLemmas.{Recovery, recover-lines, recover-zeros, recover-head, recover-begun}
use Rattle.pmem_file.proofs.ReplayedLemmas.{replayed-none}
use Rattle.pmem_file.proofs.JournalLemmas.{IsNext, HeadCommits}
use Rattle.pmem_file.proofs.OrderLemmas.{Journals-recovered}
use Rattle.pmem_file.proofs.file_journal.FileJournal.recover.Goals as goal
use Rattle.pmem_file.proofs.file_journal.FileJournal.recover.Goals.{After-begin_next, After-commit_lines, After-commit_zeros, After-write_zeros}

-- ---- the lines that were recorded, and what is to be written there

noted : (c : After-commit_lines) (line : ℕ) → has_line c.lines.result.now line ≡ is_recorded c.requires.replayed.0 line
noted c line =
    c.lines.ensures.listed line ∙ c.sort.ensures.noted line ∙ c.note_recorded.ensures.noted c.requires.replayed.0 c.requires.replayed.1 line
    ∙ ap (λ (b : Bool). b || is_recorded c.requires.replayed.0 line) (c.requires.empty.2 line)

within : (c : After-commit_lines) (line : ℕ) → has_line c.lines.result.now line ≡ true → line < c.args.self.now.head.shape.lines
within c line has =
    let inside = c.lines.ensures.within line has in
    omega (arith, inside, c.sort.ensures.lines, c.note_recorded.new.self.marked, ap (λ (h : Head). h.shape.lines) c.note_recorded.ensures.head)

recovery : (c : After-commit_lines) → IsHead c.args.self.now.head.shape c.args.self.now.head.generation (word_of (read_of c.args.file.now.calls))
    → c.args.part.now ≡ part_in c.args.self.now.head.shape c.args.self.now.head.generation (word_of (read_of c.args.file.now.calls))
    → Recovery c.args.self.now.head.shape c.args.self.now.head.generation (read_of c.args.file.now.calls) c.args.words.now c.lines.result.now c.requires.replayed.0
recovery c head part = record {
  size = c.requires.sized;
  within = within c;
  noted = noted c;
  journal = subst (λ (ws : List ℕ). IsJournal c.args.self.now.head.shape.lines ws c.requires.replayed.0) part c.requires.replayed.1;
  made = λ word below. c.requires.replayed.2 word (omega (arith, below, c.requires.sized));
  head = head;
}

-- ---- the steps that were done

lines_done : (c : After-commit_zeros) → Commits (is_in c.lines.result.now) (word_of c.args.words.now) [] (calls_of c.commit_lines.new.self.calls)
lines_done c =
    subst (λ (calls : List Call). Commits (is_in c.lines.result.now) (word_of c.args.words.now) calls (calls_of c.commit_lines.new.self.calls)) c.requires.fresh
    (c.commit_lines.ensures.committed c.if-not-commit_lines.false)

next_at : (c : After-commit_zeros) → c.part_at-next.result ≡ part_at c.args.self.now.head.shape (c.args.self.now.head.generation + 1)
next_at c =
    let old = c.args.self.now in
    c.part_at-next.ensures.value ∙ ap (λ (h : Head). part_at h.shape ((h.generation + 1) % 2 ^ 64)) c.note_recorded.ensures.head
    ∙ part-next old.head.shape old.head.generation ((old.head.generation + 1) % 2 ^ 64) refl

zeros_done : (c : After-begin_next) → Commits (is_among c.part_at-next.result (8 * c.args.self.now.head.shape.part)) blank (calls_of c.commit_lines.new.self.calls) (calls_of c.commit_zeros.new.self.calls)
zeros_done c =
    subst (λ (h : Head). Commits (is_among c.part_at-next.result (8 * h.shape.part)) blank (calls_of c.commit_lines.new.self.calls) (calls_of c.commit_zeros.new.self.calls))
    c.note_recorded.ensures.head (c.commit_zeros.ensures.committed c.if-not-commit_zeros.false)

generation_next : (c : After-begin_next) → c.begin_next.new.self.head.generation ≡ (c.args.self.now.head.generation + 1) % 2 ^ 64
generation_next c = c.begin_next.ensures.generation ∙ ap (λ (h : Head). (h.generation + 1) % 2 ^ 64) c.note_recorded.ensures.head

shape_same : (c : After-begin_next) → c.begin_next.new.self.head.shape ≡ c.args.self.now.head.shape
shape_same c = c.begin_next.ensures.shape ∙ ap (λ (h : Head). h.shape) c.note_recorded.ensures.head

head_done : (c : After-write_zeros) → HeadCommits c.args.self.now c.begin_next.new.self (calls_of c.commit_zeros.new.self.calls) (calls_of c.begin_next.new.file.calls)
head_done c =
    subst (λ (h : Head). Commits (is_among (head_at h.shape) 8) (from (head_at h.shape) (head_of h.shape c.begin_next.new.self.head.generation))
    (calls_of c.commit_zeros.new.self.calls) (calls_of c.begin_next.new.file.calls)) c.note_recorded.ensures.head (c.begin_next.ensures.done c.if-not-begin_next.false)

old_at : (c : After-write_zeros) → c.part_at-old.result ≡ part_at c.args.self.now.head.shape c.args.self.now.head.generation
old_at c = c.part_at-old.ensures.value ∙ ap (λ (h : Head). part_at h.shape h.generation) c.note_recorded.ensures.head

-- ---- the next generation is begun

pub returns-clause-begun : goal.returns-clause-begun
returns-clause-begun c e =
    let here = goal.at.returns-clause-begun c in
    let old = c.args.self.now in
    let words = c.args.words.now in
    let read = read_of c.args.file.now.calls in
    let count = 8 * old.head.shape.part in
    let records = c.requires.replayed.0 in
    let same_head = c.note_recorded.ensures.head in
    let same : (word : ℕ) → word < 8 * old.head.shape.lines → is_in c.lines.result.now word ≡ false → get_or words word 0 ≡ get_or read word 0 =
    λ word below out.
    c.requires.replayed.2 word (omega (arith, below, c.requires.sized))
    ∙ replayed-none records (λ w. get_or read w 0) word (sym (noted here.After-commit_lines (word / 8)) ∙ out) in
    let next : IsNext old c.begin_next.new.self =
    record {
      shape = shape_same here.After-begin_next;
      generation = generation_next here.After-begin_next;
      used = c.begin_next.ensures.used;
      sealed = ap (λ v. v.items) (c.begin_next.ensures.sealed ∙ c.note_recorded.ensures.sealed) ∙ c.requires.empty.1;
      recorded = c.begin_next.ensures.recorded;
    } in
    let begun = calls_of c.begin_next.new.file.calls in
    let after = calls_of c.write_zeros.new.self.calls in
    let zeros : Writes (is_among c.part_at-old.result count) blank begun after =
    subst (λ (h : Head). Writes (is_among c.part_at-old.result (8 * h.shape.part)) blank begun after) same_head (c.write_zeros.ensures.written e) in
    let at' : c.part_at-next.result ≡ part_at old.head.shape ((old.head.generation + 1) % 2 ^ 64) =
    c.part_at-next.ensures.value ∙ ap (λ (h : Head). part_at h.shape ((h.generation + 1) % 2 ^ 64)) same_head in
    let reads : read_of c.write_zeros.new.self.calls ≡ read =
    c.write_zeros.ensures.read ∙ c.begin_next.ensures.read ∙ c.commit_zeros.ensures.read ∙ c.commit_lines.ensures.read in
    subst (λ (r : List ℕ). Journals c.begin_next.new.self r after (word_of words) [] []) (sym reads)
    (Journals-recovered old c.begin_next.new.self read (calls_of c.commit_lines.new.self.calls) (calls_of c.commit_zeros.new.self.calls) begun after words c.lines.result.now
    c.part_at-next.result next (within here.After-commit_lines) c.requires.sized same at' (lines_done here.After-commit_zeros) (zeros_done here.After-begin_next)
    (head_done here.After-write_zeros) (subst (λ (first : ℕ). Writes (is_among first count) blank begun after) (old_at here.After-write_zeros) zeros))

-- ---- wherever it is cut off, where the file had a head of this generation

pub returns-then-not-commit_lines-clause-same : goal.returns-then-not-commit_lines-clause-same
returns-then-not-commit_lines-clause-same c head part =
    let old = c.args.self.now in
    let words = c.args.words.now in
    let after = calls_of c.commit_lines.new.self.calls in
    let may : MayWrite (is_in c.lines.result.now) (word_of words) [] after =
    subst (λ (calls : List Call). MayWrite (is_in c.lines.result.now) (word_of words) calls after) c.requires.fresh c.commit_lines.ensures.only in
    subst (λ (h : Head). LeavesTheSame h.shape h.generation (read_of c.commit_lines.new.self.calls) after words) (sym c.note_recorded.ensures.head)
    (subst (λ (l : List ℕ). LeavesTheSame old.head.shape old.head.generation l after words) (sym c.commit_lines.ensures.read)
    (recover-lines old.head.shape old.head.generation (read_of c.args.file.now.calls) words c.lines.result.now c.requires.replayed.0 after
    (recovery (goal.at.returns-then-not-commit_lines-clause-same c).After-commit_lines head part) may))

pub returns-then-not-commit_zeros-clause-same : goal.returns-then-not-commit_zeros-clause-same
returns-then-not-commit_zeros-clause-same c head part =
    let here = goal.at.returns-then-not-commit_zeros-clause-same c in
    let old = c.args.self.now in
    let words = c.args.words.now in
    let mid = calls_of c.commit_lines.new.self.calls in
    let after = calls_of c.commit_zeros.new.self.calls in
    let may : MayWrite (is_among c.part_at-next.result (8 * old.head.shape.part)) blank mid after =
    subst (λ (h : Head). MayWrite (is_among c.part_at-next.result (8 * h.shape.part)) blank mid after) c.note_recorded.ensures.head c.commit_zeros.ensures.only in
    subst (λ (h : Head). LeavesTheSame h.shape h.generation (read_of c.commit_zeros.new.self.calls) after words) (sym c.note_recorded.ensures.head)
    (subst (λ (l : List ℕ). LeavesTheSame old.head.shape old.head.generation l after words) (sym (c.commit_zeros.ensures.read ∙ c.commit_lines.ensures.read))
    (recover-zeros old.head.shape old.head.generation (read_of c.args.file.now.calls) words c.lines.result.now c.requires.replayed.0 mid after c.part_at-next.result
    (recovery here.After-commit_lines head part) (next_at here.After-commit_zeros) (lines_done here.After-commit_zeros) may))

pub returns-then-not-begin_next-clause-same : goal.returns-then-not-begin_next-clause-same
returns-then-not-begin_next-clause-same c head part =
    let here = goal.at.returns-then-not-begin_next-clause-same c in
    let old = c.args.self.now in
    let words = c.args.words.now in
    let cleared = calls_of c.commit_zeros.new.self.calls in
    let generation' = c.begin_next.new.self.head.generation in
    let after = calls_of c.begin_next.new.file.calls in
    let may : MayWrite (is_among (head_at old.head.shape) 8) (from (head_at old.head.shape) (head_of old.head.shape generation')) cleared after =
    subst (λ (h : Head). MayWrite (is_among (head_at h.shape) 8) (from (head_at h.shape) (head_of h.shape generation')) cleared after) c.note_recorded.ensures.head
    c.begin_next.ensures.within in
    subst (λ (s : Shape). LeavesTheSame s generation' (read_of c.begin_next.new.file.calls) after words) (sym (shape_same here.After-begin_next))
    (subst (λ (l : List ℕ). LeavesTheSame old.head.shape generation' l after words)
    (sym (c.begin_next.ensures.read ∙ c.commit_zeros.ensures.read ∙ c.commit_lines.ensures.read))
    (recover-head old.head.shape old.head.generation generation' (read_of c.args.file.now.calls) words c.lines.result.now c.requires.replayed.0
    (calls_of c.commit_lines.new.self.calls) cleared after c.part_at-next.result (recovery here.After-commit_lines head part) (next_at here.After-commit_zeros)
    (generation_next here.After-begin_next) (lines_done here.After-commit_zeros) (zeros_done here.After-begin_next) may))

pub returns-clause-same : goal.returns-clause-same
returns-clause-same c head part =
    let here = goal.at.returns-clause-same c in
    let old = c.args.self.now in
    let words = c.args.words.now in
    let count = 8 * old.head.shape.part in
    let generation' = c.begin_next.new.self.head.generation in
    let begun = calls_of c.begin_next.new.file.calls in
    let after = calls_of c.write_zeros.new.self.calls in
    let may : MayWrite (is_among (part_at old.head.shape old.head.generation) count) blank begun after =
    subst (λ (first : ℕ). MayWrite (is_among first count) blank begun after) (old_at here.After-write_zeros)
    (subst (λ (h : Head). MayWrite (is_among c.part_at-old.result (8 * h.shape.part)) blank begun after) c.note_recorded.ensures.head c.write_zeros.ensures.only) in
    subst (λ (s : Shape). LeavesTheSame s generation' (read_of c.write_zeros.new.self.calls) after words) (sym (shape_same here.After-begin_next))
    (subst (λ (l : List ℕ). LeavesTheSame old.head.shape generation' l after words)
    (sym (c.write_zeros.ensures.read ∙ c.begin_next.ensures.read ∙ c.commit_zeros.ensures.read ∙ c.commit_lines.ensures.read))
    (recover-begun old.head.shape old.head.generation generation' (read_of c.args.file.now.calls) words c.lines.result.now c.requires.replayed.0
    (calls_of c.commit_lines.new.self.calls) (calls_of c.commit_zeros.new.self.calls) begun after c.part_at-next.result (recovery here.After-commit_lines head part)
    (next_at here.After-commit_zeros) (generation_next here.After-begin_next) (lines_done here.After-commit_zeros) (zeros_done here.After-begin_next)
    (head_done here.After-write_zeros) may))

-- ---- and where it had none yet

-- the file has no head yet, and no record
abbrev IsNew : Shape → List ℕ → List ℕ → Type 0
IsNew shape read part = IsUnbegun shape (word_of read) × (part ≡ part_in shape (generation_in shape (word_of read)) (word_of read))

none_recorded : (c : After-commit_lines) → IsNew c.args.self.now.head.shape (read_of c.args.file.now.calls) c.args.part.now → c.requires.replayed.0 ≡ []
none_recorded c new =
    let shape = c.args.self.now.head.shape in
    let read = read_of c.args.file.now.calls in
    first-records shape (word_of read) (generation_in shape (word_of read)) c.args.part.now c.requires.replayed.0 new.0 new.1 c.requires.replayed.1

as_read : (c : After-commit_lines) → IsNew c.args.self.now.head.shape (read_of c.args.file.now.calls) c.args.part.now
    → (word : ℕ) → word < 8 * c.args.self.now.head.shape.lines → get_or c.args.words.now word 0 ≡ get_or (read_of c.args.file.now.calls) word 0
as_read c new word below =
    c.requires.replayed.2 word (omega (arith, below, c.requires.sized))
    ∙ ap (λ (rs : List Record). replayed rs (λ w. get_or (read_of c.args.file.now.calls) w 0) word) (none_recorded c new)

first_lined : (c : After-commit_lines) → IsNew c.args.self.now.head.shape (read_of c.args.file.now.calls) c.args.part.now
    → AreFirst c.args.self.now.head.shape (read_of c.args.file.now.calls) (calls_of c.commit_lines.new.self.calls)
first_lined c new =
    let shape = c.args.self.now.head.shape in
    let read = read_of c.args.file.now.calls in
    let none : (word : ℕ) → is_in c.lines.result.now word ≡ false =
    λ word. noted c (word / 8) ∙ ap (λ (rs : List Record). is_recorded rs (word / 8)) (none_recorded c new) in
    let first : AreFirst shape read (calls_of c.args.file.now.calls) =
    subst (λ (calls : List Call). AreFirst shape read calls) (sym c.requires.fresh) (first-read shape read new.0) in
    first-lines shape read c.args.words.now c.lines.result.now (calls_of c.args.file.now.calls) (calls_of c.commit_lines.new.self.calls) none c.commit_lines.ensures.only first

first_cleared : (c : After-commit_zeros) → AreFirst c.args.self.now.head.shape (read_of c.args.file.now.calls) (calls_of c.commit_lines.new.self.calls)
    → AreFirst c.args.self.now.head.shape (read_of c.args.file.now.calls) (calls_of c.commit_zeros.new.self.calls)
first_cleared c first =
    let old = c.args.self.now in
    let low : head_at old.head.shape + 8 ≤ c.part_at-next.result =
    subst (λ (at : ℕ). head_at old.head.shape + 8 ≤ at)
    (sym (c.part_at-next.ensures.value ∙ ap (λ (h : Head). part_at h.shape ((h.generation + 1) % 2 ^ 64)) c.note_recorded.ensures.head))
    (part-behind old.head.shape ((old.head.generation + 1) % 2 ^ 64)) in
    first-zeros old.head.shape (read_of c.args.file.now.calls) (calls_of c.commit_lines.new.self.calls) (calls_of c.commit_zeros.new.self.calls) c.part_at-next.result
    (8 * c.note_recorded.new.self.head.shape.part) low c.commit_zeros.ensures.only first

first_begun : (c : After-begin_next) → c.args.self.now.head.generation ≡ 0
    → AreFirst c.args.self.now.head.shape (read_of c.args.file.now.calls) (calls_of c.commit_zeros.new.self.calls)
    → AreFirst c.args.self.now.head.shape (read_of c.args.file.now.calls) (calls_of c.begin_next.new.file.calls)
first_begun c e first =
    let shape = c.args.self.now.head.shape in
    let cleared = calls_of c.commit_zeros.new.self.calls in
    let begun = calls_of c.begin_next.new.file.calls in
    let one : c.begin_next.new.self.head.generation ≡ 1 = generation_next c ∙ ap (λ (g : ℕ). (g + 1) % 2 ^ 64) e in
    let heads : MayWrite (is_among (head_at shape) 8) (from (head_at shape) (head_of shape 1)) cleared begun =
    subst (λ (g : ℕ). MayWrite (is_among (head_at shape) 8) (from (head_at shape) (head_of shape g)) cleared begun) one
    (subst (λ (h : Head). MayWrite (is_among (head_at h.shape) 8) (from (head_at h.shape) (head_of h.shape c.begin_next.new.self.head.generation)) cleared begun)
    c.note_recorded.ensures.head c.begin_next.ensures.within) in
    first-head shape (read_of c.args.file.now.calls) cleared begun heads first

-- what is left after some of the steps
left : (c : After-commit_lines) → IsNew c.args.self.now.head.shape (read_of c.args.file.now.calls) c.args.part.now → (calls : List Call) (l : List ℕ)
    → l ≡ read_of c.args.file.now.calls → AreFirst c.args.self.now.head.shape (read_of c.args.file.now.calls) calls → LeavesTheFirst c.args.self.now.head.shape l calls c.args.words.now
left c new calls l is first =
    let shape = c.args.self.now.head.shape in
    subst (λ (l : List ℕ). LeavesTheFirst shape l calls c.args.words.now) (sym is)
    (leaves-first shape (read_of c.args.file.now.calls) c.args.words.now calls c.requires.sized (as_read c new) first)

pub returns-then-not-commit_lines-clause-first : goal.returns-then-not-commit_lines-clause-first
returns-then-not-commit_lines-clause-first c e un part =
    let here = goal.at.returns-then-not-commit_lines-clause-first c in
    left here.After-commit_lines (un, part) _ _ c.commit_lines.ensures.read (first_lined here.After-commit_lines (un, part))

pub returns-then-not-commit_zeros-clause-first : goal.returns-then-not-commit_zeros-clause-first
returns-then-not-commit_zeros-clause-first c e un part =
    let here = goal.at.returns-then-not-commit_zeros-clause-first c in
    left here.After-commit_lines (un, part) _ _ (c.commit_zeros.ensures.read ∙ c.commit_lines.ensures.read)
    (first_cleared here.After-commit_zeros (first_lined here.After-commit_lines (un, part)))

pub returns-then-not-begin_next-clause-first : goal.returns-then-not-begin_next-clause-first
returns-then-not-begin_next-clause-first c e un part =
    let here = goal.at.returns-then-not-begin_next-clause-first c in
    left here.After-commit_lines (un, part) _ _ (c.begin_next.ensures.read ∙ c.commit_zeros.ensures.read ∙ c.commit_lines.ensures.read)
    (first_begun here.After-begin_next e (first_cleared here.After-commit_zeros (first_lined here.After-commit_lines (un, part))))

pub returns-clause-first : goal.returns-clause-first
returns-clause-first c e un part =
    let here = goal.at.returns-clause-first c in
    let shape = c.args.self.now.head.shape in
    let first = first_begun here.After-begin_next e (first_cleared here.After-commit_zeros (first_lined here.After-commit_lines (un, part))) in
    let low : head_at shape + 8 ≤ c.part_at-old.result = subst (λ (at : ℕ). head_at shape + 8 ≤ at) (sym (old_at here.After-write_zeros)) (part-behind shape c.args.self.now.head.generation) in
    left here.After-commit_lines (un, part) _ _ (c.write_zeros.ensures.read ∙ c.begin_next.ensures.read ∙ c.commit_zeros.ensures.read ∙ c.commit_lines.ensures.read)
    (first-zeros shape (read_of c.args.file.now.calls) (calls_of c.begin_next.new.file.calls) (calls_of c.write_zeros.new.self.calls) c.part_at-old.result
    (8 * c.note_recorded.new.self.head.shape.part) low c.write_zeros.ensures.only first)
