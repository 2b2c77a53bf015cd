use Rattle.std.proofs.Common.{◌≡◌, ℕ, ◌+◌, ◌*◌, ◌≤◌, Bool, true, false, not, ◌||◌, List, drop, get_or, length, refl, sym, ap, ◌∙◌, arith}
use Rattle.std.proofs.lemmas.List.{at_drop_more, drop_all}
use Rattle.pmem_file.specs.Call.{calls_of, has_failed}
use Rattle.pmem_file.specs.Line.{runs_of, with_writes}
use Rattle.pmem_file.proofs.CallsLemmas.{Writing, Writing-start, Writing-joined, Writing-written, Writing-end, Brings-write, InRange-later, Touches-run, Writes-lines}
use Rattle.pmem_file.proofs.WritesLemmas.{Fit, Touches}
use Rattle.pmem_file.specs.Written.{is_in, word_of}
use Rattle.pmem_file.proofs.logged_file.LoggedFile.write_lines.Goals as goal
use Rattle.pmem_file.proofs.logged_file.LoggedFile.write_lines.Goals.{then-is_next, else-is_next+then-write_run}

pub loop-line-init : goal.loop-line-init
loop-line-init c =
    let old = calls_of c.args.self.now.calls in
    record {
      writing =
          rw c.of-run.ensures (Writing-start c.args.words.now c.args.lines.now old c.in-Some.first.now c.in-Some.later.now c.in-Some.ensures.cases.0 c.requires.in_range);
      read = refl;
      capacity = omega arith;
    }

pub is_next-requires : goal.is_next-requires
is_next-requires c =
    let room = c.loop-line.invariant.writing.room in
    omega (arith, room, c.requires.countable)

pub write_run-requires : goal.write_run-requires
write_run-requires c =
    record {
      in_range = c.loop-line.invariant.writing.room;
      short = c.loop-line.invariant.writing.short;
      room = omega (arith, c.requires.room, c.loop-line.invariant.capacity);
      countable = c.requires.countable;
    }

pub loop-line-preserved : goal.loop-line-preserved
loop-line-preserved c =
    let words = c.args.words.now in
    let lines = c.args.lines.now in
    let old = calls_of c.args.self.now.calls in
    let later = c.in-Some.later.now in
    let line = get_or later c.loop-line.line-index 0 in
    let rest = drop (c.loop-line.line-index + 1) later in
    let run = c.loop-line.run in
    let calls = calls_of c.loop-line.self.calls in
    let last : 8 * line + 8 ≤ length words =
    InRange-later words lines c.in-Some.first.now later c.in-Some.ensures.cases.0 c.requires.in_range c.loop-line.line-index c.loop-line-test.true in
    let writing = rw (at_drop_more (λ (ls : List ℕ). ls) later c.loop-line.line-index 0 c.loop-line-test.true) at c.loop-line.invariant.writing in
    let fit : Fit words = c.len-words.ensures.fit in
    elim c.if-is_next.branch [
      | then-is_next w ↦
          rw (w.self-is, w.buffer-is, w.run-is)
          (record {
            writing = Writing-joined words lines old run.first run.count line rest calls last (sym c.is_next.ensures ∙ w.if-is_next.true) writing;
            read = c.loop-line.invariant.read;
            capacity = c.loop-line.invariant.capacity;
          })
      | else-is_next+then-write_run w ↦
          let asked = rw w.if-write_run.true at w.write_run.ensures.calls in
          let next : Writing words lines old line 1 rest (calls_of w.write_run.new.self.calls) =
          rw asked (Writing-written words lines old run.first run.count line rest calls fit last (sym c.is_next.ensures ∙ w.if-is_next.false) writing) in
          rw (w.self-is, w.buffer-is, w.run-is, w.of-run-then-write_run.ensures)
          (record {
            writing = next;
            read = w.write_run.ensures.read ∙ c.loop-line.invariant.read;
            capacity = omega (arith, w.write_run.ensures.capacity, c.loop-line.invariant.capacity);
          })
    ]

pub returns-else-write_run : goal.returns-else-write_run
returns-else-write_run c =
    let words = c.args.words.now in
    let old = calls_of c.args.self.now.calls in
    let run = c.loop-line.run in
    let calls = calls_of c.loop-line.self.calls in
    let asked = rw c.if-write_run.false at c.write_run.ensures.calls in
    let fine : has_failed calls ≡ false = c.loop-line.invariant.writing.unfailed ∙ c.requires.unfailed in
    let touches : Touches (is_in c.args.lines.now) (word_of words) old (calls_of c.write_run.new.self.calls) =
    rw asked (Touches-run words c.args.lines.now old calls run.first run.count false c.len-words.ensures.fit c.loop-line.invariant.writing.these c.loop-line.invariant.writing.touches) in
    record {
      read = c.write_run.ensures.read ∙ c.loop-line.invariant.read;
      done = λ e. absurd (cc);
      failed = ap has_failed asked ∙ ap (λ (b : Bool). b || true) fine;
      within =
          rw asked (Brings-write words old calls run.first run.count false (c.len-words.ensures.fit) c.loop-line.invariant.writing.brings);
      written = λ e. absurd (cc);
      only = touches.within;
      capacity = omega (arith, c.write_run.ensures.capacity, c.loop-line.invariant.capacity);
    }

pub returns : goal.returns
returns c =
    let words = c.args.words.now in
    let lines = c.args.lines.now in
    let old = calls_of c.args.self.now.calls in
    let run = c.loop-line.run in
    let calls = calls_of c.loop-line.self.calls in
    let later = c.in-Some.later.now in
    let fine : has_failed calls ≡ false = c.loop-line.invariant.writing.unfailed ∙ c.requires.unfailed in
    let fit : Fit words = c.len-words.ensures.fit in
    let new = calls_of c.write_run-2.new.self.calls in
    let touches : Touches (is_in lines) (word_of words) old new =
    rw c.write_run-2.ensures.calls
    (Touches-run words lines old calls run.first run.count c.write_run-2.result fit c.loop-line.invariant.writing.these c.loop-line.invariant.writing.touches) in
    let done : c.write_run-2.result ≡ true → new ≡ with_writes words (runs_of lines) old =
    λ e.
    (rw e at c.write_run-2.ensures.calls)
    ∙ Writing-end words lines old run.first run.count (drop c.loop-line.line-index later) calls
    (drop_all c.loop-line.line-index later c.loop-line-test.false) c.loop-line.invariant.writing in
    record {
      read = c.write_run-2.ensures.read ∙ c.loop-line.invariant.read;
      done = done;
      written = λ e. Writes-lines words lines old new fit c.requires.in_range (done e) touches;
      only = touches.within;
      failed = ap has_failed c.write_run-2.ensures.calls ∙ ap (λ (b : Bool). b || not c.write_run-2.result) fine;
      within =
          rw c.write_run-2.ensures.calls (Brings-write words old calls run.first run.count c.write_run-2.result (c.len-words.ensures.fit) c.loop-line.invariant.writing.brings);
      capacity = omega (arith, c.write_run-2.ensures.capacity, c.loop-line.invariant.capacity);
    }
