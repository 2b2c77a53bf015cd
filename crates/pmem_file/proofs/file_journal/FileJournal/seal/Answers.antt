use Rattle.std.proofs.Common.{◌≡◌, ℕ, ◌+◌, ◌*◌, ◌<◌, ◌≤◌, true, ◌++◌, length, get_or, refl, ap, ◌∙◌, arith, length-append}
use Rattle.std.proofs.lemmas.List.{get_or_default}
use Rattle.journal.specs.Record.{Record, sealed, record_of}
use Rattle.pmem_file.specs.Line.{has_line}
use Rattle.pmem_file.specs.Written.{word_of}
use Rattle.pmem_file.proofs.LinesLemmas.{has_line-at}
use Rattle.pmem_file.proofs.ReplayedLemmas.{length-sealed-of, record_of-same, some-of}
use Rattle.pmem_file.proofs.OrderLemmas.{Sealed-from}
use Rattle.pmem_file.proofs.file_journal.FileJournal.seal.Goals as goal

pub seal-requires-clause-countable : goal.seal-requires-clause-countable
seal-requires-clause-countable c k d below =
    let lines = c.args.lines.now in
    let inside : 8 * get_or lines k 0 + 8 ≤ length c.args.words.now = c.requires.in_range (get_or lines k 0) (has_line-at lines k below) in
    omega (arith, inside, c.requires.sized, c.args.self.now.countable, get_or_default lines k d 0 below)

pub invariant_of-self : goal.invariant_of-self
invariant_of-self c =
    let old = c.args.self.now in
    let r = record_of (λ (word : ℕ). get_or c.kept.result.now word 0) c.args.lines.now in
    let size : length c.seal.new.words.items ≡ length old.sealed.items + (2 + 9 * length c.args.lines.now) =
    ap length c.seal.ensures.words ∙ length-append old.sealed.items (sealed r)
    ∙ ap (λ (n : ℕ). length old.sealed.items + n) (length-sealed-of (λ (word : ℕ). get_or c.kept.result.now word 0) c.args.lines.now) in
    record {
      fits = omega (arith, size, c.requires.room, c.seal.new.words.ok.0);
      room = omega (arith, c.seal.ensures.capacity, old.room);
      marked = c.add_all.ensures.lines ∙ old.marked;
      countable = old.countable;
    }

pub returns : goal.returns
returns c =
    let old = c.args.self.now in
    let words = c.args.words.now in
    let lines = c.args.lines.now in
    let more : c.seal.new.words.items ≡ old.sealed.items ++ sealed (record_of (word_of words) lines) =
    c.seal.ensures.words
    ∙ ap (λ (r : Record). old.sealed.items ++ sealed r)
    (record_of-same (λ (word : ℕ). get_or c.kept.result.now word 0) (word_of words) lines c.kept.ensures) in
    let within : (line : ℕ) → has_line lines line ≡ true → line < old.head.shape.lines =
    λ line has. let inside = c.requires.in_range line has in omega (arith, inside, c.requires.sized) in
    Sealed-from old _ words lines (some-of lines c.requires.some) within refl refl more c.add_all.ensures.noted
