use Rattle.std.proofs.Common.{◌≡◌, ℕ, ◌*◌, List, length, get_or, subst, ap, ◌∙◌, arith}
use Rattle.std.proofs.lemmas.List.{length-take}
use Rattle.journal.specs.Journal.{IsJournal}
use Rattle.journal.specs.Replay.{replayed}
use Rattle.pmem.specs.Device.{Word, settled}
use Rattle.pmem_file.specs.Written.{word_of}
use Rattle.pmem_file.specs.Finding.{part_behind}
use Rattle.pmem_file.specs.Journaled.{IsMadeOf}
use Rattle.pmem_file.proofs.LoadedLemmas.{made-of}
use Rattle.pmem_file.proofs.loading.replayed_over.Goals as goal

pub returns-clause-made : goal.returns-clause-made
returns-clause-made c =
    let shape = c.args.shape in
    let all = c.args.loaded.words in
    let tail = c.in_ok-tail.tail.items in
    let words = c.replay.new.self in
    let records = c.replay.ensures.replayed.0 in
    let kept = c.in_ok-tail.ensures.kept in
    let count : length words ≡ 8 * shape.lines =
    c.replay.ensures.count ∙ omega (arith, ap length kept, length-take (8 * shape.lines) all, c.requires.words, c.requires.whole) in
    let journal : IsJournal shape.lines (part_behind shape tail) records =
    subst (λ (part : List ℕ). IsJournal shape.lines part records) (c.part_of.ensures ∙ ap (part_behind shape) c.deref.ensures.value) c.replay.ensures.replayed.1 in
    let m : IsMadeOf shape (word_of all) (word_of words) =
    made-of shape all tail words records (omega (arith, c.requires.words, c.requires.whole)) c.in_ok-tail.ensures.taken count journal
    (λ word. c.replay.ensures.replayed.2 word ∙ ap (λ (l : List ℕ). replayed records (λ w. get_or l w 0) word) kept) in
    record {
      image = word_of words;
      made = record { made = m.opens; behind = m.behind };
      words =
          c.new.ensures.fresh.words
          ∙ ap {B = ℕ → Word} (λ (ws : List ℕ). λ (word : ℕ). settled (get_or ws word 0)) (c.new.ensures.words ∙ c.in_ok-image.ensures);
      past = c.new.ensures.fresh.past;
      failures = c.new.ensures.fresh.failures;
    }
