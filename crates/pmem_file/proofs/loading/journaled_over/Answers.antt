use Rattle.std.proofs.Common.{◌≡◌, ℕ, ◌*◌, ◌<◌, List, length, get_or, refl, sym, subst, ap, ◌∙◌, arith}
use Rattle.std.proofs.lemmas.Bool.{true≢false}
use Rattle.std.proofs.lemmas.List.{length-take, get_or-take}
use Rattle.journal.specs.declared.shape.Head.{Head}
use Rattle.journal.specs.declared.shape.Shape.{Shape}
use Rattle.journal.specs.Journal.{IsJournal}
use Rattle.journal.specs.Replay.{replayed}
use Rattle.journal.proofs.ReplayLemmas.{replayed-at}
use Rattle.pmem.specs.Device.{Word, settled}
use Rattle.pmem_file.specs.declared.file_journal.FileJournal.{FileJournal}
use Rattle.pmem_file.specs.Call.{Call, IsFileImage, read_of, calls_of}
use Rattle.pmem_file.specs.Written.{word_of}
use Rattle.pmem_file.specs.Finding.{part_behind}
use Rattle.pmem_file.specs.Journaled.{IsMadeOf}
use Rattle.pmem_file.proofs.LoadedLemmas.{made-of, made-at}
use Rattle.pmem_file.proofs.loading.journaled_over.Goals as goal

pub recover-requires-clause-replayed : goal.recover-requires-clause-replayed
recover-requires-clause-replayed c =
    let shape = c.args.shape in
    let all = c.args.loaded.words in
    let records = c.replay.ensures.replayed.0 in
    let kept = c.in_ok-tail.ensures.kept in
    let n = 8 * shape.lines in
    let lines : c.in_ok-journal.journal.head.shape.lines ≡ shape.lines =
    ap (λ (h : Head). h.shape.lines) c.in_ok-journal.ensures.head ∙ ap (λ (s : Shape). s.lines) c.in-Some.ensures.same in (
      records,
      subst (λ (m : ℕ). IsJournal m c.part_of-part.result.now records) (sym lines) c.replay.ensures.replayed.1,
      λ word below.
          let inside : word < n =
          omega (arith, below, ap length c.in_ok-image.ensures, c.replay.ensures.count, ap length kept, length-take n all, c.requires.words, c.requires.whole) in
          ap (λ (l : List ℕ). get_or l word 0) c.in_ok-image.ensures
          ∙ c.replay.ensures.replayed.2 word
          ∙ replayed-at records (λ w. get_or c.split_off.new.self w 0) _ word
          (λ none.
          ap (λ (l : List ℕ). get_or l word 0) kept ∙ get_or-take n all word 0 inside ∙ ap (λ (l : List ℕ). get_or l word 0) (sym c.new-file.ensures.read)),
    )

pub returns-clause-fresh : goal.returns-clause-fresh
returns-clause-fresh c =
    let shape = c.args.shape in
    let all = c.args.loaded.words in
    let tail = c.in_ok-tail.tail.items in
    let words = c.in_ok-image.image in
    let records = c.replay.ensures.replayed.0 in
    let kept = c.in_ok-tail.ensures.kept in
    let count : length words ≡ 8 * shape.lines =
    ap length c.in_ok-image.ensures ∙ c.replay.ensures.count
    ∙ omega (arith, ap length kept, length-take (8 * shape.lines) all, c.requires.words, c.requires.whole) in
    let journal : IsJournal shape.lines (part_behind shape tail) records =
    subst (λ (part : List ℕ). IsJournal shape.lines part records) (c.part_of-part.ensures ∙ ap (part_behind shape) c.deref-2.ensures.value) c.replay.ensures.replayed.1 in
    let m : IsMadeOf shape (word_of all) (word_of words) =
    made-of shape all tail words records (omega (arith, c.requires.words, c.requires.whole)) c.in_ok-tail.ensures.taken count journal
    (λ word.
    ap (λ (l : List ℕ). get_or l word 0) c.in_ok-image.ensures ∙ c.replay.ensures.replayed.2 word
    ∙ ap (λ (l : List ℕ). replayed records (λ w. get_or l w 0) word) kept) in
    let same : c.new-2.result.journal.head.shape ≡ shape =
    ap (λ (j : FileJournal). j.head.shape) c.new-2.ensures.journal ∙ c.recover.ensures.shape
    ∙ ap (λ (h : Head). h.shape) c.in_ok-journal.ensures.head ∙ c.in-Some.ensures.same in
    record {
      image = word_of words;
      words = c.new-2.ensures.fresh.words ∙ ap {B = ℕ → Word} (λ (ws : List ℕ). λ (word : ℕ). settled (get_or ws word 0)) c.new-2.ensures.words;
      made =
          made-at _ shape c.new-2.result.journal.head.shape all _ (word_of words) (c.new-2.ensures.lines ∙ c.requires.marks) same
          (c.new-2.ensures.read ∙ c.recover.ensures.read ∙ c.new-file.ensures.read) m;
      past = c.new-2.ensures.fresh.past;
      failures = c.new-2.ensures.fresh.failures;
      asked = λ e. absurd (true≢false e);
      in_place = λ file is word below.
          let is1 : IsFileImage (read_of c.new-2.result.file.calls) (calls_of c.recover.new.file.calls) file =
          subst (λ (calls : List Call). IsFileImage (read_of c.new-2.result.file.calls) calls file) c.new-2.ensures.asked is in
          let is2 : IsFileImage (read_of c.recover.new.file.calls) (calls_of c.recover.new.file.calls) file =
          subst (λ (read : List ℕ). IsFileImage read (calls_of c.recover.new.file.calls) file) c.new-2.ensures.read is1 in
          let lines : c.recover.new.self.head.shape.lines ≡ shape.lines =
          ap (λ (s : Shape). s.lines) (c.recover.ensures.shape ∙ ap (λ (h : Head). h.shape) c.in_ok-journal.ensures.head ∙ c.in-Some.ensures.same) in
          ((c.recover.ensures.begun c.if-not-recover.false).on_disk.disk file is2).place word
          (omega (arith, below, lines, c.new-2.ensures.lines, c.requires.marks)) refl;
    }
