use Rattle.std.proofs.Common.{◌≡◌, ℕ, ◌*◌, ◌<◌, true, List, length, vec_len, get_or, sym, subst, ap, ◌∙◌, arith}
use Rattle.std.proofs.lemmas.Bool.{eqb-true}
use Rattle.std.proofs.lemmas.List.{get_or-take, get_or_past, length-take}
use Rattle.pmem.specs.Device.{Word, settled}
use Rattle.pmem_file.specs.Call.{Call, read_of, may_hold}
use Rattle.pmem_file.specs.Written.{word_of}
use Rattle.pmem_file.proofs.loading.placed_over.Goals as goal

pub returns-clause-fresh : goal.returns-clause-fresh
returns-clause-fresh c =
    let all = c.args.loaded.words in
    let words = c.cut.new.self in
    let read = read_of c.new.result.file.calls in
    let same : (word : ℕ) → word < 8 * vec_len c.new.result.notes.marks → get_or words word 0 ≡ get_or read word 0 =
    λ word below.
    let inside : word < 8 * c.args.image = omega (arith, below, c.new.ensures.lines, c.requires.marks) in
    ap (λ (l : List ℕ). get_or l word 0) c.cut.ensures ∙ get_or-take (8 * c.args.image) all word 0 inside
    ∙ ap (λ (l : List ℕ). get_or l word 0) (sym (c.new.ensures.read ∙ c.new-file.ensures.read)) in
    record {
      image = word_of words;
      words = c.new.ensures.fresh.words ∙ ap {B = ℕ → Word} (λ (ws : List ℕ). λ (word : ℕ). settled (get_or ws word 0)) c.new.ensures.words;
      made =
          record {
            made = same;
            behind = λ word beyond.
                get_or_past words word 0
                (omega (arith, beyond, ap length c.cut.ensures, length-take (8 * c.args.image) all, c.new.ensures.lines, c.requires.marks));
          };
      past = c.new.ensures.fresh.past;
      failures = c.new.ensures.fresh.failures;
      asked = λ e. c.new.ensures.fresh.asked;
      in_place = λ file is word below.
          eqb-true (file word) (get_or read word 0)
          (subst (λ (calls : List Call). may_hold read calls word (file word) ≡ true) c.new.ensures.fresh.asked (is word))
          ∙ sym (same word below);
    }
