-- What the first recovery of a file leaves that is cut off: the journal has not begun.
use Rattle.std.proofs.Common.{◌≡◌, ◌⊎◌, ℕ, zero, suc, ◌+◌, ◌*◌, ◌%◌, ◌-◌, ◌<◌, ◌≤◌, false, ◌==◌, List, [], ◌∷◌, length, replicate, get_or, refl, inl, inr, sym, subst, ap, ◌∙◌, arith}
use Rattle.std.proofs.lemmas.Bool.{cases_Bool, cases_lt, eqb-true}
use Rattle.std.proofs.lemmas.Bool.Decides.{nat_tests}
use Rattle.std.proofs.lemmas.List.{get_or_past}
use Rattle.journal.specs.declared.shape.Shape.{Shape}
use Rattle.journal.specs.Record.{Record}
use Rattle.journal.specs.Journal.{IsJournal}
use Rattle.journal.specs.Replay.{replayed}
use Rattle.journal.specs.Head.{head_of}
use Rattle.journal.specs.File.{head_at, part_at, words_from, generation_in, part_in}
use Rattle.journal.proofs.RecordLemmas.{told, none-in}
use Rattle.pmem_file.specs.Call.{Call, IsFileImage}
use Rattle.pmem_file.specs.Written.{MayWrite, is_among, is_in, from, word_of, blank}
use Rattle.pmem_file.specs.Journaled.{IsUnbegun, LeavesTheFirst}
use Rattle.pmem_file.proofs.WritesLemmas.{not-among}
use Rattle.pmem_file.proofs.PlacesLemmas.{partly, untouched, part-behind, part-same}

zero-words : (file : ℕ → ℕ) (first count : ℕ) → ((k : ℕ) → k < count → file (first + k) ≡ 0) → words_from file first count ≡ replicate count 0
zero-words file first zero each = refl
zero-words file first (suc count) each =
    let one : first + 0 ≡ first = omega arith in
    ap (λ (x : ℕ). x ∷ words_from file (first + 1) count) (subst (λ (n : ℕ). file n ≡ 0) one (each 0 (omega arith)))
    ∙ ap (λ (xs : List ℕ). 0 ∷ xs)
    (zero-words file (first + 1) count
    (λ k below.
    let next : first + suc k ≡ first + 1 + k = omega arith in
    subst (λ (n : ℕ). file n ≡ 0) next (each (suc k) (omega (arith, below)))))

-- whichever part is told, it holds zeros
told-part : (shape : Shape) (file : ℕ → ℕ) (generation : ℕ) → IsUnbegun shape file → part_in shape generation file ≡ replicate (8 * shape.part) 0
told-part shape file generation un =
    elim (cases_Bool (generation % 2 == 0)) [
      | inl even ↦
          let same : part_at shape generation ≡ part_at shape 0 = part-same shape generation 0 (eqb-true (generation % 2) 0 even) in
          zero-words file (part_at shape generation) (8 * shape.part) (λ k few. ap (λ (at : ℕ). file (at + k)) same ∙ (un.zeros k few).0)
      | inr odd ↦
          let one : generation % 2 ≡ 1 = grind (arith, nat_tests, odd) in
          let same : part_at shape generation ≡ part_at shape 1 = part-same shape generation 1 one in
          zero-words file (part_at shape generation) (8 * shape.part) (λ k few. ap (λ (at : ℕ). file (at + k)) same ∙ (un.zeros k few).1)
    ]

-- so it has no record
pub first-records : (shape : Shape) (file : ℕ → ℕ) (generation : ℕ) (part : List ℕ) (records : List Record) → IsUnbegun shape file
    → part ≡ part_in shape generation file → IsJournal shape.lines part records → records ≡ []
first-records shape file generation part records un are journal =
    told shape.lines (replicate (8 * shape.part) 0) records []
    (subst (λ (ws : List ℕ). IsJournal shape.lines ws records) (are ∙ told-part shape file generation un) journal) (none-in shape.lines (8 * shape.part))

-- the file has not begun a journal, and its lines are as they were read
pub record IsFirst (shape : Shape) (read : List ℕ) (file : ℕ → ℕ) : Type 0 where
  pub unbegun : IsUnbegun shape file
  pub place : (word : ℕ) → word < 8 * shape.lines → file word ≡ get_or read word 0

abbrev pub AreFirst : Shape → List ℕ → List Call → Type 0
AreFirst shape read calls = (file : ℕ → ℕ) → IsFileImage read calls file → IsFirst shape read file

pub first-read : (shape : Shape) (read : List ℕ) → IsUnbegun shape (word_of read) → AreFirst shape read []
first-read shape read un file is =
    let same : (word : ℕ) → file word ≡ get_or read word 0 = λ word. eqb-true (file word) (get_or read word 0) (is word) in
    record {
      unbegun =
          record {
            head = λ k few.
                elim (un.head k few) [
                  | inl none ↦ inl (same (head_at shape + k) ∙ none)
                  | inr there ↦ inr (same (head_at shape + k) ∙ there)
                ];
            zeros = λ k few. (same (part_at shape 0 + k) ∙ (un.zeros k few).0, same (part_at shape 1 + k) ∙ (un.zeros k few).1);
          };
      place = λ word below. same word;
    }

-- no line is written
pub first-lines : (shape : Shape) (read words lines : List ℕ) (old new : List Call) → ((word : ℕ) → is_in lines word ≡ false)
    → MayWrite (is_in lines) (word_of words) old new → AreFirst shape read old → AreFirst shape read new
first-lines shape read words lines old new none may first file is =
    let p = partly (is_in lines) (word_of words) read old new file may is in
    let was = first p.before p.is in
    let same : (word : ℕ) → file word ≡ p.before word = λ word. untouched (is_in lines) (word_of words) read old file p word (none word) in
    record {
      unbegun =
          record {
            head = λ k few.
                elim (was.unbegun.head k few) [
                  | inl none ↦ inl (same (head_at shape + k) ∙ none)
                  | inr there ↦ inr (same (head_at shape + k) ∙ there)
                ];
            zeros = λ k few.
                (same (part_at shape 0 + k) ∙ (was.unbegun.zeros k few).0, same (part_at shape 1 + k) ∙ (was.unbegun.zeros k few).1);
          };
      place = λ word below. same word ∙ was.place word below;
    }

-- zeros are written behind the head
pub first-zeros : (shape : Shape) (read : List ℕ) (old new : List Call) (at count : ℕ) → head_at shape + 8 ≤ at → MayWrite (is_among at count) blank old new
    → AreFirst shape read old → AreFirst shape read new
first-zeros shape read old new at count low may first file is =
    let p = partly (is_among at count) blank read old new file may is in
    let was = first p.before p.is in
    let same : (word : ℕ) → word < at → file word ≡ p.before word =
    λ word below. untouched (is_among at count) blank read old file p word (not-among at count word (inl below)) in
    let zeros : (word : ℕ) → p.before word ≡ 0 → file word ≡ 0 =
    λ word none.
    elim (p.each word) [
      | inl e ↦ e ∙ none
      | inr new ↦ new.1
    ] in
    record {
      unbegun =
          record {
            head = λ k few.
                let e = same (head_at shape + k) (omega (arith, few, low)) in
                elim (was.unbegun.head k few) [
                  | inl none ↦ inl (e ∙ none)
                  | inr there ↦ inr (e ∙ there)
                ];
            zeros = λ k few.
                (zeros (part_at shape 0 + k) (was.unbegun.zeros k few).0, zeros (part_at shape 1 + k) (was.unbegun.zeros k few).1);
          };
      place = λ word below. same word (omega (arith, below, low)) ∙ was.place word below;
    }

-- the first head is written
pub first-head : (shape : Shape) (read : List ℕ) (old new : List Call)
    → MayWrite (is_among (head_at shape) 8) (from (head_at shape) (head_of shape 1)) old new → AreFirst shape read old → AreFirst shape read new
first-head shape read old new may first file is =
    let p = partly (is_among (head_at shape) 8) (from (head_at shape) (head_of shape 1)) read old new file may is in
    let was = first p.before p.is in
    let same : (word : ℕ) → (word < head_at shape) ⊎ (head_at shape + 8 ≤ word) → file word ≡ p.before word =
    λ word o. untouched (is_among (head_at shape) 8) (from (head_at shape) (head_of shape 1)) read old file p word (not-among (head_at shape) 8 word o) in
    record {
      unbegun =
          record {
            head = λ k few.
                elim (p.each (head_at shape + k)) [
                  | inl e ↦
                      elim (was.unbegun.head k few) [
                        | inl none ↦ inl (e ∙ none)
                        | inr there ↦ inr (e ∙ there)
                      ]
                  | inr new ↦
                      let index : head_at shape + k - head_at shape ≡ k = omega arith in
                      inr (new.1 ∙ ap (λ (j : ℕ). get_or (head_of shape 1) j 0) index)
                ];
            zeros = λ k few. (
              same (part_at shape 0 + k) (inr (omega (arith, part-behind shape 0))) ∙ (was.unbegun.zeros k few).0,
              same (part_at shape 1 + k) (inr (omega (arith, part-behind shape 1))) ∙ (was.unbegun.zeros k few).1,
            );
          };
      place = λ word below. same word (inl below) ∙ was.place word below;
    }

-- an opening makes of it what was read
pub leaves-first : (shape : Shape) (read words : List ℕ) (calls : List Call) → length words ≡ 8 * shape.lines
    → ((word : ℕ) → word < 8 * shape.lines → get_or words word 0 ≡ get_or read word 0) → AreFirst shape read calls → LeavesTheFirst shape read calls words
leaves-first shape read words calls size same first =
    record {
      makes = λ file made is made' word.
          elim (cases_lt word (8 * shape.lines)) [
            | inl inside ↦
                let f = first file is in
                let none : made'.opens.records ≡ [] =
                first-records shape file (generation_in shape file) (part_in shape (generation_in shape file) file) made'.opens.records f.unbegun refl
                made'.opens.journal in
                made'.opens.holds word inside ∙ ap (λ (rs : List Record). replayed rs file word) none ∙ f.place word inside ∙ sym (same word inside)
            | inr beyond ↦ made'.behind word beyond ∙ sym (get_or_past words word 0 (omega (arith, beyond, size)))
          ];
      unbegun = λ file is. (first file is).unbegun;
    }
