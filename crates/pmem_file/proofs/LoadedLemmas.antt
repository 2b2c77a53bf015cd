-- What an opening makes of the words of a file with a journal.
use Rattle.std.proofs.Common.{◌≡◌, ℕ, zero, suc, ◌+◌, ◌*◌, ◌-◌, ◌≤◌, List, ◌∷◌, length, take, drop, get_or, slice_index, Some, refl, inl, inr, sym, subst, ap, ◌∙◌, arith}
use Rattle.std.proofs.lemmas.List.{drop_more, drop-drop, get_or-take, get_or-drop, get_or_past}
use Rattle.journal.specs.declared.shape.Shape.{Shape}
use Rattle.journal.specs.Record.{Record}
use Rattle.journal.specs.Journal.{IsJournal}
use Rattle.journal.specs.Replay.{replayed}
use Rattle.journal.specs.File.{lines_of_file, head_at, part_at, words_from, generation_in, part_in, Opens}
use Rattle.journal.proofs.ReplayLemmas.{replayed-at}
use Rattle.pmem_file.specs.Written.{word_of}
use Rattle.pmem_file.specs.Journaled.{IsMadeOf}
use Rattle.pmem_file.specs.Finding.{part_behind}
use Rattle.pmem_file.specs.Device.{IsMade}
use Rattle.pmem_file.proofs.PlacesLemmas.{parts, part-behind}

words-taken : (xs : List ℕ) (first count : ℕ) → first + count ≤ length xs → take count (drop first xs) ≡ words_from (word_of xs) first count
words-taken xs first zero room = refl
words-taken xs first (suc count) room =
    ap (λ (ys : List ℕ). take (suc count) ys) (drop_more xs first 0 (omega (arith, room)))
    ∙ ap (λ (ys : List ℕ). get_or xs first 0 ∷ ys) (words-taken xs (first + 1) count (omega (arith, room)))

part-within : (shape : Shape) (generation : ℕ) → part_at shape generation + 8 * shape.part ≤ 8 * lines_of_file shape
part-within shape generation =
    elim (parts shape generation).here [
      | inl here ↦ omega (arith, here.0)
      | inr here ↦ omega (arith, here.0)
    ]

-- the part in use, of what stands behind the image
pub part-words : (shape : Shape) (all tail : List ℕ) → length all ≡ 8 * lines_of_file shape → tail ≡ drop (8 * shape.lines) all
    → part_behind shape tail ≡ part_in shape (generation_in shape (word_of all)) (word_of all)
part-words shape all tail size is =
    let told : get_or tail 1 0 ≡ generation_in shape (word_of all) =
    ap (λ (xs : List ℕ). get_or xs 1 0) is ∙ get_or-drop (8 * shape.lines) all 1 0 in
    let g = generation_in shape (word_of all) in
    let low = part-behind shape g in
    let sum : 8 * shape.lines + (part_at shape g - head_at shape) ≡ part_at shape g = omega (arith, low) in
    ap (λ (n : ℕ). take (8 * shape.part) (drop (part_at shape n - head_at shape) tail)) told
    ∙ ap (λ (xs : List ℕ). take (8 * shape.part) (drop (part_at shape g - head_at shape) xs)) is
    ∙ ap (λ (xs : List ℕ). take (8 * shape.part) xs) (drop-drop (part_at shape g - head_at shape) (8 * shape.lines) all)
    ∙ ap (λ (n : ℕ). take (8 * shape.part) (drop n all)) sum
    ∙ words-taken all (part_at shape g) (8 * shape.part) (omega (arith, size, part-within shape g))

-- the words of the image with the records replayed
pub made-of : (shape : Shape) (all tail words : List ℕ) (records : List Record) → length all ≡ 8 * lines_of_file shape → tail ≡ drop (8 * shape.lines) all
    → length words ≡ 8 * shape.lines → IsJournal shape.lines (part_behind shape tail) records
    → ((word : ℕ) → get_or words word 0 ≡ replayed records (λ w. get_or (take (8 * shape.lines) all) w 0) word)
    → IsMadeOf shape (word_of all) (word_of words)
made-of shape all tail words records size is count journal made =
    record {
      opens =
          record {
            records = records;
            journal = subst (λ (part : List ℕ). IsJournal shape.lines part records) (part-words shape all tail size is) journal;
            holds = λ word below.
                made word
                ∙ replayed-at records (λ w. get_or (take (8 * shape.lines) all) w 0) (word_of all) word (λ none. get_or-take (8 * shape.lines) all word 0 below);
          };
      behind = λ word beyond. get_or_past words word 0 (omega (arith, count, beyond));
    }

pub made-at : (lines : ℕ) (shape shape' : Shape) (all read : List ℕ) (image : ℕ → ℕ) → lines ≡ shape.lines → shape' ≡ shape → read ≡ all
    → IsMadeOf shape (word_of all) image → IsMade lines (Some shape') (slice_index read) image
made-at lines shape shape' all read image count same are m =
    record {
      made =
          subst (λ (s : Shape). Opens s (slice_index read) image) (sym same)
          (subst (λ (l : List ℕ). Opens shape (slice_index l) image) (sym are) m.opens);
      behind = λ word beyond. m.behind word (subst (λ (n : ℕ). 8 * n ≤ word) count beyond);
    }
