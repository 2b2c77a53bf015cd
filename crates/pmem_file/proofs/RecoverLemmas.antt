-- What a recovery leaves that is cut off.
use Rattle.std.proofs.Common.{◌≡◌, ◌⊎◌, ℕ, zero, suc, ◌+◌, ◌*◌, ◌/◌, ◌%◌, ◌-◌, ◌^◌, ◌<◌, ◌≤◌, true, false, ◌==◌, List, [], ◌∷◌, length, get_or, refl, inl, inr, sym, subst, ap, ◌∙◌, arith}
use Rattle.std.proofs.lemmas.Bool.{cases_Bool, cases_lt, eqb-true, true≢false}
use Rattle.std.proofs.lemmas.List.{get_or_past}
use Rattle.journal.specs.declared.shape.Shape.{Shape}
use Rattle.journal.specs.Record.{Record}
use Rattle.journal.specs.Journal.{IsJournal}
use Rattle.journal.specs.Replay.{replayed, is_recorded}
use Rattle.journal.specs.Head.{head_of}
use Rattle.journal.specs.File.{head_at, part_at, words_from, generation_in, part_in, Appends}
use Rattle.journal.proofs.RecordLemmas.{told}
use Rattle.journal.proofs.ReplayLemmas.{replayed-at}
use Rattle.pmem_file.specs.Call.{Call, IsFileImage, written}
use Rattle.pmem_file.specs.Line.{has_line}
use Rattle.pmem_file.specs.Written.{MayWrite, Commits, is_among, is_in, from, word_of, blank}
use Rattle.pmem_file.specs.Journaled.{IsMadeOf, IsHead, LeavesTheSame}
use Rattle.pmem_file.proofs.ReplayedLemmas.{replayed-none}
use Rattle.pmem_file.proofs.WritesLemmas.{among-from, not-among}
use Rattle.pmem_file.proofs.PlacesLemmas.{AreLines, partly, untouched, sure-committed, committed-here, committed-there, not-in, part-behind, parts-apart, part-next}
use Rattle.pmem_file.proofs.DiskLemmas.{IsReady, begun-mid, same-head}
use Rattle.pmem_file.proofs.EarlierLemmas.{earlier-appended, none-taken}

-- What was read, the lines that its records have, and the words that they make of it
pub record Recovery (shape : Shape) (generation : ℕ) (read words lines : List ℕ) (records : List Record) : Type 0 where
  pub size : length words ≡ 8 * shape.lines
  pub within : AreLines shape lines
  pub noted : (line : ℕ) → has_line lines line ≡ is_recorded records line
  pub journal : IsJournal shape.lines (part_in shape generation (word_of read)) records
  pub made : (word : ℕ) → word < 8 * shape.lines → get_or words word 0 ≡ replayed records (word_of read) word
  pub head : IsHead shape generation (word_of read)

words_from-same : (a b : ℕ → ℕ) (first count : ℕ) → ((k : ℕ) → k < count → a (first + k) ≡ b (first + k)) → words_from a first count ≡ words_from b first count
words_from-same a b first zero same = refl
words_from-same a b first (suc count) same =
    let one : first + 0 ≡ first = omega arith in
    ap (λ (x : ℕ). x ∷ words_from a (first + 1) count) (subst (λ (n : ℕ). a n ≡ b n) one (same 0 (omega arith)))
    ∙ ap (λ (xs : List ℕ). b first ∷ xs)
    (words_from-same a b (first + 1) count
    (λ k below.
    let next : first + suc k ≡ first + 1 + k = omega arith in
    subst (λ (n : ℕ). a n ≡ b n) next (same (suc k) (omega (arith, below)))))

-- a word of a file that was read, and of which nothing was asked
read-only : (read : List ℕ) (file : ℕ → ℕ) → IsFileImage read [] file → (word : ℕ) → file word ≡ get_or read word 0
read-only read file is word = eqb-true (file word) (get_or read word 0) (is word)

-- the part in use is as it was read, and the image but for lines that are recorded
record IsAsRead (shape : Shape) (generation : ℕ) (read lines : List ℕ) (file : ℕ → ℕ) : Type 0 where
  told : generation_in shape file ≡ generation
  part : (k : ℕ) → k < 8 * shape.part → file (part_at shape generation + k) ≡ get_or read (part_at shape generation + k) 0
  place : (word : ℕ) → word < 8 * shape.lines → is_in lines word ≡ false → file word ≡ get_or read word 0

same-made : (shape : Shape) (generation : ℕ) (read words lines : List ℕ) (records : List Record) (file made : ℕ → ℕ)
    → Recovery shape generation read words lines records → IsAsRead shape generation read lines file → IsMadeOf shape file made
    → (word : ℕ) → made word ≡ get_or words word 0
same-made shape generation read words lines records file made r stays is word =
    elim (cases_lt word (8 * shape.lines)) [
      | inl inside ↦
          let part : part_in shape generation file ≡ part_in shape generation (word_of read) =
          words_from-same file (word_of read) (part_at shape generation) (8 * shape.part) stays.part in
          let found : IsJournal shape.lines (part_in shape generation (word_of read)) is.opens.records =
          subst (λ (ws : List ℕ). IsJournal shape.lines ws is.opens.records) part
          (subst (λ (g : ℕ). IsJournal shape.lines (part_in shape g file) is.opens.records) stays.told is.opens.journal) in
          is.opens.holds word inside
          ∙ ap (λ (rs : List Record). replayed rs file word)
          (told shape.lines (part_in shape generation (word_of read)) is.opens.records records found r.journal)
          ∙ replayed-at records file (word_of read) word (λ none. stays.place word inside (r.noted (word / 8) ∙ none))
          ∙ sym (r.made word inside)
      | inr beyond ↦ is.behind word beyond ∙ sym (get_or_past words word 0 (omega (arith, beyond, r.size)))
    ]

-- ---- its steps

-- lines are on their way to their places
pub recover-lines : (shape : Shape) (generation : ℕ) (read words lines : List ℕ) (records : List Record) (new : List Call)
    → Recovery shape generation read words lines records → MayWrite (is_in lines) (word_of words) [] new → LeavesTheSame shape generation read new words
recover-lines shape generation read words lines records new r may =
    record {
      makes = λ file made is made'. same-made shape generation read words lines records file made r (stays file is) made';
      head = λ file is. inl (λ k few. far file is (head_at shape + k) (omega arith) ∙ r.head k few);
    }
  where
    out : (file : ℕ → ℕ) → IsFileImage read new file → (word : ℕ) → is_in lines word ≡ false → file word ≡ get_or read word 0
    out file is word e =
        let p = partly (is_in lines) (word_of words) read [] new file may is in
        untouched (is_in lines) (word_of words) read [] file p word e ∙ read-only read p.before p.is word

    far : (file : ℕ → ℕ) → IsFileImage read new file → (word : ℕ) → 8 * shape.lines ≤ word → file word ≡ get_or read word 0
    far file is word behind = out file is word (not-in shape lines word r.within behind)

    stays : (file : ℕ → ℕ) → IsFileImage read new file → IsAsRead shape generation read lines file
    stays file is =
        let low = part-behind shape generation in
        record {
          told = far file is (head_at shape + 1) (omega arith) ∙ r.head 1 (omega arith);
          part = λ k few. far file is (part_at shape generation + k) (omega (arith, low));
          place = λ word below e. out file is word e;
        }

-- the lines are in place, and the other part is on its way to zeros
pub recover-zeros : (shape : Shape) (generation : ℕ) (read words lines : List ℕ) (records : List Record) (mid new : List Call) (next_at : ℕ)
    → Recovery shape generation read words lines records → next_at ≡ part_at shape (generation + 1) → Commits (is_in lines) (word_of words) [] mid
    → MayWrite (is_among next_at (8 * shape.part)) blank mid new → LeavesTheSame shape generation read new words
recover-zeros shape generation read words lines records mid new next_at r at commits may =
    record {
      makes = λ file made is made'. same-made shape generation read words lines records file made r (stays file is) made';
      head = λ file is.
          inl (λ k few. far file is (head_at shape + k) (omega arith) (inl (omega (arith, few, at, part-behind shape (generation + 1)))) ∙ r.head k few);
    }
  where
    out : (file : ℕ → ℕ) → IsFileImage read new file → (word : ℕ) → is_in lines word ≡ false → (word < next_at) ⊎ (next_at + 8 * shape.part ≤ word)
        → file word ≡ get_or read word 0
    out file is word e apart =
        let t = is_among next_at (8 * shape.part) in
        let p = partly t blank read mid new file may is in
        untouched t blank read mid file p word (not-among next_at (8 * shape.part) word apart)
        ∙ sure-committed (is_in lines) (word_of words) read [] mid commits p.before p.is word
        ∙ committed-there (is_in lines) (word_of words) read [] mid word commits e

    far : (file : ℕ → ℕ) → IsFileImage read new file → (word : ℕ) → 8 * shape.lines ≤ word → (word < next_at) ⊎ (next_at + 8 * shape.part ≤ word)
        → file word ≡ get_or read word 0
    far file is word behind apart = out file is word (not-in shape lines word r.within behind) apart

    stays : (file : ℕ → ℕ) → IsFileImage read new file → IsAsRead shape generation read lines file
    stays file is =
        let low = part-behind shape generation in
        let low' = part-behind shape (generation + 1) in
        record {
          told = far file is (head_at shape + 1) (omega arith) (inl (omega (arith, at, low'))) ∙ r.head 1 (omega arith);
          part = λ k few.
              far file is (part_at shape generation + k) (omega (arith, low))
              (elim (parts-apart shape generation) [
                | inl later ↦ inl (omega (arith, at, later, few))
                | inr earlier ↦ inr (omega (arith, at, earlier))
              ]);
          place = λ word below e. out file is word e (inl (omega (arith, below, at, low')));
        }

-- all is in place, and the other part holds zeros; both are durable
recover-ready : (shape : Shape) (generation : ℕ) (read words lines : List ℕ) (records : List Record) (mid cleared : List Call) (next_at : ℕ)
    → Recovery shape generation read words lines records → next_at ≡ part_at shape (generation + 1) → Commits (is_in lines) (word_of words) [] mid
    → Commits (is_among next_at (8 * shape.part)) blank mid cleared → IsReady shape generation read cleared (word_of words)
recover-ready shape generation read words lines records mid cleared next_at r at commits clears =
    let t = is_among next_at (8 * shape.part) in
    let low' = part-behind shape (generation + 1) in
    record {
      sure = sure-committed t blank read mid cleared clears;
      place = λ word below.
          committed-there t blank read mid cleared word clears (not-among next_at (8 * shape.part) word (inl (omega (arith, below, at, low'))))
          ∙ elim (cases_Bool (is_in lines word)) [
            | inl here ↦ committed-here (is_in lines) (word_of words) read [] mid word commits here
            | inr there ↦
                committed-there (is_in lines) (word_of words) read [] mid word commits there
                ∙ sym (r.made word below ∙ replayed-none records (word_of read) word (sym (r.noted (word / 8)) ∙ there))
          ];
      zeros = λ k few.
          committed-here t blank read mid cleared (part_at shape (generation + 1) + k) clears
          (among-from next_at (8 * shape.part) (part_at shape (generation + 1) + k) (omega (arith, at)) (omega (arith, at, few)));
    }

made-begun : (shape : Shape) (next : ℕ) (words : List ℕ) (file made : ℕ → ℕ) → length words ≡ 8 * shape.lines → Appends shape next (word_of words) [] [] file
    → IsMadeOf shape file made → (word : ℕ) → made word ≡ get_or words word 0
made-begun shape next words file made size appends is word =
    let o = earlier-appended shape next (word_of words) file made [] [] tt tt (λ w beyond. get_or_past words w 0 (omega (arith, beyond, size))) appends is in
    o.2 word ∙ ap (λ (rs : List Record). replayed rs (word_of words) word) (none-taken o.0)

-- the next generation has begun, and the old part is on its way to zeros
pub recover-begun : (shape : Shape) (generation next : ℕ) (read words lines : List ℕ) (records : List Record) (mid cleared begun new : List Call) (next_at : ℕ)
    → Recovery shape generation read words lines records → next_at ≡ part_at shape (generation + 1) → next ≡ (generation + 1) % 2 ^ 64
    → Commits (is_in lines) (word_of words) [] mid → Commits (is_among next_at (8 * shape.part)) blank mid cleared
    → Commits (is_among (head_at shape) 8) (from (head_at shape) (head_of shape next)) cleared begun
    → MayWrite (is_among (part_at shape generation) (8 * shape.part)) blank begun new → LeavesTheSame shape next read new words
recover-begun shape generation next read words lines records mid cleared begun new next_at r at e commits clears heads may =
    let ready = recover-ready shape generation read words lines records mid cleared next_at r at commits clears in
    let all : 8 * shape.part ≤ 8 * shape.part = omega arith in
    record {
      makes = λ file made is made'.
          made-begun shape next words file made r.size
          (begun-mid shape generation next read cleared begun new (word_of words) file (8 * shape.part) e all ready heads may is).0 made';
      head = λ file is.
          inl ((begun-mid shape generation next read cleared begun new (word_of words) file (8 * shape.part) e all ready heads may is).1);
    }

-- all is in place, the other part holds zeros, and the head is on its way
pub recover-head : (shape : Shape) (generation next : ℕ) (read words lines : List ℕ) (records : List Record) (mid cleared new : List Call) (next_at : ℕ)
    → Recovery shape generation read words lines records → next_at ≡ part_at shape (generation + 1) → next ≡ (generation + 1) % 2 ^ 64
    → Commits (is_in lines) (word_of words) [] mid → Commits (is_among next_at (8 * shape.part)) blank mid cleared
    → MayWrite (is_among (head_at shape) 8) (from (head_at shape) (head_of shape next)) cleared new → LeavesTheSame shape next read new words
recover-head shape generation next read words lines records mid cleared new next_at r at e commits clears may =
    record {
      makes = λ file made is made' word.
          elim (which file is 1 one) [
            | inl same ↦ same-made shape generation read words lines records file made r (stays file is same) made' word
            | inr begun ↦ in-place file made is begun made' word
          ];
      head = λ file is.
          elim (which file is 1 one) [
            | inl same ↦ inr (generation, e, head-is file is generation same)
            | inr begun ↦ inl (head-is file is next begun)
          ];
    }
  where
    one : 1 < 8
    one = omega arith

    low' : head_at shape + 8 ≤ part_at shape (generation + 1)
    low' = part-behind shape (generation + 1)

    before : (file : ℕ → ℕ) → IsFileImage read new file → (word : ℕ) → is_among (head_at shape) 8 word ≡ false → file word ≡ written read cleared word
    before file is word out =
        let p = partly (is_among (head_at shape) 8) (from (head_at shape) (head_of shape next)) read cleared new file may is in
        untouched (is_among (head_at shape) 8) (from (head_at shape) (head_of shape next)) read cleared file p word out
        ∙ sure-committed (is_among next_at (8 * shape.part)) blank read mid cleared clears p.before p.is word

    cleared-there : (word : ℕ) → (word < next_at) ⊎ (next_at + 8 * shape.part ≤ word) → written read cleared word ≡ written read mid word
    cleared-there word apart =
        committed-there (is_among next_at (8 * shape.part)) blank read mid cleared word clears (not-among next_at (8 * shape.part) word apart)

    as-read : (word : ℕ) → (word < next_at) ⊎ (next_at + 8 * shape.part ≤ word) → is_in lines word ≡ false → written read cleared word ≡ get_or read word 0
    as-read word apart out = cleared-there word apart ∙ committed-there (is_in lines) (word_of words) read [] mid word commits out

    which : (file : ℕ → ℕ) → IsFileImage read new file → (k : ℕ) → k < 8
        → (file (head_at shape + k) ≡ get_or (head_of shape generation) k 0) ⊎ (file (head_at shape + k) ≡ get_or (head_of shape next) k 0)
    which file is k few =
        let p = partly (is_among (head_at shape) 8) (from (head_at shape) (head_of shape next)) read cleared new file may is in
        elim (p.each (head_at shape + k)) [
          | inl same ↦
              inl (
              same ∙ sure-committed (is_among next_at (8 * shape.part)) blank read mid cleared clears p.before p.is (head_at shape + k)
              ∙ as-read (head_at shape + k) (inl (omega (arith, few, at, low'))) (not-in shape lines (head_at shape + k) r.within (omega arith)) ∙ r.head k few
              )
          | inr new ↦
              let index : head_at shape + k - head_at shape ≡ k = omega arith in
              inr (new.1 ∙ ap (λ (j : ℕ). get_or (head_of shape next) j 0) index)
        ]

    head-is : (file : ℕ → ℕ) → IsFileImage read new file → (g : ℕ) → file (head_at shape + 1) ≡ g → IsHead shape g file
    head-is file is g told k few =
        elim (cases_Bool (k == 1)) [
          | inl is1 ↦
              let k1 : k ≡ 1 = eqb-true k 1 is1 in
              subst (λ (j : ℕ). file (head_at shape + j) ≡ get_or (head_of shape g) j 0) (sym k1) told
          | inr not1 ↦
              let other : k ≡ 1 → ⊥ = λ k1. true≢false (sym (subst (λ (j : ℕ). (j == 1) ≡ true) (sym k1) refl) ∙ not1) in
              elim (which file is k few) [
                | inl same ↦ same ∙ same-head shape generation g k other
                | inr new ↦ new ∙ same-head shape next g k other
              ]
        ]

    stays : (file : ℕ → ℕ) → IsFileImage read new file → file (head_at shape + 1) ≡ generation → IsAsRead shape generation read lines file
    stays file is told =
        let low = part-behind shape generation in
        record {
          told = told;
          part = λ k few.
              before file is (part_at shape generation + k) (not-among (head_at shape) 8 (part_at shape generation + k) (inr (omega (arith, low))))
              ∙ as-read (part_at shape generation + k)
              (elim (parts-apart shape generation) [
                | inl later ↦ inl (omega (arith, at, later, few))
                | inr earlier ↦ inr (omega (arith, at, earlier))
              ])
              (not-in shape lines (part_at shape generation + k) r.within (omega (arith, low)));
          place = λ word below out.
              before file is word (not-among (head_at shape) 8 word (inl below)) ∙ as-read word (inl (omega (arith, below, at, low'))) out;
        }

    in-place : (file made : ℕ → ℕ) → IsFileImage read new file → file (head_at shape + 1) ≡ next → IsMadeOf shape file made → (word : ℕ)
        → made word ≡ get_or words word 0
    in-place file made is begun made' word =
        let ready = recover-ready shape generation read words lines records mid cleared next_at r at commits clears in
        made-begun shape next words file made r.size
        (record {
          told = begun;
          place = λ w below none. before file is w (not-among (head_at shape) 8 w (inl below)) ∙ ready.place w below;
          kept = λ k below. absurd (omega (arith, below));
          behind = λ k below.
              let inside : k < 8 * shape.part = omega (arith, below) in
              let word' = part_at shape (generation + 1) + k in
              let same : part_at shape next + (0 + k) ≡ word' = omega (arith, part-next shape generation next e) in
              inl (ap file same ∙ before file is word' (not-among (head_at shape) 8 word' (inr (omega (arith, low')))) ∙ ready.zeros k inside);
          room = omega arith;
        }) made' word
