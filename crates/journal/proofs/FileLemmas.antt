-- What an opening makes of a file that a crash left.
use Rattle.std.proofs.Common.{◌≡◌, ◌⊎◌, ℕ, zero, suc, ◌+◌, ◌-◌, ◌*◌, ◌/◌, ◌<◌, ◌≤◌, List, [], ◌++◌, length, take, replicate, get_or, refl, inl, inr, sym, subst, ap, ◌∙◌, arith, length-append}
use Rattle.std.proofs.lemmas.Bool.{or_parts, cases_lt}
use Rattle.std.proofs.lemmas.List.{length-replicate, get_or-replicate, get_or_append_left, get_or-append-add, get_or_past, ext_get_or}
use Rattle.journal.specs.Record.{all_sealed}
use Rattle.journal.specs.Loss.{IsLossOf}
use Rattle.journal.specs.Journal.{IsJournal}
use Rattle.journal.specs.Replay.{is_recorded}
use Rattle.journal.specs.File.{part_at, words_from, part_in}
use Rattle.journal.specs.Laws.{OpensWithAllThatWasSynced, OpensOldOrNew}
use Rattle.journal.proofs.LossLemmas.{loss-from}
use Rattle.journal.proofs.RecordLemmas.{none-in, journal-all, takes-all-that-was-synced}
use Rattle.journal.proofs.ReplayLemmas.{replayed-at, is_recorded-append}

-- ---- words of a file

length-words_from : (file : ℕ → ℕ) (first count : ℕ) → length (words_from file first count) ≡ count
length-words_from file first zero = refl
length-words_from file first (suc count) = ap suc (length-words_from file (first + 1) count)

get_or-words_from : (file : ℕ → ℕ) (first count k : ℕ) → k < count → get_or (words_from file first count) k 0 ≡ file (first + k)
get_or-words_from file first zero k below = absurd (omega (arith, below))
get_or-words_from file first (suc count) zero below = ap file (omega arith)
get_or-words_from file first (suc count) (suc k) below =
    let next : first + 1 + k ≡ first + suc k = omega arith in
    get_or-words_from file (first + 1) count k (omega (arith, below)) ∙ ap file next

words_from-append : (file : ℕ → ℕ) (first a b : ℕ) → words_from file first (a + b) ≡ words_from file first a ++ words_from file (first + a) b
words_from-append file first a b =
    ext_get_or 0 (words_from file first (a + b)) (words_from file first a ++ words_from file (first + a) b)
    (omega (
      arith,
      length-words_from file first (a + b),
      length-words_from file first a,
      length-words_from file (first + a) b,
      length-append (words_from file first a) (words_from file (first + a) b),
    ))
    (λ k below.
    elim (cases_lt k a) [
      | inl here ↦
          get_or-words_from file first (a + b) k (omega (arith, here))
          ∙ sym (get_or-words_from file first a k here)
          ∙ sym (get_or_append_left (words_from file first a) (words_from file (first + a) b) 0 k (omega (arith, here, length-words_from file first a)))
      | inr there ↦
          let inside : k < a + b = omega (arith, below, length-words_from file first (a + b)) in
          let place : first + k ≡ first + a + (k - a) = omega (arith, there) in
          let index : length (words_from file first a) + (k - a) ≡ k = omega (arith, there, length-words_from file first a) in
          get_or-words_from file first (a + b) k inside
          ∙ ap file place
          ∙ sym (get_or-words_from file (first + a) b (k - a) (omega (arith, there, inside)))
          ∙ sym (get_or-append-add (words_from file first a) (words_from file (first + a) b) (k - a) 0)
          ∙ ap (λ (j : ℕ). get_or (words_from file first a ++ words_from file (first + a) b) j 0) index
    ])

-- words that are these
words_from-are : (file : ℕ → ℕ) (first : ℕ) (words : List ℕ) → ((k : ℕ) → k < length words → file (first + k) ≡ get_or words k 0)
    → words_from file first (length words) ≡ words
words_from-are file first words each =
    ext_get_or 0 (words_from file first (length words)) words (length-words_from file first (length words))
    (λ k below.
    let inside : k < length words = omega (arith, below, length-words_from file first (length words)) in
    get_or-words_from file first (length words) k inside ∙ each k inside)

words_from-zeros : (file : ℕ → ℕ) (first count : ℕ) → ((k : ℕ) → k < count → file (first + k) ≡ 0) → words_from file first count ≡ replicate count 0
words_from-zeros file first count each =
    let size : length (replicate count 0) ≡ count = length-replicate count 0 in
    ap (words_from file first) (sym size)
    ∙ words_from-are file first (replicate count 0)
    (λ k below. let inside : k < count = omega (arith, below, size) in each k inside ∙ sym (get_or-replicate count k 0 0 inside))

-- a part with these words and others behind them
part-split : (file : ℕ → ℕ) (first size : ℕ) (words : List ℕ) → length words ≤ size → ((k : ℕ) → k < length words → file (first + k) ≡ get_or words k 0)
    → words_from file first size ≡ words ++ words_from file (first + length words) (size - length words)
part-split file first size words room each =
    let whole : size ≡ length words + (size - length words) = omega (arith, room) in
    ap (words_from file first) whole
    ∙ words_from-append file first (length words) (size - length words)
    ∙ ap (λ (l : List ℕ). l ++ words_from file (first + length words) (size - length words)) (words_from-are file first words each)

-- ---- while records are written

left-is-loss : (file : ℕ → ℕ) (first size : ℕ) (words : List ℕ) → length words ≤ size
    → ((k : ℕ) → k < size → (file (first + k) ≡ 0) ⊎ (file (first + k) ≡ get_or words k 0))
    → IsLossOf (words ++ replicate (size - length words) 0) (words_from file first size)
left-is-loss file first size words room each =
    let zeros : List ℕ = replicate (size - length words) 0 in
    let count : length (words ++ zeros) ≡ size = omega (arith, room, length-append words zeros, length-replicate {A = ℕ} (size - length words) 0) in
    loss-from (words ++ zeros) (words_from file first size) (length-words_from file first size ∙ sym count)
    (λ k below.
    let inside : k < size = omega (arith, below, count) in
    let read = get_or-words_from file first size k inside in
    elim (each k inside) [
      | inl lost ↦ inl (read ∙ lost)
      | inr there ↦
          elim (cases_lt k (length words)) [
            | inl here ↦ inr (read ∙ there ∙ sym (get_or_append_left words zeros 0 k here))
            | inr past ↦ inl (read ∙ there ∙ get_or_past words k 0 past)
          ]
    ])

pub opens-with-all : OpensWithAllThatWasSynced
opens-with-all shape generation image file synced since are are' left =
    let size = 8 * shape.part in
    let n = length (all_sealed synced) in
    let at = part_at shape generation in
    let room : n ≤ size = omega (arith, left.room) in
    let split : part_in shape generation file ≡ all_sealed synced ++ words_from file (at + n) (size - n) =
    part-split file at size (all_sealed synced) room left.kept in
    let room' : length (all_sealed since) ≤ size - n = omega (arith, left.room) in
    let loss : IsLossOf (all_sealed since ++ replicate (size - n - length (all_sealed since)) 0) (words_from file (at + n) (size - n)) =
    left-is-loss file (at + n) (size - n) (all_sealed since) room'
    (λ k below.
    let place : at + (n + k) ≡ at + n + k = omega arith in
    let inside : n + k < size = omega (arith, below) in
    subst (λ (w : ℕ). (file w ≡ 0) ⊎ (file w ≡ get_or (all_sealed since) k 0)) place (left.behind k inside)) in
    let taken = takes-all-that-was-synced shape.lines (size - n - length (all_sealed since)) synced since (words_from file (at + n) (size - n)) are are' loss in
    let records = synced ++ take taken.0 since in (
      taken.0,
      record {
        records = records;
        journal =
            subst (λ (g : ℕ). IsJournal shape.lines (part_in shape g file) records) (sym left.told)
            (subst (λ (l : List ℕ). IsJournal shape.lines l records) (sym split) taken.1);
        holds = λ word below.
            sym (replayed-at records file image word
            (λ none.
            left.place word below
            (or_parts (is_recorded synced (word / 8)) (is_recorded (take taken.0 since) (word / 8))
            (sym (is_recorded-append synced (take taken.0 since) (word / 8)) ∙ none)).0));
      },
    )

-- ---- while the next generation begins

pub opens-old-or-new : OpensOldOrNew
opens-old-or-new shape generation next image placed file synced are left =
    let size = 8 * shape.part in
    let n = length (all_sealed synced) in
    let at = part_at shape generation in
    elim left.told [
      | inl old ↦
          let split : part_in shape generation file ≡ all_sealed synced ++ words_from file (at + n) (size - n) =
          part-split file at size (all_sealed synced) left.room left.kept in
          let rest : words_from file (at + n) (size - n) ≡ replicate (size - n) 0 =
          words_from-zeros file (at + n) (size - n)
          (λ k below.
          let place : at + n + k ≡ at + (n + k) = omega arith in
          let inside : n + k < size = omega (arith, below) in
          ap file place ∙ left.behind k inside) in
          let whole : part_in shape generation file ≡ all_sealed synced ++ replicate (size - n) 0 = split ∙ ap (λ (l : List ℕ). all_sealed synced ++ l) rest in
          inl (record {
            records = synced;
            journal =
                subst (λ (g : ℕ). IsJournal shape.lines (part_in shape g file) synced) (sym old)
                (subst (λ (l : List ℕ). IsJournal shape.lines l synced) (sym whole) (journal-all shape.lines (size - n) synced are));
            holds = λ word below.
                sym (replayed-at synced file image word (λ none. left.place word below ∙ left.recorded word below none));
          })
      | inr new ↦
          let empty : part_in shape next file ≡ replicate size 0 = words_from-zeros file (part_at shape next) size left.zeros in
          inr (record {
            records = [];
            journal =
                subst (λ (g : ℕ). IsJournal shape.lines (part_in shape g file) []) (sym new)
                (subst (λ (l : List ℕ). IsJournal shape.lines l []) (sym empty) (none-in shape.lines size));
            holds = λ word below. sym (left.place word below);
          })
    ]
