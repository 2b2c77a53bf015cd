-- What an opening makes of a file whose journal was cut off.
use Rattle.std.proofs.Common.{◌≡◌, ◌⊎◌, ℕ, ◌*◌, ◌/◌, ◌<◌, ◌≤◌, List, [], ◌++◌, length, take, get_or, refl, inl, inr, sym, subst, ap, ◌∙◌, arith}
use Rattle.std.proofs.lemmas.Bool.{cases_Bool, cases_lt, cond-true, cond-false}
use Rattle.std.proofs.lemmas.List.{take_all, get_or_past}
use Rattle.journal.specs.declared.shape.Shape.{Shape}
use Rattle.journal.specs.Record.{Record, AreRecords}
use Rattle.journal.specs.Replay.{replayed, is_recorded}
use Rattle.journal.specs.File.{generation_in, part_in, Opens, Appends, Begins}
use Rattle.journal.proofs.RecordLemmas.{told}
use Rattle.journal.proofs.FileLemmas.{opens-with-all, opens-old-or-new}
use Rattle.pmem_file.specs.Journaled.{IsMadeOf, placed}
use Rattle.pmem_file.proofs.ReplayedLemmas.{replayed-none, records-beyond, AreRecords-append, AreRecords-take}

-- an opening makes one image alone of a file
pub same-opening : (shape : Shape) (file a b : ℕ → ℕ) → Opens shape file a → Opens shape file b → (word : ℕ) → word < 8 * shape.lines → a word ≡ b word
same-opening shape file a b x y word below =
    x.holds word below
    ∙ ap (λ (records : List Record). replayed records file word)
    (told shape.lines (part_in shape (generation_in shape file) file) x.records y.records x.journal y.journal)
    ∙ sym (y.holds word below)

-- first ones of a list are no more than it has
pub first-ones : (n : ℕ) (since : List Record) → (m : ℕ) × (m ≤ length since) × (take n since ≡ take m since)
first-ones n since =
    elim (cases_lt n (length since)) [
      | inl few ↦ (n, omega (arith, few), refl)
      | inr all ↦ (length since, omega arith, take_all n since all ∙ sym (take_all (length since) since (omega arith)))
    ]

abbrev no_records : List Record
no_records = []

pub none-taken : (n : ℕ) → take n no_records ≡ no_records
none-taken n = take_all n no_records (omega arith)

-- records were written: it has the durable ones and some first ones of the others
pub earlier-appended : (shape : Shape) (generation : ℕ) (image file made : ℕ → ℕ) (synced since : List Record)
    → AreRecords shape.lines synced → AreRecords shape.lines since → ((word : ℕ) → 8 * shape.lines ≤ word → image word ≡ 0)
    → Appends shape generation image synced since file → IsMadeOf shape file made
    → (n : ℕ) × (n ≤ length since) × ((word : ℕ) → made word ≡ replayed (synced ++ take n since) image word)
earlier-appended shape generation image file made synced since are are' blank appends is =
    let o = opens-with-all shape generation image file synced since are are' appends in
    let m = first-ones o.0 since in (
      m.0,
      m.1,
      λ word.
          elim (cases_lt word (8 * shape.lines)) [
            | inl inside ↦
                same-opening shape file made (replayed (synced ++ take o.0 since) image) is.opens o.1 word inside
                ∙ ap (λ (records : List Record). replayed (synced ++ records) image word) m.2
            | inr beyond ↦
                is.behind word beyond ∙ sym (blank word beyond)
                ∙ sym (replayed-none (synced ++ take m.0 since) image word
                (records-beyond shape.lines (synced ++ take m.0 since) word
                (AreRecords-append shape.lines synced (take m.0 since) are (AreRecords-take shape.lines m.0 since are')) beyond))
          ],
    )

-- lines of some words were put in place of the records
pub placed-either : (records : List Record) (words : List ℕ) (image : ℕ → ℕ) (word : ℕ)
    → (placed records words image word ≡ replayed records image word) ⊎ (placed records words image word ≡ get_or words word 0)
placed-either records words image word =
    elim (cases_Bool (is_recorded records (word / 8))) [
      | inl here ↦ inr (cond-true (is_recorded records (word / 8)) (get_or words word 0) (image word) here)
      | inr there ↦
          inl (cond-false (is_recorded records (word / 8)) (get_or words word 0) (image word) there ∙ sym (replayed-none records image word there))
    ]

-- each word is one of these
abbrev pub IsMixed : (ℕ → ℕ) → List Record → List ℕ → (ℕ → ℕ) → Type 0
IsMixed image records words made = (word : ℕ) → (made word ≡ replayed records image word) ⊎ (made word ≡ get_or words word 0)

pub mixed-beyond : (shape : Shape) (image file made : ℕ → ℕ) (records : List Record) (words : List ℕ) → length words ≡ 8 * shape.lines
    → IsMadeOf shape file made
    → ((word : ℕ) → word < 8 * shape.lines → (made word ≡ replayed records image word) ⊎ (made word ≡ get_or words word 0))
    → IsMixed image records words made
mixed-beyond shape image file made records words size is inside word =
    elim (cases_lt word (8 * shape.lines)) [
      | inl below ↦ inside word below
      | inr beyond ↦ inr (is.behind word beyond ∙ sym (get_or_past words word 0 (omega (arith, size, beyond))))
    ]

pub mixed-placed : (shape : Shape) (image file made : ℕ → ℕ) (records : List Record) (words : List ℕ) → length words ≡ 8 * shape.lines
    → IsMadeOf shape file made → Opens shape file (placed records words image) → IsMixed image records words made
mixed-placed shape image file made records words size is opens =
    mixed-beyond shape image file made records words size is
    (λ word below.
    let same = same-opening shape file made (placed records words image) is.opens opens word below in
    elim (placed-either records words image word) [
      | inl e ↦ inl (same ∙ e)
      | inr e ↦ inr (same ∙ e)
    ])

-- the next generation begins, or has begun
pub mixed-begun : (shape : Shape) (generation : ℕ) (image file made : ℕ → ℕ) (records : List Record) (words : List ℕ) → length words ≡ 8 * shape.lines
    → Appends shape generation (placed records words image) [] [] file → IsMadeOf shape file made → IsMixed image records words made
mixed-begun shape generation image file made records words size appends is =
    let o = opens-with-all shape generation (placed records words image) file [] [] tt tt appends in
    mixed-placed shape image file made records words size is
    (subst (λ (rs : List Record). Opens shape file (replayed rs (placed records words image))) (none-taken o.0) o.1)

pub earlier-beginning : (shape : Shape) (generation next : ℕ) (image file made : ℕ → ℕ) (synced : List Record) (words : List ℕ)
    → length words ≡ 8 * shape.lines → AreRecords shape.lines synced → Begins shape generation next image (placed synced words image) synced file
    → IsMadeOf shape file made → IsMixed image synced words made
earlier-beginning shape generation next image file made synced words size are begins is =
    elim (opens-old-or-new shape generation next image (placed synced words image) file synced are begins) [
      | inl old ↦
          mixed-beyond shape image file made synced words size is (λ word below. inl (same-opening shape file made (replayed synced image) is.opens old word below))
      | inr new ↦ mixed-placed shape image file made synced words size is new
    ]
