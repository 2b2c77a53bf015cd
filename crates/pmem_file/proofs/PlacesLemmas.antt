-- What a file with a journal may hold, and where it has what.
use Rattle.std.proofs.Common.{◌≡◌, ◌⊎◌, ℕ, ◌+◌, ◌*◌, ◌/◌, ◌%◌, ◌^◌, ◌<◌, ◌≤◌, Bool, true, false, not, cond, ◌&&◌, ◌==◌, List, [], ◌∷◌, length, inl, inr, sym, subst, ap, ◌∙◌, arith}
use Rattle.std.proofs.lemmas.Bool.{or_cases, and_parts, cases_Bool, cond_both, cond-true, cond-false, eqb-true, false_from_ne_true, true≢false}
use Rattle.std.proofs.lemmas.Bool.Decides.{nat_tests}
use Rattle.journal.specs.declared.shape.Shape.{Shape}
use Rattle.journal.specs.Record.{Record, all_sealed}
use Rattle.journal.specs.File.{head_at, part_at, Appends}
use Rattle.pmem_file.specs.Call.{Call, Synced, IsFileImage, has_failed, written, may_hold}
use Rattle.pmem_file.specs.Line.{has_line}
use Rattle.pmem_file.specs.Written.{MayWrite, Commits, is_in}
use Rattle.pmem_file.proofs.CallsLemmas.{written-may_hold}

-- ---- images of a file

-- A file after writes that may have come to it or not: each word is that of an image of before them, or it was written
pub record Partly (touched : ℕ → Bool) (value : ℕ → ℕ) (read : List ℕ) (old : List Call) (file : ℕ → ℕ) : Type 0 where
  pub before : ℕ → ℕ
  pub is : IsFileImage read old before
  pub each : (word : ℕ) → (file word ≡ before word) ⊎ ((touched word ≡ true) × (file word ≡ value word))

chosen : (may : ℕ → Bool) (x y : ℕ) → may y ≡ true → may (cond (may x) x y) ≡ true
chosen may x y e = cond_both (may x) x y (λ (z : ℕ). may z ≡ true) (λ h. h) (λ _. e)

pub partly : (touched : ℕ → Bool) (value : ℕ → ℕ) (read : List ℕ) (old new : List Call) (file : ℕ → ℕ) → MayWrite touched value old new
    → IsFileImage read new file → Partly touched value read old file
partly touched value read old new file may is =
    record {
      before = λ word. cond (may_hold read old word (file word)) (file word) (written read old word);
      is = λ word. chosen (may_hold read old word) (file word) (written read old word) (written-may_hold read old word);
      each = λ word.
          elim (or_cases (may_hold read old word (file word)) (touched word && (file word == value word)) (may read word (file word) (is word))) [
            | inl was ↦ inl (sym (cond-true (may_hold read old word (file word)) (file word) (written read old word) was))
            | inr new ↦
                let both = and_parts (touched word) (file word == value word) new in
                inr (both.0, eqb-true (file word) (value word) both.1)
          ];
    }

-- a word that is not written
pub untouched : (touched : ℕ → Bool) (value : ℕ → ℕ) (read : List ℕ) (old : List Call) (file : ℕ → ℕ) (p : Partly touched value read old file) (word : ℕ)
    → touched word ≡ false → file word ≡ p.before word
untouched touched value read old file p word e =
    elim (p.each word) [
      | inl same ↦ same
      | inr new ↦ absurd (true≢false (sym new.0 ∙ e))
    ]

-- whatever the file holds, it holds what was written last
abbrev pub IsSure : List ℕ → List Call → Type 0
IsSure read calls = (file : ℕ → ℕ) → IsFileImage read calls file → (word : ℕ) → file word ≡ written read calls word

pub sure-synced : (read : List ℕ) (calls : List Call) → has_failed calls ≡ false → IsSure read (Synced true ∷ calls)
sure-synced read calls fine file is word =
    eqb-true (file word) (written read calls word)
    (subst (λ (b : Bool). cond (true && not b) (file word == written read calls word) (may_hold read calls word (file word)) ≡ true) fine (is word))

pub sure-committed : (touched : ℕ → Bool) (value : ℕ → ℕ) (read : List ℕ) (old new : List Call) → Commits touched value old new → IsSure read new
sure-committed touched value read old new commits =
    subst (λ (calls : List Call). IsSure read calls) (sym commits.synced) (sure-synced read commits.between commits.unfailed)

pub committed-here : (touched : ℕ → Bool) (value : ℕ → ℕ) (read : List ℕ) (old new : List Call) (word : ℕ) → Commits touched value old new
    → touched word ≡ true → written read new word ≡ value word
committed-here touched value read old new word commits e =
    ap (λ (calls : List Call). written read calls word) commits.synced ∙ commits.writes.last read word e

pub committed-there : (touched : ℕ → Bool) (value : ℕ → ℕ) (read : List ℕ) (old new : List Call) (word : ℕ) → Commits touched value old new
    → touched word ≡ false → written read new word ≡ written read old word
committed-there touched value read old new word commits e =
    ap (λ (calls : List Call). written read calls word) commits.synced ∙ commits.writes.others read word e

-- ---- the places of a file

-- where the parts are of this generation and of the next
pub record Parts (shape : Shape) (generation : ℕ) : Type 0 where
  pub here : (part_at shape generation ≡ 8 * (shape.lines + 1)) × (part_at shape (generation + 1) ≡ 8 * (shape.lines + 1 + shape.part))
      ⊎ (part_at shape generation ≡ 8 * (shape.lines + 1 + shape.part)) × (part_at shape (generation + 1) ≡ 8 * (shape.lines + 1))

pub parts : (shape : Shape) (generation : ℕ) → Parts shape generation
parts shape generation =
    elim (cases_Bool (generation % 2 == 0)) [
      | inl even ↦
          let odd : ((generation + 1) % 2 == 0) ≡ false = grind (arith, nat_tests, even) in
          record {
            here = inl (
              cond-true (generation % 2 == 0) (8 * (shape.lines + 1)) (8 * (shape.lines + 1 + shape.part)) even,
              cond-false ((generation + 1) % 2 == 0) (8 * (shape.lines + 1)) (8 * (shape.lines + 1 + shape.part)) odd,
            );
          }
      | inr odd ↦
          let even : ((generation + 1) % 2 == 0) ≡ true = grind (arith, nat_tests, odd) in
          record {
            here = inr (
              cond-false (generation % 2 == 0) (8 * (shape.lines + 1)) (8 * (shape.lines + 1 + shape.part)) odd,
              cond-true ((generation + 1) % 2 == 0) (8 * (shape.lines + 1)) (8 * (shape.lines + 1 + shape.part)) even,
            );
          }
    ]

-- a part is behind the head
pub part-behind : (shape : Shape) (generation : ℕ) → head_at shape + 8 ≤ part_at shape generation
part-behind shape generation =
    elim (parts shape generation).here [
      | inl here ↦ omega (arith, here.0)
      | inr here ↦ omega (arith, here.0)
    ]

-- the two parts are apart
pub parts-apart : (shape : Shape) (generation : ℕ)
    → (part_at shape generation + 8 * shape.part ≤ part_at shape (generation + 1)) ⊎ (part_at shape (generation + 1) + 8 * shape.part ≤ part_at shape generation)
parts-apart shape generation =
    elim (parts shape generation).here [
      | inl here ↦ inl (omega (arith, here.0, here.1))
      | inr here ↦ inr (omega (arith, here.0, here.1))
    ]

pub part-same : (shape : Shape) (a b : ℕ) → a % 2 ≡ b % 2 → part_at shape a ≡ part_at shape b
part-same shape a b e = ap (λ (n : ℕ). cond (n == 0) (8 * (shape.lines + 1)) (8 * (shape.lines + 1 + shape.part))) e

pub part-next : (shape : Shape) (generation next : ℕ) → next ≡ (generation + 1) % 2 ^ 64 → part_at shape next ≡ part_at shape (generation + 1)
part-next shape generation next e = part-same shape next (generation + 1) (omega (arith, e))

pub part-after : (shape : Shape) (generation next : ℕ) → next ≡ (generation + 1) % 2 ^ 64 → part_at shape (next + 1) ≡ part_at shape generation
part-after shape generation next e = part-same shape (next + 1) generation (omega (arith, e))

-- the lines that are written are lines of the image
abbrev pub AreLines : Shape → List ℕ → Type 0
AreLines shape lines = (line : ℕ) → has_line lines line ≡ true → line < shape.lines

pub not-in : (shape : Shape) (lines : List ℕ) (word : ℕ) → AreLines shape lines → 8 * shape.lines ≤ word → is_in lines word ≡ false
not-in shape lines word are behind =
    false_from_ne_true (is_in lines word) (λ e. let below = are (word / 8) e in absurd (omega (arith, below, behind)))

-- what stands behind the durable records is 0
pub behind-zero : (shape : Shape) (generation : ℕ) (image : ℕ → ℕ) (synced : List Record) (file : ℕ → ℕ) → Appends shape generation image synced [] file
    → (k : ℕ) → length (all_sealed synced) + k < 8 * shape.part → file (part_at shape generation + (length (all_sealed synced) + k)) ≡ 0
behind-zero shape generation image synced file appends k below =
    elim (appends.behind k below) [
      | inl none ↦ none
      | inr none ↦ none
    ]
