-- What stores, flushes and a fence make of all words, and of the images.
use Rattle.std.proofs.Common.{◌≡◌, ◌≢◌, ◌⊎◌, ℕ, zero, suc, ◌+◌, ◌/◌, ◌≤◌, ◌<◌, Bool, true, false, cond, ◌==◌, List, [], ◌∷◌, ◌++◌, refl, inl, inr, sym, subst, ap, ◌∙◌, arith, ◌-◌, length, get_or}
use Rattle.std.proofs.lemmas.Bool.{cond-true, cond-false, eqb-true, eq-eqb, eqb-false}
use Rattle.pmem.specs.Device.{Word, MayBe, Only, store_word, flush_word, fence_word, store_at, flush_at, fenced}
use Rattle.pmem.specs.Crash.{IsImage, IsSettled, image_of}
use Rattle.pmem.specs.Runs.{stores, flushes, IsStored, IsOutside, IsLine, written, IsPartlyStored, pairs_from, lines_from}
use Rattle.pmem.proofs.Words.{MayBe-store_word, MayBe-store_word-cases, MayBe-flush_word, flush_word-MayBe, MayBe-fence_word, none-passed, MayBe-alone, Only-alone}

pub same_or_other : (a b : ℕ) → (a ≡ b) ⊎ (a ≢ b)
same_or_other a b =
    let go : (t : Bool) → (a == b) ≡ t → (a ≡ b) ⊎ (a ≢ b) =
    elim [ true ↦ λ e. inl (eqb-true a b e) | false ↦ λ e. inr (eqb-false a b e) ] in
    go (a == b) refl

pub unequal : (a b : ℕ) → a ≢ b → (a == b) ≡ false
unequal a b n =
    let go : (t : Bool) → (a == b) ≡ t → (a == b) ≡ false =
    elim [ true ↦ λ e. absurd (n (eqb-true a b e)) | false ↦ λ e. e ] in
    go (a == b) refl

-- what holds of both branches of a test of equality holds of their join
pub by_test : {A : Type 0} (P : A → Type 0) (a b : ℕ) (u v : A) → (a ≡ b → P u) → (a ≢ b → P v) → P (cond (a == b) u v)
by_test P a b u v same other =
    (elim (a == b) as (λ t. (a == b) ≡ t → P (cond t u v)) [ true ↦ λ e. same (eqb-true a b e) | false ↦ λ e. other (eqb-false a b e) ]) refl

-- One call

pub store_at-same : (at x : ℕ) (words : ℕ → Word) (word : ℕ) → word ≡ at → store_at at x words word ≡ store_word x (words word)
store_at-same at x words word e = cond-true (word == at) _ _ (eq-eqb word at e)

pub store_at-other : (at x : ℕ) (words : ℕ → Word) (word : ℕ) → word ≢ at → store_at at x words word ≡ words word
store_at-other at x words word n = cond-false (word == at) _ _ (unequal word at n)

pub flush_at-same : (line : ℕ) (words : ℕ → Word) (word : ℕ) → word / 8 ≡ line → flush_at line words word ≡ flush_word (words word)
flush_at-same line words word e = cond-true (word / 8 == line) _ _ (eq-eqb (word / 8) line e)

pub flush_at-other : (line : ℕ) (words : ℕ → Word) (word : ℕ) → word / 8 ≢ line → flush_at line words word ≡ words word
flush_at-other line words word n = cond-false (word / 8 == line) _ _ (unequal (word / 8) line n)

-- what holds of a word with and without the call
pub store_at-cases : (P : Word → Type 0) (at x : ℕ) (words : ℕ → Word) (word : ℕ) → (word ≡ at → P (store_word x (words word)))
    → (word ≢ at → P (words word)) → P (store_at at x words word)
store_at-cases P at x words word same other = by_test P word at (store_word x (words word)) (words word) same other

pub flush_at-cases : (P : Word → Type 0) (line : ℕ) (words : ℕ → Word) (word : ℕ) → (word / 8 ≡ line → P (flush_word (words word)))
    → (word / 8 ≢ line → P (words word)) → P (flush_at line words word)
flush_at-cases P line words word same other = by_test P (word / 8) line (flush_word (words word)) (words word) same other

-- a store keeps each candidate
pub store_at-MayBe : (at x : ℕ) (words : ℕ → Word) (word y : ℕ) → MayBe (words word) y → MayBe (store_at at x words word) y
store_at-MayBe at x words word y may =
    store_at-cases (λ w. MayBe w y) at x words word (λ e. MayBe-store_word x (words word) y may) (λ n. may)

-- and adds one to one word
pub MayBe-store_at : (at x : ℕ) (words : ℕ → Word) (word y : ℕ) → MayBe (store_at at x words word) y
    → MayBe (words word) y ⊎ ((at ≡ word) × (x ≡ y))
MayBe-store_at at x words word y may =
    store_at-cases (λ w. MayBe w y → MayBe (words word) y ⊎ ((at ≡ word) × (x ≡ y))) at x words word
    (λ e m. elim (MayBe-store_word-cases x (words word) y m) [ inl was ↦ inl was | inr is ↦ inr (sym e, is) ])
    (λ n m. inl m) may

-- a flush changes no candidate
pub flush_at-MayBe : (line : ℕ) (words : ℕ → Word) (word y : ℕ) → MayBe (words word) y → MayBe (flush_at line words word) y
flush_at-MayBe line words word y may =
    flush_at-cases (λ w. MayBe w y) line words word (λ e. flush_word-MayBe (words word) y may) (λ n. may)

pub MayBe-flush_at : (line : ℕ) (words : ℕ → Word) (word y : ℕ) → MayBe (flush_at line words word) y → MayBe (words word) y
MayBe-flush_at line words word y may =
    flush_at-cases (λ w. MayBe w y → MayBe (words word) y) line words word (λ e m. MayBe-flush_word (words word) y m) (λ n m. m) may

-- a fence adds no image
pub IsImage-fenced : (words : ℕ → Word) (image : ℕ → ℕ) → IsImage (fenced words) image → IsImage words image
IsImage-fenced words image is word = MayBe-fence_word (words word) (image word) (is word)

pub newest-store_at : (at x : ℕ) (words : ℕ → Word) (word : ℕ) → (store_at at x words word).newest ≡ cond (word == at) x (words word).newest
newest-store_at at x words word =
    elim (word == at) as (λ b. (cond b (store_word x (words word)) (words word)).newest ≡ cond b x (words word).newest) [ true ↦ refl | false ↦ refl ]

pub newest-flush_at : (line : ℕ) (words : ℕ → Word) (word : ℕ) → (flush_at line words word).newest ≡ (words word).newest
newest-flush_at line words word = flush_at-cases (λ w. w.newest ≡ (words word).newest) line words word (λ e. refl) (λ n. refl)

-- Runs of stores

pub IsImage-stores : (pairs : List (ℕ × ℕ)) (words : ℕ → Word) (image : ℕ → ℕ) → IsImage words image → IsImage (stores pairs words) image
IsImage-stores [] words image is = is
IsImage-stores (pair ∷ pairs) words image is =
    IsImage-stores pairs (store_at pair.0 pair.1 words) image (λ word. store_at-MayBe pair.0 pair.1 words word (image word) (is word))

-- the candidates of a word are those that it had and those that the pairs store there
pub MayBe-stores : (pairs : List (ℕ × ℕ)) (words : ℕ → Word) (word y : ℕ) → MayBe (stores pairs words word) y
    → MayBe (words word) y ⊎ IsStored pairs word y
MayBe-stores [] words word y may = inl may
MayBe-stores (pair ∷ pairs) words word y may =
    elim (MayBe-stores pairs (store_at pair.0 pair.1 words) word y may) [
      | inl before ↦
          elim (MayBe-store_at pair.0 pair.1 words word y before) [ inl was ↦ inl was | inr is ↦ inr (inl is) ]
      | inr later ↦ inr (inr later)
    ]

pub stores-append : (a b : List (ℕ × ℕ)) (words : ℕ → Word) → stores (a ++ b) words ≡ stores b (stores a words)
stores-append [] b words = refl
stores-append (pair ∷ a) b words = stores-append a b (store_at pair.0 pair.1 words)

written-same : (pairs : List (ℕ × ℕ)) (f h : ℕ → ℕ) (word : ℕ) → ((w : ℕ) → f w ≡ h w) → written pairs f word ≡ written pairs h word
written-same [] f h word e = e word
written-same (pair ∷ pairs) f h word e =
    written-same pairs (λ w. cond (w == pair.0) pair.1 (f w)) (λ w. cond (w == pair.0) pair.1 (h w)) word
    (λ w. ap (λ (x : ℕ). cond (w == pair.0) pair.1 x) (e w))

-- what loads return after the stores
pub newest-stores : (pairs : List (ℕ × ℕ)) (words : ℕ → Word) (word : ℕ) → (stores pairs words word).newest ≡ written pairs (image_of words) word
newest-stores [] words word = refl
newest-stores (pair ∷ pairs) words word =
    newest-stores pairs (store_at pair.0 pair.1 words) word
    ∙ written-same pairs (image_of (store_at pair.0 pair.1 words)) (λ w. cond (w == pair.0) pair.1 (words w).newest) word
    (λ w. newest-store_at pair.0 pair.1 words w)

-- Runs of flushes

pub MayBe-flushes : (lines : List ℕ) (words : ℕ → Word) (word y : ℕ) → MayBe (flushes lines words word) y → MayBe (words word) y
MayBe-flushes [] words word y may = may
MayBe-flushes (line ∷ lines) words word y may =
    MayBe-flush_at line words word y (MayBe-flushes lines (flush_at line words) word y may)

pub flushes-IsImage : (lines : List ℕ) (words : ℕ → Word) (image : ℕ → ℕ) → IsImage words image → IsImage (flushes lines words) image
flushes-IsImage [] words image is = is
flushes-IsImage (line ∷ lines) words image is =
    flushes-IsImage lines (flush_at line words) image (λ word. flush_at-MayBe line words word (image word) (is word))

pub newest-flushes : (lines : List ℕ) (words : ℕ → Word) (word : ℕ) → (flushes lines words word).newest ≡ (words word).newest
newest-flushes [] words word = refl
newest-flushes (line ∷ lines) words word = newest-flushes lines (flush_at line words) word ∙ newest-flush_at line words word

-- a word that had one candidate after a fence has one after flushes and a fence
none-flushes : (lines : List ℕ) (words : ℕ → Word) (word : ℕ) → (fenced words word).older ≡ [] → (fenced (flushes lines words) word).older ≡ []
none-flushes [] words word none = none
none-flushes (line ∷ lines) words word none =
    none-flushes lines (flush_at line words) word
    (flush_at-cases (λ w. (fence_word w).older ≡ []) line words word (λ e. none-passed (words word).older) (λ n. none))

-- and so has each word of a line that was flushed
none-flushed : (lines : List ℕ) (words : ℕ → Word) (word : ℕ) → IsLine lines (word / 8) → (fenced (flushes lines words) word).older ≡ []
none-flushed [] words word none = absurd none
none-flushed (line ∷ lines) words word (inl is) =
    none-flushes lines (flush_at line words) word
    (flush_at-cases (λ w. (fence_word w).older ≡ []) line words word (λ e. none-passed (words word).older) (λ n. absurd (n (sym is))))
none-flushed (line ∷ lines) words word (inr later) = none-flushed lines (flush_at line words) word later

pub flushes-append : (a b : List ℕ) (words : ℕ → Word) → flushes (a ++ b) words ≡ flushes b (flushes a words)
flushes-append [] b words = refl
flushes-append (line ∷ a) b words = flushes-append a b (flush_at line words)

-- A stage: stores, flushes and a fence

-- what loads return after it
pub image_of-staged : (pairs : List (ℕ × ℕ)) (lines : List ℕ) (words : ℕ → Word) (word : ℕ)
    → image_of (flushes lines (stores pairs words)) word ≡ written pairs (image_of words) word
image_of-staged pairs lines words word = newest-flushes lines (stores pairs words) word ∙ newest-stores pairs words word

-- in a flushed line a crash leaves exactly that
pub Only-staged : (pairs : List (ℕ × ℕ)) (lines : List ℕ) (words : ℕ → Word) (word : ℕ) → IsLine lines (word / 8)
    → Only (fenced (flushes lines (stores pairs words)) word) (written pairs (image_of words) word)
Only-staged pairs lines words word line =
    let after : Word = flushes lines (stores pairs words) word in
    subst (λ (x : ℕ). Only (fence_word after) x) (image_of-staged pairs lines words word)
    (Only-alone (fence_word after) (none-flushed lines (stores pairs words) word line))

-- until the fence a crash leaves each word as it could before, or as one of the pairs stores it
pub IsPartlyStored-staged : (pairs : List (ℕ × ℕ)) (lines : List ℕ) (words : ℕ → Word) (image : ℕ → ℕ)
    → IsImage (flushes lines (stores pairs words)) image → IsPartlyStored pairs words image
IsPartlyStored-staged pairs lines words image is word =
    MayBe-stores pairs words word (image word) (MayBe-flushes lines (stores pairs words) word (image word) (is word))

-- where no pair stores, a crash after it leaves nothing that it could not leave before
pub MayBe-staged : (pairs : List (ℕ × ℕ)) (lines : List ℕ) (words : ℕ → Word) (word y : ℕ) → IsOutside pairs word
    → MayBe (fenced (flushes lines (stores pairs words)) word) y → MayBe (words word) y
MayBe-staged pairs lines words word y out may =
    elim (MayBe-stores pairs words word y
    (MayBe-flushes lines (stores pairs words) word y (MayBe-fence_word (flushes lines (stores pairs words) word) y may))) [
      | inl was ↦ was
      | inr stored ↦ absurd (out y stored)
    ]

-- words with one candidate each have one image
pub IsImage-settled : (words : ℕ → Word) (image : ℕ → ℕ) → IsSettled words → IsImage words image → (word : ℕ) → image word ≡ image_of words word
IsImage-settled words image alone is word = MayBe-alone (words word) (image word) (alone word) (is word)

-- Values in consecutive words

pub length-pairs_from : (first : ℕ) (values : List ℕ) → length (pairs_from first values) ≡ length values
length-pairs_from first [] = refl
length-pairs_from first (x ∷ values) = ap suc (length-pairs_from (first + 1) values)

pub get_or-pairs_from : (first : ℕ) (values : List ℕ) (i : ℕ) → i < length values
    → get_or (pairs_from first values) i (0, 0) ≡ (first + i, get_or values i 0)
get_or-pairs_from first [] i below = absurd (omega arith)
get_or-pairs_from first (x ∷ values) zero below = let e : first ≡ first + 0 = omega arith in ap (λ (w : ℕ). (w, x)) e
get_or-pairs_from first (x ∷ values) (suc i) below =
    let e : (first + 1) + i ≡ first + suc i = omega arith in
    get_or-pairs_from (first + 1) values i (omega arith) ∙ ap (λ (w : ℕ). (w, get_or values i 0)) e

pub length-lines_from : (first count : ℕ) → length (lines_from first count) ≡ count
length-lines_from first zero = refl
length-lines_from first (suc n) = ap suc (length-lines_from (first + 1) n)

pub get_or-lines_from : (first count i : ℕ) → i < count → get_or (lines_from first count) i 0 ≡ first + i
get_or-lines_from first zero i below = absurd (omega arith)
get_or-lines_from first (suc n) zero below = omega arith
get_or-lines_from first (suc n) (suc i) below =
    let e : (first + 1) + i ≡ first + suc i = omega arith in
    get_or-lines_from (first + 1) n i (omega arith) ∙ e

-- what such values store, and where
pub IsStored-pairs_from : (first : ℕ) (values : List ℕ) (word x : ℕ) → IsStored (pairs_from first values) word x
    → (first ≤ word) × (word < first + length values) × (get_or values (word - first) 0 ≡ x)
IsStored-pairs_from first [] word x none = absurd none
IsStored-pairs_from first (v ∷ values) word x (inl here) = (
  omega (arith, here.0),
  omega (arith, here.0),
  let e : word - first ≡ 0 = omega (arith, here.0) in ap (λ (i : ℕ). get_or (v ∷ values) i 0) e ∙ here.1,
)
IsStored-pairs_from first (v ∷ values) word x (inr later) =
    let more = IsStored-pairs_from (first + 1) values word x later in (
      omega (arith, more.0),
      omega (arith, more.1),
      let e : word - first ≡ suc (word - (first + 1)) = omega (arith, more.0) in ap (λ (i : ℕ). get_or (v ∷ values) i 0) e ∙ more.2,
    )

pub pairs_from-IsStored : (first : ℕ) (values : List ℕ) (i : ℕ) → i < length values
    → IsStored (pairs_from first values) (first + i) (get_or values i 0)
pairs_from-IsStored first [] i below = absurd (omega arith)
pairs_from-IsStored first (v ∷ values) zero below = inl (omega arith, refl)
pairs_from-IsStored first (v ∷ values) (suc i) below =
    let e : (first + 1) + i ≡ first + suc i = omega arith in
    inr (subst (λ (w : ℕ). IsStored (pairs_from (first + 1) values) w (get_or values i 0)) e (pairs_from-IsStored (first + 1) values i (omega arith)))

-- a line among consecutive lines
pub IsLine-lines_from : (first count line : ℕ) → first ≤ line → line < first + count → IsLine (lines_from first count) line
IsLine-lines_from first zero line low high = absurd (omega arith)
IsLine-lines_from first (suc n) line low high =
    elim (same_or_other first line) [
      | inl e ↦ inl e
      | inr n' ↦ inr (IsLine-lines_from (first + 1) n line (omega arith) (omega arith))
    ]

-- Concatenated lists

pub IsStored-append : (a b : List (ℕ × ℕ)) (word x : ℕ) → IsStored (a ++ b) word x → IsStored a word x ⊎ IsStored b word x
IsStored-append [] b word x h = inr h
IsStored-append (pair ∷ a) b word x (inl here) = inl (inl here)
IsStored-append (pair ∷ a) b word x (inr later) =
    elim (IsStored-append a b word x later) [ inl prefix ↦ inl (inr prefix) | inr back ↦ inr back ]

pub IsStored-append_left : (a b : List (ℕ × ℕ)) (word x : ℕ) → IsStored a word x → IsStored (a ++ b) word x
IsStored-append_left [] b word x h = absurd h
IsStored-append_left (pair ∷ a) b word x (inl here) = inl here
IsStored-append_left (pair ∷ a) b word x (inr later) = inr (IsStored-append_left a b word x later)

pub IsStored-append_right : (a b : List (ℕ × ℕ)) (word x : ℕ) → IsStored b word x → IsStored (a ++ b) word x
IsStored-append_right [] b word x h = h
IsStored-append_right (pair ∷ a) b word x h = inr (IsStored-append_right a b word x h)

pub IsLine-append_left : (a b : List ℕ) (line : ℕ) → IsLine a line → IsLine (a ++ b) line
IsLine-append_left [] b line h = absurd h
IsLine-append_left (l ∷ a) b line (inl here) = inl here
IsLine-append_left (l ∷ a) b line (inr later) = inr (IsLine-append_left a b line later)

pub IsLine-append_right : (a b : List ℕ) (line : ℕ) → IsLine b line → IsLine (a ++ b) line
IsLine-append_right [] b line h = h
IsLine-append_right (l ∷ a) b line h = inr (IsLine-append_right a b line h)

-- The image with pairs written

pub written-append : (a b : List (ℕ × ℕ)) (image : ℕ → ℕ) → written (a ++ b) image ≡ written b (written a image)
written-append [] b image = refl
written-append (pair ∷ a) b image = written-append a b (λ word. cond (word == pair.0) pair.1 (image word))

pub written-outside : (pairs : List (ℕ × ℕ)) (image : ℕ → ℕ) (word : ℕ) → IsOutside pairs word → written pairs image word ≡ image word
written-outside [] image word out = refl
written-outside (pair ∷ pairs) image word out =
    written-outside pairs (λ w. cond (w == pair.0) pair.1 (image w)) word (λ x later. out x (inr later))
    ∙ cond-false (word == pair.0) pair.1 (image word) (unequal word pair.0 (λ e. out pair.1 (inl (sym e, refl))))

-- a word holds what one of the pairs stores there, or what it held
pub written-cases : (pairs : List (ℕ × ℕ)) (image : ℕ → ℕ) (word : ℕ)
    → (IsOutside pairs word × (written pairs image word ≡ image word)) ⊎ IsStored pairs word (written pairs image word)
written-cases [] image word = inl (λ x h. h, refl)
written-cases (pair ∷ pairs) image word =
    let x : ℕ = written (pair ∷ pairs) image word in
    elim (written-cases pairs (λ w. cond (w == pair.0) pair.1 (image w)) word) [
      | inl out ↦
          by_test (λ v. x ≡ v → (IsOutside (pair ∷ pairs) word × (x ≡ image word)) ⊎ IsStored (pair ∷ pairs) word x) word pair.0 pair.1 (image word)
          (λ e is. inr (inl (sym e, sym is)))
          (λ n is. inl (λ y h. elim h [ inl here ↦ n (sym here.0) | inr later ↦ out.0 y later ], is)) out.1
      | inr later ↦ inr (inr later)
    ]

-- a pair stores to this word, or none does
pub stored_or_outside : (pairs : List (ℕ × ℕ)) (word : ℕ) → ((x : ℕ) × IsStored pairs word x) ⊎ IsOutside pairs word
stored_or_outside pairs word =
    elim (written-cases pairs (λ w. 0) word) [ inl out ↦ inr out.0 | inr stored ↦ inl (written pairs (λ w. 0) word, stored) ]

-- where the pairs store only this value at a word, it holds that
pub written-stored : (pairs : List (ℕ × ℕ)) (image : ℕ → ℕ) (word x : ℕ) → IsStored pairs word x
    → ((y : ℕ) → IsStored pairs word y → y ≡ x) → written pairs image word ≡ x
written-stored pairs image word x stored one =
    elim (written-cases pairs image word) [
      | inl out ↦ absurd (out.0 x stored)
      | inr is ↦ one (written pairs image word) is
    ]

-- values in consecutive words are read where they were stored
pub written-pairs_from : (first : ℕ) (values : List ℕ) (image : ℕ → ℕ) (i : ℕ) → i < length values
    → written (pairs_from first values) image (first + i) ≡ get_or values i 0
written-pairs_from first values image i below =
    written-stored (pairs_from first values) image (first + i) (get_or values i 0) (pairs_from-IsStored first values i below)
    (λ y stored.
    let at = IsStored-pairs_from first values (first + i) y stored in
    let e : (first + i) - first ≡ i = omega arith in
    sym at.2 ∙ ap (λ (k : ℕ). get_or values k 0) e)

-- and nowhere else
pub pairs_from-outside : (first : ℕ) (values : List ℕ) (word : ℕ) → (word < first) ⊎ (first + length values ≤ word)
    → IsOutside (pairs_from first values) word
pairs_from-outside first values word side x stored =
    let at = IsStored-pairs_from first values word x stored in
    elim side [ inl low ↦ omega (arith, low, at.0) | inr high ↦ omega (arith, high, at.1) ]
