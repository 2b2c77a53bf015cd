-- Words to bytes and back.
use Rattle.std.proofs.Common.{◌≡◌, ℕ, ◌+◌, ◌/◌, ◌%◌, ◌^◌, ◌<◌, ◌≤◌, zero, suc, List, [], ◌∷◌, ◌++◌, length, take, drop, get_or, refl, sym, ap, ◌∙◌, arith, append_assoc}
use Rattle.std.proofs.lemmas.List.{append-nil, get_or-drop, length-drop, drop-drop}
use Rattle.std.proofs.lemmas.Nat.{from_le_bytes-to_le_bytes_8, le_bytes_8}
use Rattle.std.specs.Int.{w64, from_le_bytes, to_le_bytes}
use Rattle.pmem_file.specs.Byte.{bytes_of, words_in, eight_at}

-- fewer than eight bytes are no word
pub words_in-short : (bytes : List ℕ) → length bytes < 8 → words_in bytes ≡ []
words_in-short [] short = refl
words_in-short (a ∷ []) short = refl
words_in-short (a ∷ b ∷ []) short = refl
words_in-short (a ∷ b ∷ c ∷ []) short = refl
words_in-short (a ∷ b ∷ c ∷ d ∷ []) short = refl
words_in-short (a ∷ b ∷ c ∷ d ∷ e ∷ []) short = refl
words_in-short (a ∷ b ∷ c ∷ d ∷ e ∷ f ∷ []) short = refl
words_in-short (a ∷ b ∷ c ∷ d ∷ e ∷ f ∷ g ∷ []) short = refl
words_in-short (a ∷ b ∷ c ∷ d ∷ e ∷ f ∷ g ∷ h ∷ bytes) short = absurd (omega arith)

-- the first word, and those after it
words_in-first : (bytes : List ℕ) → 8 ≤ length bytes → words_in bytes ≡ from_le_bytes w64 (eight_at bytes 0) ∷ words_in (drop 8 bytes)
words_in-first (a ∷ b ∷ c ∷ d ∷ e ∷ f ∷ g ∷ h ∷ bytes) room = refl
words_in-first [] room = absurd (omega arith)
words_in-first (a ∷ []) room = absurd (omega arith)
words_in-first (a ∷ b ∷ []) room = absurd (omega arith)
words_in-first (a ∷ b ∷ c ∷ []) room = absurd (omega arith)
words_in-first (a ∷ b ∷ c ∷ d ∷ []) room = absurd (omega arith)
words_in-first (a ∷ b ∷ c ∷ d ∷ e ∷ []) room = absurd (omega arith)
words_in-first (a ∷ b ∷ c ∷ d ∷ e ∷ f ∷ []) room = absurd (omega arith)
words_in-first (a ∷ b ∷ c ∷ d ∷ e ∷ f ∷ g ∷ []) room = absurd (omega arith)

-- the bytes at a place of what is left are those further on
plus-zero : (n : ℕ) → n + 0 ≡ n
plus-zero n = omega arith

get_or-drop' : (bytes : List ℕ) (at k : ℕ) → get_or (drop at bytes) k 0 ≡ get_or bytes (at + k) 0
get_or-drop' bytes at k = get_or-drop at bytes k 0

eight_at-drop : (bytes : List ℕ) (at : ℕ) → eight_at (drop at bytes) 0 ≡ eight_at bytes at
eight_at-drop bytes at =
    rw (get_or-drop' bytes at 0, get_or-drop' bytes at 1, get_or-drop' bytes at 2, get_or-drop' bytes at 3, get_or-drop' bytes at 4, get_or-drop' bytes at 5, get_or-drop' bytes at 6, get_or-drop' bytes at 7, plus-zero at) refl

-- the word at a place, and those after it
pub words_in-next : (bytes : List ℕ) (at : ℕ) → at + 8 ≤ length bytes
    → words_in (drop at bytes) ≡ from_le_bytes w64 (eight_at bytes at) ∷ words_in (drop (at + 8) bytes)
words_in-next bytes at room =
    words_in-first (drop at bytes) (omega (arith, length-drop at bytes))
    ∙ ap (λ (rest : List ℕ). from_le_bytes w64 (eight_at (drop at bytes) 0) ∷ words_in rest) (drop-drop 8 at bytes)
    ∙ ap (λ (xs : List ℕ). from_le_bytes w64 xs ∷ words_in (drop (at + 8) bytes)) (eight_at-drop bytes at)

-- the words of the bytes of words are these words
pub words_in-bytes_of : (words : List ℕ) → ((k : ℕ) → get_or words k 0 < 2 ^ 64) → words_in (bytes_of words) ≡ words
words_in-bytes_of [] fits = refl
words_in-bytes_of (word ∷ words) fits =
    ap (λ (x : ℕ). x ∷ words_in (bytes_of words)) (from_le_bytes-to_le_bytes_8 word (fits 0))
    ∙ ap (λ (xs : List ℕ). word ∷ xs) (words_in-bytes_of words (λ k. fits (suc k)))

-- each of the first elements of a list of small numbers is small
pub take-below : (n most : ℕ) (xs : List ℕ) → 0 < most → ((k : ℕ) → get_or xs k 0 < most) → (k : ℕ) → get_or (take n xs) k 0 < most
take-below zero most xs some fits k = some
take-below (suc n) most [] some fits k = some
take-below (suc n) most (x ∷ xs) some fits zero = fits 0
take-below (suc n) most (x ∷ xs) some fits (suc k) = take-below n most xs some (λ j. fits (suc j)) k

-- and the bytes of the words of bytes are these bytes, where none is left over
pub bytes_of-words_in : (bytes : List ℕ) → length bytes % 8 ≡ 0 → ((k : ℕ) → get_or bytes k 0 < 256) → bytes_of (words_in bytes) ≡ bytes
bytes_of-words_in [] whole fits = refl
bytes_of-words_in (a ∷ []) whole fits = absurd (omega (arith, whole))
bytes_of-words_in (a ∷ b ∷ []) whole fits = absurd (omega (arith, whole))
bytes_of-words_in (a ∷ b ∷ c ∷ []) whole fits = absurd (omega (arith, whole))
bytes_of-words_in (a ∷ b ∷ c ∷ d ∷ []) whole fits = absurd (omega (arith, whole))
bytes_of-words_in (a ∷ b ∷ c ∷ d ∷ e ∷ []) whole fits = absurd (omega (arith, whole))
bytes_of-words_in (a ∷ b ∷ c ∷ d ∷ e ∷ f ∷ []) whole fits = absurd (omega (arith, whole))
bytes_of-words_in (a ∷ b ∷ c ∷ d ∷ e ∷ f ∷ g ∷ []) whole fits = absurd (omega (arith, whole))
bytes_of-words_in (a ∷ b ∷ c ∷ d ∷ e ∷ f ∷ g ∷ h ∷ bytes) whole fits =
    let first = a ∷ b ∷ c ∷ d ∷ e ∷ f ∷ g ∷ h ∷ [] in
    ap (λ (xs : List ℕ). xs ++ bytes_of (words_in bytes)) (le_bytes_8 first (from_le_bytes w64 first) refl (take-below 8 256 (a ∷ b ∷ c ∷ d ∷ e ∷ f ∷ g ∷ h ∷ bytes) (omega arith) fits) refl)
    ∙ ap (λ (xs : List ℕ). first ++ xs)
    (bytes_of-words_in bytes (omega (arith, whole)) (λ k. fits (suc (suc (suc (suc (suc (suc (suc (suc k))))))))))

-- one word more
pub bytes_of-more : (words : List ℕ) (word : ℕ) → bytes_of (words ++ word ∷ []) ≡ bytes_of words ++ to_le_bytes w64 word
bytes_of-more [] word = append-nil (to_le_bytes w64 word)
bytes_of-more (w ∷ words) word =
    ap (λ (bytes : List ℕ). to_le_bytes w64 w ++ bytes) (bytes_of-more words word) ∙ sym (append_assoc (to_le_bytes w64 w) (bytes_of words) (to_le_bytes w64 word))

-- eight bytes are a word
pub length-words_in : (bytes : List ℕ) → length (words_in bytes) ≡ length bytes / 8
length-words_in [] = refl
length-words_in (a ∷ []) = refl
length-words_in (a ∷ b ∷ []) = refl
length-words_in (a ∷ b ∷ c ∷ []) = refl
length-words_in (a ∷ b ∷ c ∷ d ∷ []) = refl
length-words_in (a ∷ b ∷ c ∷ d ∷ e ∷ []) = refl
length-words_in (a ∷ b ∷ c ∷ d ∷ e ∷ f ∷ []) = refl
length-words_in (a ∷ b ∷ c ∷ d ∷ e ∷ f ∷ g ∷ []) = refl
length-words_in (a ∷ b ∷ c ∷ d ∷ e ∷ f ∷ g ∷ h ∷ bytes) =
    let rest = length-words_in bytes in
    omega (arith, rest)
