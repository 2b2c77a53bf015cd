-- The bytes of an extent are read back from its words.
use Rattle.std.proofs.Common.{◌≡◌, ℕ, zero, suc, ◌+◌, ◌*◌, ◌/◌, ◌<◌, ◌≤◌, List, [], ◌∷◌, ◌++◌, length, take, drop, get_or, refl, sym, ap, ◌∙◌, arith}
use Rattle.std.proofs.Math.Nat.{add_assoc}
use Rattle.std.proofs.Math.Seq.{drop-cons, drop-length}
use Rattle.std.proofs.lemmas.Nat.{le_bytes_8}
use Rattle.std.specs.List.{flat_map}
use Rattle.std.specs.Int.{w64, from_le_bytes, to_le_bytes}
use Rattle.model.specs.Image.{Image, words_from, bytes_at}
use Rattle.heap_layout.specs.Put.{word_of_bytes, packed}

-- `count` bytes, starting at offset `at`, with zeros past the end
abbrev pub bytes_from : List ℕ → ℕ → ℕ → List ℕ
bytes_from bytes at zero = []
bytes_from bytes at (suc count) = get_or bytes at 0 ∷ bytes_from bytes (at + 1) count

pub length-packed : (bytes : List ℕ) (at count : ℕ) → length (packed bytes at count) ≡ count
length-packed bytes at zero = refl
length-packed bytes at (suc count) = ap suc (length-packed bytes (at + 8) count)

pub get_or-packed : (bytes : List ℕ) (at count i : ℕ) → i < count → get_or (packed bytes at count) i 0 ≡ word_of_bytes bytes (at + 8 * i)
get_or-packed bytes at zero i below = absurd (omega arith)
get_or-packed bytes at (suc count) zero below = let e : at + 8 * 0 ≡ at = omega arith in rw e
get_or-packed bytes at (suc count) (suc i) below =
    let e : (at + 8) + 8 * i ≡ at + 8 * suc i = omega arith in
    get_or-packed bytes (at + 8) count i (omega arith) ∙ ap (word_of_bytes bytes) e

-- the eight bytes of a word
bytes_from-eight : (bytes : List ℕ) (at : ℕ) → bytes_from bytes at 8
    ≡ get_or bytes at 0 ∷ get_or bytes (at + 1) 0 ∷ get_or bytes (at + 2) 0 ∷ get_or bytes (at + 3) 0
    ∷ get_or bytes (at + 4) 0 ∷ get_or bytes (at + 5) 0 ∷ get_or bytes (at + 6) 0 ∷ get_or bytes (at + 7) 0 ∷ []
bytes_from-eight bytes at = simp add_assoc

bytes_from-small : (bytes : List ℕ) (at count : ℕ) → ((i : ℕ) → get_or bytes i 0 < 256) → (i : ℕ) → get_or (bytes_from bytes at count) i 0 < 256
bytes_from-small bytes at zero small i = omega arith
bytes_from-small bytes at (suc count) small zero = small at
bytes_from-small bytes at (suc count) small (suc i) = bytes_from-small bytes (at + 1) count small i

to_le_bytes-word_of_bytes : (bytes : List ℕ) (at : ℕ) → ((i : ℕ) → get_or bytes i 0 < 256) → to_le_bytes w64 (word_of_bytes bytes at) ≡ bytes_from bytes at 8
to_le_bytes-word_of_bytes bytes at small =
    le_bytes_8 (bytes_from bytes at 8) (word_of_bytes bytes at) refl (bytes_from-small bytes at 8 small) (ap (from_le_bytes w64) (sym (bytes_from-eight bytes at)))

bytes_from-append : (bytes : List ℕ) (at a b : ℕ) → bytes_from bytes at a ++ bytes_from bytes (at + a) b ≡ bytes_from bytes at (a + b)
bytes_from-append bytes at zero b =
    let e : at + 0 ≡ at = omega arith in
    rw e (let f : b ≡ 0 + b = omega arith in ap (bytes_from bytes at) f)
bytes_from-append bytes at (suc a) b =
    let e : at + suc a ≡ (at + 1) + a = omega arith in
    rw (e, bytes_from-append bytes (at + 1) a b) (let f : suc (a + b) ≡ suc a + b = omega arith in ap (bytes_from bytes at) f)

-- the bytes of packed words
flat_map-packed : (bytes : List ℕ) (at count : ℕ) → ((i : ℕ) → get_or bytes i 0 < 256)
    → flat_map (to_le_bytes w64) (packed bytes at count) ≡ bytes_from bytes at (8 * count)
flat_map-packed bytes at zero small = let e : 0 ≡ 8 * 0 = omega arith in ap (bytes_from bytes at) e
flat_map-packed bytes at (suc count) small =
    let e : 8 + 8 * count ≡ 8 * suc count = omega arith in
    ap (λ (prefix : List ℕ). prefix ++ flat_map (to_le_bytes w64) (packed bytes (at + 8) count))
    (to_le_bytes-word_of_bytes bytes at small)
    ∙ ap (λ (rest : List ℕ). bytes_from bytes at 8 ++ rest) (flat_map-packed bytes (at + 8) count small)
    ∙ bytes_from-append bytes at 8 (8 * count) ∙ ap (bytes_from bytes at) e

-- the prefix of the bytes
take-bytes_from : (bytes : List ℕ) (at count room : ℕ) → at + count ≡ length bytes → count ≤ room → take count (bytes_from bytes at room) ≡ drop at bytes
take-bytes_from bytes at zero room e fits = let all : at ≡ length bytes = omega arith in rw (all, drop-length bytes)
take-bytes_from bytes at (suc count) zero e fits = absurd (omega arith)
take-bytes_from bytes at (suc count) (suc room) e fits =
    let one : at + 1 ≡ suc at = omega arith in
    ap (λ (rest : List ℕ). get_or bytes at 0 ∷ rest) (take-bytes_from bytes (at + 1) count room (omega arith) (omega arith) ∙ ap (λ (n : ℕ). drop n bytes) one)
    ∙ sym (drop-cons bytes at 0 (omega arith))

-- words that are the packed ones
words_from-packed : (image : Image) (first : ℕ) (bytes : List ℕ) (at count : ℕ)
    → ((j : ℕ) → j < count → image (first + j) ≡ word_of_bytes bytes (at + 8 * j)) → words_from image first count ≡ packed bytes at count
words_from-packed image first bytes at zero same = refl
words_from-packed image first bytes at (suc count) same =
    let e : first ≡ first + 0 = omega arith in
    let f : at + 8 * 0 ≡ at = omega arith in
    let head : image first ≡ word_of_bytes bytes at = ap image e ∙ same 0 (omega arith) ∙ ap (word_of_bytes bytes) f in
    let rest = words_from-packed image (first + 1) bytes (at + 8) count (λ j below.
    let g : (first + 1) + j ≡ first + suc j = omega arith in
    let h : (at + 8) + 8 * j ≡ at + 8 * suc j = omega arith in
    rw (g, h) (same (suc j) (omega arith))) in
    cc

-- What was packed is read back.
pub bytes_at-packed : (image : Image) (line : ℕ) (bytes : List ℕ) → ((i : ℕ) → get_or bytes i 0 < 256)
    → ((j : ℕ) → j < (length bytes + 7) / 8 → image (8 * line + j) ≡ word_of_bytes bytes (8 * j)) → bytes_at image line (length bytes) ≡ bytes
bytes_at-packed image line bytes small same =
    let count : ℕ = (length bytes + 7) / 8 in
    ap (λ (words : List ℕ). take (length bytes) (flat_map (to_le_bytes w64) words))
    (words_from-packed image (8 * line) bytes 0 count
    (λ j below. let e : 8 * j ≡ 0 + 8 * j = omega arith in same j below ∙ ap (word_of_bytes bytes) e))
    ∙ ap (take (length bytes)) (flat_map-packed bytes 0 count small)
    ∙ take-bytes_from bytes 0 (length bytes) (8 * count) (omega arith) (omega arith)
