-- The bytes of an extent, read word by word, and the record in an entry.
use Rattle.std.proofs.Common.{◌≡◌, ℕ, zero, suc, ◌+◌, ◌*◌, ◌/◌, List, [], ◌∷◌, ◌++◌, length, w64, refl, ap, ◌∙◌, arith, add-one, append-nil, length-append, length-take}
use Rattle.std.specs.Int.{to_le_bytes}
use Rattle.std.specs.List.{flat_map}
use Rattle.std.proofs.lemmas.Grind.{flat_map-append}
use Rattle.model.specs.Image.{Image, words_from, bytes_at}

words_from-suc : (image : Image) (first count : ℕ) → words_from image first (suc count) ≡ words_from image first count ++ image (first + count) ∷ []
words_from-suc image first zero = grind arith
words_from-suc image first (suc count) = grind (arith, words_from-suc image (first + 1) count)

pub length-words_from : (image : Image) (first count : ℕ) → length (words_from image first count) ≡ count
length-words_from image first zero = refl
length-words_from image first (suc count) = ap suc (length-words_from image (first + 1) count)

pub length-word_bytes : (words : List ℕ) → length (flat_map (to_le_bytes w64) words) ≡ 8 * length words
length-word_bytes [] = refl
length-word_bytes (word ∷ words) = let rest = length-word_bytes words in omega (arith, length-append (to_le_bytes w64 word) (flat_map (to_le_bytes w64) words))

-- the bytes of one more word
pub word_bytes-more : (image : Image) (first count : ℕ) → flat_map (to_le_bytes w64) (words_from image first (count + 1)) ≡ flat_map (to_le_bytes w64) (words_from image first count) ++ to_le_bytes w64 (image (first + count))
word_bytes-more image first count =
    let more : words_from image first (count + 1) ≡ words_from image first count ++ image (first + count) ∷ [] = rw add-one (words_from-suc image first count) in
    ap (flat_map (to_le_bytes w64)) more ∙ flat_map-append (to_le_bytes w64) (words_from image first count) (image (first + count) ∷ [])
    ∙ ap (λ last. flat_map (to_le_bytes w64) (words_from image first count) ++ last) (append-nil (to_le_bytes w64 (image (first + count))))

pub length-bytes_at : (image : Image) (line count : ℕ) → length (bytes_at image line count) ≡ count
length-bytes_at image line count =
    let words = words_from image (8 * line) ((count + 7) / 8) in
    length-take count (flat_map (to_le_bytes w64) words) ∙ omega (arith, length-word_bytes words, length-words_from image (8 * line) ((count + 7) / 8))
