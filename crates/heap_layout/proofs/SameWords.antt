-- The same words give the same bytes.
use Rattle.std.proofs.Common.{◌≡◌, ℕ, zero, suc, ◌+◌, ◌*◌, ◌/◌, ◌<◌, List, take, refl, ap, arith}
use Rattle.std.specs.List.{flat_map}
use Rattle.std.specs.Int.{w64, to_le_bytes}
use Rattle.model.specs.Image.{Image, words_from, bytes_at}

words_from-same : (base image : Image) (first count : ℕ) → ((j : ℕ) → j < count → image (first + j) ≡ base (first + j))
    → words_from image first count ≡ words_from base first count
words_from-same base image first zero same = refl
words_from-same base image first (suc count) same =
    let e : first ≡ first + 0 = omega arith in
    let head : image first ≡ base first = rw e (same 0 (omega arith)) in
    let rest = words_from-same base image (first + 1) count (λ j below. let f : (first + 1) + j ≡ first + suc j = omega arith in rw f (same (suc j) (omega arith))) in
    cc

pub bytes_at-same : (base image : Image) (line count : ℕ) → ((j : ℕ) → j < (count + 7) / 8 → image (8 * line + j) ≡ base (8 * line + j))
    → bytes_at image line count ≡ bytes_at base line count
bytes_at-same base image line count same =
    ap (λ (words : List ℕ). take count (flat_map (to_le_bytes w64) words)) (words_from-same base image (8 * line) ((count + 7) / 8) same)
