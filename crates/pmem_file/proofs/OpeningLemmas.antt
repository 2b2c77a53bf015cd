-- The blocks of a file that were read and written back, one after another.
use Rattle.std.proofs.Common.{◌≡◌, ℕ, ◌+◌, ◌*◌, ◌≤◌, zero, suc, Bool, List, ◌++◌, length, take, drop, refl, sym, subst, ap, ◌∙◌, arith}
use Rattle.std.proofs.lemmas.List.{take-append-le, drop-append-le, length-drop, take_all}
use Rattle.std.proofs.Math.Seq.{drop-append_seam}
use Rattle.pmem_file.specs.declared.run.TheConstants.{LINES_A_WRITE}
use Rattle.pmem_file.specs.Byte.{bytes_of, words_in}
use Rattle.pmem_file.specs.Line.{run_bytes}
use Rattle.pmem_file.specs.Opening.{Step, with_block, with_blocks}

-- a part of a list that has grown behind it
part-grown : (words more : List ℕ) (n m : ℕ) → m + n ≤ length words → take n (drop m (words ++ more)) ≡ take n (drop m words)
part-grown words more n m room =
    ap (λ (xs : List ℕ). take n xs) (drop-append-le m words more (omega (arith, room)))
    ∙ take-append-le n (drop m words) more (omega (arith, room, length-drop m words))

-- the part that it has grown by
part-new : (words more : List ℕ) (n m : ℕ) → length words ≡ m → length more ≤ n → take n (drop m (words ++ more)) ≡ more
part-new words more n m is short =
    subst (λ (k : ℕ). take n (drop k (words ++ more)) ≡ more) is
    (ap (λ (xs : List ℕ). take n xs) (drop-append_seam words more) ∙ take_all n more short)

-- the blocks stay where the words of later ones come behind them
with_blocks-grown : (back : Bool) (words more : List ℕ) (blocks : ℕ) (steps : List Step) → 8 * (LINES_A_WRITE * blocks) ≤ length words
    → with_blocks back (words ++ more) blocks steps ≡ with_blocks back words blocks steps
with_blocks-grown back words more zero steps room = refl
with_blocks-grown back words more (suc blocks) steps room =
    let first = LINES_A_WRITE * blocks in
    ap (λ (part : List ℕ). with_block back (64 * first) (bytes_of part) (with_blocks back (words ++ more) blocks steps))
    (part-grown words more (8 * LINES_A_WRITE) (8 * first) (omega (arith, room)))
    ∙ ap (λ (later : List Step). with_block back (64 * first) (run_bytes words (first, LINES_A_WRITE)) later)
    (with_blocks-grown back words more blocks steps (omega (arith, room)))

-- one block more
pub with_blocks-next : (back : Bool) (words bytes : List ℕ) (blocks : ℕ) (before steps : List Step) → length words ≡ 8 * (LINES_A_WRITE * blocks)
    → length (words_in bytes) ≤ 8 * LINES_A_WRITE → bytes_of (words_in bytes) ≡ bytes → steps ≡ with_blocks back words blocks before
    → with_block back (64 * (LINES_A_WRITE * blocks)) bytes steps ≡ with_blocks back (words ++ words_in bytes) (blocks + 1) before
with_blocks-next back words bytes blocks before steps is short whole read =
    let first = LINES_A_WRITE * blocks in
    let grown = words ++ words_in bytes in
    let one : suc blocks ≡ blocks + 1 = omega arith in
    let new : bytes ≡ run_bytes grown (first, LINES_A_WRITE) =
    sym whole ∙ sym (ap bytes_of (part-new words (words_in bytes) (8 * LINES_A_WRITE) (8 * first) is short)) in
    ap (λ (bs : List ℕ). with_block back (64 * first) bs steps) new
    ∙ ap (λ (later : List Step). with_block back (64 * first) (run_bytes grown (first, LINES_A_WRITE)) later)
    (read ∙ sym (with_blocks-grown back words (words_in bytes) blocks before (omega (arith, is))))
    ∙ ap (λ (n : ℕ). with_blocks back grown n before) one
