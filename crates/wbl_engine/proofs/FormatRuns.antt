-- The runs of formatting.
use Rattle.std.proofs.Common.{◌≡◌, ℕ, ◌+◌, ◌-◌, ◌<◌, List, [], ◌∷◌, ◌++◌, length, get_or, sym, ap, subst, ◌∙◌, arith}
use Rattle.std.specs.Prelude.{replicate}
use Rattle.pmem.specs.Device.{State}
use Rattle.pmem.specs.Runs.{Runs, stores, flushes, pairs_from, lines_from}
use Rattle.pmem.proofs.Staging.{length-pairs_from, get_or-pairs_from}
use Rattle.model.specs.Layout.{first_word, root_word, version}
use Rattle.model.specs.declared.record.Record.{Record}
use Rattle.model.specs.Image.{directory_room, first_extent_line, record_words, slot_line}
use Rattle.wbl_record.specs.Record.{body_pairs, root_pairs}
use Rattle.wbl_engine.specs.Formatting.{superblock_words, words_behind_magic, new_pairs}
use Rattle.heap_layout.proofs.LayoutRuns.{Runs-more_stores}
use Rattle.wbl_engine.proofs.NewImage.{zeros, length-zeros, get_or-zeros}

pub length-zero_pairs : (first count : ℕ) → length (pairs_from first (zeros count)) ≡ count
length-zero_pairs first count = length-pairs_from first (zeros count) ∙ length-zeros count

pub zero_pair : (first count i : ℕ) → i < count → (first + i, 0) ≡ get_or (pairs_from first (zeros count)) i (0, 0)
zero_pair first count i below =
    sym (get_or-pairs_from first (zeros count) i (omega (arith, below, length-zeros count))
    ∙ ap (λ (x : ℕ). (first + i, x)) (get_or-zeros count i))

-- four runs in sequence
run_runs : {a b c d e : State} (p q r s : List (ℕ × ℕ)) → Runs a b (stores p a.words) → Runs b c (stores q b.words) → Runs c d (stores r c.words)
    → Runs d e (stores s d.words) → Runs a e (stores (p ++ q ++ r ++ s) a.words)
run_runs p q r s run1 run2 run3 run4 =
    Runs-more_stores (p ++ q ++ r) s (Runs-more_stores (p ++ q) r (Runs-more_stores p q run1 run2) run3) run4

-- what was read and made are the words of a new image
pub new_run : {a b c d e : State} {lines count room extents line number root : ℕ} {words : List ℕ} (first : Record) → count ≡ lines → room ≡ directory_room count
    → extents ≡ first_extent_line count → line ≡ slot_line first.layout count first.number → number ≡ version first.layout → words ≡ record_words first
    → root ≡ root_word first.layout
    → Runs a b (stores (pairs_from 1 (replicate (first_word extents - 1) 0)) a.words)
    → Runs b c (stores (pairs_from 1 (number ∷ count ∷ room ∷ [])) b.words)
    → Runs c d (stores (pairs_from (first_word line) words) c.words)
    → Runs d e (stores (pairs_from root (first.number ∷ [])) d.words)
    → Runs a e (stores (new_pairs lines first) a.words)
unfolding new_pairs
new_run {a} {b} {c} {d} {e} {count = count} {room = room} {line = line} first is_count is_room is_extents is_line is_number is_words is_root
    run1 run2 run3 run4 =
    subst (λ (n : ℕ). Runs a e (stores (pairs_from 1 (replicate (words_behind_magic n) 0) ++ pairs_from 1 (superblock_words first.layout n) ++ body_pairs n first
    ++ root_pairs first) a.words)) is_count
    (run_runs (pairs_from 1 (replicate (words_behind_magic count) 0)) (pairs_from 1 (superblock_words first.layout count)) (body_pairs count first) (root_pairs first)
    (subst (λ (n : ℕ). Runs a b (stores (pairs_from 1 (replicate (first_word n - 1) 0)) a.words)) is_extents run1)
    (subst (λ (n : ℕ). Runs b c (stores (pairs_from 1 (version first.layout ∷ count ∷ n ∷ [])) b.words)) is_room
    (subst (λ (n : ℕ). Runs b c (stores (pairs_from 1 (n ∷ count ∷ room ∷ [])) b.words)) is_number run2))
    (subst (λ (n : ℕ). Runs c d (stores (pairs_from (first_word n) (record_words first)) c.words)) is_line
    (subst (λ (ws : List ℕ). Runs c d (stores (pairs_from (first_word line) ws) c.words)) is_words run3))
    (subst (λ (n : ℕ). Runs d e (stores ((n, first.number) ∷ []) d.words)) is_root run4))

pub new_flushes : {a b : State} (lines count line : ℕ) → count ≡ lines → line ≡ first_extent_line count → Runs a b (flushes (lines_from 0 line) a.words)
    → Runs a b (flushes (lines_from 0 (first_extent_line lines)) a.words)
new_flushes {a} {b} lines count line is at run =
    subst (λ (n : ℕ). Runs a b (flushes (lines_from 0 (first_extent_line n)) a.words)) is (subst (λ (n : ℕ). Runs a b (flushes (lines_from 0 n) a.words)) at run)
