-- The runs that store and flush an entry and its extent.
use Rattle.std.proofs.Common.{◌≡◌, ℕ, zero, suc, ◌+◌, ◌*◌, ◌<◌, List, [], ◌∷◌, ◌++◌, length, get_or, sym, ap, subst, ◌∙◌, arith, length-append}
use Rattle.kv_types.specs.declared.record_id.RecordId.{RecordId}
use Rattle.pmem.specs.Device.{Word, State}
use Rattle.pmem.specs.Runs.{Runs, stores, flushes, pairs_from}
use Rattle.pmem.proofs.Chaining.{Runs-stores, Runs-flushes}
use Rattle.pmem.proofs.Staging.{stores-append, flushes-append, get_or-pairs_from, length-pairs_from}
use Rattle.model.specs.declared.group.Put.{Put}
use Rattle.model.specs.Image.{entry_word}
use Rattle.model.specs.Group.{bytes_of_id}
use Rattle.heap_layout.specs.Put.{word_of_bytes, packed, name_bytes, version_bytes, entry_words, put_pairs}
use Rattle.heap_layout.proofs.Packing.{length-packed, get_or-packed}
use Rattle.heap_layout.proofs.ReadBack.{length-name_bytes}

-- a run of stores continues with more stores
pub Runs-more_stores : {a b c : State} (first second : List (ℕ × ℕ)) → Runs a b (stores first a.words) → Runs b c (stores second b.words)
    → Runs a c (stores (first ++ second) a.words)
Runs-more_stores {a} {b} {c} first second run more =
    subst (λ (w : ℕ → Word). Runs a c w) (sym (stores-append first second a.words)) (Runs-stores second run more)

-- and a run of flushes with more flushes
pub Runs-more_flushes : {a b c : State} (first second : List ℕ) → Runs a b (flushes first a.words) → Runs b c (flushes second b.words)
    → Runs a c (flushes (first ++ second) a.words)
Runs-more_flushes {a} {b} {c} first second run more =
    subst (λ (w : ℕ → Word). Runs a c w) (sym (flushes-append first second a.words)) (Runs-flushes second run more)

-- the pairs of an extent
pub length-extent_pairs : (line : ℕ) (bytes : List ℕ) (count : ℕ) → length (pairs_from (8 * line) (packed bytes 0 count)) ≡ count
length-extent_pairs line bytes count = length-pairs_from (8 * line) (packed bytes 0 count) ∙ length-packed bytes 0 count

get_or-extent_pairs : (line : ℕ) (bytes : List ℕ) (count i : ℕ) → i < count
    → get_or (pairs_from (8 * line) (packed bytes 0 count)) i (0, 0) ≡ (8 * line + i, word_of_bytes bytes (8 * i))
get_or-extent_pairs line bytes count i below =
    let e : 0 + 8 * i ≡ 8 * i = omega arith in
    get_or-pairs_from (8 * line) (packed bytes 0 count) i (omega (arith, below, length-packed bytes 0 count))
    ∙ ap (λ (x : ℕ). (8 * line + i, x)) (get_or-packed bytes 0 count i below ∙ ap (word_of_bytes bytes) e)

pub extent_pair : (line : ℕ) (bytes : List ℕ) (count i x : ℕ) → i < count → x ≡ word_of_bytes bytes (8 * i)
    → (8 * line + i, x) ≡ get_or (pairs_from (8 * line) (packed bytes 0 count)) i (0, 0)
extent_pair line bytes count i x below is =
    ap (λ (y : ℕ). (8 * line + i, y)) is ∙ sym (get_or-extent_pairs line bytes count i below)

-- the extent, and then the entry
pub put_runs : {a b c : State} (begin position : ℕ) (put : Put) (bytes words : List ℕ) (first : ℕ) → bytes ≡ version_bytes put
    → words ≡ entry_words begin position put → first ≡ entry_word put.entry.0 0
    → Runs a b (stores (pairs_from (8 * put.extent.first_line) (packed bytes 0 (8 * put.extent.lines))) a.words)
    → Runs b c (stores (pairs_from first words) b.words) → Runs a c (stores (put_pairs begin position put) a.words)
put_runs {a} {b} {c} begin position put bytes words first is_bytes is_words is_first extent entry =
    Runs-more_stores (pairs_from (8 * put.extent.first_line) (packed (version_bytes put) 0 (8 * put.extent.lines)))
    (pairs_from (entry_word put.entry.0 0) (entry_words begin position put)) (rw is_bytes at extent) (rw (is_first, is_words) at entry)

-- how long a name is
pub length-name : (key field : List ℕ) (id : RecordId) → key ++ field ≡ name_bytes id → length key + length field ≡ bytes_of_id id
length-name key field id is = omega (arith, length-append key field, ap length is, length-name_bytes id)

-- concatenated bytes
pub bytes-append : (a b : List ℕ) → ((i : ℕ) → get_or a i 0 < 256) → ((i : ℕ) → get_or b i 0 < 256) → (i : ℕ) → get_or (a ++ b) i 0 < 256
bytes-append [] b small_a small_b i = small_b i
bytes-append (x ∷ a) b small_a small_b zero = small_a 0
bytes-append (x ∷ a) b small_a small_b (suc i) = bytes-append a b (λ k. small_a (suc k)) small_b i

-- the bytes read from a put are its version's bytes
pub read_bytes : (put : Put) (key field value : List ℕ) → key ++ field ≡ name_bytes put.id → value ≡ put.value
    → key ++ field ++ value ≡ version_bytes put
read_bytes put key field value name is =
    ap (λ (n : List ℕ). n ++ value) name ∙ ap (λ (v : List ℕ). name_bytes put.id ++ v) is
