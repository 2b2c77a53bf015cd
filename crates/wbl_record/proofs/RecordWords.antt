-- The words of a record, one by one.
use Rattle.std.proofs.Common.{◌≡◌, ℕ, zero, suc, ◌+◌, ◌*◌, ◌<◌, ◌≤◌, List, [], ◌∷◌, ◌++◌, length, take, replicate, get_or, refl, sym, ap, ◌∙◌, arith, append_assoc, length-append}
use Rattle.std.specs.List.{flat_map}
use Rattle.std.proofs.lemmas.List.{length-replicate, take_more}
use Rattle.model.specs.declared.record.Gap.{Gap}
use Rattle.model.specs.declared.record.Record.{Record}
use Rattle.model.specs.Layout.{first_word, record_word, root_word, slot_lines}
use Rattle.model.specs.Image.{Image, HasWords, HasRecord, gap_words, record_words}
use Rattle.model.proofs.RecordLemmas.{length-record_words}

-- no gap
abbrev pub no_gap : Gap
no_gap = record { first = 0; last = 0 }

-- ---- the gaps, pair by pair

-- so many zeros
abbrev pub zeros : ℕ → List ℕ
zeros room = replicate room 0

zero_at : (room k : ℕ) → get_or (zeros room) k 0 ≡ 0
zero_at zero k = refl
zero_at (suc room) zero = refl
zero_at (suc room) (suc k) = zero_at room k

-- the pair of words of gap k
pair_at : (gaps : List Gap) (room k : ℕ)
    → (get_or (flat_map gap_words gaps ++ zeros room) (2 * k) 0 ≡ (get_or gaps k no_gap).first)
    × (get_or (flat_map gap_words gaps ++ zeros room) (2 * k + 1) 0 ≡ (get_or gaps k no_gap).last)
pair_at [] room k = (zero_at room (2 * k), zero_at room (2 * k + 1))
pair_at (gap ∷ gaps) room zero = (refl, refl)
pair_at (gap ∷ gaps) room (suc k) =
    let words = flat_map gap_words gaps ++ zeros room in
    let all : List ℕ = gap.first ∷ gap.last ∷ words in
    let rest = pair_at gaps room k in
    let first : 2 * suc k ≡ suc (suc (2 * k)) = omega arith in
    let last : 2 * suc k + 1 ≡ suc (suc (2 * k + 1)) = omega arith in
    (ap (λ n. get_or all n 0) first ∙ rest.0, ap (λ n. get_or all n 0) last ∙ rest.1)

-- one more pair
pub gaps_words-more : (gaps : List Gap) (room k : ℕ) → 2 * k + 2 ≤ room
    → take (2 * (k + 1)) (flat_map gap_words gaps ++ zeros room)
    ≡ take (2 * k) (flat_map gap_words gaps ++ zeros room) ++ (get_or gaps k no_gap).first ∷ (get_or gaps k no_gap).last ∷ []
gaps_words-more gaps room k le =
    let all = flat_map gap_words gaps ++ zeros room in
    let many : length (zeros room) ≡ room = length-replicate room 0 in
    let enough : 2 * k + 1 < length all = omega (arith, length-append (flat_map gap_words gaps) (zeros room), many) in
    let pair = pair_at gaps room k in
    let count : 2 * (k + 1) ≡ 2 * k + 1 + 1 = omega arith in
    ap (λ n. take n all) count ∙ take_more all (2 * k + 1) 0 enough ∙ ap (λ xs. xs ++ get_or all (2 * k + 1) 0 ∷ []) (take_more all (2 * k) 0 (omega (arith, enough)))
    ∙ append_assoc (take (2 * k) all) (get_or all (2 * k) 0 ∷ []) (get_or all (2 * k + 1) 0 ∷ [])
    ∙ ap (λ x. take (2 * k) all ++ x ∷ get_or all (2 * k + 1) 0 ∷ []) pair.0
    ∙ ap (λ y. take (2 * k) all ++ (get_or gaps k no_gap).first ∷ y ∷ []) pair.1

-- consecutive words, by index
pub HasWords-at : (image : Image) (first : ℕ) (values : List ℕ)
    → ((k : ℕ) → k < length values → image (first + k) ≡ get_or values k 0) → HasWords image first values
HasWords-at image first [] each = tt
HasWords-at image first (value ∷ values) each =
    let e : first + 0 ≡ first = omega arith in (
      sym (ap image e) ∙ each 0 (omega arith),
      HasWords-at image (first + 1) values
          (λ k below. let f : (first + 1) + k ≡ first + suc k = omega arith in ap image f ∙ each (suc k) (omega arith)),
    )

-- words that are the same hold the same values
pub HasWords-same : (base image : Image) (first : ℕ) (values : List ℕ)
    → ((word : ℕ) → first ≤ word → word < first + length values → image word ≡ base word) → HasWords base first values → HasWords image first values
HasWords-same base image first [] same has = tt
HasWords-same base image first (value ∷ values) same has = (
  same first (omega arith) (omega arith) ∙ has.0,
  HasWords-same base image (first + 1) values (λ word low high. same word (omega (arith, low)) (omega (arith, high))) has.1,
)

-- the same root and the same slot hold the same record
pub HasRecord-same : (lines : ℕ) (r : Record) (base image : Image) → image (root_word r.layout) ≡ base (root_word r.layout)
    → ((word : ℕ) → record_word r.layout lines r.number 0 ≤ word → word < record_word r.layout lines r.number (first_word (slot_lines r.layout)) → image word ≡ base word)
    → HasRecord lines r base → HasRecord lines r image
HasRecord-same lines r base image root slot has =
    record {
      root = root ∙ has.root;
      words = HasWords-same base image (record_word r.layout lines r.number 0) (record_words r)
          (λ word low high. slot word low (omega (arith, high, length-record_words r))) has.words;
    }
