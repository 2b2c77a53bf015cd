-- The map of an image depends on its entries and their extents alone, and not on entries of which none counts.
use Rattle.std.proofs.Common.{◌≡◌, ℕ, ◌+◌, ◌*◌, ◌<◌, ◌≤◌, Bool, true, false, Option, Some, None, IsTrue, refl, inl, inr, sym, ap, ◌∙◌, arith}
use Rattle.std.proofs.lemmas.Bool.{cases_lt, cond-true, cond-false}
use Rattle.kv_types.specs.Keyspace.{Keyspace}
use Rattle.model.specs.declared.record.Record.{Record}
use Rattle.model.specs.Image.{Image, IsMapOf, Version, bytes_at, counts, entry_bytes, entry_word, version_at, version_in}
use Rattle.model.proofs.MapLemmas.{not_live}
use Rattle.heap_layout.proofs.SameWords.{bytes_at-same}

-- without the last entries, where none of them has a version, the map is the same
pub IsMapOf-fewer : (versions : ℕ → Option Version) (fewer more : ℕ) (s : Keyspace) → fewer ≤ more
    → ((i : ℕ) → fewer ≤ i → i < more → versions i ≡ None) → IsMapOf versions more s → IsMapOf versions fewer s
IsMapOf-fewer versions fewer more s less none map =
    record {
      held = λ id value e.
          let live = map.held id value e in
          elim (cases_lt live.0 fewer) [
            | inl under ↦ (live.0, under, live.2)
            | inr over ↦ absurd (not_live (none live.0 over live.1) live.2)
          ];
      found = λ i id value below live. map.found i id value (omega arith) live;
      once = λ i j id v w below below' a b. map.once i j id v w (omega arith) (omega arith) a b;
    }

-- entry i and all extents from line `bound` on are as in the base
pub record SameEntry (base image : Image) (bound i : ℕ) : Type 0 where
  pub words : (k : ℕ) → k < 8 → image (entry_word i k) ≡ base (entry_word i k)
  pub extents : (word : ℕ) → 8 * bound ≤ word → image word ≡ base word

version_in-same : (r q : Record) (base image : Image) (bound i : ℕ) → ((stamp : ℕ) → counts q stamp ≡ counts r stamp) → SameEntry base image bound i
    → bound ≤ base (entry_word i 3) → version_in q image i ≡ version_in r base i
version_in-same r q base image bound i counted same behind =
    let at2 = same.words 2 (omega arith) in
    let at3 = same.words 3 (omega arith) in
    let at4 = same.words 4 (omega arith) in
    let at5 = same.words 5 (omega arith) in
    let at6 = same.words 6 (omega arith) in
    let at7 = same.words 7 (omega arith) in
    let ended : counts q (image (entry_word i 1)) ≡ counts r (base (entry_word i 1)) =
    ap (counts q) (same.words 1 (omega arith)) ∙ counted (base (entry_word i 1)) in
    let count : entry_bytes image i ≡ entry_bytes base i = cc in
    let extent : bytes_at image (base (entry_word i 3)) (entry_bytes base i) ≡ bytes_at base (base (entry_word i 3)) (entry_bytes base i) =
    bytes_at-same base image (base (entry_word i 3)) (entry_bytes base i) (λ j below. same.extents (8 * base (entry_word i 3) + j) (omega arith)) in
    let all : bytes_at image (image (entry_word i 3)) (entry_bytes image i) ≡ bytes_at base (base (entry_word i 3)) (entry_bytes base i) =
    ap (λ (line : ℕ). bytes_at image line (entry_bytes image i)) at3 ∙ ap (bytes_at image (base (entry_word i 3))) count ∙ extent in
    cc

-- under records by which the same stamps count, the entry holds the same version
pub version_at-same : (r q : Record) (base image : Image) (bound i : ℕ) → ((stamp : ℕ) → counts q stamp ≡ counts r stamp) → SameEntry base image bound i
    → (IsTrue (counts r (base (entry_word i 0))) → bound ≤ base (entry_word i 3)) → version_at q image i ≡ version_at r base i
version_at-same r q base image bound i counted same behind =
    let begun : counts q (image (entry_word i 0)) ≡ counts r (base (entry_word i 0)) =
    ap (counts q) (same.words 0 (omega arith)) ∙ counted (base (entry_word i 0)) in
    let go : (b : Bool) → counts r (base (entry_word i 0)) ≡ b → version_at q image i ≡ version_at r base i =
    elim [
      | true ↦ λ e.
          cond-true (counts q (image (entry_word i 0))) _ _ (begun ∙ e)
          ∙ ap Some (version_in-same r q base image bound i counted same (behind e))
          ∙ sym (cond-true (counts r (base (entry_word i 0))) _ _ e)
      | false ↦ λ e.
          cond-false (counts q (image (entry_word i 0))) _ _ (begun ∙ e)
          ∙ sym (cond-false (counts r (base (entry_word i 0))) _ _ e)
    ] in
    go (counts r (base (entry_word i 0))) refl

-- an entry that does not count holds none
pub version_at-none : (r : Record) (image : Image) (i : ℕ) → counts r (image (entry_word i 0)) ≡ false → version_at r image i ≡ None
version_at-none r image i e = cond-false (counts r (image (entry_word i 0))) _ _ e
