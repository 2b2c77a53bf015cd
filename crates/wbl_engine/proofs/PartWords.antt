-- The image after the stores of one part, word by word.
use Rattle.std.proofs.Common.{◌≡◌, ◌≢◌, ℕ, zero, suc, ◌+◌, ◌*◌, ◌<◌, ◌≤◌, false, List, [], ◌∷◌, ◌⊎◌, inl, inr, Contains, get_or, map, ap, subst, ◌∙◌, arith}
use Rattle.std.specs.List.{AllByRecursion}
use Rattle.std.proofs.lemmas.Bool.{both_ways}
use Rattle.kv_types.specs.declared.place.EntryNo.{EntryNo}
use Rattle.pmem.specs.Runs.{written}
use Rattle.pmem.proofs.Staging.{written-append, written-outside, same_or_other}
use Rattle.model.specs.declared.group.Part.{Part}
use Rattle.model.specs.declared.group.Put.{Put}
use Rattle.model.specs.Image.{Image, directory_room, entry_word, first_extent_line}
use Rattle.model.specs.Group.{IsPlaced, AreAllApart, is_put_at, puts_of_part}
use Rattle.heap_layout.specs.Put.{entry_words}
use Rattle.wbl_engine.specs.Stage.{puts_pairs, end_pairs, part_pairs}
use Rattle.wbl_engine.proofs.PartEffects.{IsAmong, among-is_put_at}
use Rattle.heap_layout.proofs.PutWords.{IsOfExtent}
use Rattle.wbl_engine.proofs.PutPairs.{IsNamed, among-all, puts_pairs-outside, puts_pairs-entry, puts_pairs-extent, end_pairs-named, end_pairs-outside}
use Rattle.heap_layout.proofs.ReadBack.{HasPut}

-- named, or not
pub named_or_not : (i : ℕ) (ended : List EntryNo) → IsNamed i ended ⊎ (IsNamed i ended → ⊥)
named_or_not i [] = inr (λ h. h)
named_or_not i (entry ∷ ended) =
    elim (same_or_other entry.0 i) [
      | inl e ↦ inl (inl e)
      | inr n ↦
          elim (named_or_not i ended) [
            | inl h ↦ inl (inr h)
            | inr none ↦ inr (λ h. elim h [ inl e ↦ n e | inr later ↦ none later ])
          ]
    ]

pub contains-named : (i : ℕ) (ended : List EntryNo) → Contains (map (λ (entry : EntryNo). entry.0) ended) i → IsNamed i ended
contains-named i [] (k, below, is) = absurd (omega (arith, below))
contains-named i (entry ∷ ended) (zero, below, is) = inl is
contains-named i (entry ∷ ended) (suc k, below, is) = inr (contains-named i ended (k, omega (arith, below), is))

pub named-contains : (i : ℕ) (ended : List EntryNo) → IsNamed i ended → Contains (map (λ (entry : EntryNo). entry.0) ended) i
named-contains i [] named = absurd named
named-contains i (entry ∷ ended) (inl here) = (0, omega arith, here)
named-contains i (entry ∷ ended) (inr later) =
    let rest = named-contains i ended later in (suc rest.0, omega (arith, rest.1), rest.2)

part_word : (stamp : ℕ) (part : Part) (image : Image) (word : ℕ)
    → written (part_pairs stamp part) image word
    ≡ written (end_pairs stamp part.ended.items) (written (puts_pairs stamp part.position (puts_of_part part)) image) word
part_word stamp part image word =
    ap (λ (f : ℕ → ℕ). f word) (written-append (puts_pairs stamp part.position (puts_of_part part)) (end_pairs stamp part.ended.items) image)

-- a word that is no end word
part_word-other : (stamp : ℕ) (part : Part) (image : Image) (word : ℕ) → ((i : ℕ) → IsNamed i part.ended.items → word ≡ entry_word i 1 → ⊥)
    → written (part_pairs stamp part) image word ≡ written (puts_pairs stamp part.position (puts_of_part part)) image word
part_word-other stamp part image word other =
    part_word stamp part image word
    ∙ written-outside (end_pairs stamp part.ended.items) (written (puts_pairs stamp part.position (puts_of_part part)) image) word
    (end_pairs-outside stamp part.ended.items word other)

-- the end word of what the part ended
pub part_word-named : (stamp : ℕ) (part : Part) (image : Image) (i : ℕ) → IsNamed i part.ended.items
    → written (part_pairs stamp part) image (entry_word i 1) ≡ stamp
part_word-named stamp part image i named =
    part_word stamp part image (entry_word i 1)
    ∙ end_pairs-named stamp part.ended.items (written (puts_pairs stamp part.position (puts_of_part part)) image) i named

module _ (lines stamp : ℕ) (part : Part) (image : Image) (placed : AllByRecursion (IsPlaced (directory_room lines) lines) (puts_of_part part)) where
  -- the end word of a put that the part itself did not end
  pub part_word-end_of_put : AreAllApart (puts_of_part part) → (put : Put) → IsAmong put (puts_of_part part)
      → (IsNamed put.entry.0 part.ended.items → ⊥) → written (part_pairs stamp part) image (entry_word put.entry.0 1) ≡ 0
  part_word-end_of_put apart put among none =
      part_word-other stamp part image (entry_word put.entry.0 1)
      (λ i named e. let same : i ≡ put.entry.0 = omega (arith, e) in none (subst (λ (n : ℕ). IsNamed n part.ended.items) same named))
      ∙ puts_pairs-entry lines stamp part.position (puts_of_part part) put image 1 (omega arith) among placed apart

  -- all else of a put
  pub part_words-put : AreAllApart (puts_of_part part) → ((i : ℕ) → IsNamed i part.ended.items → i < directory_room lines) → (put : Put)
      → IsAmong put (puts_of_part part) → HasPut (written (part_pairs stamp part) image) stamp part.position put
  part_words-put apart within put among =
      let at : (k : ℕ) → k < 8 → k ≢ 1 → written (part_pairs stamp part) image (entry_word put.entry.0 k) ≡ get_or (entry_words stamp part.position put) k 0 =
      λ k below other.
      part_word-other stamp part image (entry_word put.entry.0 k) (λ i named e. other (omega (arith, e)))
      ∙ puts_pairs-entry lines stamp part.position (puts_of_part part) put image k below among placed apart in
      record {
        begin = at 0 (omega arith) (omega arith);
        position_is = at 2 (omega arith) (omega arith);
        first_line = at 3 (omega arith) (omega arith);
        lines = at 4 (omega arith) (omega arith);
        kind = at 5 (omega arith) (omega arith);
        lengths = at 6 (omega arith) (omega arith);
        value_length = at 7 (omega arith) (omega arith);
        extent = λ j below.
            part_word-other stamp part image (8 * put.extent.first_line + j)
            (λ i named e. omega (arith, e, within i named, (among-all (IsPlaced (directory_room lines) lines) (puts_of_part part) put among placed).above))
            ∙ puts_pairs-extent lines stamp part.position (puts_of_part part) put image j below among placed apart;
      }

  -- a word of the directory that belongs to no put's entry
  entry_outside : (i k : ℕ) → i < directory_room lines → k < 8 → is_put_at i (puts_of_part part) ≡ false
      → written (puts_pairs stamp part.position (puts_of_part part)) image (entry_word i k) ≡ image (entry_word i k)
  entry_outside i k within below none =
      written-outside (puts_pairs stamp part.position (puts_of_part part)) image (entry_word i k)
      (puts_pairs-outside stamp part.position (puts_of_part part) (entry_word i k)
      (λ put among of. omega (arith, of.low, within, (among-all (IsPlaced (directory_room lines) lines) (puts_of_part part) put among placed).above))
      (λ put among of.
      let same : put.entry.0 ≡ i = omega (arith, of.low, of.high) in
      both_ways (is_put_at put.entry.0 (puts_of_part part)) (ap (λ (n : ℕ). is_put_at n (puts_of_part part)) same ∙ none)
      (among-is_put_at put (puts_of_part part) among)))

  -- an entry where the part puts nothing: all but the end word stays
  pub part_word-kept : (i k : ℕ) → i < directory_room lines → k < 8 → k ≢ 1 → is_put_at i (puts_of_part part) ≡ false
      → written (part_pairs stamp part) image (entry_word i k) ≡ image (entry_word i k)
  part_word-kept i k within below other none =
      part_word-other stamp part image (entry_word i k) (λ n named e. other (omega (arith, e))) ∙ entry_outside i k within below none

  -- and the end word where the part did not end it
  pub part_word-kept_end : (i : ℕ) → i < directory_room lines → (IsNamed i part.ended.items → ⊥) → is_put_at i (puts_of_part part) ≡ false
      → written (part_pairs stamp part) image (entry_word i 1) ≡ image (entry_word i 1)
  part_word-kept_end i within unnamed none =
      part_word-other stamp part image (entry_word i 1)
      (λ n named e. let same : n ≡ i = omega (arith, e) in unnamed (subst (λ (m : ℕ). IsNamed m part.ended.items) same named))
      ∙ entry_outside i 1 within (omega arith) none

  -- a word after the directory that belongs to no put's extent
  pub part_word-behind : (word : ℕ) → 8 * first_extent_line lines ≤ word → ((i : ℕ) → IsNamed i part.ended.items → i < directory_room lines)
      → ((put : Put) → IsAmong put (puts_of_part part) → IsOfExtent put word → ⊥) → written (part_pairs stamp part) image word ≡ image word
  part_word-behind word behind within other =
      part_word-other stamp part image word (λ i named e. omega (arith, e, within i named, behind))
      ∙ written-outside (puts_pairs stamp part.position (puts_of_part part)) image word
      (puts_pairs-outside stamp part.position (puts_of_part part) word other
      (λ put among of. omega (arith, of.high, behind, (among-all (IsPlaced (directory_room lines) lines) (puts_of_part part) put among placed).entry)))
