-- Where the puts and the ends of a part store, and what they leave there.
use Rattle.std.proofs.Common.{◌≡◌, ℕ, ◌+◌, ◌*◌, ◌<◌, List, [], ◌∷◌, ◌⊎◌, inl, inr, get_or, refl, sym, ap, subst, ◌∙◌, arith}
use Rattle.std.specs.List.{AllByRecursion}
use Rattle.kv_types.specs.declared.place.EntryNo.{EntryNo}
use Rattle.pmem.specs.Runs.{IsStored, IsOutside, written}
use Rattle.pmem.proofs.Staging.{IsStored-append, written-append, written-outside, written-stored}
use Rattle.model.specs.declared.group.Put.{Put}
use Rattle.model.specs.Image.{Image, entry_word}
use Rattle.model.specs.Layout.{directory_room}
use Rattle.model.specs.Group.{IsPlaced, IsApartFrom, AreAllApart}
use Rattle.heap_layout.specs.Put.{word_of_bytes, version_bytes, entry_words, put_pairs}
use Rattle.wbl_engine.specs.Stage.{puts_pairs, end_pairs}
use Rattle.heap_layout.proofs.PutWords.{IsOfEntry, IsOfExtent, put_pairs-outside, put_pairs-entry, put_pairs-extent}
use Rattle.wbl_engine.proofs.PartEffects.{IsAmong}

pub among-all : (P : Put → Type 0) (puts : List Put) (put : Put) → IsAmong put puts → AllByRecursion P puts → P put
among-all P [] put among all = absurd among
among-all P (other ∷ puts) put (inl here) all = subst P (sym here) all.0
among-all P (other ∷ puts) put (inr later) all = among-all P puts put later all.1

-- several puts store nothing elsewhere
pub puts_pairs-outside : (stamp position : ℕ) (puts : List Put) (word : ℕ) → ((put : Put) → IsAmong put puts → IsOfExtent put word → ⊥)
    → ((put : Put) → IsAmong put puts → IsOfEntry put word → ⊥) → IsOutside (puts_pairs stamp position puts) word
puts_pairs-outside stamp position [] word extents entries x stored = stored
puts_pairs-outside stamp position (put ∷ puts) word extents entries x stored =
    elim (IsStored-append (put_pairs stamp position put) (puts_pairs stamp position puts) word x stored) [
      | inl here ↦ put_pairs-outside stamp position put word (extents put (inl refl)) (entries put (inl refl)) x here
      | inr later ↦
          puts_pairs-outside stamp position puts word (λ q among. extents q (inr among)) (λ q among. entries q (inr among)) x later
    ]

-- where no other put stores, the image has what one of them does
puts_pairs-one : (stamp position : ℕ) (puts : List Put) (put : Put) (image : Image) (word x : ℕ)
    → ((base : Image) → written (put_pairs stamp position put) base word ≡ x)
    → ((other : Put) → IsAmong other puts → IsApartFrom put other → (IsOfExtent other word → ⊥) × (IsOfEntry other word → ⊥))
    → IsAmong put puts → AreAllApart puts → written (puts_pairs stamp position puts) image word ≡ x
puts_pairs-one stamp position [] put image word x value out among apart = absurd among
puts_pairs-one stamp position (other ∷ puts) put image word x value out (inl here) apart =
    let away : (q : Put) → IsAmong q puts → IsApartFrom put q =
    λ q among. subst (λ (p : Put). IsApartFrom p q) (sym here) (among-all (IsApartFrom other) puts q among apart.0) in
    ap (λ (f : ℕ → ℕ). f word) (written-append (put_pairs stamp position other) (puts_pairs stamp position puts) image)
    ∙ written-outside (puts_pairs stamp position puts) (written (put_pairs stamp position other) image) word
    (puts_pairs-outside stamp position puts word (λ q among. (out q (inr among) (away q among)).0) (λ q among. (out q (inr among) (away q among)).1))
    ∙ subst (λ (p : Put). written (put_pairs stamp position p) image word ≡ x) here (value image)
puts_pairs-one stamp position (other ∷ puts) put image word x value out (inr later) apart =
    ap (λ (f : ℕ → ℕ). f word) (written-append (put_pairs stamp position other) (puts_pairs stamp position puts) image)
    ∙ puts_pairs-one stamp position puts put (written (put_pairs stamp position other) image) word x value (λ q among. out q (inr among)) later apart.1

-- the entry of one of several puts
pub puts_pairs-entry : (lines stamp position : ℕ) (puts : List Put) (put : Put) (image : Image) (k : ℕ) → k < 8 → IsAmong put puts
    → AllByRecursion (IsPlaced (directory_room lines) lines) puts → AreAllApart puts
    → written (puts_pairs stamp position puts) image (entry_word put.entry.0 k) ≡ get_or (entry_words stamp position put) k 0
puts_pairs-entry lines stamp position puts put image k below among placed apart =
    let at = among-all (IsPlaced (directory_room lines) lines) puts put among placed in
    puts_pairs-one stamp position puts put image (entry_word put.entry.0 k) (get_or (entry_words stamp position put) k 0)
    (λ base. put_pairs-entry lines stamp position put base k below)
    (λ q there away. (
      λ of. omega (arith, of.low, at.entry, (among-all (IsPlaced (directory_room lines) lines) puts q there placed).above),
      λ of. away.entries (omega (arith, of.low, of.high)),
    ))
    among apart

-- the extent of one of several puts
pub puts_pairs-extent : (lines stamp position : ℕ) (puts : List Put) (put : Put) (image : Image) (j : ℕ) → j < 8 * put.extent.lines → IsAmong put puts
    → AllByRecursion (IsPlaced (directory_room lines) lines) puts → AreAllApart puts
    → written (puts_pairs stamp position puts) image (8 * put.extent.first_line + j) ≡ word_of_bytes (version_bytes put) (8 * j)
puts_pairs-extent lines stamp position puts put image j below among placed apart =
    let at = among-all (IsPlaced (directory_room lines) lines) puts put among placed in
    puts_pairs-one stamp position puts put image (8 * put.extent.first_line + j) (word_of_bytes (version_bytes put) (8 * j))
    (λ base. put_pairs-extent lines stamp position put base j at below)
    (λ q there away. (
      λ of. elim away.lines [ inl before ↦ omega (arith, before, of.low) | inr after ↦ omega (arith, after, of.high) ],
      λ of. omega (arith, at.above, (among-all (IsPlaced (directory_room lines) lines) puts q there placed).entry, of.high),
    ))
    among apart

-- the entry is one of these
abbrev pub IsNamed : ℕ → List EntryNo → Type 0
IsNamed i [] = ⊥
IsNamed i (entry ∷ ended) = (entry.0 ≡ i) ⊎ IsNamed i ended

pub end_pairs-where : (stamp : ℕ) (ended : List EntryNo) (word x : ℕ) → IsStored (end_pairs stamp ended) word x
    → (i : ℕ) × IsNamed i ended × (word ≡ entry_word i 1) × (x ≡ stamp)
end_pairs-where stamp [] word x stored = absurd stored
end_pairs-where stamp (entry ∷ ended) word x (inl here) = (entry.0, inl refl, sym here.0, sym here.1)
end_pairs-where stamp (entry ∷ ended) word x (inr later) =
    let more = end_pairs-where stamp ended word x later in (more.0, inr more.1, more.2, more.3)

named-stored : (stamp : ℕ) (ended : List EntryNo) (i : ℕ) → IsNamed i ended → IsStored (end_pairs stamp ended) (entry_word i 1) stamp
named-stored stamp [] i named = absurd named
named-stored stamp (entry ∷ ended) i (inl here) = inl (ap (λ (n : ℕ). entry_word n 1) here, refl)
named-stored stamp (entry ∷ ended) i (inr later) = inr (named-stored stamp ended i later)

-- the end word of a named entry
pub end_pairs-named : (stamp : ℕ) (ended : List EntryNo) (image : Image) (i : ℕ) → IsNamed i ended
    → written (end_pairs stamp ended) image (entry_word i 1) ≡ stamp
end_pairs-named stamp ended image i named =
    written-stored (end_pairs stamp ended) image (entry_word i 1) stamp (named-stored stamp ended i named)
    (λ y stored. (end_pairs-where stamp ended (entry_word i 1) y stored).3)

-- every other word stays
pub end_pairs-outside : (stamp : ℕ) (ended : List EntryNo) (word : ℕ) → ((i : ℕ) → IsNamed i ended → word ≡ entry_word i 1 → ⊥)
    → IsOutside (end_pairs stamp ended) word
end_pairs-outside stamp ended word other x stored =
    let at = end_pairs-where stamp ended word x stored in other at.0 at.1 at.2
