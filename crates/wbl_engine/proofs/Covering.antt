-- Every store of a group is to a line that is flushed, and every word of a put's place is stored.
use Rattle.std.proofs.Common.{◌≡◌, ℕ, ◌+◌, ◌-◌, ◌*◌, ◌/◌, ◌<◌, List, [], ◌∷◌, ◌++◌, ◌⊎◌, inl, inr, get_or, sym, ap, subst, ◌∙◌, arith}
use Rattle.kv_types.specs.declared.place.EntryNo.{EntryNo}
use Rattle.pmem.specs.Runs.{pairs_from, lines_from, IsStored, IsLine}
use Rattle.pmem.proofs.Staging.{IsStored-append, IsStored-append_left, IsStored-append_right, IsLine-append_left, IsLine-append_right, IsLine-lines_from, pairs_from-IsStored}
use Rattle.model.specs.declared.group.Part.{Part}
use Rattle.model.specs.declared.group.Put.{Put}
use Rattle.model.specs.Image.{entry_word}
use Rattle.model.specs.Group.{IsApartFrom, AreAllApart, puts_of_part}
use Rattle.heap_layout.specs.Put.{version_bytes, entry_words, extent_words, put_pairs, put_lines}
use Rattle.wbl_engine.specs.Stage.{puts_of_parts, puts_pairs, end_pairs, part_pairs, parts_pairs, puts_lines, end_lines, part_lines, parts_lines}
use Rattle.heap_layout.proofs.Packing.{length-packed}
use Rattle.wbl_engine.proofs.PartEffects.{IsAmong}
use Rattle.heap_layout.proofs.PutWords.{IsOfExtent, put_pairs-where}
use Rattle.wbl_engine.proofs.PutPairs.{among-all}

-- Covered

put_covered : (stamp position : ℕ) (put : Put) (word x : ℕ) → IsStored (put_pairs stamp position put) word x → IsLine (put_lines put) (word / 8)
put_covered stamp position put word x stored =
    elim (put_pairs-where stamp position put word x stored) [
      | inl extent ↦
          IsLine-append_left (lines_from put.extent.first_line put.extent.lines) ((8 + put.entry.0) ∷ []) (word / 8)
          (IsLine-lines_from put.extent.first_line put.extent.lines (word / 8) (omega (arith, extent.low)) (omega (arith, extent.high)))
      | inr entry ↦
          IsLine-append_right (lines_from put.extent.first_line put.extent.lines) ((8 + put.entry.0) ∷ []) (word / 8)
          (inl (omega (arith, entry.0.low, entry.0.high)))
    ]

pub puts_covered : (stamp position : ℕ) (puts : List Put) (word x : ℕ) → IsStored (puts_pairs stamp position puts) word x → IsLine (puts_lines puts) (word / 8)
puts_covered stamp position [] word x stored = absurd stored
puts_covered stamp position (put ∷ puts) word x stored =
    elim (IsStored-append (put_pairs stamp position put) (puts_pairs stamp position puts) word x stored) [
      | inl here ↦ IsLine-append_left (put_lines put) (puts_lines puts) (word / 8) (put_covered stamp position put word x here)
      | inr later ↦ IsLine-append_right (put_lines put) (puts_lines puts) (word / 8) (puts_covered stamp position puts word x later)
    ]

ends_covered : (stamp : ℕ) (ended : List EntryNo) (word x : ℕ) → IsStored (end_pairs stamp ended) word x → IsLine (end_lines ended) (word / 8)
ends_covered stamp [] word x stored = absurd stored
ends_covered stamp (entry ∷ ended) word x (inl here) = inl (omega (arith, here.0))
ends_covered stamp (entry ∷ ended) word x (inr later) = inr (ends_covered stamp ended word x later)

part_covered : (stamp : ℕ) (part : Part) (word x : ℕ) → IsStored (part_pairs stamp part) word x → IsLine (part_lines part) (word / 8)
part_covered stamp part word x stored =
    let puts : List Put = puts_of_part part in
    elim (IsStored-append (puts_pairs stamp part.position puts) (end_pairs stamp part.ended.items) word x stored) [
      | inl put ↦ IsLine-append_left (puts_lines puts) (end_lines part.ended.items) (word / 8) (puts_covered stamp part.position puts word x put)
      | inr end ↦ IsLine-append_right (puts_lines puts) (end_lines part.ended.items) (word / 8) (ends_covered stamp part.ended.items word x end)
    ]

pub parts_covered : (stamp : ℕ) (parts : List Part) (word x : ℕ) → IsStored (parts_pairs stamp parts) word x → IsLine (parts_lines parts) (word / 8)
parts_covered stamp [] word x stored = absurd stored
parts_covered stamp (part ∷ parts) word x stored =
    elim (IsStored-append (part_pairs stamp part) (parts_pairs (stamp + 1) parts) word x stored) [
      | inl here ↦ IsLine-append_left (part_lines part) (parts_lines parts) (word / 8) (part_covered stamp part word x here)
      | inr later ↦ IsLine-append_right (part_lines part) (parts_lines parts) (word / 8) (parts_covered (stamp + 1) parts word x later)
    ]

-- Stored

-- the pairs of a put among those of a group
pub record IsStoredPut (pairs : List (ℕ × ℕ)) (put : Put) : Type 0 where
  pub stamp : ℕ
  pub position : ℕ
  pub all : (word x : ℕ) → IsStored (put_pairs stamp position put) word x → IsStored pairs word x

pub puts_stored : (stamp position : ℕ) (puts : List Put) (put : Put) → IsAmong put puts → (word x : ℕ) → IsStored (put_pairs stamp position put) word x
    → IsStored (puts_pairs stamp position puts) word x
puts_stored stamp position [] put among word x stored = absurd among
puts_stored stamp position (other ∷ puts) put (inl here) word x stored =
    IsStored-append_left (put_pairs stamp position other) (puts_pairs stamp position puts) word x
    (subst (λ (p : Put). IsStored (put_pairs stamp position p) word x) here stored)
puts_stored stamp position (other ∷ puts) put (inr later) word x stored =
    IsStored-append_right (put_pairs stamp position other) (puts_pairs stamp position puts) word x
    (puts_stored stamp position puts put later word x stored)

among_either : (a b : List Put) (put : Put) → IsAmong put (a ++ b) → IsAmong put a ⊎ IsAmong put b
among_either [] b put among = inr among
among_either (first ∷ a) b put (inl here) = inl (inl here)
among_either (first ∷ a) b put (inr later) =
    elim (among_either a b put later) [ inl prefix ↦ inl (inr prefix) | inr back ↦ inr back ]

pub parts_stored_put : (stamp : ℕ) (parts : List Part) (put : Put) → IsAmong put (puts_of_parts parts) → IsStoredPut (parts_pairs stamp parts) put
parts_stored_put stamp [] put among = absurd among
parts_stored_put stamp (part ∷ parts) put among =
    elim (among_either (puts_of_part part) (puts_of_parts parts) put among) [
      | inl here ↦
          record {
            stamp = stamp;
            position = part.position;
            all = λ word x stored.
                IsStored-append_left (part_pairs stamp part) (parts_pairs (stamp + 1) parts) word x
                (IsStored-append_left (puts_pairs stamp part.position (puts_of_part part)) (end_pairs stamp part.ended.items) word x
                (puts_stored stamp part.position (puts_of_part part) put here word x stored));
          }
      | inr later ↦
          let more = parts_stored_put (stamp + 1) parts put later in
          record {
            stamp = more.stamp;
            position = more.position;
            all = λ word x stored. IsStored-append_right (part_pairs stamp part) (parts_pairs (stamp + 1) parts) word x (more.all word x stored);
          }
    ]

-- each word of its extent is stored
pub extent_stored : (pairs : List (ℕ × ℕ)) (put : Put) → IsStoredPut pairs put → (word : ℕ) → IsOfExtent put word → (x : ℕ) × IsStored pairs word x
extent_stored pairs put stored word of =
    let j : ℕ = word - 8 * put.extent.first_line in
    let at : 8 * put.extent.first_line + j ≡ word = omega (arith, of.low) in
    let here : IsStored (pairs_from (8 * put.extent.first_line) (extent_words put)) (8 * put.extent.first_line + j) (get_or (extent_words put) j 0) =
    pairs_from-IsStored (8 * put.extent.first_line) (extent_words put) j
    (omega (arith, of.high, of.low, length-packed (version_bytes put) 0 (8 * put.extent.lines))) in (
      get_or (extent_words put) j 0,
      subst (λ (w : ℕ). IsStored pairs w (get_or (extent_words put) j 0)) at
          (stored.all (8 * put.extent.first_line + j) (get_or (extent_words put) j 0)
          (IsStored-append_left (pairs_from (8 * put.extent.first_line) (extent_words put))
          (pairs_from (entry_word put.entry.0 0) (entry_words stored.stamp stored.position put)) (8 * put.extent.first_line + j)
          (get_or (extent_words put) j 0) here)),
    )

-- and so are the words of its entry
pub entry_stored : (pairs : List (ℕ × ℕ)) (put : Put) (stored : IsStoredPut pairs put) (k : ℕ) → k < 8
    → IsStored pairs (entry_word put.entry.0 k) (get_or (entry_words stored.stamp stored.position put) k 0)
entry_stored pairs put stored k below =
    let at : entry_word put.entry.0 0 + k ≡ entry_word put.entry.0 k = omega arith in
    let x : ℕ = get_or (entry_words stored.stamp stored.position put) k 0 in
    subst (λ (w : ℕ). IsStored pairs w x) at
    (stored.all (entry_word put.entry.0 0 + k) x
    (IsStored-append_right (pairs_from (8 * put.extent.first_line) (extent_words put))
    (pairs_from (entry_word put.entry.0 0) (entry_words stored.stamp stored.position put)) (entry_word put.entry.0 0 + k) x
    (pairs_from-IsStored (entry_word put.entry.0 0) (entry_words stored.stamp stored.position put) k below)))

-- no two puts share an entry
pub among_same : (puts : List Put) (put other : Put) → AreAllApart puts → IsAmong put puts → IsAmong other puts → put.entry.0 ≡ other.entry.0 → put ≡ other
among_same [] put other apart among there e = absurd among
among_same (first ∷ puts) put other apart (inl here) (inl there) e = here ∙ sym there
among_same (first ∷ puts) put other apart (inl here) (inr later) e =
    absurd ((among-all (IsApartFrom first) puts other later apart.0).entries (sym (ap (λ (p : Put). p.entry.0) here) ∙ e))
among_same (first ∷ puts) put other apart (inr later) (inl there) e =
    absurd ((among-all (IsApartFrom first) puts put later apart.0).entries (sym (ap (λ (p : Put). p.entry.0) there) ∙ sym e))
among_same (first ∷ puts) put other apart (inr later) (inr later') e = among_same puts put other apart.1 later later' e
