-- An entry whose words stayed reads as before, and a put touches no other entry.
use Rattle.std.proofs.Common.{◌≡◌, ◌≢◌, ℕ, ◌+◌, ◌*◌, ◌/◌, ◌<◌, inl, inr, sym, ap, ◌∙◌, arith}
use Rattle.pmem.specs.Runs.{written}
use Rattle.pmem.proofs.Staging.{written-outside}
use Rattle.model.specs.declared.group.Put.{Put}
use Rattle.model.specs.Image.{Image, entry_word, entry_bytes, bytes_at, lines_of_bytes, directory_room}
use Rattle.model.specs.Group.{IsPlaced, AreApart}
use Rattle.heap_layout.specs.Entry.{IsEntry, ReadsAlike, entry_in}
use Rattle.heap_layout.specs.Put.{put_pairs}
use Rattle.heap_layout.proofs.PutWords.{put_pairs-outside}
use Rattle.heap_layout.proofs.ReadBack.{lines_enough}
use Rattle.heap_layout.proofs.SameWords.{bytes_at-same}

abbrev pub SameLine : Image → Image → ℕ → Type 0
SameLine old new i = (k : ℕ) → k < 8 → new (entry_word i k) ≡ old (entry_word i k)

-- the rules look at the entry's words alone
pub IsEntry-same : (lines : ℕ) (old new : Image) (i : ℕ) → SameLine old new i → IsEntry lines old i → IsEntry lines new i
IsEntry-same lines old new i same entry =
    let at3 = same 3 (omega arith) in
    let at5 = same 5 (omega arith) in
    let at6 = same 6 (omega arith) in
    let at7 = same 7 (omega arith) in
    let bytes : entry_bytes new i ≡ entry_bytes old i = cc in
    let room = ap lines_of_bytes bytes in
    record {
      in_format = record {
        key = omega (arith, at6, entry.in_format.key);
        field = omega (arith, at6, entry.in_format.field);
        value = omega (arith, at7, entry.in_format.value);
        extent = omega (arith, at3, room, entry.in_format.extent);
      };
      kind = grind (arith, at5, ap (λ (n : ℕ). n / 65536) at6, entry.kind);
      above = omega (arith, at3, entry.above);
      lines_are = same 4 (omega arith) ∙ entry.lines_are ∙ sym room;
    }

-- the entry and the words of its extent stayed
pub entry_in-same : (old new : Image) (i : ℕ) → SameLine old new i
    → ((j : ℕ) → j < (entry_bytes old i + 7) / 8 → new (8 * old (entry_word i 3) + j) ≡ old (8 * old (entry_word i 3) + j))
    → entry_in new i ≡ entry_in old i
entry_in-same old new i same extent =
    let at3 = same 3 (omega arith) in
    let at5 = same 5 (omega arith) in
    let at6 = same 6 (omega arith) in
    let at7 = same 7 (omega arith) in
    let bytes : entry_bytes new i ≡ entry_bytes old i = cc in
    let there = bytes_at-same old new (old (entry_word i 3)) (entry_bytes old i) extent in
    let all : bytes_at new (new (entry_word i 3)) (entry_bytes new i) ≡ bytes_at old (old (entry_word i 3)) (entry_bytes old i) = rw (at3, bytes) there in
    cc (same 0 (omega arith), same 1 (omega arith), same 2 (omega arith), same 4 (omega arith))

-- a put stores to no word of another entry
other_line : (lines stamp position : ℕ) (put : Put) (old new : Image) (i : ℕ) → IsPlaced (directory_room lines) lines put → i < directory_room lines → i ≢ put.entry.0
    → ((word : ℕ) → new word ≡ written (put_pairs stamp position put) old word) → SameLine old new i
other_line lines stamp position put old new i placed below other is k small =
    is (entry_word i k)
    ∙ written-outside (put_pairs stamp position put) old (entry_word i k)
    (put_pairs-outside stamp position put (entry_word i k) (λ of. omega (arith, of.low, placed.above, below))
    (λ of. other (omega (arith, of.low, of.high))))

-- and to no word of an extent with other lines
other_extent : (lines stamp position : ℕ) (put : Put) (old new : Image) (i : ℕ) → IsPlaced (directory_room lines) lines put → IsEntry lines old i
    → AreApart (old (entry_word i 3)) (old (entry_word i 4)) put.extent.first_line put.extent.lines
    → ((word : ℕ) → new word ≡ written (put_pairs stamp position put) old word) → (j : ℕ) → j < (entry_bytes old i + 7) / 8
    → new (8 * old (entry_word i 3) + j) ≡ old (8 * old (entry_word i 3) + j)
other_extent lines stamp position put old new i placed entry apart is j below =
    let word : ℕ = 8 * old (entry_word i 3) + j in
    let inside : j < 8 * old (entry_word i 4) = omega (arith, lines_enough (entry_bytes old i), entry.lines_are) in
    is word
    ∙ written-outside (put_pairs stamp position put) old word
    (put_pairs-outside stamp position put word
    (λ of. elim apart [ inl before ↦ omega (arith, before, inside, of.low) | inr after ↦ omega (arith, after, of.high) ])
    (λ of. omega (arith, of.high, placed.entry, entry.above)))

-- Every other entry reads as before.
pub ReadsAlike-put : (lines stamp position : ℕ) (put : Put) (old new : Image) (i : ℕ) → IsPlaced (directory_room lines) lines put → i < directory_room lines
    → i ≢ put.entry.0 → ((word : ℕ) → new word ≡ written (put_pairs stamp position put) old word) → ReadsAlike lines old new put.extent i
ReadsAlike-put lines stamp position put old new i placed below other is =
    let same = other_line lines stamp position put old new i placed below other is in
    record {
      words = same;
      whole = (IsEntry-same lines new old i (λ k small. sym (same k small)), IsEntry-same lines old new i same);
      holds = λ entry apart. entry_in-same old new i same (other_extent lines stamp position put old new i placed entry apart is);
    }
