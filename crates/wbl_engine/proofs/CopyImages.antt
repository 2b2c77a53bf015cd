-- A part of a copy of the keyspace, stored over an image.
use Rattle.std.proofs.Common.{◌≡◌, ℕ, zero, suc, ◌+◌, ◌-◌, ◌<◌, ◌≤◌, true, false, ◌||◌, ◌==◌, IsTrue, List, [], ◌∷◌, ◌⊎◌, inl, inr, Some, get_or, refl, sym, ap, subst, ◌∙◌, arith}
use Rattle.std.specs.Prelude.{nat_eq, nat_lt, is_none, if◌then◌else◌}
use Rattle.std.specs.List.{AllByRecursion}
use Rattle.std.proofs.lemmas.Bool.{and_parts, both_ways, cases_Bool, cond-false, cond-true, eq-eqb, eqb-true, ltb-true, ne_eqb, or_cases, or_parts}
use Rattle.pmem.specs.Device.{State}
use Rattle.pmem.specs.Crash.{image_of}
use Rattle.pmem.specs.Runs.{IsOutside, IsStored, written}
use Rattle.pmem.proofs.Staging.{IsStored-append, written-outside}
use Rattle.model.specs.declared.group.Put.{Put}
use Rattle.model.specs.declared.record.Record.{Record}
use Rattle.model.specs.Layout.{directory_room}
use Rattle.model.specs.Image.{Image, counts, entries_of_lines, entry_word, version_in}
use Rattle.model.specs.Group.{AreAllApart, AreApart, HasItsLines, IsPlaced, IsUnused, Versions, is_put_at, version_of_put, with_puts}
use Rattle.model.proofs.GroupsLemmas.{placed_in_more}
use Rattle.model.proofs.LayoutLemmas.{entries_fit}
use Rattle.heap_layout.specs.Entry.{IsEntry}
use Rattle.heap_layout.specs.Put.{entry_words, put_pairs}
use Rattle.heap_layout.proofs.PutWords.{IsOfEntry, IsOfExtent, put_pairs-where}
use Rattle.heap_layout.proofs.ReadBack.{HasPut, IsEntry-put}
use Rattle.wbl_engine.specs.AtRest.{Matters, contents_of}
use Rattle.wbl_engine.specs.Copying.{AreHalf, AreStageable, IsHalf, is_unstaged, staged_of, with_copy}
use Rattle.wbl_engine.specs.Stage.{IsWritable, puts_pairs}
use Rattle.wbl_engine.proofs.CountLemmas.{counts-above}
use Rattle.wbl_engine.proofs.Covering.{IsStoredPut, extent_stored, puts_stored}
use Rattle.wbl_engine.proofs.Erased.{HasSuperblock-same}
use Rattle.wbl_engine.proofs.HalfLemmas.{staged_at}
use Rattle.wbl_engine.proofs.PartEffects.{IsAmong, among-is_put_at, is_put_at-among}
use Rattle.wbl_engine.proofs.PutPairs.{among-all, puts_pairs-entry, puts_pairs-extent, puts_pairs-outside}
use Rattle.wbl_engine.proofs.Storing.{AreBehind}
use Rattle.wbl_engine.proofs.VersionLemmas.{SameEntry, entry-same, same_entry}

-- ---- the versions with those of puts

pub with_puts-none : (position : ℕ) (puts : List Put) (versions : Versions) (i : ℕ) → is_put_at i puts ≡ false → with_puts position puts versions i ≡ versions i
with_puts-none position [] versions i none = refl
with_puts-none position (put ∷ puts) versions i none =
    let parts = or_parts (nat_eq i put.entry.0) (is_put_at i puts) none in
    cond-false (nat_eq i put.entry.0) _ _ parts.0 ∙ with_puts-none position puts versions i parts.1

pub with_puts-among : (position : ℕ) (puts : List Put) (versions : Versions) (put : Put) → IsAmong put puts → AreAllApart puts
    → with_puts position puts versions put.entry.0 ≡ Some (version_of_put position put)
with_puts-among position [] versions put among apart = absurd among
with_puts-among position (other ∷ puts) versions put (inl here) apart =
    cond-true (nat_eq put.entry.0 other.entry.0) _ _ (eq-eqb put.entry.0 other.entry.0 (ap (λ (p : Put). p.entry.0) here))
    ∙ ap (λ (p : Put). Some (version_of_put position p)) (sym here)
with_puts-among position (other ∷ puts) versions put (inr later) apart =
    cond-false (nat_eq put.entry.0 other.entry.0) _ _
    (ne_eqb put.entry.0 other.entry.0 (λ same. (among-all _ puts put later apart.0).entries (sym same)))
    ∙ with_puts-among position puts versions put later apart.1

-- ---- where puts store

-- the word is of the extent of one of the puts, or of its entry
pub record ByPut (stamp position : ℕ) (puts : List Put) (word x : ℕ) : Type 0 where
  pub put : Put
  pub among : IsAmong put puts
  pub at : IsOfExtent put word ⊎ (IsOfEntry put word × (get_or (entry_words stamp position put) (word - entry_word put.entry.0 0) 0 ≡ x))

puts_where : (stamp position : ℕ) (puts : List Put) (word x : ℕ) → IsStored (puts_pairs stamp position puts) word x → ByPut stamp position puts word x
puts_where stamp position [] word x stored = absurd stored
puts_where stamp position (put ∷ puts) word x stored =
    elim (IsStored-append (put_pairs stamp position put) (puts_pairs stamp position puts) word x stored) [
      | inl here ↦ record { put = put; among = inl refl; at = put_pairs-where stamp position put word x here }
      | inr later ↦ let by = puts_where stamp position puts word x later in record { put = by.put; among = inr by.among; at = by.at }
    ]

-- ---- a part over an image

-- the image with the puts of a part
abbrev pub image_made : Record → ℕ → List Put → Image → Image
image_made r position puts base = written (puts_pairs (r.cp + 1) position puts) base

-- puts are stored over the base with the stamp of the copy, at entries that are free and where nothing is staged
pub record IsPart (r : Record) (lines : ℕ) (base : Image) (puts : List Put) : Type 0 where
  pub half : AreHalf r lines base
  pub placed : AllByRecursion (IsPlaced (entries_of_lines r.layout lines) lines) puts
  pub fitting : AllByRecursion HasItsLines puts
  pub writable : AllByRecursion IsWritable puts
  pub apart : AreAllApart puts
  pub free : (put : Put) → IsAmong put puts → base (entry_word put.entry.0 0) ≡ 0
  pub lines_apart : (put : Put) → IsAmong put puts → (i : ℕ) → i < entries_of_lines r.layout lines → r.cp < base (entry_word i 0)
      → AreApart put.extent.first_line put.extent.lines (base (entry_word i 3)) (base (entry_word i 4))

-- a free entry at which nothing is staged has the begin 0
unstaged_begin : (r : Record) (d : State) (i : ℕ) → IsTrue (is_unstaged (contents_of r d) (staged_of true r d) i) → image_of d.words (entry_word i 0) ≡ 0
unstaged_begin r d i unstaged =
    let begin : ℕ = image_of d.words (entry_word i 0) in
    let both = and_parts ((contents_of r d).is_free i) (is_none (staged_of true r d i)) unstaged in
    let free = and_parts (nat_lt i (entries_of_lines r.layout d.lines)) (begin == 0 || nat_lt r.cp begin) both.0 in
    elim (or_cases (begin == 0) (nat_lt r.cp begin) free.1) [
      | inl none ↦ eqb-true begin 0 none
      | inr above ↦
          absurd (both_ways (is_none (staged_of true r d i))
          (ap is_none (staged_at r d i (ltb-true i (entries_of_lines r.layout d.lines) free.0) (ltb-true r.cp begin above))) both.1)
    ]

pub is_part : {r : Record} {d : State} {puts : List Put} → IsHalf r d → AreStageable (contents_of r d) (staged_of true r d) puts
    → AllByRecursion IsWritable puts → IsPart r d.lines (image_of d.words) puts
is_part {r} {d} {puts} half asked writable =
    let unused = λ (put : Put) (among : IsAmong put puts).
    among-all (IsUnused (staged_of true r d) (is_unstaged (contents_of r d) (staged_of true r d))) puts put among asked.unused in
    record {
      half = half.half;
      placed = asked.placed;
      fitting = asked.fitting;
      writable = writable;
      apart = asked.apart;
      free = λ put among. unstaged_begin r d put.entry.0 (unused put among).entry;
      lines_apart = λ put among i within above.
          (unused put among).lines i (version_in r (image_of d.words) i) (staged_at r d i within above);
    }

module _ {r : Record} {lines : ℕ} {base : Image} {puts : List Put} (part : IsPart r lines base puts) (position : ℕ) where
  pub placed_at : (put : Put) → IsAmong put puts → IsPlaced (entries_of_lines r.layout lines) lines put
  placed_at put among = among-all (IsPlaced (entries_of_lines r.layout lines) lines) puts put among part.placed

  placed_room : AllByRecursion (IsPlaced (directory_room lines) lines) puts
  placed_room = placed_in_more (entries_of_lines r.layout lines) (directory_room lines) lines puts (entries_fit r.layout lines) part.placed

  -- no put stores at another entry
  kept_out : (i k : ℕ) → i < entries_of_lines r.layout lines → k < 8 → is_put_at i puts ≡ false → IsOutside (puts_pairs (r.cp + 1) position puts) (entry_word i k)
  kept_out i k within below none =
      puts_pairs-outside (r.cp + 1) position puts (entry_word i k)
      (λ q among of. omega (arith, of.low, within, below, (placed_at q among).above, entries_fit r.layout lines))
      (λ q among of.
      let same : q.entry.0 ≡ i = omega (arith, of.low, of.high, below) in
      both_ways (is_put_at i puts) none (ap (λ (n : ℕ). is_put_at n puts) (sym same) ∙ among-is_put_at q puts among))

  pub kept_word : (i k : ℕ) → i < entries_of_lines r.layout lines → k < 8 → is_put_at i puts ≡ false → image_made r position puts base (entry_word i k) ≡ base (entry_word i k)
  kept_word i k within below none = written-outside (puts_pairs (r.cp + 1) position puts) base (entry_word i k) (kept_out i k within below none)

  pub put_word : (put : Put) → IsAmong put puts → (k : ℕ) → k < 8 → image_made r position puts base (entry_word put.entry.0 k) ≡ get_or (entry_words (r.cp + 1) position put) k 0
  put_word put among k below = puts_pairs-entry lines (r.cp + 1) position puts put base k below among placed_room part.apart

  pub put_there : (put : Put) → IsAmong put puts → HasPut (image_made r position puts base) (r.cp + 1) position put
  put_there put among =
      record {
        begin = put_word put among 0 (omega arith);
        position_is = put_word put among 2 (omega arith);
        first_line = put_word put among 3 (omega arith);
        lines = put_word put among 4 (omega arith);
        kind = put_word put among 5 (omega arith);
        lengths = put_word put among 6 (omega arith);
        value_length = put_word put among 7 (omega arith);
        extent = λ j below. puts_pairs-extent lines (r.cp + 1) position puts put base j below among placed_room part.apart;
      }

  -- what holds of each entry of the directory, whether a put is there or not
  each_entry : (P : ℕ → Type 0) → ((i : ℕ) → i < entries_of_lines r.layout lines → is_put_at i puts ≡ false → P i)
      → ((put : Put) → IsAmong put puts → P put.entry.0) → (i : ℕ) → i < entries_of_lines r.layout lines → P i
  each_entry P kept made_at i within =
      elim (cases_Bool (is_put_at i puts)) [
        | inl put ↦ let at = is_put_at-among i puts put in subst P (sym at.2) (made_at at.0 at.1)
        | inr none ↦ kept i within none
      ]

  -- what was staged before stays
  pub staged_stays : (i : ℕ) → i < entries_of_lines r.layout lines → is_put_at i puts ≡ false → r.cp < base (entry_word i 0) → SameEntry base (image_made r position puts base) i
  staged_stays i within none above =
      same_entry (part.half.entries i within above) (λ k low below. kept_word i k within below none)
      (λ word at.
      written-outside (puts_pairs (r.cp + 1) position puts) base word
      (puts_pairs-outside (r.cp + 1) position puts word
      (λ q among of.
      elim (part.lines_apart q among i within above) [
        | inl first ↦ omega (arith, first, of.high, at.low)
        | inr second ↦ omega (arith, second, of.low, at.high)
      ])
      (λ q among of.
      omega (arith, of.high, at.low, (part.half.entries i within above).above, (placed_at q among).entry, entries_fit r.layout lines))))

  pub behind : AreBehind r.layout lines (puts_pairs (r.cp + 1) position puts)
  behind word x stored =
      let by = puts_where (r.cp + 1) position puts word x stored in
      elim by.at [
        | inl extent ↦ inr (omega (arith, extent.low, (placed_at by.put by.among).above))
        | inr entry ↦ inl (omega (arith, entry.0.low), omega (arith, entry.0.high, (placed_at by.put by.among).entry))
      ]

  -- the begin that is stored is the stamp of the copy, and no end is
  pub stored_stamp : (i k x : ℕ) → i < entries_of_lines r.layout lines → k < 2 → IsStored (puts_pairs (r.cp + 1) position puts) (entry_word i k) x
      → x ≡ (if k == 0 then r.cp + 1 else 0)
  stored_stamp i k x within low stored =
      let by = puts_where (r.cp + 1) position puts (entry_word i k) x stored in
      elim by.at [
        | inl extent ↦ absurd (omega (arith, extent.low, within, low, (placed_at by.put by.among).above, entries_fit r.layout lines))
        | inr entry ↦
            let same : by.put.entry.0 ≡ i = omega (arith, entry.0.low, entry.0.high, low) in
            let place : entry_word i k - entry_word by.put.entry.0 0 ≡ k = omega (arith, same) in
            sym (ap (λ (n : ℕ). get_or (entry_words (r.cp + 1) position by.put) n 0) (sym place) ∙ entry.1) ∙ stamps k low by.put
      ]
    where
      stamps : (k : ℕ) → k < 2 → (put : Put) → get_or (entry_words (r.cp + 1) position put) k 0 ≡ (if k == 0 then r.cp + 1 else 0)
      stamps zero low put = refl
      stamps (suc zero) low put = refl
      stamps (suc (suc k)) low put = absurd (omega (arith, low))

  -- the image is whole under the stamp of the copy
  pub made_half : AreHalf r lines (image_made r position puts base)
  made_half =
      record {
        superblock = HasSuperblock-same r.layout lines base (image_made r position puts base)
            (λ word low.
            written-outside (puts_pairs (r.cp + 1) position puts) base word
            (λ x stored. elim (behind word x stored) [ inl directory ↦ omega (arith, low, directory.0) | inr extents ↦ omega (arith, low, extents) ]))
            part.half.superblock;
        begins = each_entry (λ i. image_made r position puts base (entry_word i 0) ≤ r.cp + 1)
            (λ i within none. omega (arith, kept_word i 0 within (omega arith) none, part.half.begins i within))
            (λ put among. omega (arith, put_word put among 0 (omega arith)));
        ends = each_entry (λ i. image_made r position puts base (entry_word i 1) ≤ r.cp)
            (λ i within none. omega (arith, kept_word i 1 within (omega arith) none, part.half.ends i within))
            (λ put among. omega (arith, put_word put among 1 (omega arith)));
        uncounted = each_entry (λ i. counts r (image_made r position puts base (entry_word i 0)) ≡ false)
            (λ i within none. ap (counts r) (kept_word i 0 within (omega arith) none) ∙ part.half.uncounted i within)
            (λ put among. ap (counts r) (put_word put among 0 (omega arith)) ∙ counts-above r (r.cp + 1) (omega arith));
        entries = each_entry (λ i. r.cp < image_made r position puts base (entry_word i 0) → IsEntry lines (image_made r position puts base) i)
            (λ i within none above.
            let was : r.cp < base (entry_word i 0) = omega (arith, above, kept_word i 0 within (omega arith) none) in
            entry-same lines base (image_made r position puts base) i (staged_stays i within none was) (part.half.entries i within was))
            (λ put among above.
            let writable = among-all IsWritable puts put among part.writable in
            IsEntry-put lines (image_made r position puts base) (r.cp + 1) position put
            (among-all (IsPlaced (directory_room lines) lines) puts put among placed_room) (among-all HasItsLines puts put among part.fitting)
            writable.storable writable.name writable.value (put_there put among));
        live = each_entry (λ i. r.cp < image_made r position puts base (entry_word i 0) → image_made r position puts base (entry_word i 1) ≡ 0)
            (λ i within none above.
            kept_word i 1 within (omega arith) none
            ∙ part.half.live i within (omega (arith, above, kept_word i 0 within (omega arith) none)))
            (λ put among above. put_word put among 1 (omega arith));
      }

  -- a word on which what is staged depends, and that the puts do not store, is one on which it depended
  pub mattered : (word : ℕ) → Matters (with_copy r) lines (image_made r position puts base) word → IsOutside (puts_pairs (r.cp + 1) position puts) word
      → Matters (with_copy r) lines base word
  mattered word (inl before) out = inl before
  mattered word (inr (inl directory)) out = inr (inl directory)
  mattered word (inr (inr (i, within, counted, at))) out =
      elim (cases_Bool (is_put_at i puts)) [
        | inl there ↦
            let made = is_put_at-among i puts there in
            let has = put_there made.0 made.1 in
            let first : image_made r position puts base (entry_word i 3) ≡ made.0.extent.first_line =
            ap (λ (n : ℕ). image_made r position puts base (entry_word n 3)) made.2 ∙ has.first_line in
            let count : image_made r position puts base (entry_word i 4) ≡ made.0.extent.lines =
            ap (λ (n : ℕ). image_made r position puts base (entry_word n 4)) made.2 ∙ has.lines in
            let of : IsOfExtent made.0 word = record { low = omega (arith, at.low, first); high = omega (arith, at.high, first, count) } in
            let stored = extent_stored (puts_pairs (r.cp + 1) position puts) made.0 (stored_put made.0 made.1) word of in
            absurd (out stored.0 stored.1)
        | inr none ↦
            let begin = kept_word i 0 within (omega arith) none in
            let first = kept_word i 3 within (omega arith) none in
            let count = kept_word i 4 within (omega arith) none in
            inr (inr (
              i,
              within,
              sym (ap (counts (with_copy r)) begin) ∙ counted,
              record { low = omega (arith, at.low, first); high = omega (arith, at.high, first, count) },
            ))
      ]
    where
      stored_put : (put : Put) → IsAmong put puts → IsStoredPut (puts_pairs (r.cp + 1) position puts) put
      stored_put put among =
          record { stamp = r.cp + 1; position = position; all = λ word x stored. puts_stored (r.cp + 1) position puts put among word x stored }
