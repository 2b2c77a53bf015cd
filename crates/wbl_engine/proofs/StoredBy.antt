-- Each store of a group before the record is of a put's extent, of a put's entry, or ends a live version.
use Rattle.std.proofs.Common.{◌≡◌, ℕ, suc, ◌+◌, ◌-◌, ◌<◌, ◌≤◌, Bool, true, false, not, ◌||◌, IsTrue, List, [], ◌∷◌, ◌++◌, ◌⊎◌, inl, inr, Option, None, Some, length, get_or, refl, sym, ap, ◌∙◌, arith}
use Rattle.std.proofs.lemmas.Bool.{cases_Bool, or_cases, or_left, or_right}
use Rattle.pmem.specs.Runs.{IsStored}
use Rattle.pmem.proofs.Staging.{IsStored-append}
use Rattle.model.specs.declared.group.Part.{Part}
use Rattle.model.specs.declared.group.Put.{Put}
use Rattle.model.specs.Image.{Version, entry_word}
use Rattle.model.specs.Group.{Versions, NamesEnded, is_put_at, is_live_version, puts_of_part, part_versions}
use Rattle.heap_layout.specs.Put.{entry_words, put_pairs}
use Rattle.wbl_engine.specs.Committing.{AreNamed}
use Rattle.wbl_engine.specs.Stage.{puts_pairs, end_pairs, part_pairs, parts_pairs, puts_of_parts}
use Rattle.wbl_engine.proofs.PartEffects.{IsAmong, end_if_begun, changes_kept, is_put_at-among, among-is_put_at}
use Rattle.wbl_engine.proofs.PartWords.{named-contains}
use Rattle.heap_layout.proofs.PutWords.{IsOfEntry, IsOfExtent, put_pairs-where}
use Rattle.wbl_engine.proofs.PutPairs.{end_pairs-where}
use Rattle.wbl_engine.proofs.GroupSteps.{among-prefix, among-back}

pub record ByExtent (puts : List Put) (word : ℕ) : Type 0 where
  pub put : Put
  pub among : IsAmong put puts
  pub of : IsOfExtent put word

pub record ByEntry (stamp count : ℕ) (puts : List Put) (word x : ℕ) : Type 0 where
  pub put : Put
  pub among : IsAmong put puts
  pub begin : ℕ
  pub position : ℕ
  pub of : IsOfEntry put word
  pub value : get_or (entry_words begin position put) (word - entry_word put.entry.0 0) 0 ≡ x
  pub low : stamp ≤ begin
  pub high : begin < stamp + count

pub record ByEnd (versions : Versions) (stamp count : ℕ) (puts : List Put) (word x : ℕ) : Type 0 where
  pub entry : ℕ
  pub word_is : word ≡ entry_word entry 1
  pub low : stamp ≤ x
  pub high : x < stamp + count
  pub live : IsTrue (is_live_version (versions entry) || is_put_at entry puts)

abbrev pub IsStoredBy : Versions → ℕ → ℕ → List Put → ℕ → ℕ → Type 0
IsStoredBy versions stamp count puts word x =
    ByExtent puts word ⊎ (ByEntry stamp count puts word x ⊎ ByEnd versions stamp count puts word x)

-- the same of more puts, over other versions
widen : {versions versions' : Versions} {stamp stamp' count count' : ℕ} {puts puts' : List Put} {word x : ℕ}
    → ((put : Put) → IsAmong put puts → IsAmong put puts') → stamp' ≤ stamp → stamp + count ≤ stamp' + count'
    → ((i : ℕ) → IsTrue (is_live_version (versions i) || is_put_at i puts) → IsTrue (is_live_version (versions' i) || is_put_at i puts'))
    → IsStoredBy versions stamp count puts word x → IsStoredBy versions' stamp' count' puts' word x
widen among low high live (inl extent) = inl (record { put = extent.put; among = among extent.put extent.among; of = extent.of })
widen among low high live (inr (inl entry)) =
    inr (inl (record {
      put = entry.put;
      among = among entry.put entry.among;
      begin = entry.begin;
      position = entry.position;
      of = entry.of;
      value = entry.value;
      low = omega (arith, low, entry.low);
      high = omega (arith, high, entry.high);
    }))
widen among low high live (inr (inr end)) =
    inr (inr (record {
      entry = end.entry;
      word_is = end.word_is;
      low = omega (arith, low, end.low);
      high = omega (arith, high, end.high);
      live = live end.entry end.live;
    }))

is_put_at-prefix : (i : ℕ) (a b : List Put) → is_put_at i a ≡ true → is_put_at i (a ++ b) ≡ true
is_put_at-prefix i a b put =
    let at = is_put_at-among i a put in
    ap (λ (n : ℕ). is_put_at n (a ++ b)) at.2 ∙ among-is_put_at at.0 (a ++ b) (among-prefix a b at.0 at.1)

is_put_at-back : (i : ℕ) (a b : List Put) → is_put_at i b ≡ true → is_put_at i (a ++ b) ≡ true
is_put_at-back i a b put =
    let at = is_put_at-among i b put in
    ap (λ (n : ℕ). is_put_at n (a ++ b)) at.2 ∙ among-is_put_at at.0 (a ++ b) (among-back a b at.0 at.1)

live_before : (test : Bool) (old : Option Version) → IsTrue (is_live_version (end_if_begun test old)) → IsTrue (is_live_version old)
live_before test None live = live
live_before test (Some v) live = not_or v.is_ended test live
  where
    not_or : (a b : Bool) → not (a || b) ≡ true → not a ≡ true
    not_or true b e = e
    not_or false b e = refl

-- what is live after a part was so before it, or the part made it
pub live_then : (versions : Versions) (part : Part) (rest : List Put) (i : ℕ)
    → IsTrue (is_live_version (part_versions versions part i) || is_put_at i rest)
    → IsTrue (is_live_version (versions i) || is_put_at i (puts_of_part part ++ rest))
live_then versions part rest i live =
    elim (or_cases (is_live_version (part_versions versions part i)) (is_put_at i rest) live) [
      | inl now ↦
          elim (cases_Bool (is_put_at i (puts_of_part part))) [
            | inl put ↦
                or_right (is_live_version (versions i)) (is_put_at i (puts_of_part part ++ rest)) (is_put_at-prefix i (puts_of_part part) rest put)
            | inr none ↦
                let kept = changes_kept part.position versions part.changes.items i none in
                or_left (is_live_version (versions i)) (is_put_at i (puts_of_part part ++ rest))
                (live_before kept.test (versions i) (sym (ap is_live_version kept.is) ∙ now))
          ]
      | inr later ↦
          or_right (is_live_version (versions i)) (is_put_at i (puts_of_part part ++ rest)) (is_put_at-back i (puts_of_part part) rest later)
    ]

pub live_prefix : (versions : Versions) (part : Part) (rest : List Put) (i : ℕ)
    → IsTrue (is_live_version (versions i) || is_put_at i (puts_of_part part))
    → IsTrue (is_live_version (versions i) || is_put_at i (puts_of_part part ++ rest))
live_prefix versions part rest i live =
    elim (or_cases (is_live_version (versions i)) (is_put_at i (puts_of_part part)) live) [
      | inl now ↦ or_left (is_live_version (versions i)) (is_put_at i (puts_of_part part ++ rest)) now
      | inr put ↦ or_right (is_live_version (versions i)) (is_put_at i (puts_of_part part ++ rest)) (is_put_at-prefix i (puts_of_part part) rest put)
    ]

-- a store of a put
puts_by : (versions : Versions) (stamp count position : ℕ) (puts all : List Put) (word x : ℕ) → 0 < count
    → ((put : Put) → IsAmong put puts → IsAmong put all) → IsStored (puts_pairs stamp position puts) word x → IsStoredBy versions stamp count all word x
puts_by versions stamp count position [] all word x some among stored = absurd stored
puts_by versions stamp count position (put ∷ puts) all word x some among stored =
    elim (IsStored-append (put_pairs stamp position put) (puts_pairs stamp position puts) word x stored) [
      | inl here ↦
          elim (put_pairs-where stamp position put word x here) [
            | inl extent ↦ inl (record { put = put; among = among put (inl refl); of = extent })
            | inr entry ↦
                inr (inl (record {
                  put = put;
                  among = among put (inl refl);
                  begin = stamp;
                  position = position;
                  of = entry.0;
                  value = entry.1;
                  low = omega arith;
                  high = omega arith;
                }))
          ]
      | inr later ↦ puts_by versions stamp count position puts all word x some (λ q there. among q (inr there)) later
    ]

-- a store of one part
part_by : (versions : Versions) (stamp count : ℕ) (part : Part) (rest : List Put) (word x : ℕ) → 0 < count → NamesEnded versions part
    → IsStored (part_pairs stamp part) word x → IsStoredBy versions stamp count (puts_of_part part ++ rest) word x
part_by versions stamp count part rest word x some names stored =
    let a : List Put = puts_of_part part in
    elim (IsStored-append (puts_pairs stamp part.position a) (end_pairs stamp part.ended.items) word x stored) [
      | inl put ↦ puts_by versions stamp count part.position a (a ++ rest) word x some (among-prefix a rest) put
      | inr end ↦
          let at = end_pairs-where stamp part.ended.items word x end in
          inr (inr (record {
            entry = at.0;
            word_is = at.2;
            low = omega (arith, at.3);
            high = omega (arith, at.3);
            live = live_prefix versions part rest at.0 ((names at.0).0 (named-contains at.0 part.ended.items at.1)).0;
          }))
    ]

-- Every store of the parts.
pub parts_by : (parts : List Part) (versions : Versions) (stamp word x : ℕ) → AreNamed versions parts
    → IsStored (parts_pairs stamp parts) word x → IsStoredBy versions stamp (length parts) (puts_of_parts parts) word x
parts_by [] versions stamp word x follow stored = absurd stored
parts_by (part ∷ parts) versions stamp word x follow stored =
    elim (IsStored-append (part_pairs stamp part) (parts_pairs (stamp + 1) parts) word x stored) [
      | inl here ↦ part_by versions stamp (suc (length parts)) part (puts_of_parts parts) word x (omega arith) follow.0 here
      | inr later ↦
          widen (among-back (puts_of_part part) (puts_of_parts parts)) (omega arith) (omega arith) (live_then versions part (puts_of_parts parts))
          (parts_by parts (part_versions versions part) (stamp + 1) word x follow.1 later)
    ]
