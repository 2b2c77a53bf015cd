-- How many of the versions that were read are live.
use Rattle.std.proofs.Common.{◌≡◌, ℕ, zero, suc, ◌+◌, ◌<◌, Bool, true, false, not, cond, ◌&&◌, ◌==◌, List, [], ◌∷◌, length, refl, ap, ◌∙◌, arith}
use Rattle.std.proofs.lemmas.Bool.{ne_eqb}
use Rattle.std.proofs.lemmas.List.{length-append}
use Rattle.std.proofs.lemmas.List.Elements.{filter-append}
use Rattle.kv_types.specs.declared.place.EntryNo.{EntryNo}
use Rattle.heap_layout.specs.declared.entry.Entry.{Entry}
use Rattle.heap_layout.specs.Entry.{entry_in}
use Rattle.heap_layout.specs.Versions.{counted_at, counted_below, is_counted, is_live, live_in}
use Rattle.model.specs.declared.record.Record.{Record}
use Rattle.model.specs.Image.{Image, counts, entry_word}
use Rattle.wbl_engine.specs.Inspecting.{live_below}
use Rattle.wbl_engine.proofs.CountLemmas.{counts-below}

-- an entry that was read, with an end of 0 where its end does not count
abbrev read_as : ℕ → Entry → ℕ → Bool → List (EntryNo × Entry)
read_as i entry end counted = cond counted ((record { 0 = i }, record entry { end = end }) ∷ []) []

one_live : (i : ℕ) (entry : Entry) (end : ℕ) (counted ended : Bool) → (ended ≡ true → 0 < end)
    → length (live_in (read_as i entry (cond ended end 0) counted)) ≡ cond (counted && not ended) 1 0
one_live i entry end false ended some = refl
one_live i entry end true false some = refl
one_live i entry end true true some =
    let not_zero : (end == 0) ≡ false = ne_eqb end 0 (λ e. let low = some refl in omega (arith, low, e)) in
    let one : EntryNo × Entry = (record { 0 = i }, record entry { end = end }) in
    ap (λ (b : Bool). length {A = EntryNo × Entry} (cond b (one ∷ []) [])) not_zero

live_at : (r : Record) (image : Image) (i : ℕ) → length (live_in (counted_at r image i)) ≡ cond (is_live r image i) 1 0
live_at r image i =
    one_live i (entry_in image i) (image (entry_word i 1)) (is_counted r image i) (counts r (image (entry_word i 1)))
    (λ counted. (counts-below r (image (entry_word i 1)) counted).0)

pub live_counted : (r : Record) (image : Image) (n : ℕ) → length (live_in (counted_below r image n)) ≡ live_below r image n
live_counted r image zero = refl
live_counted r image (suc n) =
    let test : EntryNo × Entry → Bool = λ (version : EntryNo × Entry). version.1.end == 0 in
    ap length (filter-append test (counted_below r image n) (counted_at r image n))
    ∙ length-append (live_in (counted_below r image n)) (live_in (counted_at r image n))
    ∙ ap (λ (m : ℕ). m + length (live_in (counted_at r image n))) (live_counted r image n)
    ∙ ap (λ (m : ℕ). live_below r image n + m) (live_at r image n)
