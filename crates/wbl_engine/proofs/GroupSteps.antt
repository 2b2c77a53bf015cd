-- A group moves the versions of an image exactly as its changes say.
use Rattle.std.proofs.Common.{◌≡◌, ℕ, suc, ◌+◌, ◌≤◌, Bool, false, List, [], ◌∷◌, ◌++◌, inl, inr, Option, None, Some, length, refl, sym, ap, subst, ◌∙◌, arith}
use Rattle.std.specs.List.{AllByRecursion}
use Rattle.std.proofs.lemmas.Bool.{cases_Bool}
use Rattle.pmem.specs.Runs.{written}
use Rattle.pmem.proofs.Staging.{written-append}
use Rattle.model.specs.declared.record.Record.{Record}
use Rattle.model.specs.declared.group.Part.{Part}
use Rattle.model.specs.declared.group.Put.{Put}
use Rattle.model.specs.Layout.{directory_room, entries_of_lines}
use Rattle.model.specs.Image.{Image, Version}
use Rattle.model.specs.Group.{Versions, IsPlaced, HasItsLines, AreApart, IsApartFrom, AreAllApart, is_put_at, puts_of_part, part_versions, parts_versions, version_of_put}
use Rattle.model.proofs.GroupsLemmas.{placed_in_more, AreAllApart-prefix, AreAllApart-rest}
use Rattle.model.proofs.LayoutLemmas.{entries_fit}
use Rattle.wbl_engine.specs.Committing.{AreNamed}
use Rattle.wbl_engine.specs.Stage.{IsWritable, part_pairs, parts_pairs, puts_of_parts}
use Rattle.wbl_engine.proofs.CountLemmas.{with_cp}
use Rattle.wbl_engine.proofs.PartEffects.{IsAmong, end_if, end_if_begun, changes_kept, changes_made, is_put_at-among}
use Rattle.wbl_engine.proofs.PartWords.{part_word-kept}
use Rattle.wbl_engine.proofs.PartSteps.{Fits, IsReady, AreStored, part_fits}
use Rattle.wbl_engine.proofs.PutPairs.{among-all}
use Rattle.wbl_engine.proofs.StagingLemmas.{all-prefix, all-back}

-- concatenated lists

-- each put of the first list is apart from each put of the second
pub apart-across : (a b : List Put) → AreAllApart (a ++ b) → (put other : Put) → IsAmong put a → IsAmong other b → IsApartFrom put other
apart-across [] b apart put other among there = absurd among
apart-across (first ∷ a) b apart put other (inl here) there =
    subst (λ (p : Put). IsApartFrom p other) (sym here) (among-all (IsApartFrom first) b other there (all-back (IsApartFrom first) a b apart.0))
apart-across (first ∷ a) b apart put other (inr later) there = apart-across a b apart.1 put other later there

pub among-prefix : (a b : List Put) (put : Put) → IsAmong put a → IsAmong put (a ++ b)
among-prefix [] b put among = absurd among
among-prefix (first ∷ a) b put (inl here) = inl here
among-prefix (first ∷ a) b put (inr later) = inr (among-prefix a b put later)

pub among-back : (a b : List Put) (put : Put) → IsAmong put b → IsAmong put (a ++ b)
among-back [] b put among = among
among-back (first ∷ a) b put among = inr (among-back a b put among)

pub all-from : (P : Put → Type 0) (puts : List Put) → ((put : Put) → IsAmong put puts → P put) → AllByRecursion P puts
all-from P [] each = tt
all-from P (put ∷ puts) each = (each put (inl refl), all-from P puts (λ q among. each q (inr among)))

none-from : (i : ℕ) (puts : List Put) → ((put : Put) → IsAmong put puts → i ≡ put.entry.0 → ⊥) → is_put_at i puts ≡ false
none-from i puts none =
    elim (cases_Bool (is_put_at i puts)) [
      | inl put ↦ let at = is_put_at-among i puts put in absurd (none at.0 at.1 at.2)
      | inr no_put ↦ no_put
    ]

pub flip_apart : (a b c d : ℕ) → AreApart a b c d → AreApart c d a b
flip_apart a b c d (inl before) = inr before
flip_apart a b c d (inr after) = inl after

-- the part's own puts
part_stored : (entries lines : ℕ) (versions : Versions) (image : Image) (part : Part) (parts : List Part)
    → AreStored entries lines versions image (puts_of_parts (part ∷ parts)) → AreStored entries lines versions image (puts_of_part part)
part_stored entries lines versions image part parts stored =
    let a : List Put = puts_of_part part in
    let b : List Put = puts_of_parts parts in
    record {
      placed = all-prefix (IsPlaced entries lines) a b stored.placed;
      fitting = all-prefix HasItsLines a b stored.fitting;
      writable = all-prefix IsWritable a b stored.writable;
      ready = all-prefix (IsReady versions image) a b stored.ready;
      apart = AreAllApart-prefix a b stored.apart;
    }

-- a put of a later part still has its place
still_ready : (entries lines stamp : ℕ) (versions : Versions) (image : Image) (part : Part) (parts : List Part)
    → entries ≤ directory_room lines → AreStored entries lines versions image (puts_of_parts (part ∷ parts)) → (put : Put) → IsAmong put (puts_of_parts parts)
    → IsReady (part_versions versions part) (written (part_pairs stamp part) image) put
still_ready entries lines stamp versions image part parts fit stored put among =
    let a : List Put = puts_of_part part in
    let b : List Put = puts_of_parts parts in
    let was : IsReady versions image put = among-all (IsReady versions image) (a ++ b) put (among-back a b put among) stored.ready in
    let placed : IsPlaced entries lines put = among-all (IsPlaced entries lines) (a ++ b) put (among-back a b put among) stored.placed in
    let none : is_put_at put.entry.0 a ≡ false =
    none-from put.entry.0 a (λ other there e. (apart-across a b stored.apart other put there among).entries (sym e)) in
    record {
      free =
          part_word-kept lines stamp part image (placed_in_more entries (directory_room lines) lines a fit
          (all-prefix (IsPlaced entries lines) a b stored.placed))
          put.entry.0 0 (omega (arith, placed.entry, fit)) (omega arith) (omega arith) none
          ∙ was.free;
      lines = λ i version is.
          elim (cases_Bool (is_put_at i a)) [
            | inl there ↦
                let at = is_put_at-among i a there in
                let made = changes_made part.position versions part.changes.items at.0 at.1 (AreAllApart-prefix a b stored.apart) in
                let same : Some version ≡ Some (end_if made.test (version_of_put part.position at.0)) =
                sym is ∙ ap (part_versions versions part) at.2 ∙ made.is in
                let version_is : version ≡ end_if made.test (version_of_put part.position at.0) = cc in
                subst (λ (v : Version). AreApart put.extent.first_line put.extent.lines v.first_line v.lines) (sym version_is)
                (flip_apart at.0.extent.first_line at.0.extent.lines put.extent.first_line put.extent.lines
                (apart-across a b stored.apart at.0 put at.1 among).lines)
            | inr none_there ↦
                let kept = changes_kept part.position versions part.changes.items i none_there in
                apart_where_kept put kept.test (versions i) version (was.lines i) (sym kept.is ∙ is)
          ];
    }
  where
    apart_where_kept : (put : Put) (test : Bool) (old : Option Version) (version : Version)
        → ((v : Version) → old ≡ Some v → AreApart put.extent.first_line put.extent.lines v.first_line v.lines)
        → end_if_begun test old ≡ Some version → AreApart put.extent.first_line put.extent.lines version.first_line version.lines
    apart_where_kept put test None version apart e = absurd (cc)
    apart_where_kept put test (Some v) version apart e =
        let is : version ≡ end_if test v = cc in
        subst (λ (w : Version). AreApart put.extent.first_line put.extent.lines w.first_line w.lines) (sym is) (apart v refl)

rest_stored : (entries lines stamp : ℕ) (versions : Versions) (image : Image) (part : Part) (parts : List Part)
    → entries ≤ directory_room lines → AreStored entries lines versions image (puts_of_parts (part ∷ parts))
    → AreStored entries lines (part_versions versions part) (written (part_pairs stamp part) image) (puts_of_parts parts)
rest_stored entries lines stamp versions image part parts fit stored =
    let a : List Put = puts_of_part part in
    let b : List Put = puts_of_parts parts in
    record {
      placed = all-back (IsPlaced entries lines) a b stored.placed;
      fitting = all-back HasItsLines a b stored.fitting;
      writable = all-back IsWritable a b stored.writable;
      ready = all-from (IsReady (part_versions versions part) (written (part_pairs stamp part) image)) b
          (λ put among. still_ready entries lines stamp versions image part parts fit stored put among);
      apart = AreAllApart-rest a b stored.apart;
    }

-- The versions after the stores of all parts, under the record with one more stamp for each part, are those after their changes.
pub parts_fit : (lines : ℕ) (parts : List Part) (r : Record) (image : Image) (versions : Versions) → Fits r lines image versions
    → AreStored (entries_of_lines r.layout lines) lines versions image (puts_of_parts parts) → AreNamed versions parts
    → Fits (with_cp r (r.cp + length parts)) lines (written (parts_pairs (r.cp + 1) parts) image) (parts_versions versions parts)
parts_fit lines [] r image versions fits stored follow =
    let e : r.cp ≡ r.cp + 0 = omega arith in
    subst (λ (n : ℕ). Fits (with_cp r n) lines image versions) e fits
parts_fit lines (part ∷ parts) r image versions fits stored follow =
    let r' : Record = with_cp r (r.cp + 1) in
    let image' : Image = written (part_pairs (r.cp + 1) part) image in
    let first : Fits r' lines image' (part_versions versions part) =
    part_fits part fits (part_stored (entries_of_lines r.layout lines) lines versions image part parts stored) follow.0 in
    let rest : Fits (with_cp r ((r.cp + 1) + length parts)) lines (written (parts_pairs ((r.cp + 1) + 1) parts) image') (parts_versions versions (part ∷ parts)) =
    parts_fit lines parts r' image' (part_versions versions part) first
    (rest_stored (entries_of_lines r.layout lines) lines (r.cp + 1) versions image part parts (entries_fit r.layout lines) stored) follow.1 in
    let e : (r.cp + 1) + length parts ≡ r.cp + suc (length parts) = omega arith in
    subst (λ (n : ℕ). Fits (with_cp r n) lines (written (parts_pairs (r.cp + 1) (part ∷ parts)) image) (parts_versions versions (part ∷ parts))) e
    (subst (λ (f : ℕ → ℕ). Fits (with_cp r ((r.cp + 1) + length parts)) lines f (parts_versions versions (part ∷ parts)))
    (sym (written-append (part_pairs (r.cp + 1) part) (parts_pairs ((r.cp + 1) + 1) parts) image)) rest)
