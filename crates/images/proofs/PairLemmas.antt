-- What an image holds does not depend on its number.
use Rattle.std.proofs.Common.{◌≡◌, ◌≢◌, ℕ, zero, suc, ◌+◌, ◌*◌, ◌<◌, ◌≤◌, Bool, true, false, not, ◌&&◌, ◌||◌, ◌==◌, nat_lt, if◌then◌else◌, List, [], ◌∷◌, ◌++◌, Option, None, refl, inl, inr, sym, ap, ap₂, subst, ◌∙◌, arith}
use Rattle.std.proofs.lemmas.Bool.{cases_lt, cond-true, cond-false, le-ltb}
use Rattle.kv_types.specs.Keyspace.{Keyspace}
use Rattle.kv_types.specs.declared.place.EntryNo.{EntryNo}
use Rattle.kv_types.specs.declared.refusal.Refusal.{Refusal}
use Rattle.model.specs.declared.layout.Layout.{Layout}
use Rattle.model.specs.declared.layout.Layout.TheVariants.{Version1, Version2, Halfway}
use Rattle.model.specs.declared.layout.TheConstants.{SUPERBLOCK_WORDS}
use Rattle.model.specs.declared.record.Record.{Record}
use Rattle.model.specs.declared.record.Role.{Role}
use Rattle.model.specs.Group.{Contents}
use Rattle.model.specs.Image.{Image, HasRecord, HasSuperblock, Version, counts, entries_of_lines, entry_word, first_extent_line, root_word, version_at}
use Rattle.model.proofs.LayoutLemmas.{slot_at}
use Rattle.model.proofs.MapLemmas.{IsMapOf-same}
use Rattle.heap_layout.specs.declared.entry.Entry.{Entry}
use Rattle.heap_layout.specs.Entry.{IsEntry, entry_in}
use Rattle.heap_layout.specs.Superblock.{super_refusal}
use Rattle.heap_layout.specs.Version.{IsUnder}
use Rattle.heap_layout.specs.Versions.{counted_at, counted_below, counted_entry, gapped_below, is_counted}
use Rattle.heap_layout.proofs.ReadAlike.{IsEntry-same, entry_in-same}
use Rattle.wbl_record.proofs.RecordWords.{HasRecord-same}
use Rattle.wbl_engine.specs.Contents.{Keeps}
use Rattle.wbl_engine.specs.Inspecting.{live_below}
use Rattle.wbl_engine.specs.Lawful.{IsUndamaged}
use Rattle.wbl_engine.specs.Reopening.{RefusesReading, RefusesReopening, is_cleared, is_left, layout_in, left_below}
use Rattle.wbl_engine.specs.Restarting.{IsReopened}
use Rattle.wbl_engine.proofs.Erased.{HasSuperblock-same}
use Rattle.wbl_migrate.specs.Migrating.{IsImageOf, IsMigratable}
use Rattle.wbl_migrate.proofs.Entries.{versions_same}
use Rattle.wbl_migrate.proofs.Maps.{SameEntry, version_at-same}
use Rattle.images.specs.Pair.{IsButForPair}

-- the images are as much alike the other way round
pub other_way : (base image : Image) → IsButForPair base image → IsButForPair image base
other_way base image same word other = sym (same word other)

-- no layout has its root there
root_beside : (layout : Layout) → root_word layout ≢ 6
root_beside Version1 e = omega (arith, e)
root_beside Version2 e = omega (arith, e)
root_beside Halfway e = omega (arith, e)

abbrev one_no : ℕ → List EntryNo
one_no i = record { 0 = i } ∷ []

abbrev one_counted : ℕ → Entry → List (EntryNo × Entry)
one_counted i entry = (record { 0 = i }, entry) ∷ []

-- an entry with an end that counts, or none
abbrev with_end : Record → Entry → ℕ → Entry
with_end r entry last = record entry { end = if counts r last then last else 0 }

module _ (base image : Image) (same : IsButForPair base image) where
  -- ---- the words that are read

  before : (word : ℕ) → word < SUPERBLOCK_WORDS → image word ≡ base word
  before word low = same word (λ e. omega (arith, e, low))

  behind : (word : ℕ) → 8 ≤ word → image word ≡ base word
  behind word high = same word (λ e. omega (arith, e, high))

  words_of : (i k : ℕ) → k < 8 → image (entry_word i k) ≡ base (entry_word i k)
  words_of i k low = behind (entry_word i k) (omega arith)

  alike : (lines : ℕ) (i : ℕ) → SameEntry base image (first_extent_line lines) i
  alike lines i = record { words = words_of i; extents = λ word low. behind word (omega (arith, low)) }

  -- ---- the superblock and the record

  pub superblock_same : (layout : Layout) (lines : ℕ) → HasSuperblock layout lines base → HasSuperblock layout lines image
  superblock_same layout lines = HasSuperblock-same layout lines base image before

  pub earned_same : (layout : Layout) (lines : ℕ) → super_refusal layout lines image ≡ super_refusal layout lines base
  earned_same layout lines =
      let at0 = before 0 (omega arith) in
      let at1 = before 1 (omega arith) in
      let at2 = before 2 (omega arith) in
      let at3 = before 3 (omega arith) in
      cc

  pub version_same : layout_in image ≡ layout_in base
  version_same = let at1 = before 1 (omega arith) in cc

  pub record_same : (lines : ℕ) (r : Record) → HasRecord lines r base → HasRecord lines r image
  record_same lines r =
      let first = (slot_at r.layout lines r.number).behind in
      HasRecord-same lines r base image (same (root_word r.layout) (root_beside r.layout)) (λ word low high. behind word (omega (arith, low, first)))

  -- ---- the versions

  pub undamaged_same : (lines : ℕ) (r : Record) → IsUndamaged lines r base → IsUndamaged lines r image
  undamaged_same lines r was =
      record {
        superblock = superblock_same r.layout lines was.superblock;
        current = record {
          version_is = before 1 (omega arith) ∙ was.current.version_is;
          has_record = record_same lines r was.current.has_record;
          lawful = was.current.lawful;
        };
        versions = versions_same lines r r base image (λ stamp. refl) refl refl refl (omega arith) (λ i below. alike lines i) was.versions;
      }

  pub version_at_same : (lines : ℕ) (r : Record) → IsUndamaged lines r base → (i : ℕ) → i < entries_of_lines r.layout lines
      → version_at r image i ≡ version_at r base i
  version_at_same lines r was i below =
      version_at-same r r base image (first_extent_line lines) i (λ stamp. refl) (alike lines i) (λ is. ((was.versions.entries i below).whole is).above)

  pub image_same : (layout : Layout) (lines : ℕ) (r : Record) (s : Keyspace) → IsImageOf layout lines r s base → IsImageOf layout lines r s image
  image_same layout lines r s is =
      record {
        layout = is.layout;
        undamaged = undamaged_same lines r is.undamaged;
        map = IsMapOf-same (version_at r base) (version_at r image) (entries_of_lines layout lines) s
            (λ i below.
            sym (version_at_same lines r is.undamaged i (subst (λ (l : Layout). i < entries_of_lines l lines) (sym is.layout) below)))
            is.map;
      }

  pub migratable_same : (lines : ℕ) (r : Record) (s : Keyspace) → IsMigratable lines r s base → IsMigratable lines r s image
  migratable_same lines r s (inl old) = inl (image_same Version1 lines r s old)
  migratable_same lines r s (inr (inl halfway)) = inr (inl (record { is = image_same Halfway lines r s halfway.is; gapless = halfway.gapless }))
  migratable_same lines r s (inr (inr new)) = inr (inr (image_same Version2 lines r s new))

  under_same : (lines : ℕ) (r : Record) (i : ℕ) → IsUnder r lines base i → IsUnder r lines image i
  under_same lines r i under =
      let at0 = words_of i 0 (omega arith) in
      let at1 = words_of i 1 (omega arith) in
      let at2 = words_of i 2 (omega arith) in
      let before_counts : counts r (base (entry_word i 0)) ≡ counts r (image (entry_word i 0)) = ap (counts r) (sym at0) in
      record {
        begin = omega (arith, at0, under.begin);
        end = omega (arith, at1, under.end);
        whole = λ is. IsEntry-same lines base image i (words_of i) (under.whole (before_counts ∙ is));
        position = λ is. let low = under.position (before_counts ∙ is) in omega (arith, at2, low);
      }

  pub contents_same : (contents : Contents) → Keeps contents base → Keeps contents image
  contents_same contents keeps =
      let r = contents.current in
      record {
        superblock = superblock_same r.layout contents.lines keeps.superblock;
        has_record = record_same contents.lines r keeps.has_record;
        versions = λ i below.
            version_at-same r r base image (first_extent_line contents.lines) i (λ stamp. refl) (alike contents.lines i)
            (λ is. ((keeps.entries i below).whole is).above)
            ∙ keeps.versions i below;
        entries = λ i below. under_same contents.lines r i (keeps.entries i below);
      }

  -- ---- what is told of an image

  entry_same : (lines : ℕ) (r : Record) (i : ℕ) → IsEntry lines base i → counted_entry r image i ≡ counted_entry r base i
  entry_same lines r i entry =
      let above = entry.above in
      let read : entry_in image i ≡ entry_in base i =
      entry_in-same base image i (words_of i) (λ j low. behind (8 * base (entry_word i 3) + j) (omega (arith, above))) in
      ap₂ (with_end r) read (words_of i 1 (omega arith))

  counted_at_same : (lines : ℕ) (r : Record) (i : ℕ) → IsUnder r lines base i → counted_at r image i ≡ counted_at r base i
  counted_at_same lines r i under =
      let begun : is_counted r image i ≡ is_counted r base i = ap (counts r) (words_of i 0 (omega arith)) in
      let go : (b : Bool) → is_counted r base i ≡ b → counted_at r image i ≡ counted_at r base i =
      elim [
        | true ↦ λ e.
            cond-true (is_counted r image i) _ _ (begun ∙ e)
            ∙ ap (one_counted i) (entry_same lines r i (under.whole e))
            ∙ sym (cond-true (is_counted r base i) _ _ e)
        | false ↦ λ e.
            cond-false (is_counted r image i) _ _ (begun ∙ e)
            ∙ sym (cond-false (is_counted r base i) _ _ e)
      ] in
      go (is_counted r base i) refl

  pub counted_same : (lines : ℕ) (r : Record) (count : ℕ) → ((i : ℕ) → i < count → IsUnder r lines base i) → counted_below r image count ≡ counted_below r base count
  counted_same lines r zero under = refl
  counted_same lines r (suc i) under =
      ap₂ (λ (a b : List (EntryNo × Entry)). a ++ b) (counted_same lines r i (λ j below. under j (omega (arith, below))))
      (counted_at_same lines r i (under i (omega arith)))

  pub gapped_same : (r : Record) (count : ℕ) → gapped_below r image count ≡ gapped_below r base count
  gapped_same r zero = refl
  gapped_same r (suc i) =
      ap₂ (λ (a b : List EntryNo). a ++ b) (gapped_same r i)
      (ap (λ (begin : ℕ). if not (begin == 0) && not (counts r begin) then one_no i else []) (words_of i 0 (omega arith)))

  pub live_same : (r : Record) (count : ℕ) → live_below r image count ≡ live_below r base count
  live_same r zero = refl
  live_same r (suc i) =
      ap₂ (λ (a b : ℕ). a + b) (live_same r i)
      (ap₂ (λ (begin last : ℕ). if counts r begin && not (counts r last) then 1 else 0) (words_of i 0 (omega arith)) (words_of i 1 (omega arith)))

  left_same : (r : Record) (count : ℕ) → left_below r image count ≡ left_below r base count
  left_same r zero = refl
  left_same r (suc i) =
      ap₂ (λ (a b : List EntryNo). a ++ b) (left_same r i)
      (ap (λ (begin : ℕ). if is_left r begin then one_no i else []) (words_of i 0 (omega arith)))

  -- ---- what is made of an image

  pub opened_same : (lines : ℕ) (role : Role) (contents : Contents) → IsReopened lines base role contents → IsReopened lines image role contents
  opened_same lines role contents opened =
      let was = opened.reopens in
      let r = was.before in
      let count = entries_of_lines r.layout lines in
      record {
        counted = opened.counted;
        gapped = opened.gapped;
        reopens = record {
          before = r;
          undamaged = undamaged_same lines r was.undamaged;
          role_is = was.role_is;
          fits = was.fits;
          current = was.current;
          lines_are = was.lines_are;
          versions = λ i. was.versions i ∙ sym (opened_at lines r was.undamaged i);
          is_free = λ i.
              was.is_free i
              ∙ ap (λ (begin : ℕ). nat_lt i count && (begin == 0 || is_cleared r begin)) (sym (words_of i 0 (omega arith)));
          counted = was.counted ∙ sym (counted_same lines r count was.undamaged.versions.entries);
          left = was.left ∙ sym (left_same r count);
          gapped = was.gapped;
        };
      }
    where
      opened_at : (lines : ℕ) (r : Record) → IsUndamaged lines r base → (i : ℕ)
          → (if nat_lt i (entries_of_lines r.layout lines) then version_at r image i else None)
          ≡ (if nat_lt i (entries_of_lines r.layout lines) then version_at r base i else None)
      opened_at lines r was i =
          let count = entries_of_lines r.layout lines in
          elim (cases_lt i count) [
            | inl below ↦ ap (λ (v : Option Version). if nat_lt i count then v else None) (version_at_same lines r was i below)
            | inr over ↦
                cond-false (nat_lt i count) (version_at r image i) None (le-ltb i count over)
                ∙ sym (cond-false (nat_lt i count) (version_at r base i) None (le-ltb i count over))
          ]

-- ---- why it is refused

pub refused_same : (layout : Layout) (lines : ℕ) (refusal : Refusal) (base image : Image) → IsButForPair base image
    → RefusesReading layout lines base refusal → RefusesReading layout lines image refusal
refused_same layout lines refusal base image same (inl earned) = inl (earned_same base image same layout lines ∙ earned)
refused_same layout lines refusal base image same (inr (inl damaged)) =
    inr (inl (damaged.0, λ r whole. damaged.1 r (undamaged_same image base (other_way base image same) lines r whole)))
refused_same layout lines refusal base image same (inr (inr memory)) = inr (inr memory)

pub not_opened_same : (layout : Layout) (lines : ℕ) (role : Role) (refusal : Refusal) (base image : Image) → IsButForPair base image
    → RefusesReopening layout lines base role refusal → RefusesReopening layout lines image role refusal
not_opened_same layout lines role refusal base image same (inl reading) = inl (refused_same layout lines refusal base image same reading)
not_opened_same layout lines role refusal base image same (inr (inl role_wrong)) =
    inr (inl (role_wrong.0, λ r whole. role_wrong.1 r (undamaged_same image base (other_way base image same) lines r whole)))
not_opened_same layout lines role refusal base image same (inr (inr exhausted)) =
    inr (inr (exhausted.0, λ r whole. exhausted.1 r (undamaged_same image base (other_way base image same) lines r whole)))
