-- What an image holds stays while no word changes that is read, and while what is read changes from one stage to the next.
use Rattle.std.proofs.Common.{◌≡◌, ◌≢◌, ℕ, ◌+◌, ◌*◌, ◌/◌, ◌<◌, ◌≤◌, not, ◌&&◌, nat_le, nat_lt, List, [], IsTrue, refl, inl, inr, sym, ap, subst, ◌∙◌, arith}
use Rattle.std.specs.List.{list_any}
use Rattle.kv_types.specs.Keyspace.{Keyspace}
use Rattle.model.specs.declared.image.TheConstants.{COUNTER_LIMIT}
use Rattle.model.specs.declared.layout.Layout.{Layout}
use Rattle.model.specs.declared.layout.Layout.TheVariants.{Version1, Version2, Halfway}
use Rattle.model.specs.declared.record.Gap.{Gap}
use Rattle.model.specs.declared.record.Record.{Record}
use Rattle.model.specs.Layout.{version}
use Rattle.model.specs.Image.{HasRecord, Holds, Image, IsMapOf, counts, entries_of_lines, entry_word, is_in_gap, root_word, version_at}
use Rattle.model.proofs.LayoutLemmas.{root_in, slot_at}
use Rattle.model.proofs.MapLemmas.{IsMapOf-same}
use Rattle.wbl_record.specs.Current.{IsLawful}
use Rattle.wbl_record.specs.Record.{IsRecordWord}
use Rattle.wbl_record.proofs.RecordWords.{HasRecord-same}
use Rattle.wbl_migrate.specs.Stage.{IsMovable, in_layout}
use Rattle.wbl_migrate.specs.Steps.{renewed}
use Rattle.wbl_migrate.proofs.Entries.{versions_same}
use Rattle.wbl_migrate.proofs.Maps.{IsMapOf-fewer, SameEntry, version_at-same, version_at-none}

-- no layout has fewer entries than version 2
fewest : (layout : Layout) (lines : ℕ) → entries_of_lines Version2 lines ≤ entries_of_lines layout lines
fewest Version1 lines = omega arith
fewest Version2 lines = omega arith
fewest Halfway lines = omega arith

-- ---- words that the migration does not write

-- The words of an image that the migration does not write, those of version 1's slots, of the entries that are always read and of the extents among them,
-- are as in the base.
pub record Agrees (lines : ℕ) (base image : Image) : Type 0 where
  pub head : (word : ℕ) → word < 64 → word ≢ 1 → word ≢ 5 → image word ≡ base word
  pub entries : (word : ℕ) → 64 ≤ word → word < 64 + 8 * entries_of_lines Version2 lines → image word ≡ base word
  pub extents : (word : ℕ) → 64 + 8 * (lines / 8) ≤ word → image word ≡ base word

-- where only the record n of version 2 is written
pub agrees_but_record : (lines n : ℕ) (base image : Image) → 18 ≤ lines / 8 → ((word : ℕ) → (IsRecordWord Version2 lines n word → ⊥) → image word ≡ base word)
    → Agrees lines base image
agrees_but_record lines n base image room same =
    record {
      head = λ word low one five. same word (λ is. elim is [ inl e ↦ five e | inr slot ↦ omega (arith, slot.0) ]);
      entries = λ word low high. same word (λ is. elim is [ inl e ↦ omega (arith, e) | inr slot ↦ omega (arith, slot.0) ]);
      extents = λ word low. same word (λ is. elim is [ inl e ↦ omega (arith, e) | inr slot ↦ omega (arith, slot.1) ]);
    }

-- where only the version is written
pub agrees_but_version : (lines : ℕ) (base image : Image) → ((word : ℕ) → word ≢ 1 → image word ≡ base word) → Agrees lines base image
agrees_but_version lines base image same =
    record {
      head = λ word low one five. same word one;
      entries = λ word low high. same word (λ e. omega (arith, e));
      extents = λ word low. same word (λ e. omega (arith, e));
    }

-- ---- the record and the map

-- without gaps the same stamps count under records of the same `cp`
counted : (r q : Record) → q.cp ≡ r.cp → r.gaps.items ≡ [] → q.gaps.items ≡ [] → (stamp : ℕ) → counts q stamp ≡ counts r stamp
counted r q cp none none' stamp =
    ap (λ (n : ℕ). nat_lt 0 stamp && nat_le stamp n && not (list_any (is_in_gap stamp) q.gaps.items)) cp
    ∙ ap (λ (gaps : List Gap). nat_lt 0 stamp && nat_le stamp r.cp && not (list_any (is_in_gap stamp) gaps)) (none' ∙ sym none)

-- a record that has the layout
pub as_it_is : (r : Record) (layout : Layout) → r.layout ≡ layout → in_layout layout r ≡ r
as_it_is r layout is = ap (λ (l : Layout). in_layout l r) (sym is)

-- the record that is read halfway lies in words that are not written
pub halfway_stays : (lines : ℕ) (r : Record) (base image : Image) → Agrees lines base image → HasRecord lines (in_layout Halfway r) base
    → HasRecord lines (in_layout Halfway r) image
halfway_stays lines r base image same has =
    HasRecord-same lines (in_layout Halfway r) base image (same.head 4 (omega arith) (λ e. omega (arith, e)) (λ e. omega (arith, e)))
    (λ word low high. same.head word (omega (arith, high)) (λ e. omega (arith, e, low)) (λ e. omega (arith, e, low))) has

-- and the version is in no word of a record
pub record_stays : (lines : ℕ) (r : Record) (base image : Image) → ((word : ℕ) → word ≢ 1 → image word ≡ base word) → HasRecord lines r base
    → HasRecord lines r image
record_stays lines r base image same has =
    let root = (root_in r.layout).behind in
    let behind = (slot_at r.layout lines r.number).behind in
    HasRecord-same lines r base image (same (root_word r.layout) (λ e. omega (arith, e, root)))
    (λ word low high. same word (λ e. omega (arith, e, low, behind))) has

-- the second record has no gap, and under it the same stamps were given out and count, at the same position and in the same role
pub record CountsAlike (r q : Record) : Type 0 where
  pub cp : q.cp ≡ r.cp
  pub cd : q.cd ≡ r.cd
  pub position : q.position ≡ r.position
  pub role : q.role ≡ r.role
  pub gapless : q.gaps.items ≡ []

pub itself : (r : Record) → r.gaps.items ≡ [] → CountsAlike r r
itself r gapless = record { cp = refl; cd = refl; position = refl; role = refl; gapless = gapless }

-- the records of the stages obey the rules that the one of version 1 does
pub halfway_lawful : (r : Record) → IsLawful (in_layout Version1 r) → IsLawful (in_layout Halfway r)
halfway_lawful r lawful =
    record {
      some = lawful.some;
      number = lawful.number;
      position = lawful.position;
      limit = lawful.limit;
      room = lawful.room;
      some_epoch = lawful.some_epoch;
      epoch = lawful.epoch;
      newcomer = lawful.newcomer;
      few = lawful.few;
      gaps = lawful.gaps;
    }

pub renewed_lawful : (r : Record) → IsLawful (in_layout Halfway r) → (renewed r).number < COUNTER_LIMIT → IsLawful (renewed r)
renewed_lawful r lawful number =
    record {
      some = omega arith;
      number = number;
      position = lawful.position;
      limit = lawful.limit;
      room = lawful.room;
      some_epoch = lawful.some_epoch;
      epoch = lawful.epoch;
      newcomer = lawful.newcomer;
      few = omega arith;
      gaps = tt;
    }

-- what an image that can be migrated on holds
pub movable_holds : (layout : Layout) (lines : ℕ) (r : Record) (s : Keyspace) (image : Image) → IsMovable layout lines r s image
    → Holds lines (in_layout layout r) s image
movable_holds layout lines r s image movable =
    let undamaged = movable.undamaged in
    record { superblock = undamaged.superblock; has_record = undamaged.current.has_record; map = movable.map }

-- An image that agrees with one that can be migrated on, with the version of a stage at which no more entries are read than in version 2, and with a lawful
-- record there under which the same stamps count, can be migrated on from that stage.
pub movable_at : (from to : Layout) (lines : ℕ) (r q : Record) (s : Keyspace) (base image : Image)
    → entries_of_lines to lines ≡ entries_of_lines Version2 lines → CountsAlike r q → IsLawful (in_layout to q) → image 1 ≡ version to
    → HasRecord lines (in_layout to q) image → Agrees lines base image → IsMovable from lines r s base → IsMovable to lines q s image
movable_at from to lines r q s base image few alike lawful version_is has_record same movable =
    let many : entries_of_lines Version2 lines ≤ entries_of_lines from lines = fewest from lines in
    let was = movable.undamaged in
    let at : (i : ℕ) → i < entries_of_lines Version2 lines → SameEntry base image (8 + lines / 8) i =
    λ i below. record { words = λ k low. same.entries (entry_word i k) (omega arith) (omega arith); extents = λ word low. same.extents word (omega arith) } in
    let counted_same = counted r q alike.cp movable.gapless alike.gapless in
    let behind : (i : ℕ) → i < entries_of_lines Version2 lines → IsTrue (counts r (base (entry_word i 0))) → 8 + lines / 8 ≤ base (entry_word i 3) =
    λ i below is. ((was.versions.entries i (omega (arith, many, below))).whole is).above in
    let map : IsMapOf (version_at r base) (entries_of_lines Version2 lines) s =
    IsMapOf-fewer (version_at r base) (entries_of_lines Version2 lines) (entries_of_lines from lines) s many
    (λ i low high. version_at-none r base i (movable.last i low high)) movable.map in
    record {
      undamaged = record {
        superblock = record {
          magic = same.head 0 (omega arith) (λ e. omega (arith, e)) (λ e. omega (arith, e)) ∙ was.superblock.magic;
          version = version_is;
          line_count = same.head 2 (omega arith) (λ e. omega (arith, e)) (λ e. omega (arith, e)) ∙ was.superblock.line_count;
          room = same.head 3 (omega arith) (λ e. omega (arith, e)) (λ e. omega (arith, e)) ∙ was.superblock.room;
        };
        current = record { version_is = version_is; has_record = has_record; lawful = lawful };
        versions = versions_same lines (in_layout from r) (in_layout to q) base image counted_same alike.cd alike.position alike.role (omega (arith, few, many))
            (λ i below. at i (omega (arith, few, below))) was.versions;
      };
      map = subst (λ (n : ℕ). IsMapOf (version_at q image) n s) (sym few)
          (IsMapOf-same (version_at r base) (version_at q image) (entries_of_lines Version2 lines) s
          (λ i below. sym (version_at-same r q base image (8 + lines / 8) i counted_same (at i below) (behind i below))) map);
      gapless = alike.gapless;
      last = λ i low high. absurd (omega (arith, few));
    }
