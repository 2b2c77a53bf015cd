-- Images that stay readable while stamps are erased or a record is written.
use Rattle.std.proofs.Common.{◌≡◌, ℕ, ◌+◌, ◌<◌, ◌≤◌, inl, inr, refl, sym, ap, subst, ◌∙◌, arith}
use Rattle.pmem.specs.Device.{State, MayBe, Only}
use Rattle.pmem.specs.Crash.{IsImage, image_of}
use Rattle.pmem.specs.Runs.{LeavesOnly}
use Rattle.pmem.proofs.Leaving.{LeavesOnly-then, LeavesOnly-weaken, none_leaves}
use Rattle.model.specs.declared.image.TheConstants.{MIN_LINES, MAX_LINES}
use Rattle.model.specs.declared.record.Record.{Record}
use Rattle.model.specs.declared.layout.Layout.{Layout}
use Rattle.model.specs.Layout.{entries_of_lines, root_word, version}
use Rattle.model.specs.Image.{Image, HasRecord, entry_word, counts}
use Rattle.model.proofs.RecordLemmas.{HasRecord-lines}
use Rattle.wbl_record.specs.Current.{IsCurrent, IsLawful}
use Rattle.wbl_record.specs.Record.{IsRecorded, IsEitherRecord}
use Rattle.wbl_record.proofs.Mixing.{image_of-is}
use Rattle.wbl_record.proofs.RecordWords.{HasRecord-same}
use Rattle.wbl_engine.specs.AtRest.{IsAtRest, Matters, contents_of}
use Rattle.wbl_engine.specs.Contents.{IsDurable}
use Rattle.wbl_engine.specs.Lawful.{IsUndamaged}
use Rattle.wbl_engine.specs.Reopening.{IsBesideRecords, IsReadable, StaysReadable}
use Rattle.wbl_engine.proofs.Erased.{AreBelow, CountAlike, IsErased, IsSound, agrees_below, agrees_erased, directory_matters, erased_keeps, erased_undamaged, erased_under, erased_version, matters_beside, nothing, undamaged_below, undamaged_sound, versions-within}
use Rattle.wbl_engine.proofs.Storing.{AgreesOn, AreCertain, beside_next, recorded_only}

-- the second record is of the same history: the same layout, position, epoch, role and floor, and no stamp is taken back
pub record IsLater (r s : Record) : Type 0 where
  pub layout : s.layout ≡ r.layout
  pub position : s.position ≡ r.position
  pub epoch : s.epoch ≡ r.epoch
  pub role : s.role ≡ r.role
  pub floor : s.floor ≡ r.floor
  pub limit : r.cd ≤ s.cd

pub IsLater-same : (r : Record) → IsLater r r
IsLater-same r = record { layout = refl; position = refl; epoch = refl; role = refl; floor = refl; limit = omega arith }

-- an image that has lost nothing of an undamaged one stays readable
pub erased_stays : {r s : Record} {lines : ℕ} {base image : Image} → IsUndamaged lines r base → IsErased r s lines nothing base image → IsLater r s
    → AreBelow s.layout lines image s.cd → IsCurrent lines image s → StaysReadable lines r base image
erased_stays {r} {s} whole erased later below current =
    record {
      current = s;
      undamaged = erased_undamaged whole erased (omega (arith, later.position)) later.role below current;
      layout = later.layout;
      position = later.position;
      epoch = later.epoch;
      role = later.role;
      floor = later.floor;
      versions = erased_version (undamaged_sound whole) erased;
    }

-- one step after another
pub moments_then : {r s : Record} {d b c : State} → IsUndamaged d.lines r (image_of d.words)
    → IsErased r s d.lines nothing (image_of d.words) (image_of b.words) → IsLater r s → b.lines ≡ d.lines
    → LeavesOnly d b (StaysReadable d.lines r (image_of d.words)) → LeavesOnly b c (StaysReadable b.lines s (image_of b.words))
    → LeavesOnly d c (StaysReadable d.lines r (image_of d.words))
moments_then {r} {s} {d} {b} {c} whole erased later same first second =
    LeavesOnly-then first (LeavesOnly-weaken (StaysReadable d.lines r (image_of d.words)) leaves second)
  where
    leaves : (image : Image) → StaysReadable b.lines s (image_of b.words) image → StaysReadable d.lines r (image_of d.words) image
    leaves image there =
        let stays : StaysReadable d.lines s (image_of b.words) image = subst (λ (lines : ℕ). StaysReadable lines s (image_of b.words) image) same there in
        record {
          current = stays.current;
          undamaged = stays.undamaged;
          layout = stays.layout ∙ later.layout;
          position = stays.position ∙ later.position;
          epoch = stays.epoch ∙ later.epoch;
          role = stays.role ∙ later.role;
          floor = stays.floor ∙ later.floor;
          versions = λ i within.
              stays.versions i (subst (λ (layout : Layout). i < entries_of_lines layout d.lines) (sym later.layout) within)
              ∙ erased_version (undamaged_sound whole) erased i within;
        }

-- a device that lost nothing is readable, if each crash leaves the record s, and what loads return beside the records
pub erased_readable : {r s : Record} {d c : State} → IsReadable r d → IsErased r s d.lines nothing (image_of d.words) (image_of c.words)
    → r.position ≤ s.position → s.role ≡ r.role → AreBelow s.layout d.lines (image_of c.words) s.cd → IsLawful s → c.lines ≡ d.lines
    → ((image : Image) → IsImage c.words image → HasRecord c.lines s image) → AreCertain (IsBesideRecords r.layout d.lines) c → IsReadable s c
erased_readable {r} {s} {d} {c} readable erased up role below lawful same recorded certain =
    let current : IsCurrent d.lines (image_of c.words) s =
    record {
      version_is = erased.before 1 (omega arith) ∙ readable.undamaged.superblock.version ∙ ap version (sym erased.layout);
      has_record = HasRecord-lines same (recorded (image_of c.words) (image_of-is c.words));
      lawful = lawful;
    } in
    record {
      many = omega (arith, readable.many, same);
      few = omega (arith, readable.few, same);
      undamaged = subst (λ (lines : ℕ). IsUndamaged lines s (image_of c.words)) (sym same)
          (erased_undamaged readable.undamaged erased up role below current);
      recorded = recorded;
      certain = λ word beside.
          certain word
          (subst (λ (lines : ℕ). IsBesideRecords r.layout lines word) same
          (subst (λ (layout : Layout). IsBesideRecords layout c.lines word) erased.layout beside));
    }

-- ---- an image that agrees wherever the map depends, under a record that counts alike

pub agrees_under : {r : Record} {lines : ℕ} {base image : Image} (s : Record) → s.layout ≡ r.layout → IsSound r lines base
    → AgreesOn (Matters r lines base) base image
    → CountAlike lines base r s → IsErased r s lines nothing base image
agrees_under {r} {lines} {base} {image} s is sound agrees alike =
    erased_under s is (agrees_erased sound agrees)
    (λ i k within low.
    let same = agrees (entry_word i k) (directory_matters r lines base i k within (omega (arith, low))) in
    ap (counts s) same ∙ alike i k within low ∙ sym (ap (counts r) same))

-- stamps of the same entries
later_below : {r s : Record} {top : ℕ} (lines : ℕ) (image : Image) → IsLater r s → AreBelow r.layout lines image top → AreBelow s.layout lines image top
later_below {top = top} lines image later below = subst (λ (layout : Layout). AreBelow layout lines image top) (sym later.layout) below

-- an image that has word 1 of the device is of the same version
same_version_word : {r : Record} {d : State} (image : Image) → IsReadable r d → MayBe (d.words 1) (image 1) → image 1 ≡ version r.layout
same_version_word image readable may = (readable.certain 1 (inl (omega arith))).only (image 1) may ∙ readable.undamaged.superblock.version

module _ {r : Record} {d : State} (readable : IsReadable r d) where
  pub readable_certain : (word : ℕ) → Matters r d.lines (image_of d.words) word → Only (d.words word) (image_of d.words word)
  readable_certain word matters = readable.certain word (matters_beside (undamaged_sound readable.undamaged) word matters)

  agrees_stays : (s : Record) (image : Image) → IsLater r s → CountAlike d.lines (image_of d.words) r s
      → ((word : ℕ) → IsBesideRecords r.layout d.lines word → MayBe (d.words word) (image word)) → IsCurrent d.lines image s
      → StaysReadable d.lines r (image_of d.words) image
  agrees_stays s image later alike may current =
      let agrees : AgreesOn (Matters r d.lines (image_of d.words)) (image_of d.words) image =
      λ word matters. (readable_certain word matters).only (image word) (may word (matters_beside (undamaged_sound readable.undamaged) word matters)) in
      erased_stays readable.undamaged (agrees_under s later.layout (undamaged_sound readable.undamaged) agrees alike) later
      (later_below d.lines image later (agrees_below r d.lines agrees
      (λ i k within low. let was = undamaged_below readable.undamaged i k within low in omega (arith, was, later.limit)))) current

  -- so a crash leaves a readable image
  pub readable_stays : (image : Image) → IsImage d.words image → StaysReadable d.lines r (image_of d.words) image
  readable_stays image is =
      agrees_stays r image (IsLater-same r) (λ i k within low. refl) (λ word beside. is word)
      (record { version_is = same_version_word image readable (is 1); has_record = readable.recorded image is; lawful = readable.undamaged.current.lawful })

  -- where nothing was stored
  pub unchanged_stays : LeavesOnly d d (StaysReadable d.lines r (image_of d.words))
  unchanged_stays = none_leaves d (StaysReadable d.lines r (image_of d.words)) readable_stays

  -- it is durable
  pub readable_durable : IsDurable d (contents_of r d)
  readable_durable image is =
      let agrees : AgreesOn (Matters r d.lines (image_of d.words)) (image_of d.words) image =
      λ word matters. (readable_certain word matters).only (image word) (is word) in
      erased_keeps (contents_of r d) (undamaged_sound readable.undamaged) (agrees_erased (undamaged_sound readable.undamaged) agrees) (omega arith)
      (agrees_below r d.lines agrees (undamaged_below readable.undamaged)) (λ i within. sym (versions-within r d i within)) (readable.recorded image is)

  -- and at rest, where all stamps are at most the record's last one
  pub readable_rest : AreBelow r.layout d.lines (image_of d.words) (r.cp + 1) → IsAtRest r d
  readable_rest below =
      let sound = undamaged_sound readable.undamaged in
      record {
        many = readable.many;
        few = readable.few;
        lawful = readable.undamaged.current.lawful;
        whole = record {
          superblock = sound.superblock;
          begins = λ i within. let at = below i 0 within (omega arith) in omega (arith, at);
          ends = λ i within. let at = below i 1 within (omega arith) in omega (arith, at);
          entries = sound.entries;
          positions = sound.positions;
        };
        recorded = readable.recorded;
        certain = readable_certain;
      }

-- ---- the next record

module _ {r s : Record} {d : State} (readable : IsReadable r d) (later : IsLater r s) (lawful : IsLawful s) (alike : CountAlike d.lines (image_of d.words) r s) where
  pub recorded_readable : {c : State} → IsRecorded d c s → IsReadable s c
  recorded_readable {c} recorded =
      let sound = undamaged_sound readable.undamaged in
      let agrees : AgreesOn (Matters r d.lines (image_of d.words)) (image_of d.words) (image_of c.words) =
      λ word matters. recorded.newest word (beside_next s later.layout refl readable.many word (matters_beside sound word matters)) in
      erased_readable readable (agrees_under s later.layout sound agrees alike) (omega (arith, later.position)) later.role
      (later_below d.lines (image_of c.words) later (agrees_below r d.lines agrees
      (λ i k within low. let was = undamaged_below readable.undamaged i k within low in omega (arith, was, later.limit))))
      lawful recorded.stays.lines recorded.durable
      (λ word beside. recorded_only recorded word (beside_next s later.layout refl readable.many word beside) (readable.certain word beside))

  -- at any moment until then
  pub either_stays : {c : State} → LeavesOnly d c (IsEitherRecord d r s) → LeavesOnly d c (StaysReadable d.lines r (image_of d.words))
  either_stays moments = LeavesOnly-weaken (StaysReadable d.lines r (image_of d.words)) leaves moments
    where
      leaves : (image : Image) → IsEitherRecord d r s image → StaysReadable d.lines r (image_of d.words) image
      leaves image either =
          let may = λ (word : ℕ) (beside : IsBesideRecords r.layout d.lines word). either.elsewhere word
          (beside_next s later.layout refl readable.many word beside) in
          let is : image 1 ≡ version r.layout = same_version_word image readable (may 1 (inl (omega arith))) in
          elim either.either [
            | inl old ↦
                agrees_stays readable r image (IsLater-same r) (λ i k within low. refl) may
                (record { version_is = is; has_record = old; lawful = readable.undamaged.current.lawful })
            | inr new ↦ agrees_stays readable s image later alike may
                (record { version_is = is ∙ ap version (sym later.layout); has_record = new; lawful = lawful })
          ]

-- ---- a device with one candidate for each word

settled_record : (r : Record) (d : State) → ((word : ℕ) → Only (d.words word) (image_of d.words word)) → IsUndamaged d.lines r (image_of d.words)
    → (image : Image) → IsImage d.words image → HasRecord d.lines r image
settled_record r d settled whole image is =
    HasRecord-same d.lines r (image_of d.words) image ((settled (root_word r.layout)).only (image (root_word r.layout)) (is (root_word r.layout)))
    (λ word low high. (settled word).only (image word) (is word)) whole.current.has_record

pub settled_readable : (r : Record) (d : State) → MIN_LINES ≤ d.lines → d.lines ≤ MAX_LINES
    → ((word : ℕ) → Only (d.words word) (image_of d.words word)) → IsUndamaged d.lines r (image_of d.words) → IsReadable r d
settled_readable r d many few settled whole =
    record {
      many = many;
      few = few;
      undamaged = whole;
      recorded = settled_record r d settled whole;
      certain = λ word beside. settled word;
    }

-- where nothing was stored, whatever its size
pub settled_stays : (r : Record) (d : State) → ((word : ℕ) → Only (d.words word) (image_of d.words word)) → IsUndamaged d.lines r (image_of d.words)
    → LeavesOnly d d (StaysReadable d.lines r (image_of d.words))
settled_stays r d settled whole =
    none_leaves d (StaysReadable d.lines r (image_of d.words))
    (λ image is.
    let agrees : AgreesOn (Matters r d.lines (image_of d.words)) (image_of d.words) image = λ word matters. (settled word).only (image word) (is word) in
    erased_stays whole (agrees_erased (undamaged_sound whole) agrees) (IsLater-same r) (agrees_below r d.lines agrees (undamaged_below whole))
    (record {
      version_is = (settled 1).only (image 1) (is 1) ∙ whole.superblock.version;
      has_record = settled_record r d settled whole image is;
      lawful = whole.current.lawful;
    }))
