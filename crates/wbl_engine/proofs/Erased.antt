-- Images that hold what a base held, but for versions that are gone: where stamps were erased or stored, or where another record counts them.
use Rattle.std.proofs.Common.{◌≡◌, ℕ, zero, suc, ◌+◌, ◌<◌, ◌≤◌, Bool, true, false, not, cond, ◌&&◌, ◌||◌, ◌==◌, IsTrue, inl, inr, List, [], None, Some, refl, sym, ap, subst, ◌∙◌, arith}
use Rattle.std.specs.Prelude.{nat_lt}
use Rattle.std.proofs.lemmas.Bool.{and_from, and_parts, both_ways, cases_lt, cond-true, cond-false, false_from_ne_true, le-ltb, lt-ltb, ltb-true}
use Rattle.pmem.specs.Device.{State, Only}
use Rattle.pmem.specs.Crash.{IsImage, image_of}
use Rattle.pmem.specs.Runs.{IsStored}
use Rattle.model.specs.declared.image.TheConstants.{MIN_LINES, MAX_LINES}
use Rattle.model.specs.declared.record.Record.{Record}
use Rattle.model.specs.Group.{Contents, Versions, entries_of}
use Rattle.model.specs.Image.{Image, Version, HasSuperblock, HasRecord, entry_word, entries_of_lines, version_at, version_in, counts}
use Rattle.heap_layout.specs.Entry.{IsEntry}
use Rattle.heap_layout.specs.Version.{IsUnder}
use Rattle.heap_layout.specs.Versions.{is_counted, is_live}
use Rattle.model.specs.declared.layout.Layout.{Layout}
use Rattle.model.specs.declared.layout.TheConstants.{SUPERBLOCK_WORDS}
use Rattle.model.specs.Layout.{directory_end, first_word}
use Rattle.model.specs.ReadImage.{is_clash, record_in}
use Rattle.wbl_record.specs.Current.{IsCurrent, IsLawful}
use Rattle.wbl_engine.specs.AtRest.{IsAtRest, IsInExtent, IsQuiet, IsWhole, Matters, contents_of}
use Rattle.wbl_engine.specs.Contents.{Keeps}
use Rattle.wbl_engine.specs.Lawful.{IsUndamaged}
use Rattle.wbl_engine.specs.Reopening.{IsBesideRecords}
use Rattle.wbl_engine.proofs.Storing.{AgreesOn, AreBehind, IsStoredOver}
use Rattle.wbl_engine.proofs.VersionLemmas.{SameEntry, entry-same, record_in-same, same_entry, version_in_entry, version_in_entry-same}

-- ---- a base

-- what is known of a base: it has its superblock, and each entry whose begin counts obeys the rules
pub record IsSound (r : Record) (lines : ℕ) (base : Image) : Type 0 where
  pub superblock : HasSuperblock r.layout lines base
  pub entries : (i : ℕ) → i < entries_of_lines r.layout lines → IsTrue (counts r (base (entry_word i 0))) → IsEntry lines base i
  pub positions : (i : ℕ) → i < entries_of_lines r.layout lines → IsTrue (counts r (base (entry_word i 0))) → base (entry_word i 2) ≤ r.position

pub whole_sound : {r : Record} {lines : ℕ} {base : Image} → IsWhole r lines base → IsSound r lines base
whole_sound whole = record { superblock = whole.superblock; entries = whole.entries; positions = whole.positions }

pub undamaged_sound : {r : Record} {lines : ℕ} {base : Image} → IsUndamaged lines r base → IsSound r lines base
undamaged_sound whole =
    record {
      superblock = whole.superblock;
      entries = λ i within. (whole.versions.entries i within).whole;
      positions = λ i within. (whole.versions.entries i within).position;
    }

-- both stamps of each entry are below this one
abbrev pub AreBelow : Layout → ℕ → Image → ℕ → Type 0
AreBelow layout lines image top = (i k : ℕ) → i < entries_of_lines layout lines → k < 2 → image (entry_word i k) < top

pub whole_below : {r : Record} {lines : ℕ} {base : Image} → IsWhole r lines base → AreBelow r.layout lines base (r.cp + 1)
whole_below whole i zero within low = omega (arith, whole.begins i within)
whole_below whole i (suc zero) within low = omega (arith, whole.ends i within)
whole_below whole i (suc (suc k)) within low = absurd (omega (arith, low))

pub rest_below : {r : Record} {d : State} → IsAtRest r d → AreBelow r.layout d.lines (image_of d.words) r.cd
rest_below rest i k within low = omega (arith, whole_below rest.whole i k within low, rest.lawful.limit)

pub quiet_sound : {r : Record} {d : State} → IsQuiet r d → IsSound r d.lines (image_of d.words)
quiet_sound quiet = record { superblock = quiet.superblock; entries = quiet.entries; positions = quiet.positions }

pub quiet_below : {r : Record} {d : State} → IsQuiet r d → AreBelow r.layout d.lines (image_of d.words) r.cd
quiet_below quiet i zero within low = quiet.begins i within
quiet_below quiet i (suc zero) within low = quiet.ends i within
quiet_below quiet i (suc (suc k)) within low = absurd (omega (arith, low))

-- a device at rest is quiet
pub rest_quiet : {r : Record} {d : State} → IsAtRest r d → IsQuiet r d
rest_quiet rest =
    record {
      many = rest.many;
      few = rest.few;
      lawful = rest.lawful;
      superblock = rest.whole.superblock;
      begins = λ i within. rest_below rest i 0 within (omega arith);
      ends = λ i within. rest_below rest i 1 within (omega arith);
      entries = rest.whole.entries;
      positions = rest.whole.positions;
      recorded = rest.recorded;
      certain = rest.certain;
    }

pub undamaged_below : {r : Record} {lines : ℕ} {base : Image} → IsUndamaged lines r base → AreBelow r.layout lines base r.cd
undamaged_below whole i zero within low = (whole.versions.entries i within).begin
undamaged_below whole i (suc zero) within low = (whole.versions.entries i within).end
undamaged_below whole i (suc (suc k)) within low = absurd (omega (arith, low))

pub sound_under : {r : Record} {lines : ℕ} {image : Image} → IsSound r lines image → AreBelow r.layout lines image r.cd → (i : ℕ)
    → i < entries_of_lines r.layout lines
    → IsUnder r lines image i
sound_under sound below i within =
    record {
      begin = below i 0 within (omega arith);
      end = below i 1 within (omega arith);
      whole = sound.entries i within;
      position = sound.positions i within;
    }

pub HasSuperblock-same : (layout : Layout) (lines : ℕ) (base image : Image) → ((word : ℕ) → word < SUPERBLOCK_WORDS → image word ≡ base word)
    → HasSuperblock layout lines base → HasSuperblock layout lines image
HasSuperblock-same layout lines base image same has =
    record {
      magic = same 0 (omega arith) ∙ has.magic;
      version = same 1 (omega arith) ∙ has.version;
      line_count = same 2 (omega arith) ∙ has.line_count;
      room = same 3 (omega arith) ∙ has.room;
    }

-- ---- the words on which a map depends

pub directory_matters : (r : Record) (lines : ℕ) (base : Image) (i k : ℕ) → i < entries_of_lines r.layout lines → k < 8 → Matters r lines base (entry_word i k)
directory_matters r lines base i k within below = inr (inl (omega arith, omega (arith, within, below)))

pub matters_beside : {r : Record} {lines : ℕ} {base : Image} → IsSound r lines base → (word : ℕ) → Matters r lines base word
    → IsBesideRecords r.layout lines word
matters_beside sound word (inl before) = inl before
matters_beside sound word (inr (inl directory)) = inr (inl directory)
matters_beside sound word (inr (inr (i, within, begun, at))) = inr (inr (omega (arith, at.low, (sound.entries i within begun).above)))

-- ---- what is left of a base

-- no version is gone
abbrev pub nothing : ℕ → Bool
nothing i = false

-- Under q the image is what is left of the base under r: it lacks the versions that are gone, and nothing else is lost.
pub record IsErased (r q : Record) (lines : ℕ) (gone : ℕ → Bool) (base image : Image) : Type 0 where
  pub layout : q.layout ≡ r.layout
  pub before : (word : ℕ) → word < SUPERBLOCK_WORDS → image word ≡ base word
  pub begun : (i : ℕ) → i < entries_of_lines r.layout lines → counts q (image (entry_word i 0)) ≡ (not (gone i) && counts r (base (entry_word i 0)))
  pub ended : (i : ℕ) → i < entries_of_lines r.layout lines → IsTrue (counts r (base (entry_word i 0)))
      → counts q (image (entry_word i 1)) ≡ counts r (base (entry_word i 1))
  pub entry : (i : ℕ) → i < entries_of_lines r.layout lines → IsTrue (counts r (base (entry_word i 0))) → SameEntry base image i

one_left : (now gone was : Bool) (new old : Version) → now ≡ (not gone && was) → (was ≡ true → new ≡ old)
    → cond now (Some new) None ≡ cond gone None (cond was (Some old) None)
one_left now true was new old counted same = cond-false now (Some new) None counted
one_left now false true new old counted same = cond-true now (Some new) None counted ∙ ap (λ (v : Version). Some v) (same refl)
one_left now false false new old counted same = cond-false now (Some new) None counted

module _ {r q : Record} {lines : ℕ} {gone : ℕ → Bool} {base image : Image} (sound : IsSound r lines base) (erased : IsErased r q lines gone base image) where
  -- the directory has as many entries as before
  pub old_within : (i : ℕ) → i < entries_of_lines q.layout lines → i < entries_of_lines r.layout lines
  old_within i within = subst (λ (layout : Layout). i < entries_of_lines layout lines) erased.layout within

  -- a begin that counts now counted before
  pub counted_before : (i : ℕ) → i < entries_of_lines r.layout lines → IsTrue (counts q (image (entry_word i 0))) → IsTrue (counts r (base (entry_word i 0)))
  counted_before i within counted = (and_parts (not (gone i)) (counts r (base (entry_word i 0))) (sym (erased.begun i within) ∙ counted)).1

  -- What the image holds in an entry.
  pub erased_version : (i : ℕ) → i < entries_of_lines r.layout lines → version_at q image i ≡ cond (gone i) None (version_at r base i)
  erased_version i within =
      one_left (counts q (image (entry_word i 0))) (gone i) (counts r (base (entry_word i 0))) (version_in q image i) (version_in r base i)
      (erased.begun i within)
      (λ counted.
      version_in_entry-same base image i (counts q (image (entry_word i 1))) (erased.entry i within counted)
      ∙ ap (version_in_entry base i) (erased.ended i within counted))

  -- It breaks no rule.
  pub erased_sound : r.position ≤ q.position → IsSound q lines image
  erased_sound up =
      record {
        superblock = subst (λ (layout : Layout). HasSuperblock layout lines image) (sym erased.layout)
            (HasSuperblock-same r.layout lines base image erased.before sound.superblock);
        entries = λ i now counted.
            let within = old_within i now in
            let was = counted_before i within counted in
            entry-same lines base image i (erased.entry i within was) (sound.entries i within was);
        positions = λ i now counted.
            let within = old_within i now in
            let was = counted_before i within counted in
            omega (arith, (erased.entry i within was).words 2 (omega arith) (omega arith), sound.positions i within was, up);
      }

  -- Each word on which its map depends is one on which the base's did.
  erased_matters : (word : ℕ) → Matters q lines image word → Matters r lines base word
  erased_matters word (inl before) = inl before
  erased_matters word (inr (inl directory)) =
      inr (inl (directory.0, subst (λ (layout : Layout). word < first_word (directory_end layout lines)) erased.layout directory.1))
  erased_matters word (inr (inr (i, now, counted, at))) =
      let within = old_within i now in
      let was = counted_before i within counted in
      let first = (erased.entry i within was).words 3 (omega arith) (omega arith) in
      let count = (erased.entry i within was).words 4 (omega arith) (omega arith) in
      inr (inr (i, within, was, record { low = omega (arith, at.low, first); high = omega (arith, at.high, first, count) }))

-- where q and s count the stamps of the image alike
abbrev pub CountAlike : ℕ → Image → Record → Record → Type 0
CountAlike lines image r s = (i k : ℕ) → i < entries_of_lines r.layout lines → k < 2 → counts s (image (entry_word i k)) ≡ counts r (image (entry_word i k))

pub erased_under : {r q : Record} {lines : ℕ} {gone : ℕ → Bool} {base image : Image} (s : Record) → s.layout ≡ q.layout
    → IsErased r q lines gone base image → CountAlike lines image q s → IsErased r s lines gone base image
erased_under {r} {q} {lines} s layout erased alike =
    let now : (i : ℕ) → i < entries_of_lines r.layout lines → i < entries_of_lines q.layout lines =
    λ i within. subst (λ (l : Layout). i < entries_of_lines l lines) (sym erased.layout) within in
    record {
      layout = layout ∙ erased.layout;
      before = erased.before;
      begun = λ i within. alike i 0 (now i within) (omega arith) ∙ erased.begun i within;
      ended = λ i within counted. alike i 1 (now i within) (omega arith) ∙ erased.ended i within counted;
      entry = erased.entry;
    }

-- ---- stores over a base

-- what these pairs store hurts no version of the base, but perhaps a begin
pub record IsHarmless (r : Record) (lines : ℕ) (base : Image) (pairs : List (ℕ × ℕ)) : Type 0 where
  pub behind : AreBehind r.layout lines pairs
  pub end : (i x : ℕ) → i < entries_of_lines r.layout lines → IsTrue (counts r (base (entry_word i 0))) → IsStored pairs (entry_word i 1) x
      → counts r x ≡ counts r (base (entry_word i 1))
  pub words : (i k x : ℕ) → i < entries_of_lines r.layout lines → IsTrue (counts r (base (entry_word i 0))) → 2 ≤ k → k < 8
      → IsStored pairs (entry_word i k) x → ⊥
  pub extents : (i word x : ℕ) → i < entries_of_lines r.layout lines → IsTrue (counts r (base (entry_word i 0))) → IsInExtent base i word
      → IsStored pairs word x → ⊥

pub stored_erased : {r : Record} {lines : ℕ} {base image : Image} {pairs : List (ℕ × ℕ)} (gone : ℕ → Bool) → IsSound r lines base
    → IsHarmless r lines base pairs → IsStoredOver (Matters r lines base) base pairs image
    → ((i : ℕ) → i < entries_of_lines r.layout lines → counts r (image (entry_word i 0)) ≡ (not (gone i) && counts r (base (entry_word i 0))))
    → IsErased r r lines gone base image
stored_erased {r} {lines} {base} {image} gone sound harmless over begun =
    record {
      layout = refl;
      before = λ word low.
          elim (over word (inl low)) [
            | inl same ↦ same
            | inr stored ↦
                elim (harmless.behind word (image word) stored) [
                  | inl directory ↦ absurd (omega (arith, low, directory.0))
                  | inr extents ↦ absurd (omega (arith, low, extents))
                ]
          ];
      begun = begun;
      ended = λ i within counted.
          elim (over (entry_word i 1) (directory_matters r lines base i 1 within (omega arith))) [
            | inl same ↦ ap (counts r) same
            | inr stored ↦ harmless.end i (image (entry_word i 1)) within counted stored
          ];
      entry = λ i within counted.
          same_entry (sound.entries i within counted)
          (λ k low below.
          elim (over (entry_word i k) (directory_matters r lines base i k within below)) [
            | inl same ↦ same
            | inr stored ↦ absurd (harmless.words i k (image (entry_word i k)) within counted low below stored)
          ])
          (λ word at.
          elim (over word (inr (inr (i, within, counted, at)))) [
            | inl same ↦ same
            | inr stored ↦ absurd (harmless.extents i word (image word) within counted at stored)
          ]);
    }

-- an image that agrees wherever the map depends has lost nothing
pub agrees_erased : {r : Record} {lines : ℕ} {base image : Image} → IsSound r lines base → AgreesOn (Matters r lines base) base image
    → IsErased r r lines nothing base image
agrees_erased {r} {lines} {base} {image} sound agrees =
    stored_erased {pairs = []} nothing sound
    (record {
      behind = λ word x stored. absurd stored;
      end = λ i x within counted stored. absurd stored;
      words = λ i k x within counted low below stored. stored;
      extents = λ i word x within counted at stored. stored;
    })
    (λ word matters. inl (agrees word matters))
    (λ i within. ap (counts r) (agrees (entry_word i 0) (directory_matters r lines base i 0 within (omega arith))))

pub agrees_below : {top : ℕ} {base image : Image} (r : Record) (lines : ℕ) → AgreesOn (Matters r lines base) base image
    → AreBelow r.layout lines base top → AreBelow r.layout lines image top
agrees_below {base = base} r lines agrees below i k within low =
    let was = below i k within low in omega (arith, agrees (entry_word i k) (directory_matters r lines base i k within (omega (arith, low))), was)

-- ---- the contents

pub versions-within : (r : Record) (d : State) (i : ℕ) → i < entries_of_lines r.layout d.lines
    → (contents_of r d).versions i ≡ version_at r (image_of d.words) i
versions-within r d i within = cond-true (nat_lt i (entries_of_lines r.layout d.lines)) _ _ (lt-ltb i (entries_of_lines r.layout d.lines) within)

pub versions-beyond : (r : Record) (d : State) (i : ℕ) → entries_of_lines r.layout d.lines ≤ i → (contents_of r d).versions i ≡ None
versions-beyond r d i beyond = cond-false (nat_lt i (entries_of_lines r.layout d.lines)) _ _ (le-ltb i (entries_of_lines r.layout d.lines) beyond)

-- An image that has the record keeps the contents.
pub erased_keeps : {r : Record} {gone : ℕ → Bool} {base image : Image} (contents : Contents) → IsSound r contents.lines base
    → IsErased r contents.current contents.lines gone base image → r.position ≤ contents.current.position
    → AreBelow contents.current.layout contents.lines image contents.current.cd
    → ((i : ℕ) → i < entries_of contents → cond (gone i) None (version_at r base i) ≡ contents.versions i)
    → HasRecord contents.lines contents.current image → Keeps contents image
erased_keeps contents sound erased up below versions recorded =
    let now = erased_sound sound erased up in
    record {
      superblock = now.superblock;
      has_record = recorded;
      versions = λ i within. erased_version sound erased i (old_within sound erased i within) ∙ versions i within;
      entries = sound_under now below;
    }

-- At rest each crash leaves the contents.
pub rest_keeps : (r : Record) (d : State) → IsAtRest r d → (image : Image) → IsImage d.words image → Keeps (contents_of r d) image
rest_keeps r d rest image is =
    let agrees : AgreesOn (Matters r d.lines (image_of d.words)) (image_of d.words) image = λ word matters. (rest.certain word matters).only (image word) (is word) in
    erased_keeps (contents_of r d) (whole_sound rest.whole) (agrees_erased (whole_sound rest.whole) agrees) (omega arith)
    (agrees_below r d.lines agrees (rest_below rest)) (λ i within. sym (versions-within r d i within)) (rest.recorded image is)

-- the versions of a device's contents
pub erased_versions : {r q : Record} {lines : ℕ} {gone : ℕ → Bool} {base : Image} (c : State) (versions : Versions) → IsSound r lines base
    → IsErased r q lines gone base (image_of c.words) → c.lines ≡ lines
    → ((i : ℕ) → i < entries_of_lines r.layout lines → cond (gone i) None (version_at r base i) ≡ versions i)
    → ((i : ℕ) → entries_of_lines r.layout lines ≤ i → versions i ≡ None) → (i : ℕ) → (contents_of q c).versions i ≡ versions i
erased_versions {r} {q} {lines} c versions sound erased same within beyond i =
    let count : entries_of_lines q.layout c.lines ≡ entries_of_lines r.layout lines =
    ap (λ (layout : Layout). entries_of_lines layout c.lines) erased.layout ∙ ap (entries_of_lines r.layout) same in
    elim (cases_lt i (entries_of_lines r.layout lines)) [
      | inl low ↦ versions-within q c i (omega (arith, low, count)) ∙ erased_version sound erased i low ∙ within i low
      | inr high ↦ versions-beyond q c i (omega (arith, high, count)) ∙ sym (beyond i high)
    ]

where_true : (a b c : Bool) → (a ≡ true → b ≡ c) → (a && b) ≡ (a && c)
where_true true b c same = same refl
where_true false b c same = refl

-- which entries are free, from their begins
pub erased_free : {lines : ℕ} (q : Record) (c : State) (i : ℕ) (free : Bool) → c.lines ≡ lines
    → (i < entries_of_lines q.layout lines → (image_of c.words (entry_word i 0) == 0 || nat_lt q.cp (image_of c.words (entry_word i 0))) ≡ free)
    → (contents_of q c).is_free i ≡ (nat_lt i (entries_of_lines q.layout lines) && free)
erased_free {lines} q c i free same at =
    let now : Bool = image_of c.words (entry_word i 0) == 0 || nat_lt q.cp (image_of c.words (entry_word i 0)) in
    ap (λ (n : ℕ). nat_lt i (entries_of_lines q.layout n) && now) same
    ∙ where_true (nat_lt i (entries_of_lines q.layout lines)) now free (λ is. at (ltb-true i (entries_of_lines q.layout lines) is))

-- A device is at rest, if each crash leaves the record q, and what loads return wherever the map depended.
pub erased_rest : {r q : Record} {lines : ℕ} {gone : ℕ → Bool} {base : Image} {b : State} → MIN_LINES ≤ lines → lines ≤ MAX_LINES → IsSound r lines base
    → IsErased r q lines gone base (image_of b.words) → IsLawful q → r.position ≤ q.position
    → AreBelow q.layout lines (image_of b.words) (q.cp + 1)
    → b.lines ≡ lines → ((image : Image) → IsImage b.words image → HasRecord b.lines q image)
    → ((word : ℕ) → Matters r lines base word → Only (b.words word) (image_of b.words word)) → IsAtRest q b
erased_rest {r} {q} {lines} {gone} {base} {b} many few sound erased lawful up below same recorded certain =
    let now = erased_sound sound erased up in
    let whole : IsWhole q lines (image_of b.words) =
    record {
      superblock = now.superblock;
      begins = λ i within. omega (arith, below i 0 within (omega arith));
      ends = λ i within. omega (arith, below i 1 within (omega arith));
      entries = now.entries;
      positions = now.positions;
    } in
    record {
      many = omega (arith, same, many);
      few = omega (arith, same, few);
      lawful = lawful;
      whole = subst (λ (n : ℕ). IsWhole q n (image_of b.words)) (sym same) whole;
      recorded = recorded;
      certain = λ word matters.
          certain word (erased_matters sound erased word (subst (λ (n : ℕ). Matters q n (image_of b.words) word) same matters));
    }

-- ---- undamaged images

-- An image that has lost nothing of an undamaged one is undamaged.
pub erased_undamaged : {r s : Record} {lines : ℕ} {base image : Image} → IsUndamaged lines r base → IsErased r s lines nothing base image
    → r.position ≤ s.position → s.role ≡ r.role → AreBelow s.layout lines image s.cd → IsCurrent lines image s → IsUndamaged lines s image
erased_undamaged {r} {s} {lines} {base} {image} whole erased up role below current =
    let sound = undamaged_sound whole in
    let now = erased_sound sound erased up in
    record {
      superblock = now.superblock;
      current = current;
      versions = record {
        entries = sound_under now below;
        apart = λ i j now_i now_j other begun_i begun_j.
            let in_i = old_within sound erased i now_i in
            let in_j = old_within sound erased j now_j in
            let was_i = counted_before sound erased i in_i begun_i in
            let was_j = counted_before sound erased j in_j begun_j in
            let at_i = (erased.entry i in_i was_i).words in
            let at_j = (erased.entry j in_j was_j).words in
            elim (whole.versions.apart i j in_i in_j other was_i was_j) [
              | inl before ↦
                  inl (omega (arith, before, at_i 3 (omega arith) (omega arith), at_i 4 (omega arith) (omega arith), at_j 3 (omega arith) (omega arith)))
              | inr behind ↦
                  inr (omega (arith, behind, at_j 3 (omega arith) (omega arith), at_j 4 (omega arith) (omega arith), at_i 3 (omega arith) (omega arith)))
            ];
        distinct = λ i j now_i now_j other live_i live_j.
            let in_i = old_within sound erased i now_i in
            let in_j = old_within sound erased j now_j in
            let was_i = was_live i in_i live_i in
            let was_j = was_live j in_j live_j in
            ap (λ (p : _). is_clash p.0 (record_in image j).0) (record_in-same base image i (erased.entry i in_i (and_parts (is_counted r base i) _ was_i).0))
            ∙ ap (λ (p : _). is_clash (record_in base i).0 p.0) (record_in-same base image j (erased.entry j in_j (and_parts (is_counted r base j) _ was_j).0))
            ∙ whole.versions.distinct i j in_i in_j other was_i was_j;
        uncopied = λ newcomer i within.
            let in_i = old_within sound erased i within in
            false_from_ne_true (is_counted s image i)
            (λ begun.
            both_ways (is_counted r base i) (whole.versions.uncopied (sym role ∙ newcomer) i in_i) (counted_before sound erased i in_i begun));
      };
    }
  where
    was_live : (i : ℕ) → i < entries_of_lines r.layout lines → IsTrue (is_live s image i) → IsTrue (is_live r base i)
    was_live i within live =
        let parts = and_parts (is_counted s image i) (not (counts s (image (entry_word i 1)))) live in
        let was = counted_before (undamaged_sound whole) erased i within parts.0 in
        and_from (is_counted r base i) (not (counts r (base (entry_word i 1)))) was (sym (ap not (erased.ended i within was)) ∙ parts.1)
