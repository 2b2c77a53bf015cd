-- A device over a file with a journal knows through each call what a crash leaves.
use Rattle.std.proofs.Common.{◌≡◌, ℕ, ◌*◌, ◌/◌, ◌<◌, ◌≤◌, zero, suc, Bool, true, false, ◌&&◌, ◌||◌, nat_le, List, [], ◌∷◌, ◌++◌, length, take, get_or, refl, inl, inr, sym, subst, ap, ◌∙◌, arith}
use Rattle.std.proofs.lemmas.Bool.{cases_Bool, cases_lt, or_cases, or_left, or_right, and_parts, and_from, le-leb, leb-true, true≢false}
use Rattle.std.proofs.Math.Logic.{∥∥₁_elim}
use Rattle.std.proofs.Math.Bool.{Bool-set}
use Rattle.std.proofs.lemmas.List.{append-nil, get_or_past, get_or_default}
use Rattle.journal.specs.declared.shape.Shape.{Shape}
use Rattle.journal.specs.Record.{Record}
use Rattle.journal.specs.Replay.{replayed}
use Rattle.pmem.specs.Device.{Older, Word, MayBe, settled, fence_word, store_at, flush_at, fenced}
use Rattle.pmem.specs.Cell.{may_be}
use Rattle.pmem.specs.Crash.{IsImage, HadImage}
use Rattle.pmem.proofs.Words.{MayBe-store_word, flush_word-MayBe}
use Rattle.pmem.proofs.Chains.{may_be-MayBe, MayBe-may_be}
use Rattle.pmem.proofs.Staging.{same_or_other, store_at-same, store_at-other, flush_at-same, flush_at-other}
use Rattle.pmem_file.specs.declared.file_journal.FileJournal.{FileJournal}
use Rattle.pmem_file.specs.declared.notes.Notes.{Notes}
use Rattle.pmem_file.specs.declared.logged_file.LoggedFile.{LoggedFile}
use Rattle.pmem_file.specs.Call.{Call, calls_of, has_failed}
use Rattle.pmem_file.specs.Line.{has_line}
use Rattle.pmem_file.specs.Noted.{is_noted}
use Rattle.pmem_file.specs.Written.{is_in, word_of}
use Rattle.pmem_file.specs.Journaled.{IsMadeOf, Journals, IsEarlier, HasLines, Orders, Syncs, Stops}
use Rattle.pmem_file.specs.Following.{Copies, IsLeft, FollowsMoments, Follows, Keeps, IsBlankBehind}
use Rattle.pmem_file.proofs.HoldingLemmas.{fence_keeps}
use Rattle.pmem_file.proofs.EarlierLemmas.{none-taken, earlier-appended}

-- ---- images

-- the same image
pub IsImage-same : (words : ℕ → Word) (a b : ℕ → ℕ) → ((word : ℕ) → b word ≡ a word) → IsImage words a → IsImage words b
IsImage-same words a b same is word = subst (λ (x : ℕ). MayBe (words word) x) (sym (same word)) (is word)

HadImage-same : (past : List (ℕ → Word)) (t : ℕ) (a b : ℕ → ℕ) → ((word : ℕ) → b word ≡ a word) → HadImage past t a → HadImage past t b
HadImage-same [] t a b same had = had
HadImage-same (words ∷ past) t a b same (inl here) = inl (here.0, IsImage-same words a b same here.1)
HadImage-same (words ∷ past) t a b same (inr had) = inr (HadImage-same past t a b same had)

pub IsLeft-same : (words : ℕ → Word) (past : List (ℕ → Word)) (t : ℕ) (a b : ℕ → ℕ) → ((word : ℕ) → b word ≡ a word) → IsLeft words past t a
    → IsLeft words past t b
IsLeft-same words past t a b same (inl now) = inl (IsImage-same words a b same now)
IsLeft-same words past t a b same (inr had) = inr (HadImage-same past t a b same had)

-- a moment later
pub IsLeft-later : (words words' : ℕ → Word) (past past' : List (ℕ → Word)) (t : ℕ) (image : ℕ → ℕ) → past' ≡ words ∷ past → t ≤ length past
    → IsLeft words past t image → IsLeft words' past' t image
IsLeft-later words words' past past' t image e late (inl now) = inr (subst (λ (p : List (ℕ → Word)). HadImage p t image) (sym e) (inl (late, now)))
IsLeft-later words words' past past' t image e late (inr had) = inr (subst (λ (p : List (ℕ → Word)). HadImage p t image) (sym e) (inr had))

pub stored-grows : (words : ℕ → Word) (at x : ℕ) (image : ℕ → ℕ) → IsImage words image → IsImage (store_at at x words) image
stored-grows words at x image is word =
    elim (same_or_other word at) [
      | inl e ↦ subst (λ (w : Word). MayBe w (image word)) (sym (store_at-same at x words word e)) (MayBe-store_word x (words word) (image word) (is word))
      | inr n ↦ subst (λ (w : Word). MayBe w (image word)) (sym (store_at-other at x words word n)) (is word)
    ]

pub flushed-grows : (words : ℕ → Word) (line : ℕ) (image : ℕ → ℕ) → IsImage words image → IsImage (flush_at line words) image
flushed-grows words line image is word =
    elim (same_or_other (word / 8) line) [
      | inl e ↦ subst (λ (w : Word). MayBe w (image word)) (sym (flush_at-same line words word e)) (flush_word-MayBe (words word) (image word) (is word))
      | inr n ↦ subst (λ (w : Word). MayBe w (image word)) (sym (flush_at-other line words word n)) (is word)
    ]

-- what is made while lines of the copy go to the file
earlier-left : (words : ℕ → Word) (past : List (ℕ → Word)) (t : ℕ) (copy : List ℕ) (notes : Notes) (image made : ℕ → ℕ) (synced since : List Record)
    → Copies copy notes words → FollowsMoments words past t image synced since → IsEarlier image synced since copy made → IsLeft words past t made
earlier-left words past t copy notes image made synced since copies moments (inl first) =
    IsLeft-same words past t (replayed (synced ++ take first.0 since) image) made first.2 (moments.each first.0 first.1)
earlier-left words past t copy notes image made synced since copies moments (inr mixed) =
    inl (λ word.
    elim (mixed word) [
      | inl e ↦ subst (λ (x : ℕ). MayBe (words word) x) (sym e) (moments.last word)
      | inr e ↦ inl (e ∙ copies.newest word)
    ])

-- after a fence the noted lines are as in the copy
lines-fenced : (words : ℕ → Word) (past : List (ℕ → Word)) (t : ℕ) (copy lines : List ℕ) (notes : Notes) (image made : ℕ → ℕ) (synced since : List Record)
    → ((line : ℕ) → has_line lines line ≡ is_noted notes line) → Copies copy notes words → FollowsMoments words past t image synced since
    → HasLines image synced since copy lines made → IsImage (fenced words) made
lines-fenced words past t copy lines notes image made synced since listed copies moments has word =
    elim (cases_Bool (is_in lines word)) [
      | inl here ↦ inl (has.these word here ∙ copies.newest word)
      | inr out ↦
          let un : is_noted notes (word / 8) ≡ false = sym (listed (word / 8)) ∙ out in
          let same : fence_word (words word) ≡ words word =
          ap (λ (os : List Older). record { newest = (words word).newest; older = os }) (fence_keeps (words word).older (copies.noted word un)) in
          subst (λ (w : Word). MayBe w (made word)) (sym same)
          (elim (has.others word out) [
            | inl e ↦ subst (λ (x : ℕ). MayBe (words word) x) (sym e) (moments.last word)
            | inr e ↦ inl (e ∙ copies.newest word)
          ])
    ]

-- ---- what is kept

-- what is known where no call has failed tells all
pub Keeps-follows : (journal : FileJournal) (read : List ℕ) (calls : List Call) (words : ℕ → Word) (past : List (ℕ → Word)) (t : ℕ)
    → Follows journal read calls words past t → Keeps journal read calls words past t
Keeps-follows journal read calls words past t f =
    let j = f.journals in
    let shape = journal.head.shape in
    record {
      leaves = λ file made is made'.
          let wide = j.on_disk.disk file is in
          let e = earlier-appended shape journal.head.generation f.image file made f.synced [] j.synced_records tt j.behind wide made' in
          let none : 0 ≤ length f.since = omega arith in
          let same : (word : ℕ) → made word ≡ replayed (f.synced ++ take 0 f.since) f.image word =
          λ word. e.2 word ∙ ap (λ (rs : List Record). replayed (f.synced ++ rs) f.image word) (none-taken e.0) in
          IsLeft-same words past t (replayed (f.synced ++ take 0 f.since) f.image) made same (f.moments.each 0 none);
      head = λ file is. inl (j.on_disk.head file is);
      follows = λ fine. f;
    }

-- a call that asks nothing of the file
pub Keeps-moment : (journal : FileJournal) (read : List ℕ) (calls : List Call) (words words' : ℕ → Word) (past past' : List (ℕ → Word)) (t : ℕ)
    → past' ≡ words ∷ past → t ≤ length past → ((image : ℕ → ℕ) → IsImage words image → IsImage words' image)
    → Keeps journal read calls words past t → Keeps journal read calls words' past' t
Keeps-moment journal read calls words words' past past' t e late grows k =
    record {
      leaves = λ file image is made. IsLeft-later words words' past past' t image e late (k.leaves file image is made);
      head = k.head;
      follows = λ fine.
          let f = k.follows fine in
          record {
            image = f.image;
            synced = f.synced;
            since = f.since;
            journals = f.journals;
            moments =
                record {
                  each = λ n few.
                      IsLeft-later words words' past past' t (replayed (f.synced ++ take n f.since) f.image) e late (f.moments.each n few);
                  last = grows (replayed (f.synced ++ f.since) f.image) f.moments.last;
                };
          };
    }

-- a fence that succeeded
pub Keeps-fenced : (old new : FileJournal) (read : List ℕ) (calls calls' : List Call) (words : ℕ → Word) (past past' : List (ℕ → Word)) (t : ℕ)
    (copy lines : List ℕ) (notes : Notes) → past' ≡ words ∷ past → t ≤ length past → has_failed calls ≡ false
    → ((line : ℕ) → has_line lines line ≡ is_noted notes line) → Copies copy notes words → Orders old new calls calls' copy lines
    → Keeps old read calls words past t → Keeps new read calls' (fenced words) past' t
Keeps-fenced old new read calls calls' words past past' t copy lines notes e late fine listed copies orders k =
    let f = k.follows fine in
    let o = orders.ordered read f.image f.synced f.since f.journals in
    let fenced_now : (made : ℕ → ℕ) → HasLines f.image f.synced f.since copy lines made → IsImage (fenced words) made =
    λ made has. lines-fenced words past t copy lines notes f.image made f.synced f.since listed copies f.moments has in
    Keeps-follows new read calls' (fenced words) past' t
    (record {
      image = o.image';
      synced = o.synced';
      since = o.since';
      journals = o.journals;
      moments =
          record {
            each = λ n few.
                let made = replayed (o.synced' ++ take n o.since') o.image' in
                elim (o.each n few) [
                  | inl earlier ↦
                      IsLeft-later words (fenced words) past past' t made e late
                      (earlier-left words past t copy notes f.image made f.synced f.since copies f.moments earlier)
                  | inr has ↦ inl (fenced_now made has)
                ];
            last = fenced_now (replayed (o.synced' ++ o.since') o.image') o.last;
          };
    })

-- a call that failed, at the same moment
pub Keeps-stopped : (old new : FileJournal) (read : List ℕ) (calls calls' : List Call) (words : ℕ → Word) (past : List (ℕ → Word)) (t : ℕ)
    (copy : List ℕ) (notes : Notes) → has_failed calls ≡ false → has_failed calls' ≡ true → new.head.shape ≡ old.head.shape
    → Copies copy notes words → Stops old new calls calls' copy → Keeps old read calls words past t → Keeps new read calls' words past t
Keeps-stopped old new read calls calls' words past t copy notes fine failed same copies stops k =
    let f = k.follows fine in
    record {
      leaves = λ file made is made'.
          earlier-left words past t copy notes f.image made f.synced f.since copies f.moments
          (stops.makes read f.image file made f.synced f.since f.journals is (subst (λ (s : Shape). IsMadeOf s file made) same made'));
      head = stops.head read f.image f.synced f.since f.journals;
      follows = λ fine'. absurd (true≢false (sym failed ∙ fine'));
    }

-- a call that was not done leaves what is kept, whether the file had failed before it or fails by it
pub Keeps-undone : (old new : FileJournal) (file file' : LoggedFile) (read : List ℕ) (words : ℕ → Word) (past : List (ℕ → Word)) (t : ℕ) (copy : List ℕ) (notes : Notes)
    → (has_failed (calls_of file.calls) ≡ true → file' ≡ file) → (has_failed (calls_of file.calls) ≡ true → new ≡ old) → has_failed (calls_of file'.calls) ≡ true
    → new.head.shape ≡ old.head.shape → Copies copy notes words → (has_failed (calls_of file.calls) ≡ false → Stops old new (calls_of file.calls) (calls_of file'.calls) copy)
    → Keeps old read (calls_of file.calls) words past t → Keeps new read (calls_of file'.calls) words past t
Keeps-undone old new file file' read words past t copy notes lasting same failed shape copies stops k =
    elim (cases_Bool (has_failed (calls_of file.calls))) [
      | inl had ↦
          subst (λ (j : FileJournal). Keeps j read (calls_of file'.calls) words past t) (sym (same had))
          (subst (λ (f : LoggedFile). Keeps old read (calls_of f.calls) words past t) (sym (lasting had)) k)
      | inr fine ↦ Keeps-stopped old new read (calls_of file.calls) (calls_of file'.calls) words past t copy notes fine failed shape copies (stops fine) k
    ]

-- a sync that succeeded
pub Keeps-synced : (old new : FileJournal) (read : List ℕ) (calls calls' : List Call) (words : ℕ → Word) (past : List (ℕ → Word)) (t : ℕ)
    → has_failed calls ≡ false → Syncs old new calls calls' → Keeps old read calls words past t → Keeps new read calls' words past (length past)
Keeps-synced old new read calls calls' words past t fine syncs k =
    let f = k.follows fine in
    let all = f.synced ++ f.since in
    Keeps-follows new read calls' words past (length past)
    (record {
      image = f.image;
      synced = all;
      since = [];
      journals = syncs.synced read f.image f.synced f.since f.journals;
      moments =
          record {
            each = λ n few.
                inl (subst (λ (rs : List Record). IsImage words (replayed rs f.image))
                (sym (ap (λ (rs : List Record). all ++ rs) (none-taken n) ∙ append-nil all)) f.moments.last);
            last = subst (λ (rs : List Record). IsImage words (replayed rs f.image)) (sym (append-nil all)) f.moments.last;
          };
    })

-- a device whose part in use is empty
pub Keeps-begun : (journal : FileJournal) (read : List ℕ) (calls : List Call) (copy : List ℕ) → Journals journal read calls (word_of copy) [] []
    → Keeps journal read calls (λ (word : ℕ). settled (get_or copy word 0)) [] 0
Keeps-begun journal read calls copy j =
    Keeps-follows journal read calls (λ (word : ℕ). settled (get_or copy word 0)) [] 0
    (record {
      image = word_of copy;
      synced = [];
      since = [];
      journals = j;
      moments =
          record {
            each = λ n few.
                subst (λ (rs : List Record). IsLeft (λ (word : ℕ). settled (get_or copy word 0)) [] 0 (replayed rs (word_of copy))) (sym (none-taken n))
                (inl (λ word. inl refl));
            last = λ word. inl refl;
          };
    })

-- ---- behind the lines

-- one moment more
pub blank-step : (lines : ℕ) (words words' : ℕ → Word) (past : List (ℕ → Word)) → ((word : ℕ) → 8 * lines ≤ word → (words' word).newest ≡ (words word).newest)
    → IsBlankBehind lines words past → IsBlankBehind lines words' (words ∷ past)
blank-step lines words words' past same before zero word behind = same word behind ∙ before 0 word behind
blank-step lines words words' past same before (suc k) word behind =
    elim (cases_lt k (length (words ∷ past))) [
      | inl inside ↦
          ap (λ (ws : ℕ → Word). (ws word).newest) (get_or_default (words ∷ past) k words' words inside) ∙ before k word behind
      | inr beyond ↦
          ap (λ (ws : ℕ → Word). (ws word).newest) (get_or_past (words ∷ past) k words' beyond) ∙ same word behind ∙ before 0 word behind
    ]

pub blank-begun : (lines : ℕ) (copy : List ℕ) → length copy ≡ 8 * lines → IsBlankBehind lines (λ (word : ℕ). settled (get_or copy word 0)) []
blank-begun lines copy size zero word behind = get_or_past copy word 0 (omega (arith, size, behind))
blank-begun lines copy size (suc k) word behind = get_or_past copy word 0 (omega (arith, size, behind))

pub blank-stored : (lines : ℕ) (words : ℕ → Word) (at x word : ℕ) → at < 8 * lines → 8 * lines ≤ word → (store_at at x words word).newest ≡ (words word).newest
blank-stored lines words at x word inside behind =
    ap (λ (w : Word). w.newest) (store_at-other at x words word (λ e. absurd (omega (arith, e, inside, behind))))

-- ---- what is left can be decided

abbrev all_below : ℕ → (ℕ → Bool) → Bool
all_below zero test = true
all_below (suc n) test = test n && all_below n test

all_below-from : (n : ℕ) (test : ℕ → Bool) → ((k : ℕ) → test k ≡ true) → all_below n test ≡ true
all_below-from zero test each = refl
all_below-from (suc n) test each = and_from (test n) (all_below n test) (each n) (all_below-from n test each)

all_below-at : (n : ℕ) (test : ℕ → Bool) (k : ℕ) → all_below n test ≡ true → k < n → test k ≡ true
all_below-at zero test k all below = absurd (omega (arith, below))
all_below-at (suc n) test k all below =
    let both = and_parts (test n) (all_below n test) all in
    elim (cases_lt k n) [
      | inl less ↦ all_below-at n test k both.1 less
      | inr last ↦ subst (λ (j : ℕ). test j ≡ true) (let e : n ≡ k = omega (arith, last, below) in e) both.0
    ]

abbrev image_by : ℕ → (ℕ → Word) → (ℕ → ℕ) → Bool
image_by lines words image = all_below (8 * lines) (λ (word : ℕ). may_be (words word) (image word))

abbrev had_by : ℕ → List (ℕ → Word) → ℕ → (ℕ → ℕ) → Bool
had_by lines [] t image = false
had_by lines (words ∷ past) t image = (nat_le t (length past) && image_by lines words image) || had_by lines past t image

image-by : (lines : ℕ) (words : ℕ → Word) (image : ℕ → ℕ) → IsImage words image → image_by lines words image ≡ true
image-by lines words image is =
    all_below-from (8 * lines) (λ (word : ℕ). may_be (words word) (image word)) (λ word. MayBe-may_be (words word) (image word) (is word))

by-image : (lines : ℕ) (words : ℕ → Word) (image : ℕ → ℕ) → ((word : ℕ) → 8 * lines ≤ word → (words word).newest ≡ 0)
    → ((word : ℕ) → 8 * lines ≤ word → image word ≡ 0) → image_by lines words image ≡ true → IsImage words image
by-image lines words image blank none by word =
    elim (cases_lt word (8 * lines)) [
      | inl inside ↦
          may_be-MayBe (words word) (image word) (all_below-at (8 * lines) (λ (w : ℕ). may_be (words w) (image w)) word by inside)
      | inr behind ↦ inl (none word behind ∙ sym (blank word behind))
    ]

had-by : (lines : ℕ) (past : List (ℕ → Word)) (t : ℕ) (image : ℕ → ℕ) → HadImage past t image → had_by lines past t image ≡ true
had-by lines [] t image had = absurd had
had-by lines (words ∷ past) t image (inl here) =
    or_left (nat_le t (length past) && image_by lines words image) (had_by lines past t image)
    (and_from (nat_le t (length past)) (image_by lines words image) (le-leb t (length past) here.0) (image-by lines words image here.1))
had-by lines (words ∷ past) t image (inr had) =
    or_right (nat_le t (length past) && image_by lines words image) (had_by lines past t image) (had-by lines past t image had)

by-had : (lines : ℕ) (past : List (ℕ → Word)) (t : ℕ) (image : ℕ → ℕ)
    → ((k word : ℕ) → k < length past → 8 * lines ≤ word → (get_or past k (λ (w : ℕ). settled 0) word).newest ≡ 0)
    → ((word : ℕ) → 8 * lines ≤ word → image word ≡ 0) → had_by lines past t image ≡ true → HadImage past t image
by-had lines [] t image blank none by = absurd (true≢false (sym by))
by-had lines (words ∷ past) t image blank none by =
    elim (or_cases (nat_le t (length past) && image_by lines words image) (had_by lines past t image) by) [
      | inl here ↦
          let both = and_parts (nat_le t (length past)) (image_by lines words image) here in
          inl (
            leb-true t (length past) both.0,
            by-image lines words image (λ word behind. blank 0 word (omega arith) behind) none both.1,
          )
      | inr there ↦
          inr (by-had lines past t image (λ k word inside behind. blank (suc k) word (omega (arith, inside)) behind) none there)
    ]

pub left-decided : (lines : ℕ) (words : ℕ → Word) (past : List (ℕ → Word)) (t : ℕ) (image : ℕ → ℕ) → IsBlankBehind lines words past
    → ((word : ℕ) → 8 * lines ≤ word → image word ≡ 0) → ∥ IsLeft words past t image ∥₁ → IsLeft words past t image
left-decided lines words past t image blank none left =
    let by : (image_by lines words image || had_by lines past t image) ≡ true =
    ∥∥₁_elim left (Bool-set (image_by lines words image || had_by lines past t image) true) (λ is. decide is) in
    elim (or_cases (image_by lines words image) (had_by lines past t image) by) [
      | inl now ↦ inl (by-image lines words image (λ word behind. blank 0 word behind) none now)
      | inr had ↦
          inr (by-had lines past t image
          (λ k word inside behind.
          ap (λ (ws : ℕ → Word). (ws word).newest) (get_or_default past k (λ (w : ℕ). settled 0) words inside) ∙ blank (suc k) word behind)
          none had)
    ]
  where
    decide : IsLeft words past t image → (image_by lines words image || had_by lines past t image) ≡ true
    decide (inl now) = or_left (image_by lines words image) (had_by lines past t image) (image-by lines words image now)
    decide (inr had) = or_right (image_by lines words image) (had_by lines past t image) (had-by lines past t image had)
