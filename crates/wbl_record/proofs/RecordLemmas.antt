-- The two steps of writing a record: the body, and the root.
use Rattle.std.proofs.Common.{◌≡◌, ◌≢◌, ◌⊎◌, ℕ, suc, Bool, cond, eq-eqb, ◌+◌, ◌*◌, ◌/◌, ◌<◌, ◌≤◌, List, [], ◌∷◌, length, get_or, refl, inl, inr, sym, ap, subst, ◌∙◌, arith}
use Rattle.pmem.specs.Device.{State, MayBe}
use Rattle.pmem.specs.Crash.{IsImage, image_of}
use Rattle.pmem.specs.Runs.{LeavesOnly, Staged, StageFailed, IsPartlyStored, IsStored, IsOutside, IsLine, written, pairs_from, lines_from}
use Rattle.pmem.proofs.Chaining.{Stays-then}
use Rattle.pmem.proofs.Leaving.{LeavesOnly-then, LeavesOnly-weaken}
use Rattle.pmem.proofs.Staging.{IsStored-pairs_from, pairs_from-outside, written-pairs_from, written-outside, IsLine-lines_from, stored_or_outside, same_or_other}
use Rattle.model.specs.declared.record.Record.{Record}
use Rattle.model.specs.declared.layout.Layout.{Layout}
use Rattle.model.specs.Layout.{first_word, record_word, root_word, slot_line, slot_lines}
use Rattle.model.specs.Image.{Image, HasRecord, record_words}
use Rattle.model.proofs.LayoutLemmas.{root_in, slot_at, slots_apart}
use Rattle.model.proofs.RecordLemmas.{HasRecord-lines, length-record_words}
use Rattle.wbl_record.specs.Record.{IsRecordWord, body_pairs, body_lines, root_pairs, IsRecorded, IsRecordFault, IsSucceeded, IsEitherRecord}
use Rattle.wbl_record.proofs.Mixing.{IsMixed, mixed}
use Rattle.wbl_record.proofs.RecordWords.{HasWords-at, HasRecord-same}

-- a word that is not of the record is touched by neither step
body_outside : (lines : ℕ) (next : Record) (word : ℕ) → (IsRecordWord next.layout lines next.number word → ⊥) → IsOutside (body_pairs lines next) word
body_outside lines next word other x stored =
    let at = IsStored-pairs_from (8 * slot_line next.layout lines next.number) (record_words next) word x stored in
    other (inr (omega (arith, at.0), omega (arith, at.1, length-record_words next)))

root_outside : (next : Record) (word : ℕ) → word ≢ root_word next.layout → IsOutside (root_pairs next) word
root_outside next word other x stored = elim stored [ inl here ↦ other (sym here.0) | inr none ↦ none ]

root_stored : (next : Record) (word x : ℕ) → IsStored (root_pairs next) word x → (word ≡ root_word next.layout) × (x ≡ next.number)
root_stored next word x (inl here) = (sym here.0, sym here.1)
root_stored next word x (inr none) = absurd none

-- the root, of any layout, is in no slot
root_before : (lines : ℕ) (next : Record) (layout : Layout) → IsOutside (body_pairs lines next) (root_word layout)
root_before lines next layout x stored =
    let at = IsStored-pairs_from (8 * slot_line next.layout lines next.number) (record_words next) (root_word layout) x stored in
    omega (arith, at.0, (root_in layout).within, (slot_at next.layout lines next.number).behind)

body_beside : (lines : ℕ) (next : Record) (k : ℕ) → 8 * slot_line next.layout lines next.number + k ≢ root_word next.layout
body_beside lines next k e = omega (arith, e, (root_in next.layout).within, (slot_at next.layout lines next.number).behind)

root_line : (layout : Layout) → 0 ≡ root_word layout / 8
root_line layout = let within = (root_in layout).within in omega arith

-- where a record's body was stored
pub record_is : (lines : ℕ) (r : Record) (image : Image) → image (root_word r.layout) ≡ r.number
    → ((k : ℕ) → k < first_word (slot_lines r.layout) → image (8 * slot_line r.layout lines r.number + k) ≡ get_or (record_words r) k 0) → HasRecord lines r image
record_is lines r image root each =
    record {
      root = root;
      words = HasWords-at image (record_word r.layout lines r.number 0) (record_words r)
          (λ k below.
          let e : record_word r.layout lines r.number 0 + k ≡ 8 * slot_line r.layout lines r.number + k = omega arith in
          ap image e ∙ each k (omega (arith, below, length-record_words r)));
    }

-- after the first step each word of the body is certain
body_certain : {a b : State} (next : Record) → Staged a b (body_pairs a.lines next) (body_lines a.lines next) → (k : ℕ) → k < first_word (slot_lines next.layout) → (y : ℕ)
    → MayBe (b.words (8 * slot_line next.layout a.lines next.number + k)) y → y ≡ get_or (record_words next) k 0
body_certain {a} {b} next body k below y may =
    let word : ℕ = 8 * slot_line next.layout a.lines next.number + k in
    let line : IsLine (body_lines a.lines next) (word / 8) = IsLine-lines_from (slot_line next.layout a.lines next.number) (slot_lines next.layout) (word / 8) (omega arith) (omega arith) in
    (body.certain word line).only y may
    ∙ written-pairs_from (8 * slot_line next.layout a.lines next.number) (record_words next) (image_of a.words) k (omega (arith, below, length-record_words next))

-- after the second the record is durable
root_durable : {a b c : State} (next : Record) → Staged a b (body_pairs a.lines next) (body_lines a.lines next) → Staged b c (root_pairs next) (0 ∷ [])
    → (image : Image) → IsImage c.words image → HasRecord c.lines next image
root_durable {a} {b} {c} next body root image is =
    let w = root_word next.layout in
    HasRecord-lines (sym (root.stays.lines ∙ body.stays.lines))
    (record_is a.lines next image
    ((root.certain w (inl (root_line next.layout))).only (image w) (is w) ∙ ap (λ (test : Bool). cond test next.number (image_of b.words w)) (eq-eqb w w refl))
    (λ k below.
    let word : ℕ = 8 * slot_line next.layout a.lines next.number + k in
    body_certain next body k below (image word)
    (root.elsewhere word (image word) (root_outside next word (body_beside a.lines next k)) (is word))))

elsewhere_kept : {a b c : State} (next : Record) → Staged a b (body_pairs a.lines next) (body_lines a.lines next) → Staged b c (root_pairs next) (0 ∷ [])
    → (word y : ℕ) → (IsRecordWord next.layout a.lines next.number word → ⊥) → MayBe (c.words word) y → MayBe (a.words word) y
elsewhere_kept {a} {b} {c} next body root word y other may =
    body.elsewhere word y (body_outside a.lines next word other)
    (root.elsewhere word y (root_outside next word (λ e. other (inl e))) may)

newest_kept : (a b c : State) (next : Record) (word : ℕ)
    → ((w : ℕ) → image_of b.words w ≡ written (body_pairs a.lines next) (image_of a.words) w)
    → ((w : ℕ) → image_of c.words w ≡ written (root_pairs next) (image_of b.words) w)
    → (IsRecordWord next.layout a.lines next.number word → ⊥) → image_of c.words word ≡ image_of a.words word
newest_kept a b c next word body root other =
    root word ∙ written-outside (root_pairs next) (image_of b.words) word (root_outside next word (λ e. other (inl e)))
    ∙ body word ∙ written-outside (body_pairs a.lines next) (image_of a.words) word (body_outside a.lines next word other)

pub recorded : {a b c : State} (next : Record) → Staged a b (body_pairs a.lines next) (body_lines a.lines next) → Staged b c (root_pairs next) (0 ∷ [])
    → IsRecorded a c next
recorded {a} {b} {c} next body root =
    record {
      durable = root_durable next body root;
      elsewhere = elsewhere_kept next body root;
      newest = λ word other. newest_kept a b c next word body.newest root.newest other;
      failures = root.failures ∙ body.failures;
      stays = Stays-then body.stays root.stays;
    }

-- the first fence failed
pub body_fault : {a b : State} (next : Record) → StageFailed a b (body_pairs a.lines next) → IsRecordFault a b next
body_fault {a} {b} next body =
    record {
      newest = λ word other.
          body.newest word ∙ written-outside (body_pairs a.lines next) (image_of a.words) word (body_outside a.lines next word other);
      failures = omega (arith, body.failures);
      stays = body.stays;
    }

-- the second fence failed
pub root_fault : {a b c : State} (next : Record) → Staged a b (body_pairs a.lines next) (body_lines a.lines next) → StageFailed b c (root_pairs next)
    → IsRecordFault a c next
root_fault {a} {b} {c} next body root =
    record {
      newest = λ word other. newest_kept a b c next word body.newest root.newest other;
      failures = omega (arith, root.failures, body.failures);
      stays = Stays-then body.stays root.stays;
    }

-- the sync behind both failed
pub unsynced_fault : {a b c : State} (next : Record) → IsRecorded a b next → c ≡ record b { failures = suc b.failures } → IsRecordFault a c next
unsynced_fault {a} {b} {c} next recorded e =
    subst (λ (d : State). IsRecordFault a d next) (sym e)
    (record {
      newest = recorded.newest;
      failures = omega (arith, recorded.failures);
      stays = record { lines = recorded.stays.lines; kept = recorded.stays.kept; starved = recorded.stays.starved };
    })

-- the current record's words are in none of the next one's
current_outside : (lines : ℕ) (current next : Record) (word : ℕ) → next.layout ≡ current.layout → next.number ≡ current.number + 1
    → record_word current.layout lines current.number 0 ≤ word → word < record_word current.layout lines current.number (first_word (slot_lines current.layout))
    → IsOutside (body_pairs lines next) word
current_outside lines current next word layout number low high =
    let here = slot_line current.layout lines current.number in
    let there = slot_line next.layout lines next.number in
    let size = slot_lines current.layout in
    let next_is : slot_line current.layout lines (current.number + 1) ≡ there =
    sym (ap (λ (l : Layout). slot_line l lines next.number) layout ∙ ap (slot_line current.layout lines) number) in
    let size_is : length (record_words next) ≡ first_word size = length-record_words next ∙ ap (λ (l : Layout). first_word (slot_lines l)) layout in
    let apart : (here + size ≤ there) ⊎ (there + size ≤ here) =
    subst (λ (line : ℕ). (here + size ≤ line) ⊎ (line + size ≤ here)) next_is (slots_apart current.layout lines current.number) in
    pairs_from-outside (8 * there) (record_words next) word (outside here there size word (length (record_words next)) size_is apart low high)
  where
    outside : (here there size word count : ℕ) → count ≡ 8 * size → (here + size ≤ there) ⊎ (there + size ≤ here) → 8 * here + 0 ≤ word → word < 8 * here + 8 * size
        → (word < 8 * there) ⊎ (8 * there + count ≤ word)
    outside here there size word count e (inl before) low high = inl (omega (arith, before, high))
    outside here there size word count e (inr behind) low high = inr (omega (arith, behind, low, e))

-- a base that has the current record, and an image that agrees with it on the words of the record
current_stays : (d : State) (current next : Record) (base image : Image) → IsSucceeded d current next → IsImage d.words base
    → image (root_word current.layout) ≡ base (root_word current.layout)
    → ((word : ℕ) → record_word current.layout d.lines current.number 0 ≤ word
    → word < record_word current.layout d.lines current.number (first_word (slot_lines current.layout)) → image word ≡ base word) → HasRecord d.lines current image
current_stays d current next base image succeeded is root slot = HasRecord-same d.lines current base image root slot (succeeded.durable base is)

-- while the body is stored, the root still names the current record
body_leaves : (d : State) (current next : Record) (image : Image) → IsSucceeded d current next
    → IsPartlyStored (body_pairs d.lines next) d.words image → IsEitherRecord d current next image
body_leaves d current next image succeeded partly =
    let mix : IsMixed d.words (λ word. IsStored (body_pairs d.lines next) word (image word)) image =
    mixed d.words (λ word. IsStored (body_pairs d.lines next) word (image word)) image partly in
    record {
      either = inl (current_stays d current next mix.base image succeeded mix.is
          (elim (mix.same (root_word current.layout)) [ inl e ↦ e | inr stored ↦ absurd (root_before d.lines next current.layout (image (root_word current.layout)) stored) ])
          (λ word low high.
          elim (mix.same word) [
            | inl e ↦ e
            | inr stored ↦ absurd (current_outside d.lines current next word succeeded.layout succeeded.number low high (image word) stored)
          ]));
      elsewhere = λ word other.
          elim (partly word) [ inl may ↦ may | inr stored ↦ absurd (body_outside d.lines next word other (image word) stored) ];
    }

-- while the root is stored, the body is certain
root_leaves : {a b : State} (current next : Record) (image : Image) → IsSucceeded a current next
    → Staged a b (body_pairs a.lines next) (body_lines a.lines next) → IsPartlyStored (root_pairs next) b.words image → IsEitherRecord a current next image
root_leaves {a} {b} current next image succeeded body partly =
    let may_b : (word : ℕ) → word ≢ root_word next.layout → MayBe (b.words word) (image word) =
    λ word other. elim (partly word) [ inl may ↦ may | inr stored ↦ absurd (other (root_stored next word (image word) stored).0) ] in
    let may_a : (word : ℕ) → word ≢ root_word next.layout → IsOutside (body_pairs a.lines next) word → MayBe (a.words word) (image word) =
    λ word other out. body.elsewhere word (image word) out (may_b word other) in
    record {
      either =
          elim (partly (root_word next.layout)) [
            | inl may ↦
                inl (root_current current next image succeeded body
                (body.elsewhere (root_word next.layout) (image (root_word next.layout)) (root_before a.lines next next.layout) may) may_a)
            | inr stored ↦
                inr (record_is a.lines next image (root_stored next (root_word next.layout) (image (root_word next.layout)) stored).1
                (λ k below.
                body_certain next body k below (image (8 * slot_line next.layout a.lines next.number + k))
                (may_b (8 * slot_line next.layout a.lines next.number + k) (body_beside a.lines next k))))
          ];
      elsewhere = λ word other. may_a word (λ e. other (inl e)) (body_outside a.lines next word other);
    }
  where
    root_current : {a b : State} (current next : Record) (image : Image) → IsSucceeded a current next
        → Staged a b (body_pairs a.lines next) (body_lines a.lines next) → MayBe (a.words (root_word next.layout)) (image (root_word next.layout))
        → ((word : ℕ) → word ≢ root_word next.layout → IsOutside (body_pairs a.lines next) word → MayBe (a.words word) (image word)) → HasRecord a.lines current image
    root_current {a} {b} current next image succeeded body root may_a =
        let Q : ℕ → Type 0 = λ word. (x : ℕ) × IsStored (body_pairs a.lines next) word x in
        let which : (word : ℕ) → MayBe (a.words word) (image word) ⊎ Q word =
        λ word.
        elim (stored_or_outside (body_pairs a.lines next) word) [
          | inl stored ↦ inr stored
          | inr out ↦
              elim (same_or_other word (root_word next.layout)) [
                | inl e ↦ inl (subst (λ (w : ℕ). MayBe (a.words w) (image w)) (sym e) root)
                | inr other ↦ inl (may_a word other out)
              ]
        ] in
        let mix : IsMixed a.words Q image = mixed a.words Q image which in
        current_stays a current next mix.base image succeeded mix.is
        (elim (mix.same (root_word current.layout)) [ inl e ↦ e | inr stored ↦ absurd (root_before a.lines next current.layout stored.0 stored.1) ])
        (λ word low high.
        elim (mix.same word) [
          | inl e ↦ e
          | inr stored ↦ absurd (current_outside a.lines current next word succeeded.layout succeeded.number low high stored.0 stored.1)
        ])

-- Until the first fence.
pub body_moments : {a b : State} (current next : Record) → IsSucceeded a current next → LeavesOnly a b (IsPartlyStored (body_pairs a.lines next) a.words)
    → LeavesOnly a b (IsEitherRecord a current next)
body_moments {a} {b} current next succeeded moments =
    LeavesOnly-weaken (IsEitherRecord a current next) (λ image partly. body_leaves a current next image succeeded partly) moments

-- From then to the second.
pub root_moments : {a b c : State} (current next : Record) → IsSucceeded a current next → Staged a b (body_pairs a.lines next) (body_lines a.lines next)
    → LeavesOnly b c (IsPartlyStored (root_pairs next) b.words) → LeavesOnly a c (IsEitherRecord a current next)
root_moments {a} {b} {c} current next succeeded body moments =
    LeavesOnly-then (body_moments current next succeeded body.moments)
    (LeavesOnly-weaken (IsEitherRecord a current next) (λ image partly. root_leaves current next image succeeded body partly) moments)

-- the words that were stored are those of the record
pub staged_body : {a b : State} (next : Record) (line lines : ℕ) (words : List ℕ) → line ≡ slot_line next.layout a.lines next.number → lines ≡ slot_lines next.layout
    → words ≡ record_words next → Staged a b (pairs_from (first_word line) words) (lines_from line lines)
    → Staged a b (body_pairs a.lines next) (body_lines a.lines next)
staged_body {a} {b} next line lines words at many e staged =
    let slot = slot_line next.layout a.lines next.number in
    subst (λ (values : List ℕ). Staged a b (pairs_from (first_word slot) values) (body_lines a.lines next)) e
    (subst (λ (n : ℕ). Staged a b (pairs_from (first_word slot) words) (lines_from slot n)) many
    (subst (λ (n : ℕ). Staged a b (pairs_from (first_word n) words) (lines_from n lines)) at staged))

pub failed_body : {a b : State} (next : Record) (line : ℕ) (words : List ℕ) → line ≡ slot_line next.layout a.lines next.number → words ≡ record_words next
    → StageFailed a b (pairs_from (first_word line) words) → StageFailed a b (body_pairs a.lines next)
failed_body {a} {b} next line words at e failed =
    subst (λ (values : List ℕ). StageFailed a b (pairs_from (first_word (slot_line next.layout a.lines next.number)) values)) e
    (subst (λ (n : ℕ). StageFailed a b (pairs_from (first_word n) words)) at failed)

-- and so is the root
pub staged_root : {a b : State} (next : Record) (word : ℕ) → word ≡ root_word next.layout → Staged a b ((word, next.number) ∷ []) (0 ∷ [])
    → Staged a b (root_pairs next) (0 ∷ [])
staged_root {a} {b} next word at staged = subst (λ (w : ℕ). Staged a b ((w, next.number) ∷ []) (0 ∷ [])) at staged

pub failed_root : {a b : State} (next : Record) (word : ℕ) → word ≡ root_word next.layout → StageFailed a b ((word, next.number) ∷ []) → StageFailed a b (root_pairs next)
failed_root {a} {b} next word at failed = subst (λ (w : ℕ). StageFailed a b ((w, next.number) ∷ [])) at failed
