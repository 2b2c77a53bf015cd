-- What the calls of a journal make of the words that its file may hold.
use Rattle.std.proofs.Common.{◌≡◌, ◌⊎◌, ℕ, zero, suc, ◌+◌, ◌*◌, ◌/◌, ◌%◌, ◌-◌, ◌^◌, ◌<◌, ◌≤◌, true, false, not, cond, ◌==◌, List, [], ◌++◌, length, get_or, refl, inl, inr, sym, subst, ap, ◌∙◌, arith, length-append}
use Rattle.std.proofs.lemmas.Bool.{or_parts, cases_Bool, cases_lt, cond-true, cond-false, eqb-true, true≢false}
use Rattle.std.proofs.lemmas.List.{get_or_append_left, get_or-append_right}
use Rattle.journal.specs.declared.shape.Shape.{Shape}
use Rattle.journal.specs.Record.{Record, all_sealed}
use Rattle.journal.specs.Replay.{is_recorded}
use Rattle.journal.specs.Head.{head_of}
use Rattle.journal.specs.File.{head_at, part_at, Appends, Begins}
use Rattle.journal.proofs.RecordLemmas.{sealed-append}
use Rattle.journal.proofs.ReplayLemmas.{is_recorded-append}
use Rattle.pmem_file.specs.Call.{Call, IsFileImage, written}
use Rattle.pmem_file.specs.Line.{has_line}
use Rattle.pmem_file.specs.Written.{MayWrite, Writes, Commits, is_among, is_in, from, word_of, blank}
use Rattle.pmem_file.specs.Journaled.{IsHead, OnDisk, placed}
use Rattle.pmem_file.proofs.CallsLemmas.{written-may_hold}
use Rattle.pmem_file.proofs.WritesLemmas.{among-from, not-among}
use Rattle.pmem_file.proofs.PlacesLemmas.{partly, untouched, IsSure, sure-committed, committed-here, committed-there, part-behind, parts-apart, part-next, part-after, AreLines, not-in, behind-zero}

-- a file while sealed records are written behind those that are durable
pub appends-mid : (shape : Shape) (generation : ℕ) (read : List ℕ) (old new : List Call) (image file : ℕ → ℕ) (synced since : List Record) (first : ℕ)
    → first ≡ part_at shape generation + length (all_sealed synced) → length (all_sealed synced) + length (all_sealed since) ≤ 8 * shape.part
    → MayWrite (is_among first (length (all_sealed since))) (from first (all_sealed since)) old new → OnDisk shape generation read old image synced
    → IsFileImage read new file → Appends shape generation image synced since file × IsHead shape generation file
appends-mid shape generation read old new image file synced since first at room may on is =
    let n = length (all_sealed synced) in
    let m = length (all_sealed since) in
    let words = all_sealed since in
    let p = partly (is_among first m) (from first words) read old new file may is in
    let was = on.disk p.before p.is in
    let far = part-behind shape generation in
    let out : (word : ℕ) → (word < first) ⊎ (first + m ≤ word) → file word ≡ p.before word =
    λ word o. untouched (is_among first m) (from first words) read old file p word (not-among first m word o) in (
      record {
        told = out (head_at shape + 1) (inl (omega (arith, at, far))) ∙ was.told;
        place = λ word below none. out word (inl (omega (arith, at, far, below))) ∙ was.place word below none;
        kept = λ k below. out (part_at shape generation + k) (inl (omega (arith, at, below))) ∙ was.kept k below;
        behind = λ k below.
            let word = part_at shape generation + (n + k) in
            elim (p.each word) [
              | inl same ↦ inl (same ∙ behind-zero shape generation image synced p.before was k below)
              | inr new ↦
                  let index : word - first ≡ k = omega (arith, at) in
                  inr (new.1 ∙ ap (λ (j : ℕ). get_or words j 0) index)
            ];
        room = room;
      },
      λ k few. out (head_at shape + k) (inl (omega (arith, at, far, few))) ∙ on.head p.before p.is k few,
    )

-- all that waited is durable
pub OnDisk-synced : (shape : Shape) (generation : ℕ) (read : List ℕ) (old new : List Call) (image : ℕ → ℕ) (synced since : List Record) (first : ℕ)
    → first ≡ part_at shape generation + length (all_sealed synced) → length (all_sealed synced) + length (all_sealed since) ≤ 8 * shape.part
    → Commits (is_among first (length (all_sealed since))) (from first (all_sealed since)) old new → OnDisk shape generation read old image synced
    → OnDisk shape generation read new image (synced ++ since)
OnDisk-synced shape generation read old new image synced since first at room commits on =
    let a = all_sealed synced in
    let b = all_sealed since in
    let n = length a in
    let m = length b in
    let t = is_among first m in
    let v = from first b in
    let file0 = written read old in
    let is0 : IsFileImage read old file0 = written-may_hold read old in
    let was = on.disk file0 is0 in
    let far = part-behind shape generation in
    let whole : all_sealed (synced ++ since) ≡ a ++ b = sealed-append synced since in
    let size : length (all_sealed (synced ++ since)) ≡ n + m = ap length whole ∙ length-append a b in
    let out : (word : ℕ) → (word < first) ⊎ (first + m ≤ word) → written read new word ≡ file0 word =
    λ word o. committed-there t v read old new word commits (not-among first m word o) in
    let sure = sure-committed t v read old new commits in
    record {
      disk = λ file is.
          record {
            told = sure file is (head_at shape + 1) ∙ out (head_at shape + 1) (inl (omega (arith, at, far))) ∙ was.told;
            place = λ word below none.
                sure file is word ∙ out word (inl (omega (arith, at, far, below)))
                ∙ was.place word below (or_parts (is_recorded synced (word / 8)) (is_recorded since (word / 8)) (sym (is_recorded-append synced since (word / 8)) ∙ none)).0;
            kept = λ k below.
                let word = part_at shape generation + k in
                sure file is word
                ∙ elim (cases_lt k n) [
                  | inl here ↦
                      out word (inl (omega (arith, at, here))) ∙ was.kept k here ∙ sym (get_or_append_left a b 0 k here)
                      ∙ ap (λ (l : List ℕ). get_or l k 0) (sym whole)
                  | inr there ↦
                      let inside : k < n + m = omega (arith, below, size) in
                      let index : word - first ≡ k - n = omega (arith, at, there) in
                      committed-here t v read old new word commits (among-from first m word (omega (arith, at, there)) (omega (arith, at, inside)))
                      ∙ ap (λ (j : ℕ). get_or b j 0) index ∙ sym (get_or-append_right a b n k 0 refl there) ∙ ap (λ (l : List ℕ). get_or l k 0) (sym whole)
                ];
            behind = λ k below.
                let word = part_at shape generation + (length (all_sealed (synced ++ since)) + k) in
                let same : word ≡ part_at shape generation + (n + (m + k)) = omega (arith, size) in
                inl (
                sure file is word ∙ out word (inr (omega (arith, at, size))) ∙ ap file0 same
                ∙ behind-zero shape generation image synced file0 was (m + k) (omega (arith, below, size))
                );
            room = omega (arith, room, size);
          };
      head = λ file is k few.
          sure file is (head_at shape + k) ∙ out (head_at shape + k) (inl (omega (arith, at, far, few))) ∙ on.head file0 is0 k few;
      next = λ k few.
          let word = part_at shape (generation + 1) + k in
          let apart : (word < first) ⊎ (first + m ≤ word) =
          elim (parts-apart shape generation) [
            | inl later ↦ inr (omega (arith, at, later, room))
            | inr earlier ↦ inl (omega (arith, at, earlier, few))
          ] in
          out word apart ∙ on.next k few;
    }

-- ---- a new generation

-- lines of the image are on their way to their places
pub lines-mid : (shape : Shape) (generation : ℕ) (read : List ℕ) (old new : List Call) (image file : ℕ → ℕ) (synced : List Record) (words lines : List ℕ)
    → AreLines shape lines → ((line : ℕ) → is_recorded synced line ≡ false → has_line lines line ≡ false)
    → MayWrite (is_in lines) (word_of words) old new → OnDisk shape generation read old image synced → IsFileImage read new file
    → Appends shape generation image synced [] file × IsHead shape generation file
lines-mid shape generation read old new image file synced words lines are these may on is =
    let p = partly (is_in lines) (word_of words) read old new file may is in
    let was = on.disk p.before p.is in
    let far = part-behind shape generation in
    let out : (word : ℕ) → 8 * shape.lines ≤ word → file word ≡ p.before word =
    λ word behind. untouched (is_in lines) (word_of words) read old file p word (not-in shape lines word are behind) in (
      record {
        told = out (head_at shape + 1) (omega arith) ∙ was.told;
        place = λ word below none.
            untouched (is_in lines) (word_of words) read old file p word (these (word / 8) none) ∙ was.place word below none;
        kept = λ k below. out (part_at shape generation + k) (omega (arith, far)) ∙ was.kept k below;
        behind = λ k below.
            inl (
            out (part_at shape generation + (length (all_sealed synced) + k)) (omega (arith, far))
            ∙ behind-zero shape generation image synced p.before was k below
            );
        room = was.room;
      },
      λ k few. out (head_at shape + k) (omega arith) ∙ on.head p.before p.is k few,
    )

-- All is in place, and the other part holds zeros; both are durable
pub record IsReady (shape : Shape) (generation : ℕ) (read : List ℕ) (calls : List Call) (placed : ℕ → ℕ) : Type 0 where
  pub sure : IsSure read calls
  pub place : (word : ℕ) → word < 8 * shape.lines → written read calls word ≡ placed word
  pub zeros : (k : ℕ) → k < 8 * shape.part → written read calls (part_at shape (generation + 1) + k) ≡ 0

-- the lines of the durable records were put in place
pub ready-placed : (shape : Shape) (generation : ℕ) (read : List ℕ) (old new : List Call) (image : ℕ → ℕ) (synced : List Record) (words lines : List ℕ)
    → AreLines shape lines → ((line : ℕ) → has_line lines line ≡ is_recorded synced line) → Commits (is_in lines) (word_of words) old new
    → OnDisk shape generation read old image synced → IsReady shape generation read new (placed synced words image)
ready-placed shape generation read old new image synced words lines are these commits on =
    let file0 = written read old in
    let was = on.disk file0 (written-may_hold read old) in
    let far = part-behind shape (generation + 1) in
    record {
      sure = sure-committed (is_in lines) (word_of words) read old new commits;
      place = λ word below.
          elim (cases_Bool (is_recorded synced (word / 8))) [
            | inl here ↦
                committed-here (is_in lines) (word_of words) read old new word commits (these (word / 8) ∙ here)
                ∙ sym (cond-true (is_recorded synced (word / 8)) (get_or words word 0) (image word) here)
            | inr there ↦
                committed-there (is_in lines) (word_of words) read old new word commits (these (word / 8) ∙ there)
                ∙ was.place word below there ∙ sym (cond-false (is_recorded synced (word / 8)) (get_or words word 0) (image word) there)
          ];
      zeros = λ k few.
          committed-there (is_in lines) (word_of words) read old new (part_at shape (generation + 1) + k) commits
          (not-in shape lines (part_at shape (generation + 1) + k) are (omega (arith, far)))
          ∙ on.next k few;
    }

-- the old part is as it was
pub record HasOld (shape : Shape) (generation : ℕ) (read : List ℕ) (calls : List Call) (image placed : ℕ → ℕ) (synced : List Record) : Type 0 where
  pub recorded : (word : ℕ) → word < 8 * shape.lines → is_recorded synced (word / 8) ≡ false → placed word ≡ image word
  pub kept : (k : ℕ) → k < length (all_sealed synced) → written read calls (part_at shape generation + k) ≡ get_or (all_sealed synced) k 0
  pub behind : (k : ℕ) → length (all_sealed synced) + k < 8 * shape.part
      → written read calls (part_at shape generation + (length (all_sealed synced) + k)) ≡ 0
  pub room : length (all_sealed synced) ≤ 8 * shape.part
  pub head : (k : ℕ) → k < 8 → written read calls (head_at shape + k) ≡ get_or (head_of shape generation) k 0

pub old-placed : (shape : Shape) (generation : ℕ) (read : List ℕ) (old new : List Call) (image : ℕ → ℕ) (synced : List Record) (words lines : List ℕ)
    → AreLines shape lines → Commits (is_in lines) (word_of words) old new → OnDisk shape generation read old image synced
    → HasOld shape generation read new image (placed synced words image) synced
old-placed shape generation read old new image synced words lines are commits on =
    let file0 = written read old in
    let is0 : IsFileImage read old file0 = written-may_hold read old in
    let was = on.disk file0 is0 in
    let far = part-behind shape generation in
    let out : (word : ℕ) → 8 * shape.lines ≤ word → written read new word ≡ file0 word =
    λ word behind. committed-there (is_in lines) (word_of words) read old new word commits (not-in shape lines word are behind) in
    record {
      recorded = λ word below none. cond-false (is_recorded synced (word / 8)) (get_or words word 0) (image word) none;
      kept = λ k below. out (part_at shape generation + k) (omega (arith, far)) ∙ was.kept k below;
      behind = λ k below.
          out (part_at shape generation + (length (all_sealed synced) + k)) (omega (arith, far))
          ∙ behind-zero shape generation image synced file0 was k below;
      room = omega (arith, was.room);
      head = λ k few. out (head_at shape + k) (omega arith) ∙ on.head file0 is0 k few;
    }

-- the words of the head but the second are the same in each generation
pub same-head : (shape : Shape) (a b k : ℕ) → (k ≡ 1 → ⊥) → get_or (head_of shape a) k 0 ≡ get_or (head_of shape b) k 0
same-head shape a b zero not = refl
same-head shape a b (suc zero) not = absurd (not refl)
same-head shape a b (suc (suc k)) not = refl

-- the head of the next generation is on its way
pub head-mid : (shape : Shape) (generation next : ℕ) (read : List ℕ) (old new : List Call) (image placed file : ℕ → ℕ) (synced : List Record)
    → next ≡ (generation + 1) % 2 ^ 64 → IsReady shape generation read old placed → HasOld shape generation read old image placed synced
    → MayWrite (is_among (head_at shape) 8) (from (head_at shape) (head_of shape next)) old new → IsFileImage read new file
    → Begins shape generation next image placed synced file × (IsHead shape next file ⊎ IsHead shape generation file)
head-mid shape generation next read old new image placed file synced e ready has may is =
    let t = is_among (head_at shape) 8 in
    let v = from (head_at shape) (head_of shape next) in
    let p = partly t v read old new file may is in
    let far = part-behind shape generation in
    let far' = part-behind shape (generation + 1) in
    let out : (word : ℕ) → (word < head_at shape) ⊎ (head_at shape + 8 ≤ word) → file word ≡ written read old word =
    λ word o. untouched t v read old file p word (not-among (head_at shape) 8 word o) ∙ ready.sure p.before p.is word in
    let either : (k : ℕ) → k < 8 → (file (head_at shape + k) ≡ get_or (head_of shape generation) k 0) ⊎ (file (head_at shape + k) ≡ get_or (head_of shape next) k 0) =
    λ k few.
    elim (p.each (head_at shape + k)) [
      | inl same ↦ inl (same ∙ ready.sure p.before p.is (head_at shape + k) ∙ has.head k few)
      | inr new ↦
          let index : head_at shape + k - head_at shape ≡ k = omega arith in
          inr (new.1 ∙ ap (λ (j : ℕ). get_or (head_of shape next) j 0) index)
    ] in
    let one : 1 < 8 = omega arith in
    let rest : (g : ℕ) → file (head_at shape + 1) ≡ g → IsHead shape g file =
    λ g told k few.
    elim (cases_Bool (k == 1)) [
      | inl is1 ↦
          let k1 : k ≡ 1 = eqb-true k 1 is1 in
          subst (λ (j : ℕ). file (head_at shape + j) ≡ get_or (head_of shape g) j 0) (sym k1) told
      | inr not1 ↦
          let other : k ≡ 1 → ⊥ = λ k1. true≢false (sym (subst (λ (j : ℕ). (j == 1) ≡ true) (sym k1) refl) ∙ not1) in
          elim (either k few) [
            | inl same ↦ same ∙ same-head shape generation g k other
            | inr new ↦ new ∙ same-head shape next g k other
          ]
    ] in (
      record {
        told = either 1 one;
        place = λ word below. out word (inl below) ∙ ready.place word below;
        recorded = has.recorded;
        kept = λ k below. out (part_at shape generation + k) (inr (omega (arith, far))) ∙ has.kept k below;
        behind = λ k below.
            out (part_at shape generation + (length (all_sealed synced) + k)) (inr (omega (arith, far))) ∙ has.behind k below;
        room = has.room;
        zeros = λ k few.
            ap (λ (at : ℕ). file (at + k)) (part-next shape generation next e)
            ∙ out (part_at shape (generation + 1) + k) (inr (omega (arith, far'))) ∙ ready.zeros k few;
      },
      elim (either 1 one) [
        | inl told ↦ inr (rest generation told)
        | inr told ↦ inl (rest next told)
      ],
    )

-- the next generation has begun, and the old part is on its way to zeros
pub begun-mid : (shape : Shape) (generation next : ℕ) (read : List ℕ) (old begun new : List Call) (placed file : ℕ → ℕ) (count : ℕ)
    → next ≡ (generation + 1) % 2 ^ 64 → count ≤ 8 * shape.part → IsReady shape generation read old placed
    → Commits (is_among (head_at shape) 8) (from (head_at shape) (head_of shape next)) old begun
    → MayWrite (is_among (part_at shape generation) count) blank begun new → IsFileImage read new file
    → Appends shape next placed [] [] file × IsHead shape next file
begun-mid shape generation next read old begun new placed file count e few ready commits may is =
    let t = is_among (head_at shape) 8 in
    let v = from (head_at shape) (head_of shape next) in
    let at = part_at shape generation in
    let p = partly (is_among at count) blank read begun new file may is in
    let far = part-behind shape generation in
    let far' = part-behind shape (generation + 1) in
    let sure = sure-committed t v read old begun commits in
    let out : (word : ℕ) → (word < at) ⊎ (at + count ≤ word) → file word ≡ written read begun word =
    λ word o. untouched (is_among at count) blank read begun file p word (not-among at count word o) ∙ sure p.before p.is word in
    let head : IsHead shape next file =
    λ k low.
    let index : head_at shape + k - head_at shape ≡ k = omega arith in
    out (head_at shape + k) (inl (omega (arith, far, low)))
    ∙ committed-here t v read old begun (head_at shape + k) commits (among-from (head_at shape) 8 (head_at shape + k) (omega arith) (omega (arith, low)))
    ∙ ap (λ (j : ℕ). get_or (head_of shape next) j 0) index in (
      record {
        told = head 1 (omega arith);
        place = λ word below none.
            out word (inl (omega (arith, far, below)))
            ∙ committed-there t v read old begun word commits (not-among (head_at shape) 8 word (inl below)) ∙ ready.place word below;
        kept = λ k below. absurd (omega (arith, below));
        behind = λ k below.
            let word = part_at shape (generation + 1) + k in
            let inside : k < 8 * shape.part = omega (arith, below) in
            let same : part_at shape next + (0 + k) ≡ word = omega (arith, part-next shape generation next e) in
            let apart : (word < at) ⊎ (at + count ≤ word) =
            elim (parts-apart shape generation) [
              | inl later ↦ inr (omega (arith, later, few))
              | inr earlier ↦ inl (omega (arith, earlier, inside))
            ] in
            inl (
            ap file same ∙ out word apart
            ∙ committed-there t v read old begun word commits (not-among (head_at shape) 8 word (inr (omega (arith, far'))))
            ∙ ready.zeros k inside
            );
        room = omega arith;
      },
      head,
    )

pub OnDisk-begun : (shape : Shape) (generation next : ℕ) (read : List ℕ) (old begun new : List Call) (placed : ℕ → ℕ) (count : ℕ)
    → next ≡ (generation + 1) % 2 ^ 64 → count ≤ 8 * shape.part → IsReady shape generation read old placed
    → Commits (is_among (head_at shape) 8) (from (head_at shape) (head_of shape next)) old begun
    → Writes (is_among (part_at shape generation) count) blank begun new
    → ((k : ℕ) → count + k < 8 * shape.part → written read old (part_at shape generation + (count + k)) ≡ 0)
    → OnDisk shape next read new placed []
OnDisk-begun shape generation next read old begun new placed count e few ready commits writes rest =
    let t = is_among (head_at shape) 8 in
    let v = from (head_at shape) (head_of shape next) in
    let at = part_at shape generation in
    let far = part-behind shape generation in
    record {
      disk = λ file is. (begun-mid shape generation next read old begun new placed file count e few ready commits writes.within is).0;
      head = λ file is. (begun-mid shape generation next read old begun new placed file count e few ready commits writes.within is).1;
      next = λ k inside.
          let word = at + k in
          ap (λ (first : ℕ). written read new (first + k)) (part-after shape generation next e)
          ∙ elim (cases_lt k count) [
            | inl here ↦ writes.last read word (among-from at count word (omega arith) (omega (arith, here)))
            | inr there ↦
                let split : word ≡ at + (count + (k - count)) = omega (arith, there) in
                writes.others read word (not-among at count word (inr (omega (arith, there))))
                ∙ committed-there t v read old begun word commits (not-among (head_at shape) 8 word (inr (omega (arith, far))))
                ∙ ap (λ (w : ℕ). written read old w) split ∙ rest (k - count) (omega (arith, there, inside))
          ];
    }

-- lines went to their places, while the journal has no record
pub OnDisk-lines : (shape : Shape) (generation : ℕ) (read : List ℕ) (old new : List Call) (image : ℕ → ℕ) (words lines : List ℕ)
    → AreLines shape lines → Commits (is_in lines) (word_of words) old new → OnDisk shape generation read old image []
    → OnDisk shape generation read new (λ (word : ℕ). cond (is_in lines word) (get_or words word 0) (image word)) []
OnDisk-lines shape generation read old new image words lines are commits on =
    let file0 = written read old in
    let is0 : IsFileImage read old file0 = written-may_hold read old in
    let was = on.disk file0 is0 in
    let far = part-behind shape generation in
    let far' = part-behind shape (generation + 1) in
    let sure = sure-committed (is_in lines) (word_of words) read old new commits in
    let out : (word : ℕ) → 8 * shape.lines ≤ word → written read new word ≡ file0 word =
    λ word behind. committed-there (is_in lines) (word_of words) read old new word commits (not-in shape lines word are behind) in
    record {
      disk = λ file is.
          record {
            told = sure file is (head_at shape + 1) ∙ out (head_at shape + 1) (omega arith) ∙ was.told;
            place = λ word below none.
                sure file is word
                ∙ elim (cases_Bool (is_in lines word)) [
                  | inl here ↦
                      committed-here (is_in lines) (word_of words) read old new word commits here
                      ∙ sym (cond-true (is_in lines word) (get_or words word 0) (image word) here)
                  | inr there ↦
                      committed-there (is_in lines) (word_of words) read old new word commits there ∙ was.place word below none
                      ∙ sym (cond-false (is_in lines word) (get_or words word 0) (image word) there)
                ];
            kept = λ k below. absurd (omega (arith, below));
            behind = λ k below.
                let word = part_at shape generation + (0 + k) in
                inl (sure file is word ∙ out word (omega (arith, far)) ∙ behind-zero shape generation image [] file0 was k below);
            room = was.room;
          };
      head = λ file is k few. sure file is (head_at shape + k) ∙ out (head_at shape + k) (omega arith) ∙ on.head file0 is0 k few;
      next = λ k few. out (part_at shape (generation + 1) + k) (omega (arith, far')) ∙ on.next k few;
    }

-- they are on their way
pub lines-on-the-way : (shape : Shape) (generation : ℕ) (read : List ℕ) (old new : List Call) (image file : ℕ → ℕ) (words lines : List ℕ)
    → AreLines shape lines → MayWrite (is_in lines) (word_of words) old new → OnDisk shape generation read old image [] → IsFileImage read new file
    → Appends shape generation file [] [] file × IsHead shape generation file
    × ((word : ℕ) → word < 8 * shape.lines → (file word ≡ image word) ⊎ (file word ≡ get_or words word 0))
lines-on-the-way shape generation read old new image file words lines are may on is =
    let p = partly (is_in lines) (word_of words) read old new file may is in
    let was = on.disk p.before p.is in
    let far = part-behind shape generation in
    let out : (word : ℕ) → 8 * shape.lines ≤ word → file word ≡ p.before word =
    λ word behind. untouched (is_in lines) (word_of words) read old file p word (not-in shape lines word are behind) in (
      record {
        told = out (head_at shape + 1) (omega arith) ∙ was.told;
        place = λ word below none. refl;
        kept = λ k below. absurd (omega (arith, below));
        behind = λ k below.
            inl (
            out (part_at shape generation + (0 + k)) (omega (arith, far)) ∙ behind-zero shape generation image [] p.before was k below
            );
        room = was.room;
      },
      λ k few. out (head_at shape + k) (omega arith) ∙ on.head p.before p.is k few,
      λ word below.
          elim (p.each word) [
            | inl same ↦ inl (same ∙ was.place word below refl)
            | inr new ↦ inr new.1
          ],
    )
