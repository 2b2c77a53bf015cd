-- What is known of a journal after an order, and after an opening.
use Rattle.std.proofs.Common.{◌≡◌, ℕ, ◌+◌, ◌*◌, ◌/◌, ◌%◌, ◌^◌, ◌<◌, ◌≤◌, Bool, true, false, cond, ◌||◌, List, [], ◌∷◌, ◌++◌, length, take, get_or, refl, inl, inr, sym, subst, ap, ◌∙◌, arith, append_assoc, length-append}
use Rattle.std.proofs.lemmas.Bool.{cases_Bool, cases_lt, cond-true, cond-false}
use Rattle.std.proofs.lemmas.List.{append-nil, take_all, take-append-le, get_or_past}
use Rattle.std.proofs.Math.Bool.{or-false}
use Rattle.journal.specs.declared.shape.Head.{Head}
use Rattle.journal.specs.declared.shape.Shape.{Shape}
use Rattle.journal.specs.Record.{Record, AreRecords, sealed, all_sealed, record_of}
use Rattle.journal.specs.Replay.{replayed, is_recorded, has_line as J_has_line}
use Rattle.journal.specs.File.{part_at, Opens}
use Rattle.journal.proofs.RecordLemmas.{sealed-append}
use Rattle.journal.proofs.ReplayLemmas.{replayed-append, is_recorded-append, brings-its-lines}
use Rattle.journal.proofs.FileLemmas.{opens-with-all}
use Rattle.pmem_file.specs.declared.file_journal.FileJournal.{FileJournal}
use Rattle.pmem_file.specs.Call.{Call}
use Rattle.pmem_file.specs.Line.{has_line}
use Rattle.pmem_file.specs.Noted.{is_noted}
use Rattle.pmem_file.specs.Written.{MayWrite, Writes, Commits, is_among, is_in, word_of, blank}
use Rattle.pmem_file.specs.Journaled.{IsMadeOf, OnDisk, Journals, IsEarlier, HasLines, Ordered, Orders, Syncs, placed, ChecksPoint, ClearsAway, Stops, Sealed}
use Rattle.pmem_file.proofs.ReplayedLemmas.{same-lines, AreRecords-append, record-of-lines}
use Rattle.pmem_file.proofs.PlacesLemmas.{AreLines, not-in, part-next, part-behind, sure-committed, committed-here, committed-there}
use Rattle.pmem_file.proofs.DiskLemmas.{IsReady, OnDisk-begun, OnDisk-lines, lines-on-the-way}
use Rattle.pmem_file.proofs.WritesLemmas.{not-among, among-from}
use Rattle.pmem_file.proofs.EarlierLemmas.{same-opening, none-taken, placed-either, IsMixed, mixed-beyond}
use Rattle.pmem_file.proofs.JournalLemmas.{IsNext, HeadCommits, empty-journals}

-- ---- both

pub ClearsAway-from : (old mid new : FileJournal) (calls calls1 calls' : List Call) (words : List ℕ) → Syncs old mid calls calls1
    → ChecksPoint mid new calls1 calls' words → ClearsAway old new calls calls' words
ClearsAway-from old mid new calls calls1 calls' words syncs checks =
    record {
      begun = λ read image synced since j. checks.begun read image (synced ++ since) (syncs.synced read image synced since j);
    }

-- what is mixed of all records, seen from before
mixed-all : (image : ℕ → ℕ) (records : List Record) (words : List ℕ) (made : ℕ → ℕ) → IsEarlier image records [] words made → IsMixed image records words made
mixed-all image records words made (inl first) word =
    inl (
    first.2 word ∙ ap (λ (rs : List Record). replayed (records ++ rs) image word) (none-taken first.0)
    ∙ ap (λ (rs : List Record). replayed rs image word) (append-nil records)
    )
mixed-all image records words made (inr mixed) word =
    elim (mixed word) [
      | inl e ↦ inl (e ∙ ap (λ (rs : List Record). replayed rs image word) (append-nil records))
      | inr e ↦ inr e
    ]

pub Stops-synced : (old mid new : FileJournal) (calls calls1 calls' : List Call) (words : List ℕ) → mid.head ≡ old.head → Syncs old mid calls calls1
    → Stops mid new calls1 calls' words → Stops old new calls calls' words
Stops-synced old mid new calls calls1 calls' words same syncs stops =
    record {
      makes = λ read image file made synced since j is made'.
          inr (mixed-all image (synced ++ since) words made
          (stops.makes read image file made (synced ++ since) [] (syncs.synced read image synced since j) is
          (subst (λ (h : Head). IsMadeOf h.shape file made) (sym same) made')));
      head = λ read image synced since j. stops.head read image (synced ++ since) [] (syncs.synced read image synced since j);
    }

-- ---- an order

-- seen from before a checkpoint, which put the lines of all records in place
mixed-placed-all : (image : ℕ → ℕ) (records : List Record) (words : List ℕ) (made : ℕ → ℕ) → IsMixed (placed records words image) [] words made
    → IsMixed image records words made
mixed-placed-all image records words made mixed word =
    elim (mixed word) [
      | inl e ↦
          elim (placed-either records words image word) [
            | inl e' ↦ inl (e ∙ e')
            | inr e' ↦ inr (e ∙ e')
          ]
      | inr e ↦ inr e
    ]

lines-placed-all : (image : ℕ → ℕ) (synced since : List Record) (words lines : List ℕ) (made : ℕ → ℕ)
    → HasLines (placed (synced ++ since) words image) [] [] words lines made → HasLines image synced since words lines made
lines-placed-all image synced since words lines made has =
    record {
      these = has.these;
      others = λ word out.
          elim (has.others word out) [
            | inl e ↦
                elim (placed-either (synced ++ since) words image word) [
                  | inl e' ↦ inl (e ∙ e')
                  | inr e' ↦ inr (e ∙ e')
                ]
            | inr e ↦ inr e
          ];
    }

pub Ordered-anew : (new : FileJournal) (read : List ℕ) (calls : List Call) (image : ℕ → ℕ) (synced since : List Record) (words lines : List ℕ)
    → Ordered new read calls (placed (synced ++ since) words image) [] [] words lines → Ordered new read calls image synced since words lines
Ordered-anew new read calls image synced since words lines o =
    record {
      image' = o.image';
      synced' = o.synced';
      since' = o.since';
      journals = o.journals;
      each = λ n few.
          elim (o.each n few) [
            | inl earlier ↦
                inl (inr (mixed-placed-all image (synced ++ since) words (replayed (o.synced' ++ take n o.since') o.image')
                (mixed-all (placed (synced ++ since) words image) [] words (replayed (o.synced' ++ take n o.since') o.image') earlier)))
            | inr has ↦ inr (lines-placed-all image synced since words lines (replayed (o.synced' ++ take n o.since') o.image') has)
          ];
      last = lines-placed-all image synced since words lines (replayed (o.synced' ++ o.since') o.image') o.last;
    }

pub Orders-anew : (old mid new : FileJournal) (calls calls1 : List Call) (words lines : List ℕ) → ClearsAway old mid calls calls1 words
    → Sealed mid new words lines → Orders old new calls calls1 words lines
Orders-anew old mid new calls calls1 words lines clears sealed =
    record {
      ordered = λ read image synced since j.
          Ordered-anew new read calls1 image synced since words lines
          (sealed.sealed read calls1 (placed (synced ++ since) words image) [] [] (clears.begun read image synced since j));
    }

pub Orders-sealed : (old new : FileJournal) (calls : List Call) (words lines : List ℕ) → Sealed old new words lines → Orders old new calls calls words lines
Orders-sealed old new calls words lines sealed =
    record { ordered = λ read image synced since j. sealed.sealed read calls image synced since j }

-- no lines
pub Orders-none : (journal : FileJournal) (calls : List Call) (words lines : List ℕ) → lines ≡ [] → Orders journal journal calls calls words lines
Orders-none journal calls words lines none =
    record {
      ordered = λ read image synced since j.
          record {
            image' = image;
            synced' = synced;
            since' = since;
            journals = j;
            each = λ n few. inl (inl (n, few, λ word. refl));
            last =
                record {
                  these = λ word here.
                      absurd (let h : false ≡ true = subst (λ (ls : List ℕ). has_line ls (word / 8) ≡ true) none here in cc);
                  others = λ word out. inl refl;
                };
          };
    }

-- the lines went to their places, behind a checkpoint
pub Orders-placed : (old mid : FileJournal) (calls calls1 calls' : List Call) (words lines : List ℕ) → AreLines mid.head.shape lines
    → ClearsAway old mid calls calls1 words → Commits (is_in lines) (word_of words) calls1 calls' → Orders old mid calls calls' words lines
Orders-placed old mid calls calls1 calls' words lines within clears commits =
    record {
      ordered = λ read image synced since j.
          let base = placed (synced ++ since) words image in
          let base' : ℕ → ℕ = λ word. cond (is_in lines word) (get_or words word 0) (base word) in
          let j1 = clears.begun read image synced since j in
          let has : HasLines base [] [] words lines base' =
          record {
            these = λ word here. cond-true (is_in lines word) (get_or words word 0) (base word) here;
            others = λ word out. inl (cond-false (is_in lines word) (get_or words word 0) (base word) out);
          } in
          Ordered-anew mid read calls' image synced since words lines
          (record {
            image' = base';
            synced' = [];
            since' = [];
            journals =
                record {
                  on_disk = OnDisk-lines mid.head.shape mid.head.generation read calls1 calls' base words lines within commits j1.on_disk;
                  synced_records = tt;
                  sealed_records = tt;
                  used = j1.used;
                  sealed = j1.sealed;
                  recorded = j1.recorded;
                  behind = λ word beyond.
                      let out : is_in lines word ≡ false = not-in mid.head.shape lines word within beyond in
                      cond-false (is_in lines word) (get_or words word 0) (base word) out ∙ j1.behind word beyond;
                };
            each = λ n few. inr (subst (λ (rs : List Record). HasLines base [] [] words lines (replayed rs base')) (sym (none-taken n)) has);
            last = has;
          });
    }

pub Stops-placed : (old mid : FileJournal) (calls calls1 calls' : List Call) (words lines : List ℕ) → mid.head.shape ≡ old.head.shape
    → length words ≡ 8 * old.head.shape.lines → AreLines mid.head.shape lines → ClearsAway old mid calls calls1 words
    → MayWrite (is_in lines) (word_of words) calls1 calls' → Stops old mid calls calls' words
Stops-placed old mid calls calls1 calls' words lines same size within clears may =
    record {
      makes = λ read image file made synced since j is made'.
          let base = placed (synced ++ since) words image in
          let shape = mid.head.shape in
          let j1 = clears.begun read image synced since j in
          let way = lines-on-the-way shape mid.head.generation read calls1 calls' base file words lines within may j1.on_disk is in
          let made1 : IsMadeOf shape file made = subst (λ (s : Shape). IsMadeOf s file made) (sym same) made' in
          let o = opens-with-all shape mid.head.generation file file [] [] tt tt way.0 in
          let opens : Opens shape file file = subst (λ (rs : List Record). Opens shape file (replayed rs file)) (none-taken o.0) o.1 in
          inr (mixed-beyond shape image file made (synced ++ since) words (size ∙ ap (λ (s : Shape). 8 * s.lines) (sym same)) made1
          (λ word below.
          let e = same-opening shape file made file made1.opens opens word below in
          elim (way.2 word below) [
            | inl was ↦
                elim (placed-either (synced ++ since) words image word) [
                  | inl e' ↦ inl (e ∙ was ∙ e')
                  | inr e' ↦ inr (e ∙ was ∙ e')
                ]
            | inr new ↦ inr (e ∙ new)
          ]));
      head = λ read image synced since j file is.
          inl ((lines-on-the-way mid.head.shape mid.head.generation read calls1 calls' (placed (synced ++ since) words image) file words lines within may
          (clears.begun read image synced since j).on_disk is).1);
    }

-- ---- sealing

Journals-sealed : (old new : FileJournal) (words lines : List ℕ) → 0 < length lines → AreLines old.head.shape lines
    → new.head ≡ old.head → new.used ≡ old.used → new.sealed.items ≡ old.sealed.items ++ sealed (record_of (word_of words) lines)
    → ((line : ℕ) → is_noted new.recorded line ≡ (is_noted old.recorded line || has_line lines line))
    → (read : List ℕ) (calls : List Call) (image : ℕ → ℕ) (synced since : List Record) → Journals old read calls image synced since
    → Journals new read calls image synced (since ++ record_of (word_of words) lines ∷ [])
Journals-sealed old new words lines some within same used more noted read calls image synced since j =
    let r = record_of (word_of words) lines in
    let eq : new.head.shape.lines ≡ old.head.shape.lines = ap (λ (h : Head). h.shape.lines) same in
    record {
      on_disk = subst (λ (h : Head). OnDisk h.shape h.generation read calls image synced) (sym same) j.on_disk;
      synced_records = subst (λ (n : ℕ). AreRecords n synced) (sym eq) j.synced_records;
      sealed_records =
          subst (λ (n : ℕ). AreRecords n (since ++ r ∷ [])) (sym eq)
          (AreRecords-append old.head.shape.lines since (r ∷ []) j.sealed_records (record-of-lines old.head.shape.lines (word_of words) lines some within, tt));
      used = used ∙ j.used;
      sealed =
          more ∙ ap (λ (ws : List ℕ). ws ++ sealed r) j.sealed ∙ ap (λ (ws : List ℕ). all_sealed since ++ ws) (sym (append-nil (sealed r)))
          ∙ sym (sealed-append since (r ∷ []));
      recorded = λ line.
          noted line ∙ ap (λ (b : Bool). b || has_line lines line) (j.recorded line)
          ∙ ap (λ (b : Bool). is_recorded (synced ++ since) line || b) (sym (same-lines lines line) ∙ sym (or-false (J_has_line lines line)))
          ∙ sym (is_recorded-append (synced ++ since) (r ∷ []) line)
          ∙ ap (λ (rs : List Record). is_recorded rs line) (append_assoc synced since (r ∷ []));
      behind = λ word beyond. j.behind word (subst (λ (n : ℕ). 8 * n ≤ word) eq beyond);
    }

-- the image after one record more
sealed-lines : (image : ℕ → ℕ) (synced since : List Record) (words lines : List ℕ)
    → HasLines image synced since words lines (replayed (synced ++ (since ++ record_of (word_of words) lines ∷ [])) image)
sealed-lines image synced since words lines =
    let r = record_of (word_of words) lines in
    let before = replayed (synced ++ since) image in
    let after : (word : ℕ) → replayed (synced ++ (since ++ r ∷ [])) image word ≡ cond (J_has_line lines (word / 8)) (get_or words word 0) (before word) =
    λ word.
    ap (λ (rs : List Record). replayed rs image word) (sym (append_assoc synced since (r ∷ [])))
    ∙ ap (λ (f : ℕ → ℕ). f word) (replayed-append (synced ++ since) (r ∷ []) image)
    ∙ brings-its-lines (word_of words) before lines word in
    record {
      these = λ word here.
          after word ∙ cond-true (J_has_line lines (word / 8)) (get_or words word 0) (before word) (same-lines lines (word / 8) ∙ here);
      others = λ word out.
          inl (after word ∙ cond-false (J_has_line lines (word / 8)) (get_or words word 0) (before word) (same-lines lines (word / 8) ∙ out));
    }

pub Sealed-from : (old new : FileJournal) (words lines : List ℕ) → 0 < length lines → AreLines old.head.shape lines
    → new.head ≡ old.head → new.used ≡ old.used → new.sealed.items ≡ old.sealed.items ++ sealed (record_of (word_of words) lines)
    → ((line : ℕ) → is_noted new.recorded line ≡ (is_noted old.recorded line || has_line lines line)) → Sealed old new words lines
Sealed-from old new words lines some within same used more noted =
    record {
      sealed = λ read calls image synced since j.
          let r = record_of (word_of words) lines in
          let longer : length (since ++ r ∷ []) ≡ length since + 1 = length-append since (r ∷ []) in
          record {
            image' = image;
            synced' = synced;
            since' = since ++ r ∷ [];
            journals = Journals-sealed old new words lines some within same used more noted read calls image synced since j;
            each = λ n few.
                elim (cases_lt n (length since + 1)) [
                  | inl early ↦
                      inl (inl (
                        n,
                        omega (arith, early),
                        λ word.
                            ap (λ (rs : List Record). replayed (synced ++ rs) image word) (take-append-le n since (r ∷ []) (omega (arith, early))),
                      ))
                  | inr late ↦
                      inr (subst (λ (rs : List Record). HasLines image synced since words lines (replayed (synced ++ rs) image))
                      (sym (take_all n (since ++ r ∷ []) (omega (arith, late, longer)))) (sealed-lines image synced since words lines))
                ];
            last = sealed-lines image synced since words lines;
          };
      head = same;
    }

-- ---- an opening

-- the lines of the records are in place, the other part holds zeros, and the next generation has begun
pub Journals-recovered : (old new : FileJournal) (read : List ℕ) (mid cleared begun calls' : List Call) (words lines : List ℕ) (next_at : ℕ)
    → IsNext old new → AreLines old.head.shape lines → length words ≡ 8 * old.head.shape.lines
    → ((word : ℕ) → word < 8 * old.head.shape.lines → is_in lines word ≡ false → get_or words word 0 ≡ get_or read word 0)
    → next_at ≡ part_at old.head.shape ((old.head.generation + 1) % 2 ^ 64)
    → Commits (is_in lines) (word_of words) [] mid → Commits (is_among next_at (8 * old.head.shape.part)) blank mid cleared
    → HeadCommits old new cleared begun
    → Writes (is_among (part_at old.head.shape old.head.generation) (8 * old.head.shape.part)) blank begun calls'
    → Journals new read calls' (word_of words) [] []
Journals-recovered old new read mid cleared begun calls' words lines next_at next within size same at commits clears head writes =
    let shape = old.head.shape in
    let generation = old.head.generation in
    let count = 8 * shape.part in
    let is_next : next_at ≡ part_at shape (generation + 1) = at ∙ part-next shape generation ((generation + 1) % 2 ^ 64) refl in
    let far = part-behind shape (generation + 1) in
    let ready : IsReady shape generation read cleared (word_of words) =
    record {
      sure = sure-committed (is_among next_at count) blank read mid cleared clears;
      place = λ word below.
          committed-there (is_among next_at count) blank read mid cleared word clears (not-among next_at count word (inl (omega (arith, below, far, is_next))))
          ∙ elim (cases_Bool (is_in lines word)) [
            | inl here ↦ committed-here (is_in lines) (word_of words) read [] mid word commits here
            | inr there ↦ committed-there (is_in lines) (word_of words) read [] mid word commits there ∙ sym (same word below there)
          ];
      zeros = λ k few.
          committed-here (is_among next_at count) blank read mid cleared (part_at shape (generation + 1) + k) clears
          (among-from next_at count (part_at shape (generation + 1) + k) (omega (arith, is_next)) (omega (arith, is_next, few)));
    } in
    let all : count ≤ 8 * shape.part = omega arith in
    empty-journals old new read calls' (word_of words) next
    (λ word beyond. get_or_past words word 0 (omega (arith, size, beyond)))
    (OnDisk-begun shape generation new.head.generation read cleared begun calls' (word_of words) count next.generation all ready head writes
    (λ k below. absurd (omega (arith, below))))
