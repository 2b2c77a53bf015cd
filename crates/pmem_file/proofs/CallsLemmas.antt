-- What the calls of a fence make of the words that the file may hold.
use Rattle.std.proofs.Common.{◌≡◌, ◌⊎◌, ℕ, ◌+◌, ◌*◌, ◌/◌, ◌-◌, ◌^◌, ◌<◌, ◌≤◌, Bool, true, false, not, cond, ◌&&◌, ◌||◌, ◌==◌, nat_le, nat_lt, List, [], ◌∷◌, length, take, drop, get_or, refl, inl, inr, sym, subst, ap, ◌∙◌, arith}
use Rattle.std.proofs.lemmas.Bool.{or_cases, or_left, or_right, and_parts, and_from, cond_both, cond-true, cond-false, eqb-true, eq-eqb, leb-true, ltb-true, le-leb, lt-ltb, cases_lt}
use Rattle.std.proofs.lemmas.List.{get_or-drop, get_or-take, length-take, length-drop}
use Rattle.std.proofs.lemmas.Bool.Decides.{nat_tests}
use Rattle.std.proofs.Math.Bool.{or-false}
use Rattle.pmem_file.specs.declared.run.TheConstants.{LINES_A_WRITE}
use Rattle.pmem_file.specs.Byte.{words_in}
use Rattle.pmem_file.specs.Call.{Call, Wrote, Measured, Synced, has_failed, reaches, brought, written, may_hold, Brings}
use Rattle.pmem_file.specs.Line.{has_line, runs_from, runs_of, run_bytes, with_writes, Fixes}
use Rattle.pmem_file.proofs.BytesLemmas.{take-below, words_in-bytes_of}
use Rattle.pmem_file.specs.Written.{MayWrite, Writes, is_in, word_of}
use Rattle.pmem_file.proofs.LinesLemmas.{has_line-at}
use Rattle.pmem_file.proofs.WritesLemmas.{Fit, Touches, Touches-none, Touches-wrote, Touches-then}

Fit-part : (words : List ℕ) (n m : ℕ) → Fit words → Fit (take n (drop m words))
Fit-part words n m fit = take-below n (2 ^ 64) (drop m words) (omega arith) (λ k. rw (get_or-drop m words k 0) (fit (m + k)))

-- the words of a run
run_words : (words : List ℕ) (first count : ℕ) → Fit words → words_in (run_bytes words (first, count)) ≡ take (8 * count) (drop (8 * first) words)
run_words words first count fit =
    words_in-bytes_of (take (8 * count) (drop (8 * first) words)) (Fit-part words (8 * count) (8 * first) fit)

first_word : (first : ℕ) → 64 * first / 8 ≡ 8 * first
first_word first = omega arith

pub reaches-run : (words : List ℕ) (first count word : ℕ) → Fit words
    → reaches (64 * first) (run_bytes words (first, count)) word
    ≡ (nat_le (8 * first) word && nat_lt word (8 * first + length (take (8 * count) (drop (8 * first) words))))
reaches-run words first count word fit =
    ap (λ (n : ℕ). nat_le n word && nat_lt word (n + length (words_in (run_bytes words (first, count))))) (first_word first)
    ∙ ap (λ (xs : List ℕ). nat_le (8 * first) word && nat_lt word (8 * first + length xs)) (run_words words first count fit)

-- what the write of a run brings to a word is the word's value
pub brought-run : (words : List ℕ) (first count word : ℕ) → Fit words → reaches (64 * first) (run_bytes words (first, count)) word ≡ true
    → brought (64 * first) (run_bytes words (first, count)) word ≡ get_or words word 0
brought-run words first count word fit e =
    let part = take (8 * count) (drop (8 * first) words) in
    let both = and_parts (nat_le (8 * first) word) (nat_lt word (8 * first + length part)) (sym (reaches-run words first count word fit) ∙ e) in
    let low : 8 * first ≤ word = leb-true (8 * first) word both.0 in
    let high : word < 8 * first + length part = ltb-true word (8 * first + length part) both.1 in
    ap (λ (n : ℕ). get_or (words_in (run_bytes words (first, count))) (word - n) 0) (first_word first)
    ∙ ap (λ (xs : List ℕ). get_or xs (word - 8 * first) 0) (run_words words first count fit)
    ∙ get_or-take (8 * count) (drop (8 * first) words) (word - 8 * first) 0
    (omega (arith, low, high, length-take (8 * count) (drop (8 * first) words)))
    ∙ get_or-drop (8 * first) words (word - 8 * first) 0
    ∙ ap (λ (k : ℕ). get_or words k 0) (let e : 8 * first + (word - 8 * first) ≡ word = omega (arith, low) in e)

-- and it reaches each word of its lines
reaches-lines : (words : List ℕ) (first count word : ℕ) → Fit words → 8 * (first + count) ≤ length words → first ≤ word / 8 → word / 8 < first + count
    → reaches (64 * first) (run_bytes words (first, count)) word ≡ true
reaches-lines words first count word fit room low high =
    reaches-run words first count word fit
    ∙ and_from (nat_le (8 * first) word) (nat_lt word (8 * first + length (take (8 * count) (drop (8 * first) words))))
    (le-leb (8 * first) word (omega arith))
    (lt-ltb word (8 * first + length (take (8 * count) (drop (8 * first) words)))
    (omega (arith, length-take (8 * count) (drop (8 * first) words), length-drop (8 * first) words)))

pub Brings-none : (words : List ℕ) (calls : List Call) → Brings words calls calls
Brings-none words calls read word x may = or_left (may_hold read calls word x) (x == get_or words word 0) may

-- the write of a run, whether it succeeded or not
pub Brings-write : (words : List ℕ) (old calls : List Call) (first count : ℕ) (done : Bool) → Fit words → Brings words old calls
    → Brings words old (Wrote (64 * first) (run_bytes words (first, count)) done ∷ calls)
Brings-write words old calls first count done fit brings read word x may =
    let offset = 64 * first in
    let bytes = run_bytes words (first, count) in
    elim (or_cases (reaches offset bytes word && (x == brought offset bytes word)) (may_hold read calls word x) may) [
      | inl here ↦
          let both = and_parts (reaches offset bytes word) (x == brought offset bytes word) here in
          or_right (may_hold read old word x) (x == get_or words word 0)
          (subst (λ (y : ℕ). (x == y) ≡ true) (brought-run words first count word fit both.0) both.1)
      | inr before ↦ brings read word x before
    ]

last_may : (r : Bool) (b w : ℕ) (may : ℕ → Bool) → may w ≡ true → ((r && (cond r b w == b)) || may (cond r b w)) ≡ true
last_may true b w may e = or_left (b == b) (may b) (eq-eqb b b refl)
last_may false b w may e = e

last_only : (c : Bool) (w : ℕ) (may : Bool) → may ≡ true → cond c (w == w) may ≡ true
last_only true w may e = eq-eqb w w refl
last_only false w may e = e

-- a word may hold what was written last
pub written-may_hold : (read : List ℕ) (calls : List Call) (word : ℕ) → may_hold read calls word (written read calls word) ≡ true
written-may_hold read [] word = eq-eqb (get_or read word 0) (get_or read word 0) refl
written-may_hold read (Wrote offset bytes done ∷ calls) word =
    last_may (reaches offset bytes word) (brought offset bytes word) (written read calls word) (may_hold read calls word) (written-may_hold read calls word)
written-may_hold read (Measured bytes done ∷ calls) word = written-may_hold read calls word
written-may_hold read (Synced done ∷ calls) word =
    last_only (done && not (has_failed calls)) (written read calls word) (may_hold read calls word (written read calls word)) (written-may_hold read calls word)

only_or_before : (c : Bool) (x w : ℕ) (may : ℕ → Bool) → may w ≡ true → cond c (x == w) (may x) ≡ true → may x ≡ true
only_or_before true x w may e h = subst (λ (y : ℕ). may y ≡ true) (sym (eqb-true x w h)) e
only_or_before false x w may e h = h

-- a sync adds nothing
pub MayWrite-synced : (touched : ℕ → Bool) (value : ℕ → ℕ) (old calls : List Call) (done : Bool) → MayWrite touched value old calls
    → MayWrite touched value old (Synced done ∷ calls)
MayWrite-synced touched value old calls done within read word x may =
    within read word x
    (only_or_before (done && not (has_failed calls)) x (written read calls word) (may_hold read calls word) (written-may_hold read calls word) may)

pub Brings-synced : (words : List ℕ) (old calls : List Call) (done : Bool) → Brings words old calls → Brings words old (Synced done ∷ calls)
Brings-synced words old calls done brings read word x may =
    brings read word x
    (only_or_before (done && not (has_failed calls)) x (written read calls word) (may_hold read calls word) (written-may_hold read calls word) may)

pub has_failed-writes : (words : List ℕ) (runs : List (ℕ × ℕ)) (calls : List Call) → has_failed (with_writes words runs calls) ≡ has_failed calls
has_failed-writes words [] calls = refl
has_failed-writes words (run ∷ runs) calls =
    has_failed-writes words runs (Wrote (64 * run.0) (run_bytes words run) true ∷ calls) ∙ or-false (has_failed calls)

-- a word that has its value keeps it
written-keeps : (words : List ℕ) (runs : List (ℕ × ℕ)) (read : List ℕ) (calls : List Call) (word : ℕ) → Fit words
    → written read calls word ≡ get_or words word 0 → written read (with_writes words runs calls) word ≡ get_or words word 0
written-keeps words [] read calls word fit e = e
written-keeps words (run ∷ runs) read calls word fit e =
    written-keeps words runs read (Wrote (64 * run.0) (run_bytes words run) true ∷ calls) word fit
    (cond_both (reaches (64 * run.0) (run_bytes words run) word) (brought (64 * run.0) (run_bytes words run) word) (written read calls word)
    (λ x. x ≡ get_or words word 0) (brought-run words run.0 run.1 word fit) (λ _. e))

-- the write of a run gives its words their values
written-run : (words : List ℕ) (first count : ℕ) (read : List ℕ) (calls : List Call) (word : ℕ) → Fit words → 8 * (first + count) ≤ length words
    → first ≤ word / 8 → word / 8 < first + count
    → written read (Wrote (64 * first) (run_bytes words (first, count)) true ∷ calls) word ≡ get_or words word 0
written-run words first count read calls word fit room low high =
    let there = reaches-lines words first count word fit room low high in
    cond-true (reaches (64 * first) (run_bytes words (first, count)) word) _ _ there ∙ brought-run words first count word fit there

-- each of these lines lies within the words
abbrev pub InRange : List ℕ → List ℕ → Type 0
InRange words lines = (line : ℕ) → has_line lines line ≡ true → 8 * line + 8 ≤ length words

line_is : (line : ℕ) (lines : List ℕ) → has_line (line ∷ lines) line ≡ true
line_is line lines = or_left (line == line) (has_line lines line) (eq-eqb line line refl)

-- the writes of a run and the lines after it give all their words their values
written-runs : (words : List ℕ) (lines : List ℕ) (first count : ℕ) (read : List ℕ) (calls : List Call) (word : ℕ) → Fit words → InRange words lines
    → 8 * (first + count) ≤ length words
    → ((first ≤ word / 8) × (word / 8 < first + count)) ⊎ (has_line lines (word / 8) ≡ true)
    → written read (with_writes words (runs_from first count lines) calls) word ≡ get_or words word 0
written-runs words [] first count read calls word fit range room (inl here) = written-run words first count read calls word fit room here.0 here.1
written-runs words [] first count read calls word fit range room (inr there) = absurd (let h : false ≡ true = there in cc)
written-runs words (line ∷ lines) first count read calls word fit range room which =
    let test = (line == first + count) && nat_lt count LINES_A_WRITE in
    let range' : InRange words lines = λ l has. range l (or_right (l == line) (has_line lines l) has) in
    let last : 8 * line + 8 ≤ length words = range line (line_is line lines) in
    let wrote = Wrote (64 * first) (run_bytes words (first, count)) true ∷ calls in
    cond_both test (runs_from first (count + 1) lines) ((first, count) ∷ runs_from line 1 lines)
    (λ (runs : List (ℕ × ℕ)). written read (with_writes words runs calls) word ≡ get_or words word 0)
    (λ e.
    let next : line ≡ first + count = eqb-true line (first + count) (and_parts (line == first + count) (nat_lt count LINES_A_WRITE) e).0 in
    written-runs words lines first (count + 1) read calls word fit range' (omega (arith, next, last)) (grind (arith, nat_tests, which, next)))
    (λ _.
    elim which [
      | inl here ↦ written-keeps words (runs_from line 1 lines) read wrote word fit (written-run words first count read calls word fit room here.0 here.1)
      | inr there ↦ written-runs words lines line 1 read wrote word fit range' (omega (arith, last)) (grind (arith, nat_tests, there))
    ])

written-lines : (words : List ℕ) (lines : List ℕ) (read : List ℕ) (calls : List Call) (word : ℕ) → Fit words → InRange words lines
    → has_line lines (word / 8) ≡ true → written read (with_writes words (runs_of lines) calls) word ≡ get_or words word 0
written-lines words [] read calls word fit range has = absurd (let h : false ≡ true = has in cc)
written-lines words (line ∷ lines) read calls word fit range has =
    written-runs words lines line 1 read calls word fit (λ l has. range l (or_right (l == line) (has_line lines l) has))
    (omega (arith, range line (line_is line lines))) (grind (arith, nat_tests, has))

-- a sync after writes that succeeded leaves the lines' words their values alone
pub Fixes-synced : (words : List ℕ) (lines : List ℕ) (calls : List Call) → Fit words → InRange words lines → has_failed calls ≡ false
    → Fixes words lines (Synced true ∷ with_writes words (runs_of lines) calls)
Fixes-synced words lines calls fit range unfailed read word x may has =
    let after = with_writes words (runs_of lines) calls in
    let fine : has_failed after ≡ false = has_failed-writes words (runs_of lines) calls ∙ unfailed in
    let is : (x == written read after word) ≡ true =
    subst (λ (b : Bool). cond (true && not b) (x == written read after word) (may_hold read after word x) ≡ true) fine may in
    eqb-true x (written read after word) is ∙ written-lines words lines read calls word fit range has

-- The loop that writes: what is planned for the rest is what was planned at first
pub record Writing (words lines : List ℕ) (old : List Call) (first count : ℕ) (rest : List ℕ) (calls : List Call) : Type 0 where
  pub plan : with_writes words (runs_from first count rest) calls ≡ with_writes words (runs_of lines) old
  pub room : 8 * (first + count) ≤ length words
  pub short : count ≤ LINES_A_WRITE
  pub unfailed : has_failed calls ≡ has_failed old
  pub brings : Brings words old calls
  pub touches : Touches (is_in lines) (word_of words) old calls
  -- the lines of the run are among them, and so are those that are left
  pub these : (line : ℕ) → first ≤ line → line < first + count → has_line lines line ≡ true
  pub those : (line : ℕ) → has_line rest line ≡ true → has_line lines line ≡ true

-- the write of a run, whether it succeeded or not
pub Touches-run : (words lines : List ℕ) (old calls : List Call) (first count : ℕ) (done : Bool) → Fit words
    → ((line : ℕ) → first ≤ line → line < first + count → has_line lines line ≡ true)
    → Touches (is_in lines) (word_of words) old calls
    → Touches (is_in lines) (word_of words) old (Wrote (64 * first) (run_bytes words (first, count)) done ∷ calls)
Touches-run words lines old calls first count done fit these touches =
    let bytes = run_bytes words (first, count) in
    Touches-then (is_in lines) (reaches (64 * first) bytes) (word_of words) (brought (64 * first) bytes) old calls _
    (λ word e.
    let part = take (8 * count) (drop (8 * first) words) in
    let both = and_parts (nat_le (8 * first) word) (nat_lt word (8 * first + length part)) (sym (reaches-run words first count word fit) ∙ e) in
    let low : 8 * first ≤ word = leb-true (8 * first) word both.0 in
    let high : word < 8 * first + length part = ltb-true word (8 * first + length part) both.1 in
    let few : length part ≤ 8 * count = omega (arith, length-take (8 * count) (drop (8 * first) words)) in (
      these (word / 8) (omega (arith, low)) (omega (arith, high, few)),
      brought-run words first count word fit e,
    ))
    touches (Touches-wrote (64 * first) bytes done calls)

one_line : (first line : ℕ) → first ≤ line → line < first + 1 → line ≡ first
one_line first line low high = omega arith

pub Writing-start : (words lines : List ℕ) (old : List Call) (first : ℕ) (rest : List ℕ) → lines ≡ first ∷ rest → InRange words lines
    → Writing words lines old first 1 rest old
Writing-start words lines old first rest are range =
    record {
      plan = ap (λ (ls : List ℕ). with_writes words (runs_of ls) old) (sym are);
      room = omega (arith, range first (rw are (line_is first rest)));
      short = omega arith;
      unfailed = refl;
      brings = Brings-none words old;
      touches = Touches-none (is_in lines) (word_of words) old;
      these = λ line low high. subst (λ (l : ℕ). has_line lines l ≡ true) (sym (one_line first line low high)) (rw are (line_is first rest));
      those = λ line has. rw are (or_right (line == first) (has_line rest line) has);
    }

-- the next line goes on with the run
pub Writing-joined : (words lines : List ℕ) (old : List Call) (first count line : ℕ) (rest : List ℕ) (calls : List Call) → 8 * line + 8 ≤ length words
    → ((line == first + count) && nat_lt count LINES_A_WRITE) ≡ true → Writing words lines old first count (line ∷ rest) calls
    → Writing words lines old first (count + 1) rest calls
Writing-joined words lines old first count line rest calls last e writing =
    let both = and_parts (line == first + count) (nat_lt count LINES_A_WRITE) e in
    let next : line ≡ first + count = eqb-true line (first + count) both.0 in
    let few : count < LINES_A_WRITE = ltb-true count LINES_A_WRITE both.1 in
    record {
      plan =
          sym (ap (λ (runs : List (ℕ × ℕ)). with_writes words runs calls) (cond-true ((line == first + count) && nat_lt count LINES_A_WRITE) _ _ e)) ∙ writing.plan;
      room = omega (arith, next, last);
      short = omega (arith, few);
      unfailed = writing.unfailed;
      brings = writing.brings;
      touches = writing.touches;
      these = λ l low high.
          elim (cases_lt l (first + count)) [
            | inl before ↦ writing.these l low before
            | inr now ↦ subst (λ (k : ℕ). has_line lines k ≡ true) (let same : line ≡ l = omega (arith, now, high, next) in same) (writing.those line (line_is line rest))
          ];
      those = λ l has. writing.those l (or_right (l == line) (has_line rest l) has);
    }

-- the run was written, and the next line begins one
pub Writing-written : (words lines : List ℕ) (old : List Call) (first count line : ℕ) (rest : List ℕ) (calls : List Call) → Fit words → 8 * line + 8 ≤ length words
    → ((line == first + count) && nat_lt count LINES_A_WRITE) ≡ false → Writing words lines old first count (line ∷ rest) calls
    → Writing words lines old line 1 rest (Wrote (64 * first) (run_bytes words (first, count)) true ∷ calls)
Writing-written words lines old first count line rest calls fit last e writing =
    record {
      plan =
          sym (ap (λ (runs : List (ℕ × ℕ)). with_writes words runs calls) (cond-false ((line == first + count) && nat_lt count LINES_A_WRITE) _ _ e)) ∙ writing.plan;
      room = omega (arith, last);
      short = omega arith;
      unfailed = or-false (has_failed calls) ∙ writing.unfailed;
      brings = Brings-write words old calls first count true fit writing.brings;
      touches = Touches-run words lines old calls first count true fit writing.these writing.touches;
      these = λ l low high. subst (λ (k : ℕ). has_line lines k ≡ true) (sym (one_line line l low high)) (writing.those line (line_is line rest));
      those = λ l has. writing.those l (or_right (l == line) (has_line rest l) has);
    }

-- a later line lies within the words too
pub InRange-later : (words lines : List ℕ) (first : ℕ) (later : List ℕ) → lines ≡ first ∷ later → InRange words lines → (i : ℕ) → i < length later
    → 8 * get_or later i 0 + 8 ≤ length words
InRange-later words lines first later are range i below =
    range (get_or later i 0)
    (subst (λ (ls : List ℕ). has_line ls (get_or later i 0) ≡ true) (sym are)
    (or_right (get_or later i 0 == first) (has_line later (get_or later i 0)) (has_line-at later i below)))

-- no line is left: the last run is to be written
pub Writing-end : (words lines : List ℕ) (old : List Call) (first count : ℕ) (rest : List ℕ) (calls : List Call) → rest ≡ []
    → Writing words lines old first count rest calls
    → Wrote (64 * first) (run_bytes words (first, count)) true ∷ calls ≡ with_writes words (runs_of lines) old
Writing-end words lines old first count rest calls none writing =
    ap (λ (ls : List ℕ). with_writes words (runs_from first count ls) calls) (sym none) ∙ writing.plan

-- all lines were written
pub Writes-lines : (words lines : List ℕ) (old new : List Call) → Fit words → InRange words lines → new ≡ with_writes words (runs_of lines) old
    → Touches (is_in lines) (word_of words) old new → Writes (is_in lines) (word_of words) old new
Writes-lines words lines old new fit range are touches =
    record {
      last = λ read word has.
          ap (λ (calls : List Call). written read calls word) are ∙ written-lines words lines read old word fit range has;
      others = touches.others;
      within = touches.within;
    }
