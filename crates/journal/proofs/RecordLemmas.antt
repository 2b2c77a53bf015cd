-- Records, and what an opening takes of what a crash left of them.
use Rattle.std.proofs.Common.{◌≡◌, ℕ, zero, suc, ◌+◌, ◌*◌, ◌<◌, ◌≤◌, true, false, ◌&&◌, ◌==◌, nat_le, nat_lt, List, [], ◌∷◌, ◌++◌, length, take, drop, replicate, get_or, refl, inl, inr, sym, subst, ap, ◌∙◌, arith, append_assoc, length-append}
use Rattle.std.proofs.lemmas.Bool.{and_parts, and_from, cases_Bool, eqb-true, eq-eqb, lt-ltb, ltb-true, le-leb, leb-true}
use Rattle.std.proofs.lemmas.List.{append-nil, take_at, drop_at, take-append-drop, take-take, drop-drop, length-take, length-drop}
use Rattle.journal.specs.Record.{Record, IsRecord, AreRecords, are_below, zeros, body, sealed, all_sealed}
use Rattle.journal.specs.Loss.{IsLossOf}
use Rattle.journal.specs.Journal.{lines_in, body_in, behind, record_in, passes, IsJournal}
use Rattle.journal.specs.Laws.{AllOrNothing, TakesAllThatWasSynced, AreToldByTheirWords}
use Rattle.journal.proofs.LossLemmas.{length-loss, none-lost, loss-first, loss-rest, loss-zeros}

length-body : (lines : ℕ) (r : Record) → IsRecord lines r → length (body r) ≡ 9 * length r.numbers
length-body lines r is = omega (arith, is.eight, length-append r.numbers r.words)

-- ---- a record that was written

body-of : (lines : ℕ) (r : Record) (rest : List ℕ) → IsRecord lines r → body_in (sealed r ++ rest) ≡ body r
body-of lines r rest is = take_at (body r) rest (9 * length r.numbers) (length-body lines r is)

behind-of : (lines : ℕ) (r : Record) (rest : List ℕ) → IsRecord lines r → behind (sealed r ++ rest) ≡ rest
behind-of lines r rest is = drop_at (body r) rest (9 * length r.numbers) (length-body lines r is)

numbers-of : (r : Record) (rest : List ℕ) → take (length r.numbers) (body r ++ rest) ≡ r.numbers
numbers-of r rest = ap (take (length r.numbers)) (append_assoc r.numbers r.words rest) ∙ take_at r.numbers (r.words ++ rest) (length r.numbers) refl

words-of : (lines : ℕ) (r : Record) (rest : List ℕ) → IsRecord lines r → drop (length r.numbers) (body_in (sealed r ++ rest)) ≡ r.words
words-of lines r rest is = ap (drop (length r.numbers)) (body-of lines r rest is) ∙ drop_at r.numbers r.words (length r.numbers) refl

pub record-of : (lines : ℕ) (r : Record) (rest : List ℕ) → IsRecord lines r → r ≡ record_in (sealed r ++ rest)
record-of lines r rest is =
    ap (λ (n : List ℕ). record { numbers = n; words = r.words }) (sym (numbers-of r rest))
    ∙ ap (λ (w : List ℕ). record { numbers = take (length r.numbers) (body r ++ rest); words = w }) (sym (words-of lines r rest is))

pub passes-sealed : (lines : ℕ) (r : Record) (rest : List ℕ) → IsRecord lines r → passes lines (sealed r ++ rest) ≡ true
passes-sealed lines r rest is =
    let some : nat_lt 0 (length r.numbers) ≡ true = lt-ltb 0 (length r.numbers) is.some in
    let long : nat_le (9 * length r.numbers) (length (body r ++ rest)) ≡ true =
    le-leb (9 * length r.numbers) (length (body r ++ rest)) (omega (arith, length-body lines r is, length-append (body r) rest)) in
    let count : (suc (zeros (body r)) == suc (zeros (body_in (sealed r ++ rest)))) ≡ true =
    eq-eqb (suc (zeros (body r))) (suc (zeros (body_in (sealed r ++ rest)))) (ap (λ (b : List ℕ). suc (zeros b)) (sym (body-of lines r rest is))) in
    let below : are_below lines (take (length r.numbers) (body r ++ rest)) ≡ true = ap (are_below lines) (numbers-of r rest) ∙ is.below in
    and_from _ _ (and_from _ _ (and_from _ _ some long) count) below

pub journal-cons : (lines : ℕ) (r : Record) (rest : List ℕ) (records : List Record) → IsRecord lines r → IsJournal lines rest records
    → IsJournal lines (sealed r ++ rest) (r ∷ records)
journal-cons lines r rest records is more =
    (passes-sealed lines r rest is, record-of lines r rest is, subst (λ (l : List ℕ). IsJournal lines l records) (sym (behind-of lines r rest is)) more)

-- ---- what a crash left of one

-- what a record that passes tells
pub record Passed (lines : ℕ) (words : List ℕ) : Type 0 where
  pub some : 0 < lines_in words
  pub long : 9 * lines_in words ≤ length (drop 2 words)
  pub count : get_or words 0 0 ≡ suc (zeros (body_in words))
  pub below : are_below lines (take (lines_in words) (drop 2 words)) ≡ true

pub passed : (lines : ℕ) (words : List ℕ) → passes lines words ≡ true → Passed lines words
passed lines words passes =
    let a = and_parts (nat_lt 0 (lines_in words) && nat_le (9 * lines_in words) (length (drop 2 words)) && (get_or words 0 0 == suc (zeros (body_in words))))
    (are_below lines (take (lines_in words) (drop 2 words))) passes in
    let b = and_parts (nat_lt 0 (lines_in words) && nat_le (9 * lines_in words) (length (drop 2 words))) (get_or words 0 0 == suc (zeros (body_in words))) a.0 in
    let c = and_parts (nat_lt 0 (lines_in words)) (nat_le (9 * lines_in words) (length (drop 2 words))) b.0 in
    record {
      some = ltb-true 0 (lines_in words) c.0;
      long = leb-true (9 * lines_in words) (length (drop 2 words)) c.1;
      count = eqb-true (get_or words 0 0) (suc (zeros (body_in words))) b.1;
      below = a.1;
    }

pub all-or-nothing : AllOrNothing
all-or-nothing lines r [] rest is loss passes = absurd loss
all-or-nothing lines r (count ∷ []) rest is loss passes = absurd loss.1
all-or-nothing lines r (count ∷ n ∷ left) rest is loss passes =
    let p = passed lines (count ∷ n ∷ left ++ rest) passes in
    let same : n ≡ length r.numbers = elim loss.1.0 [ inl e ↦ absurd (omega (arith, e, p.some)) | inr e ↦ e ] in
    let long : length left ≡ 9 * n = omega (arith, length-loss (body r) left loss.1.1, length-body lines r is, same) in
    let whole : body_in (count ∷ n ∷ left ++ rest) ≡ left = take_at left rest (9 * n) long in
    let found : count ≡ suc (zeros left) = p.count ∙ ap (λ (b : List ℕ). suc (zeros b)) whole in
    let first : count ≡ suc (zeros (body r)) = elim loss.0 [ inl e ↦ absurd (omega (arith, e, found)) | inr e ↦ e ] in
    let later : left ≡ body r = none-lost (body r) left loss.1.1 (omega (arith, found, first)) in
    ap (λ (k : ℕ). k ∷ n ∷ left) first ∙ ap (λ (k : ℕ). suc (zeros (body r)) ∷ k ∷ left) same
    ∙ ap (λ (l : List ℕ). suc (zeros (body r)) ∷ length r.numbers ∷ l) later

-- ---- several records

pub none-in : (lines room : ℕ) → passes lines (replicate room 0) ≡ false
none-in lines zero = refl
none-in lines (suc zero) = refl
none-in lines (suc (suc room)) = refl

takes-lost : (lines room : ℕ) (since : List Record) (left : List ℕ) → AreRecords lines since → IsLossOf (all_sealed since ++ replicate room 0) left
    → (n : ℕ) × IsJournal lines left (take n since)
takes-lost lines room [] left are loss = (0, ap (passes lines) (loss-zeros room left loss) ∙ none-in lines room)
takes-lost lines room (r ∷ since) left are loss =
    elim (cases_Bool (passes lines left)) [
      | inl whole ↦
          let more = all_sealed since ++ replicate room 0 in
          let size = length (sealed r) in
          let loss' : IsLossOf (sealed r ++ more) left =
          subst (λ (l : List ℕ). IsLossOf l left) (append_assoc (sealed r) (all_sealed since) (replicate room 0)) loss in
          let split : take size left ++ drop size left ≡ left = take-append-drop size left in
          let first : take size left ≡ sealed r =
          all-or-nothing lines r (take size left) (drop size left) are.0 (loss-first (sealed r) more left loss')
          (subst (λ (l : List ℕ). passes lines l ≡ true) (sym split) whole) in
          let rest = takes-lost lines room since (drop size left) are.1 (loss-rest (sealed r) more left loss') in
          let whole : sealed r ++ drop size left ≡ left = ap (λ (l : List ℕ). l ++ drop size left) (sym first) ∙ split in
          (suc rest.0, subst (λ (l : List ℕ). IsJournal lines l (r ∷ take rest.0 since)) whole (journal-cons lines r (drop size left) (take rest.0 since) are.0 rest.1))
      | inr not ↦ (0, not)
    ]

-- all of them, where the rest is zeros
pub journal-all : (lines room : ℕ) (synced : List Record) → AreRecords lines synced → IsJournal lines (all_sealed synced ++ replicate room 0) synced
journal-all lines room [] are = none-in lines room
journal-all lines room (s ∷ synced) are =
    subst (λ (l : List ℕ). IsJournal lines l (s ∷ synced)) (sym (append_assoc (sealed s) (all_sealed synced) (replicate room 0)))
    (journal-cons lines s (all_sealed synced ++ replicate room 0) synced are.0 (journal-all lines room synced are.1))

pub takes-all-that-was-synced : TakesAllThatWasSynced
takes-all-that-was-synced lines room [] since left are are' loss = takes-lost lines room since left are' loss
takes-all-that-was-synced lines room (s ∷ synced) since left are are' loss =
    let rest = takes-all-that-was-synced lines room synced since left are.1 are' loss in (
      rest.0,
      subst (λ (l : List ℕ). IsJournal lines l (s ∷ (synced ++ take rest.0 since))) (sym (append_assoc (sealed s) (all_sealed synced) left))
          (journal-cons lines s (all_sealed synced ++ left) (synced ++ take rest.0 since) are.0 rest.1),
    )

-- ---- the words tell the records

pub told : AreToldByTheirWords
told lines words [] [] is is' = refl
told lines words [] (o ∷ others) is is' = absurd (cc)
told lines words (r ∷ records) [] is is' = absurd (cc)
told lines words (r ∷ records) (o ∷ others) is is' =
    ap (λ (x : Record). x ∷ records) (is.1 ∙ sym is'.1) ∙ ap (λ (rs : List Record). o ∷ rs) (told lines (behind words) records others is.2 is'.2)

-- ---- reading on

pub sealed-append : (records more : List Record) → all_sealed (records ++ more) ≡ all_sealed records ++ all_sealed more
sealed-append [] more = refl
sealed-append (r ∷ records) more =
    ap (λ (l : List ℕ). sealed r ++ l) (sealed-append records more) ∙ sym (append_assoc (sealed r) (all_sealed records) (all_sealed more))

-- how many words a record that passes has
pub length-sealed_in : (lines : ℕ) (words : List ℕ) → passes lines words ≡ true → length (sealed (record_in words)) ≡ 2 + 9 * lines_in words
length-sealed_in lines words whole =
    let p = passed lines words whole in
    let n = lines_in words in
    let numbers = take n (drop 2 words) in
    let a : length numbers ≡ n = omega (arith, p.long, length-take n (drop 2 words)) in
    let b : length (body_in words) ≡ 9 * n = omega (arith, p.long, length-take (9 * n) (drop 2 words)) in
    let d : length (drop n (body_in words)) ≡ 8 * n = omega (arith, b, length-drop n (body_in words)) in
    let e : length (numbers ++ drop n (body_in words)) ≡ 9 * n = omega (arith, a, d, length-append numbers (drop n (body_in words))) in
    omega (arith, e)

pub behind-drop : (words : List ℕ) → drop (2 + 9 * lines_in words) words ≡ behind words
behind-drop words = sym (drop-drop (9 * lines_in words) 2 words)

-- the words of a record tell it
pub record_in-take : (words : List ℕ) → 0 < lines_in words → record_in (take (2 + 9 * lines_in words) words) ≡ record_in words
record_in-take [] some = absurd (omega (arith, some))
record_in-take (a ∷ []) some = absurd (omega (arith, some))
record_in-take (a ∷ n ∷ rest) some =
    let size : 2 + 9 * n ≡ suc (suc (9 * n)) = omega arith in
    let less : n ≤ 9 * n = omega arith in
    let same : 9 * n ≤ 9 * n = omega arith in
    ap (λ (k : ℕ). record_in (take k (a ∷ n ∷ rest))) size
    ∙ ap (λ (l : List ℕ). record { numbers = l; words = drop n (take (9 * n) (take (9 * n) rest)) }) (take-take n (9 * n) rest less)
    ∙ ap (λ (l : List ℕ). record { numbers = take n rest; words = drop n l }) (take-take (9 * n) (9 * n) rest same)

-- one record more is known of a journal
pub journal-more : (lines : ℕ) (words rest later : List ℕ) (done : List Record) → passes lines rest ≡ true → later ≡ behind rest
    → ((more : List Record) → IsJournal lines rest more → IsJournal lines words (done ++ more))
    → (more : List Record) → IsJournal lines later more → IsJournal lines words ((done ++ record_in rest ∷ []) ++ more)
journal-more lines words rest later done whole e known more is =
    subst (λ (rs : List Record). IsJournal lines words rs) (sym (append_assoc done (record_in rest ∷ []) more))
    (known (record_in rest ∷ more) (whole, refl, subst (λ (l : List ℕ). IsJournal lines l more) e is))

pub journal-end : (lines : ℕ) (words rest : List ℕ) (done : List Record) → passes lines rest ≡ false
    → ((more : List Record) → IsJournal lines rest more → IsJournal lines words (done ++ more)) → IsJournal lines words done
journal-end lines words rest done none known = subst (λ (rs : List Record). IsJournal lines words rs) (append-nil done) (known [] none)

pub length-more : (done : List Record) (r : Record) → length (all_sealed (done ++ r ∷ [])) ≡ length (all_sealed done) + length (sealed r)
length-more done r =
    ap length (sealed-append done (r ∷ []))
    ∙ length-append (all_sealed done) (sealed r ++ [])
    ∙ ap (λ (l : List ℕ). length (all_sealed done) + length l) (append-nil (sealed r))

-- how many words stand behind a record that passes
pub length-behind : (lines : ℕ) (words : List ℕ) → passes lines words ≡ true → length (behind words) + (2 + 9 * lines_in words) ≡ length words
length-behind lines words whole =
    let p = passed lines words whole in
    omega (arith, p.some, p.long, length-drop 2 words, length-drop (9 * lines_in words) (drop 2 words))

-- ---- sealing

-- the words of a record, as they are added
pub added-words : (old numbers lines : List ℕ) (n : ℕ) → (((old ++ 0 ∷ []) ++ n ∷ []) ++ numbers) ++ lines ≡ old ++ 0 ∷ n ∷ (numbers ++ lines)
added-words old numbers lines n = simp append_assoc

pub drop-two : (old body : List ℕ) (a b : ℕ) → drop (length old + 2) (old ++ a ∷ b ∷ body) ≡ body
drop-two old body a b = sym (drop-drop 2 (length old) (old ++ a ∷ b ∷ body)) ∙ ap (drop 2) (drop_at old (a ∷ b ∷ body) (length old) refl)
