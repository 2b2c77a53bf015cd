-- What is read at the front of unread bytes is what all of them read as; the bytes held read as the words that were read, followed by those that the unread bytes give.
use Rattle.std.proofs.Common.{◌≡◌, ℕ, ◌+◌, ◌-◌, ◌<◌, ◌≤◌, ◌==◌, nat_lt, cond, Bool, true, false, inl, inr, List, [], ◌∷◌, ◌++◌, length, take, drop, Result, Ok, Err, refl, ap, sym, ◌∙◌, lit<, arith}
use Rattle.std.proofs.Common.{zero, suc, Option, None, Some, IfSome}
use Rattle.std.proofs.lemmas.List.{append_assoc, append-nil, length-append, length-drop, drop-drop, drop-append-le, take_at, drop_at, flat_map_more}
use Rattle.std.proofs.lemmas.Bool.{eqb-true, ltb-true, ltb-false}
use Rattle.kv_types.specs.declared.limits.TheConstants.{REQUEST_LIMITS}
use Rattle.kv_types.specs.declared.item.ProtocolFault.{ProtocolFault}
use Rattle.kv_types.specs.declared.item.ProtocolFault.TheVariants.{ExpectedArray, InvalidMultibulkLength, ExpectedBulk, InvalidBulkLength}
use Rattle.kv_types.specs.Request.{number_line, line_end, bulk, item_of}
use Rattle.kv_types.specs.declared.stop.Stop.{Stop}
use Rattle.kv_types.specs.declared.stop.Stop.TheVariants.{Short, Broken}
use Rattle.kv_types.specs.Reader.{Read, ◌>>=◌}
use Rattle.kv_types.specs.Reading.{after_byte, number_at, after_dollar, payload_at, word_at, with_first, words_at, request_at, items_at}
use Rattle.kv_types.proofs.ReaderLemmas.{bind_ok}
use Rattle.kv_types.proofs.GrammarSteps.{chosen, after_byte-takes}
use Rattle.kv_types.proofs.GrammarNumbers.{number_at-takes, number_at-number_line}
use Rattle.kv_types.proofs.GrammarWords.{line_end_after, line_end_after-short, payload_at-takes, bulk-append, rest_of_word-again, word_at-again}
use Rattle.kv_types.proofs.GrammarGrows.{Keeps, with_more, longer, Keeps-bind, Keeps-if, after_byte-more, number_at-more, payload_at-more}
use Rattle.resp_codec.specs.declared.reading.Line.{Line}
use Rattle.resp_codec.specs.declared.reading.Line.TheVariants.{Count, Length}
use Rattle.resp_codec.specs.declared.unread.Unread.{Unread}
use Rattle.resp_codec.specs.Lines.{line_at}
use Rattle.resp_codec.specs.Unread.{unread_bytes, front}
use Rattle.std.specs.List.{flat_map}
use Rattle.kv_types.specs.declared.item.Item.TheVariants as item
use Rattle.kv_types.proofs.GrammarItems.{items_at-read, items_at-short, items_at-broken}
use Rattle.kv_types.proofs.GrammarRequests.{HasNumbers, AreShort, words_after}
use Rattle.resp_codec.specs.declared.request_reading.Reading.{Reading}
use Rattle.resp_codec.specs.declared.request_reading.Step.TheVariants.{Stopped}
use Rattle.resp_codec.specs.RequestReading.{passed_over, measured, text_from, held, IsStanding, Steps}

-- ---- lines

after_dollar-more : (more bytes : List ℕ) → Keeps (longer more) (after_dollar bytes) (after_dollar (bytes ++ more))
after_dollar-more more [] = tt
after_dollar-more more (byte ∷ bytes) = Keeps-if (longer more) (byte == 36) _ _ _ _ refl refl

after_dollar-takes : (bytes rest : List ℕ) → after_dollar bytes ≡ Ok rest → bytes ≡ 36 ∷ rest
after_dollar-takes [] rest e = absurd (cc)
after_dollar-takes (byte ∷ bytes) rest e =
    elim (chosen (byte == 36) (Ok bytes) (Err (Broken (ExpectedBulk byte))) (Ok rest) e) [
      | inl h ↦ after_byte-takes 36 ExpectedArray (byte ∷ bytes) rest (ap (λ b. cond b (Ok bytes) (Err (Broken ExpectedArray))) h.0 ∙ h.1)
      | inr h ↦ absurd (cc)
    ]

pub line_at-more : (line : Line) (more bytes : List ℕ) → Keeps (with_more more) (line_at line bytes) (line_at line (bytes ++ more))
line_at-more Count more bytes =
    Keeps-bind (longer more) (with_more more) (number_at REQUEST_LIMITS.words InvalidMultibulkLength) (number_at-more more REQUEST_LIMITS.words InvalidMultibulkLength) (after_byte 42 ExpectedArray bytes) _ (after_byte-more more 42 ExpectedArray bytes)
line_at-more Length more bytes =
    Keeps-bind (longer more) (with_more more) (number_at REQUEST_LIMITS.word_bytes InvalidBulkLength) (number_at-more more REQUEST_LIMITS.word_bytes InvalidBulkLength) (after_dollar bytes) _ (after_dollar-more more bytes)

-- the bytes of a line, and the most that its number may be
abbrev pub line_bytes : Line → ℕ → List ℕ
line_bytes Count number = 42 ∷ number_line number
line_bytes Length number = 36 ∷ number_line number

abbrev pub most_of : Line → ℕ
most_of Count = REQUEST_LIMITS.words
most_of Length = REQUEST_LIMITS.word_bytes

pub line_at-takes : (line : Line) (bytes : List ℕ) (number : ℕ) (rest : List ℕ) → line_at line bytes ≡ Ok (number, rest) → (number ≤ most_of line) × (bytes ≡ line_bytes line number ++ rest)
line_at-takes Count bytes number rest e =
    let first = bind_ok (number_at REQUEST_LIMITS.words InvalidMultibulkLength) (after_byte 42 ExpectedArray bytes) (number, rest) e in
    let read = number_at-takes REQUEST_LIMITS.words InvalidMultibulkLength first.0 number rest (lit< tt) first.2 in
    (read.0, after_byte-takes 42 ExpectedArray bytes first.0 first.1 ∙ ap (λ x. 42 ∷ x) read.1)
line_at-takes Length bytes number rest e =
    let first = bind_ok (number_at REQUEST_LIMITS.word_bytes InvalidBulkLength) (after_dollar bytes) (number, rest) e in
    let read = number_at-takes REQUEST_LIMITS.word_bytes InvalidBulkLength first.0 number rest (lit< tt) first.2 in
    (read.0, after_dollar-takes bytes first.0 first.1 ∙ ap (λ x. 36 ∷ x) read.1)

-- ---- the front

no_bytes : (bytes : List ℕ) → length bytes ≡ 0 → bytes ≡ []
no_bytes [] e = refl
no_bytes (byte ∷ bytes) e = absurd (omega arith)

behind_chosen : (b : Bool) (cut rest : List ℕ) → (b ≡ true → length cut ≡ 0) → (behind : List ℕ) × (cut ++ rest ≡ cond b rest cut ++ behind)
behind_chosen true cut rest h = ([], ap (λ c. c ++ rest) (no_bytes cut (h refl)) ∙ sym (append-nil rest))
behind_chosen false cut rest h = (rest, refl)

behind_front : (u : Unread) → (behind : List ℕ) × (unread_bytes u ≡ front u ++ behind)
behind_front u = behind_chosen (length u.cut.items == 0) u.cut.items u.rest (eqb-true (length u.cut.items) 0)

-- what all the bytes read as, where the reading of the front stops
pub front-stops : {X : Type 0} (read : List ℕ → Result (Read X) (Stop ProtocolFault)) → ((more bytes : List ℕ) → Keeps (with_more more) (read bytes) (read (bytes ++ more))) → (u : Unread) (stop : Stop ProtocolFault) → read (front u) ≡ Err stop → (read (front u) ≡ Err Short → unread_bytes u ≡ front u) → read (unread_bytes u) ≡ Err stop
front-stops read keeps u Short e whole = rw (whole e) e
front-stops read keeps u (Broken fault) e whole =
    let behind = behind_front u in
    rw behind.1 (rw e at (keeps behind.0 (front u)))

-- what all the bytes read as, where the front reads as a value
pub front-reads : {X : Type 0} (read : List ℕ → Result (Read X) (Stop ProtocolFault)) → ((more bytes : List ℕ) → Keeps (with_more more) (read bytes) (read (bytes ++ more))) → (u : Unread) (x : X) (part after : List ℕ) → read (front u) ≡ Ok (x, after) → front u ≡ part ++ after → read (unread_bytes u) ≡ Ok (x, drop (length part) (unread_bytes u))
front-reads read keeps u x part after e joined =
    let behind = behind_front u in
    let all : unread_bytes u ≡ part ++ (after ++ behind.0) = behind.1 ∙ ap (λ f. f ++ behind.0) joined ∙ append_assoc part after behind.0 in
    let left : drop (length part) (unread_bytes u) ≡ after ++ behind.0 = ap (drop (length part)) all ∙ drop_at part (after ++ behind.0) (length part) refl in
    ap read behind.1 ∙ rw e at (keeps behind.0 (front u)) ∙ ap (λ r. Ok (x, r)) (sym left)

-- ---- lines at the front

pub line-smaller : (line : Line) (u : Unread) (number : ℕ) (after : List ℕ) → line_at line (front u) ≡ Ok (number, after) → length after ≤ length (front u)
line-smaller line u number after e =
    let taken = line_at-takes line (front u) number after e in
    omega (arith, ap length taken.1, length-append (line_bytes line number) after)

pub line-reads : (line : Line) (u : Unread) (number : ℕ) (after : List ℕ) → line_at line (front u) ≡ Ok (number, after) → line_at line (unread_bytes u) ≡ Ok (number, drop (length (front u) - length after) (unread_bytes u))
line-reads line u number after e =
    let taken = line_at-takes line (front u) number after e in
    let size : length (line_bytes line number) ≡ length (front u) - length after = omega (arith, ap length taken.1, length-append (line_bytes line number) after) in
    front-reads (line_at line) (line_at-more line) u number (line_bytes line number) after e taken.1 ∙ ap (λ n. Ok (number, drop n (unread_bytes u))) size

-- ---- words at the front

pub word-fits : (u : Unread) (len : ℕ) (word after : List ℕ) → payload_at len (front u) ≡ Ok (word, after) → len + 2 ≤ length (front u)
word-fits u len word after e =
    let taken = payload_at-takes len (front u) word after e in
    omega (arith, taken.0, ap length taken.1, length-append word (13 ∷ 10 ∷ after))

pub word-reads : (u : Unread) (len : ℕ) (word after : List ℕ) → payload_at len (front u) ≡ Ok (word, after) → payload_at len (unread_bytes u) ≡ Ok (take len (front u), drop (len + 2) (unread_bytes u))
word-reads u len word after e =
    let taken = payload_at-takes len (front u) word after e in
    let same : word ≡ take len (front u) = sym (ap (take len) taken.1 ∙ take_at word (13 ∷ 10 ∷ after) len taken.0) in
    let size : length (word ++ line_end) ≡ len + 2 = length-append word line_end ∙ ap (λ n. n + 2) taken.0 in
    front-reads (payload_at len) (λ more bytes. payload_at-more more len bytes) u word (word ++ line_end) after e (taken.1 ∙ sym (append_assoc word line_end after))
    ∙ ap (λ n. Ok (word, drop n (unread_bytes u))) size ∙ ap (λ w. Ok (w, drop (len + 2) (unread_bytes u))) same

pub payload_at-short : (len : ℕ) (bytes : List ℕ) → payload_at len bytes ≡ Err Short → length bytes < len + 2
payload_at-short len bytes e =
    elim (chosen (nat_lt (length bytes) len) (Err Short) (line_end_after (take len bytes) (drop len bytes)) (Err Short) e) [
      | inl h ↦ omega (arith, ltb-true (length bytes) len h.0)
      | inr h ↦
          let end = line_end_after-short (take len bytes) (drop len bytes) h.1 in
          omega (arith, ltb-false (length bytes) len h.0, ap length end.joined, length-append (drop len bytes) (end.byte ∷ end.rest), length-drop len bytes)
    ]

-- ---- what is left once a word is taken

pub left-in_rest : (len : ℕ) (cut rest : List ℕ) → length cut ≡ 0 → cut ++ drop 2 (drop len rest) ≡ drop (len + 2) (cut ++ rest)
left-in_rest len cut rest e = rw (no_bytes cut e) (drop-drop 2 len rest)

pub left-in_cut : (len : ℕ) (cut rest : List ℕ) → len + 2 ≤ length cut → drop 2 (drop len cut) ++ rest ≡ drop (len + 2) (cut ++ rest)
left-in_cut len cut rest h = ap (λ x. x ++ rest) (drop-drop 2 len cut) ∙ sym (drop-append-le (len + 2) cut rest h)

-- ---- the bytes held

pub served_numbers : HasNumbers REQUEST_LIMITS
served_numbers = record { words = lit< tt; word_bytes = lit< tt }

-- ---- requests of no words

request_at-line : (count : ℕ) (bytes : List ℕ) → count ≤ REQUEST_LIMITS.words → request_at REQUEST_LIMITS (42 ∷ number_line count ++ bytes) ≡ words_at REQUEST_LIMITS count bytes
request_at-line count bytes few = ap (λ r. r >>= λ count. words_at REQUEST_LIMITS count.0 count.1) (number_at-number_line REQUEST_LIMITS.words InvalidMultibulkLength count bytes served_numbers.words few)

items_at-passed_over : (n : ℕ) (bytes : List ℕ) → items_at REQUEST_LIMITS (passed_over n ++ bytes) ≡ items_at REQUEST_LIMITS bytes
items_at-passed_over zero bytes = refl
items_at-passed_over (suc n) bytes =
    let front = 42 ∷ number_line 0 in
    ap (items_at REQUEST_LIMITS) (append_assoc front (passed_over n) bytes ∙ sym (append-nil (front ++ (passed_over n ++ bytes))))
    ∙ items_at-read REQUEST_LIMITS (front ++ (passed_over n ++ bytes)) [] [] (passed_over n ++ bytes) (request_at-line 0 (passed_over n ++ bytes) (omega arith))
    ∙ ap (items_at REQUEST_LIMITS) (append-nil (passed_over n ++ bytes))
    ∙ items_at-passed_over n bytes

passed_over-more : (n : ℕ) (bytes : List ℕ) → passed_over (suc n) ++ bytes ≡ passed_over n ++ (42 ∷ number_line 0 ++ bytes)
passed_over-more zero bytes = ap (λ x. x ++ bytes) (append-nil (42 ∷ number_line 0))
passed_over-more (suc n) bytes =
    let front = 42 ∷ number_line 0 in
    append_assoc front (passed_over (suc n)) bytes ∙ ap (λ x. front ++ x) (passed_over-more n bytes) ∙ sym (append_assoc front (passed_over n) (front ++ bytes))

-- ---- the words that were read

-- the words already read, followed by those that `read` gives
abbrev with_prefix : List (List ℕ) → Result (Read (List (List ℕ))) (Stop ProtocolFault) → Result (Read (List (List ℕ))) (Stop ProtocolFault)
with_prefix words read = read >>= λ others. Ok (words ++ others.0, others.1)

with_prefix-none : (read : Result (Read (List (List ℕ))) (Stop ProtocolFault)) → with_prefix [] read ≡ read
with_prefix-none (Ok others) = refl
with_prefix-none (Err stop) = refl

with_prefix-first : (word : List ℕ) (words : List (List ℕ)) (read : Result (Read (List (List ℕ))) (Stop ProtocolFault)) → (with_prefix words read >>= λ others. Ok (with_first word others)) ≡ with_prefix (word ∷ words) read
with_prefix-first word words (Ok others) = refl
with_prefix-first word words (Err stop) = refl

-- words that are spelled are read, and the reading goes on behind them
words_at-spelled : (words : List (List ℕ)) (count left : ℕ) (bytes : List ℕ) → count ≡ length words + left → AreShort REQUEST_LIMITS words → words_at REQUEST_LIMITS count (flat_map bulk words ++ bytes) ≡ with_prefix words (words_at REQUEST_LIMITS left bytes)
words_at-spelled [] count left bytes is short =
    let all : count ≡ left = omega (arith, is) in
    ap (λ k. words_at REQUEST_LIMITS k bytes) all ∙ sym (with_prefix-none (words_at REQUEST_LIMITS left bytes))
words_at-spelled (word ∷ words) zero left bytes is short = absurd (omega (arith, is))
words_at-spelled (word ∷ words) (suc count) left bytes is short =
    ap (words_at REQUEST_LIMITS (suc count)) (append_assoc (bulk word) (flat_map bulk words) bytes)
    ∙ ap (λ r. r >>= words_after REQUEST_LIMITS count) (word_at-again REQUEST_LIMITS word (flat_map bulk words ++ bytes) served_numbers.word_bytes short.0)
    ∙ ap (λ r. r >>= λ others. Ok (with_first word others)) (words_at-spelled words count left bytes (omega (arith, is)) short.1)
    ∙ with_prefix-first word words (words_at REQUEST_LIMITS left bytes)

-- the next word, whose length may have been read
abbrev next_word : Option ℕ → List ℕ → Result (Read (List ℕ)) (Stop ProtocolFault)
next_word None bytes = word_at REQUEST_LIMITS bytes
next_word (Some len) bytes = payload_at len bytes

words_at-next : (len : Option ℕ) (left : ℕ) (bytes : List ℕ) → IfSome len (λ len. len ≤ REQUEST_LIMITS.word_bytes) → words_at REQUEST_LIMITS (suc left) (measured len ++ bytes) ≡ (next_word len bytes >>= words_after REQUEST_LIMITS left)
words_at-next None left bytes fits = refl
words_at-next (Some len) left bytes fits = ap (λ r. r >>= words_after REQUEST_LIMITS left) (rest_of_word-again REQUEST_LIMITS len bytes served_numbers.word_bytes fits)

-- the request that is begun, where some of its words are left
request_at-begun : (count : ℕ) (words : List (List ℕ)) (len : Option ℕ) (left : ℕ) (bytes : List ℕ) → count ≡ length words + suc left → count ≤ REQUEST_LIMITS.words → AreShort REQUEST_LIMITS words → IfSome len (λ len. len ≤ REQUEST_LIMITS.word_bytes) → request_at REQUEST_LIMITS (text_from count words len bytes) ≡ with_prefix words (next_word len bytes >>= words_after REQUEST_LIMITS left)
request_at-begun zero words len left bytes is few short fits = absurd (omega (arith, is))
request_at-begun (suc n) words len left bytes is few short fits =
    ap (request_at REQUEST_LIMITS) (append_assoc (42 ∷ number_line (suc n)) (flat_map bulk words) (measured len ++ bytes))
    ∙ request_at-line (suc n) (flat_map bulk words ++ (measured len ++ bytes)) few
    ∙ words_at-spelled words (suc n) (suc left) (measured len ++ bytes) is short
    ∙ ap (with_prefix words) (words_at-next len left bytes fits)

-- ---- a part that is not there

bind-stop : {A B C : Type 0} (r : Result A (Stop ProtocolFault)) (f : A → Result B (Stop ProtocolFault)) (g : B → Result C (Stop ProtocolFault)) (stop : Stop ProtocolFault) → (r >>= f) ≡ Err stop → (r >>= λ x. f x >>= g) ≡ Err stop
bind-stop (Ok x) f g stop e = ap (λ r. r >>= g) e
bind-stop (Err other) f g stop e = let same : other ≡ stop = cc in ap Err same

Steps-stopped : (old new : Reading) (stop : Stop ProtocolFault) → held new ≡ held old → request_at REQUEST_LIMITS (text_from old.count old.words.items old.len (unread_bytes old.unread)) ≡ Err stop → Steps old (Stopped stop) new
Steps-stopped old new Short same e =
    let text = text_from old.count old.words.items old.len (unread_bytes old.unread) in
    (same, items_at-passed_over old.passed text ∙ items_at-short REQUEST_LIMITS text e)
Steps-stopped old new (Broken fault) same e =
    let text = text_from old.count old.words.items old.len (unread_bytes old.unread) in
    λ more. ap (items_at REQUEST_LIMITS) (append_assoc (passed_over old.passed) text more) ∙ items_at-passed_over old.passed (text ++ more) ∙ items_at-broken REQUEST_LIMITS text more fault e

pub Steps-no_count : (old new : Reading) (stop : Stop ProtocolFault) → held new ≡ held old → IsStanding old → old.count ≡ 0 → line_at Count (unread_bytes old.unread) ≡ Err stop → Steps old (Stopped stop) new
Steps-no_count old new stop same standing none e =
    Steps-stopped old new stop same
    (rw (none, (standing.between none).1) (bind-stop (after_byte 42 ExpectedArray (unread_bytes old.unread)) (number_at REQUEST_LIMITS.words InvalidMultibulkLength) (λ count. words_at REQUEST_LIMITS count.0 count.1) stop e))

left_of : (count read : ℕ) → read < count → count ≡ read + suc (count - read - 1)
left_of count read h = omega arith

Steps-no_word : (old new : Reading) (stop : Stop ProtocolFault) → held new ≡ held old → IsStanding old → 0 < old.count → next_word old.len (unread_bytes old.unread) ≡ Err stop → Steps old (Stopped stop) new
Steps-no_word old new stop same standing begun e =
    let left = old.count - length old.words.items - 1 in
    Steps-stopped old new stop same
    (request_at-begun old.count old.words.items old.len left (unread_bytes old.unread) (left_of old.count (length old.words.items) (standing.begun begun)) standing.few standing.short standing.measure
    ∙ ap (λ r. with_prefix old.words.items (r >>= words_after REQUEST_LIMITS left)) e)

pub Steps-no_len : (old new : Reading) (stop : Stop ProtocolFault) → held new ≡ held old → IsStanding old → 0 < old.count → old.len ≡ None → line_at Length (unread_bytes old.unread) ≡ Err stop → Steps old (Stopped stop) new
Steps-no_len old new stop same standing begun none e =
    let unread = unread_bytes old.unread in
    let stopped : word_at REQUEST_LIMITS unread ≡ Err stop = bind-stop (after_dollar unread) (number_at REQUEST_LIMITS.word_bytes InvalidBulkLength) (λ len. payload_at len.0 len.1) stop e in
    Steps-no_word old new stop same standing begun (ap (λ len. next_word len unread) none ∙ stopped)

pub Steps-no_payload : (old new : Reading) (stop : Stop ProtocolFault) (len : ℕ) → held new ≡ held old → IsStanding old → 0 < old.count → old.len ≡ Some len → payload_at len (unread_bytes old.unread) ≡ Err stop → Steps old (Stopped stop) new
Steps-no_payload old new stop len same standing begun is e =
    Steps-no_word old new stop same standing begun (ap (λ l. next_word l (unread_bytes old.unread)) is ∙ e)

-- where nothing is taken of the unread bytes, the same bytes are held
pub held-same : (passed count : ℕ) (words : List (List ℕ)) (len : Option ℕ) (unread unread' : List ℕ) → unread' ≡ unread → passed_over passed ++ text_from count words len unread' ≡ passed_over passed ++ text_from count words len unread
held-same passed count words len unread unread' e = ap (λ u. passed_over passed ++ text_from count words len u) e

-- ---- a part that was read stays among the bytes held

abbrev pub Stays : ℕ → List ℕ → List ℕ → List ℕ → List ℕ → Type 0
Stays passed text text' unread unread' = (text' ≡ passed_over passed ++ text) × (length unread' < length unread)

shorter : (part unread unread' : List ℕ) → unread ≡ part ++ unread' → 0 < length part → length unread' < length unread
shorter part unread unread' e some = omega (arith, ap length e, length-append part unread')

pub held-passed : (passed count : ℕ) (words : List (List ℕ)) (len : Option ℕ) (unread unread' : List ℕ) → count ≡ 0 → len ≡ None → line_at Count unread ≡ Ok (0, unread') → Stays passed (text_from count words len unread) (passed_over (passed + 1) ++ text_from count words len unread') unread unread'
held-passed passed count words len unread unread' none no_len e =
    let taken = (line_at-takes Count unread 0 unread' e).1 in
    let next : passed + 1 ≡ suc passed = omega arith in
    (rw (none, no_len, next, taken) (passed_over-more passed unread'), shorter (42 ∷ number_line 0) unread unread' taken (omega arith))

pub held-counted : (passed count : ℕ) (words : List (List ℕ)) (len : Option ℕ) (unread : List ℕ) (n : ℕ) (unread' : List ℕ) → count ≡ 0 → words ≡ [] → len ≡ None → 0 < n → line_at Count unread ≡ Ok (n, unread') → Stays passed (text_from count words len unread) (passed_over passed ++ text_from n words len unread') unread unread'
held-counted passed count words len unread zero unread' none no_words no_len some e = absurd (omega arith)
held-counted passed count words len unread (suc n) unread' none no_words no_len some e =
    let taken = (line_at-takes Count unread (suc n) unread' e).1 in
    (rw (none, no_words, no_len, taken) (ap (λ x. passed_over passed ++ (x ++ unread')) (append-nil (42 ∷ number_line (suc n)))), shorter (42 ∷ number_line (suc n)) unread unread' taken (omega arith))

pub held-measured : (passed count : ℕ) (words : List (List ℕ)) (len : Option ℕ) (unread : List ℕ) (n : ℕ) (unread' : List ℕ) → len ≡ None → line_at Length unread ≡ Ok (n, unread') → Stays passed (text_from count words len unread) (passed_over passed ++ text_from count words (Some n) unread') unread unread'
held-measured passed count words len unread n unread' no_len e =
    let taken = (line_at-takes Length unread n unread' e).1 in
    (rw (no_len, taken) refl, shorter (36 ∷ number_line n) unread unread' taken (omega arith))

word_joined : (front : List ℕ) (words : List (List ℕ)) (word unread' : List ℕ) → (front ++ flat_map bulk (words ++ word ∷ [])) ++ unread' ≡ (front ++ flat_map bulk words) ++ (36 ∷ number_line (length word) ++ (word ++ (13 ∷ 10 ∷ unread')))
word_joined front words word unread' =
    ap (λ x. x ++ unread') (sym (flat_map_more bulk front words word)) ∙ append_assoc (front ++ flat_map bulk words) (bulk word) unread' ∙ ap (λ x. (front ++ flat_map bulk words) ++ x) (bulk-append word unread')

pub held-word : (passed count : ℕ) (words : List (List ℕ)) (len : Option ℕ) (unread : List ℕ) (n : ℕ) (word unread' : List ℕ) → 0 < count → len ≡ Some n → payload_at n unread ≡ Ok (word, unread') → Stays passed (text_from count words len unread) (passed_over passed ++ text_from count (words ++ word ∷ []) None unread') unread unread'
held-word passed zero words len unread n word unread' some is e = absurd (omega arith)
held-word passed (suc count) words len unread n word unread' some is e =
    let taken = payload_at-takes n unread word unread' e in (
      rw (is, sym taken.0, taken.1) (ap (λ x. passed_over passed ++ x) (word_joined (42 ∷ number_line (suc count)) words word unread')),
      omega (arith, ap length taken.1, length-append word (13 ∷ 10 ∷ unread')),
    )

-- ---- the last word

item_of-last : (words : List (List ℕ)) (word : List ℕ) → item_of (words ++ word ∷ []) ≡ item.Request (words ++ word ∷ []) ∷ []
item_of-last [] word = refl
item_of-last (first ∷ words) word = refl

pub Steps-given : (old : Reading) (len : ℕ) (word unread' : List ℕ) → IsStanding old → 0 < old.count → old.len ≡ Some len → payload_at len (unread_bytes old.unread) ≡ Ok (word, unread') → old.count ≤ length old.words.items + 1 → (more : List ℕ) → items_at REQUEST_LIMITS (held old ++ more) ≡ item.Request (old.words.items ++ word ∷ []) ∷ items_at REQUEST_LIMITS (unread' ++ more)
Steps-given old len word unread' standing begun is e last more =
    let words = old.words.items in
    let text = text_from old.count words old.len (unread_bytes old.unread) in
    let all : old.count ≡ length words + suc 0 = omega (arith, standing.begun begun) in
    let read : request_at REQUEST_LIMITS text ≡ Ok (words ++ word ∷ [], unread') =
    request_at-begun old.count words old.len 0 (unread_bytes old.unread) all standing.few standing.short standing.measure
    ∙ ap (λ l. with_prefix words (next_word l (unread_bytes old.unread) >>= words_after REQUEST_LIMITS 0)) is
    ∙ ap (λ r. with_prefix words (r >>= words_after REQUEST_LIMITS 0)) e in
    ap (items_at REQUEST_LIMITS) (append_assoc (passed_over old.passed) text more)
    ∙ items_at-passed_over old.passed (text ++ more)
    ∙ items_at-read REQUEST_LIMITS text more (words ++ word ∷ []) unread' read
    ∙ ap (λ items. items ++ items_at REQUEST_LIMITS (unread' ++ more)) (item_of-last words word)

-- ---- what is kept is sound

pub IsStanding-counted : (old : Reading) (n passed : ℕ) (unread : Unread) → IsStanding old → old.count ≡ 0 → line_at Count (unread_bytes old.unread) ≡ Ok (n, unread_bytes unread) → IsStanding (record { passed = passed; count = n; words = old.words; len = old.len; unread = unread })
IsStanding-counted old n passed unread standing none e =
    let clean = standing.between none in
    record {
      between = λ zero. clean;
      begun = λ some. omega (arith, ap length clean.0, some);
      few = (line_at-takes Count (unread_bytes old.unread) n (unread_bytes unread) e).0;
      short = standing.short;
      measure = standing.measure;
    }

pub IsStanding-measured : (old : Reading) (n : ℕ) (unread : Unread) → IsStanding old → 0 < old.count → line_at Length (unread_bytes old.unread) ≡ Ok (n, unread_bytes unread) → IsStanding (record { passed = old.passed; count = old.count; words = old.words; len = Some n; unread = unread })
IsStanding-measured old n unread standing begun e =
    record {
      between = λ zero. absurd (omega (arith, begun, zero));
      begun = standing.begun;
      few = standing.few;
      short = standing.short;
      measure = (line_at-takes Length (unread_bytes old.unread) n (unread_bytes unread) e).0;
    }
