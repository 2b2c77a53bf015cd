-- No spelling begins another, and a prefix of a spelling has the words that it seems to have.
use Rattle.std.proofs.Common.{◌≡◌, ℕ, ◌^◌, ◌<◌, ◌≤◌, List, [], ◌∷◌, ◌++◌, length, refl, ap, sym, ◌∙◌, arith}
use Rattle.std.proofs.lemmas.List.{append_assoc}
use Rattle.std.specs.List.{flat_map}
use Rattle.kv_types.specs.declared.limits.Limits.{Limits}
use Rattle.kv_types.specs.Word.{IsWithin}
use Rattle.kv_types.specs.Request.{number_line, bulk, spelling, Begins}
use Rattle.kv_types.specs.Reading.{request_at}
use Rattle.kv_types.proofs.ReaderLemmas.{ok_parts}
use Rattle.kv_types.proofs.GrammarDecimals.{number_line-parted}
use Rattle.kv_types.proofs.GrammarWords.{bulk-append}
use Rattle.kv_types.proofs.GrammarRequests.{HasNumbers, AreShort, request_at-again}

-- No spelling begins another.
pub spelling-parted : (limits : Limits) (a b : List (List ℕ)) (x y : List ℕ) → HasNumbers limits → IsWithin limits a → IsWithin limits b → spelling a ++ x ≡ spelling b ++ y → (a ≡ b) × (x ≡ y)
spelling-parted limits a b x y numbers within_a within_b e =
    ok_parts a b x y (sym (request_at-again limits a x numbers within_a) ∙ ap (request_at limits) e ∙ request_at-again limits b y numbers within_b)

same_length-parted : (a b x y : List ℕ) → length a ≡ length b → a ++ x ≡ b ++ y → (a ≡ b) × (x ≡ y)
same_length-parted [] [] x y h e = (refl, e)
same_length-parted [] (d ∷ b) x y h e = absurd (omega arith)
same_length-parted (d ∷ a) [] x y h e = absurd (omega arith)
same_length-parted (d ∷ a) (c ∷ b) x y h e =
    let rest = same_length-parted a b x y (omega arith) cc in
    (grind (arith, rest.0), rest.1)

-- a word's number tells its length, whatever the word
bulk-line : (n : ℕ) (word x y : List ℕ) → length word < 2 ^ 64 → (36 ∷ number_line n) ++ x ≡ bulk word ++ y → (n ≡ length word) × (x ≡ word ++ (13 ∷ 10 ∷ y))
bulk-line n word x y small e =
    let whole : 36 ∷ (number_line n ++ x) ≡ 36 ∷ (number_line (length word) ++ (word ++ (13 ∷ 10 ∷ y))) = e ∙ bulk-append word y in
    number_line-parted n (length word) x (word ++ (13 ∷ 10 ∷ y)) small cc

bulk-parted : (word other x y : List ℕ) → length other < 2 ^ 64 → bulk word ++ x ≡ bulk other ++ y → (word ≡ other) × (x ≡ y)
bulk-parted word other x y small e =
    let line = bulk-line (length word) other (word ++ (13 ∷ 10 ∷ x)) y small (sym (bulk-append word x) ∙ e) in
    let parts = same_length-parted word other (13 ∷ 10 ∷ x) (13 ∷ 10 ∷ y) line.0 line.1 in
    let ends = parts.1 in
    (parts.0, cc)

-- where short words begin with fewer words: these are short too, and another word comes next
abbrev pub HasNext : Limits → List (List ℕ) → List ℕ → Type 0
HasNext limits words after = AreShort limits words × (next : List ℕ) × (length next ≤ limits.word_bytes) × (rest : List ℕ) × (after ≡ bulk next ++ rest)

HasNext-flat_map : (limits : Limits) (words all : List (List ℕ)) (after : List ℕ) → HasNumbers limits → AreShort limits all → length words < length all → flat_map bulk words ++ after ≡ flat_map bulk all → HasNext limits words after
HasNext-flat_map limits words [] after numbers short fewer e = absurd (omega arith)
HasNext-flat_map limits [] (other ∷ all) after numbers short fewer e = (tt, other, short.0, flat_map bulk all, e)
HasNext-flat_map limits (word ∷ words) (other ∷ all) after numbers short fewer e =
    let parts = bulk-parted word other (flat_map bulk words ++ after) (flat_map bulk all) (omega (arith, short.0, numbers.word_bytes)) (sym (append_assoc (bulk word) (flat_map bulk words) after) ∙ e) in
    let others = HasNext-flat_map limits words all after numbers short.1 (omega arith) parts.1 in
    ((rw parts.0 short.0, others.0), others.1, others.2, others.3, others.4)

-- the count and the words that a prefix of a spelling shows are within the limits
pub record IsInside (limits : Limits) (n : ℕ) (words : List (List ℕ)) (inner : List ℕ) : Type 0 where
  pub count : n ≤ limits.words
  pub more : List ℕ
  pub next : HasNext limits words (inner ++ more)

pub IsInside-begins : (limits : Limits) (n : ℕ) (words : List (List ℕ)) (inner : List ℕ) → HasNumbers limits → length words < n → Begins limits ((42 ∷ number_line n) ++ (flat_map bulk words ++ inner)) → IsInside limits n words inner
IsInside-begins limits n words inner numbers fewer b =
    let all = b.words in
    let within = b.spells.within in
    let whole : 42 ∷ (number_line n ++ ((flat_map bulk words ++ inner) ++ b.rest)) ≡ 42 ∷ (number_line (length all) ++ flat_map bulk all) = sym (append_assoc (42 ∷ number_line n) (flat_map bulk words ++ inner) b.rest) ∙ b.spells.whole in
    let parts = number_line-parted n (length all) ((flat_map bulk words ++ inner) ++ b.rest) (flat_map bulk all) (omega (arith, within.count, numbers.words)) cc in
    let next = HasNext-flat_map limits words all (inner ++ b.rest) numbers within.lengths (omega (arith, parts.0)) (sym (append_assoc (flat_map bulk words) inner b.rest) ∙ parts.1) in
    record { count = omega (arith, within.count, parts.0); more = b.rest; next = next }

-- a word whose length is spelled is no longer than the limit
pub length-inside : (limits : Limits) (n : ℕ) (words : List (List ℕ)) (len : ℕ) (after : List ℕ) → HasNumbers limits → IsInside limits n words ((36 ∷ number_line len) ++ after) → len ≤ limits.word_bytes
length-inside limits n words len after numbers inside =
    let next = inside.next in
    let line = bulk-line len next.1 (after ++ inside.more) next.3 (omega (arith, next.2, numbers.word_bytes)) (sym (append_assoc (36 ∷ number_line len) after inside.more) ∙ next.4) in
    omega (arith, line.0, next.2)
