-- Words and requests, byte by byte and line by line.
use Rattle.std.proofs.Common.{◌≡◌, ℕ, suc, ◌-◌, true, false, cond, ◌&&◌, ◌==◌, nat_lt, slice_index, List, [], ◌∷◌, ◌++◌, length, map, take, refl, sym, ap, ◌∙◌, append_assoc, append-nil, arith, Option, Some, None, IfSome}
use Rattle.std.proofs.lemmas.Bool.{lt-ltb}
use Rattle.std.specs.List.{filter}
use Rattle.std.specs.Io.KnownBytes.{IsAtEnd}
use Rattle.std.specs.Io.BufRead.{take_through, drop_through, strip_last, first_piece, DropsThrough}
use Rattle.client.specs.Asked.{holds_any, joined, one_request, one_word, pieces_at, requests_of, with_byte, words_behind, words_of}

-- ---- words

filter-first : {A : Type 0} (xs : List A) (others : List (List A)) → filter holds_any (xs ∷ others) ≡ filter holds_any (xs ∷ []) ++ filter holds_any others
filter-first [] others = refl
filter-first (x ∷ xs) others = refl

joined-with_byte : (byte : ℕ) (pieces : List (List ℕ)) → joined [] (with_byte byte pieces) ≡ with_byte byte pieces
joined-with_byte byte [] = refl
joined-with_byte byte (piece ∷ pieces) = refl

joined-nil : (separator : ℕ) (bytes : List ℕ) → joined [] (pieces_at separator bytes) ≡ pieces_at separator bytes
joined-nil separator [] = refl
joined-nil separator (byte ∷ bytes) =
    elim (byte == separator) as (λ b. joined [] (cond b ([] ∷ pieces_at separator bytes) (with_byte byte (pieces_at separator bytes))) ≡ cond b ([] ∷ pieces_at separator bytes) (with_byte byte (pieces_at separator bytes))) [
      | true ↦ refl
      | false ↦ joined-with_byte byte (pieces_at separator bytes)
    ]

joined-more : (word : List ℕ) (byte : ℕ) (pieces : List (List ℕ)) → joined word (with_byte byte pieces) ≡ joined (word ++ byte ∷ []) pieces
joined-more word byte [] = refl
joined-more word byte (piece ∷ pieces) = ap (λ first. first ∷ pieces) (sym (append_assoc word (byte ∷ []) piece))

pub words-begin : (line : List ℕ) → words_behind [] line ≡ words_of line
words-begin line = ap (filter holds_any) (joined-nil 32 line)

pub words-end : (word : List ℕ) → words_behind word [] ≡ one_word word
words-end word = ap one_word (append-nil word)

-- a space ends the word
pub words-space : (word rest : List ℕ) (byte : ℕ) → (byte == 32) ≡ true → words_behind word (byte ∷ rest) ≡ one_word word ++ words_behind [] rest
words-space word rest byte is =
    let pieces = pieces_at 32 rest in
    ap (λ b. filter holds_any (joined word (cond b ([] ∷ pieces) (with_byte byte pieces)))) is
    ∙ ap (λ first. filter holds_any (first ∷ pieces)) (append-nil word) ∙ filter-first word pieces ∙ ap (λ others. one_word word ++ others) (sym (words-begin rest))

-- another byte is its next
pub words-byte : (word rest : List ℕ) (byte : ℕ) → (byte == 32) ≡ false → words_behind word (byte ∷ rest) ≡ words_behind (word ++ byte ∷ []) rest
words-byte word rest byte is =
    let pieces = pieces_at 32 rest in
    ap (λ b. filter holds_any (joined word (cond b ([] ∷ pieces) (with_byte byte pieces)))) is ∙ ap (filter holds_any) (joined-more word byte pieces)

-- ---- lines

-- all but what stands from this index on, if the byte there is a line feed
abbrev strip_at : ℕ → List ℕ → List ℕ
strip_at n xs = cond (nat_lt 0 (length xs) && (slice_index xs n == 10)) (take n xs) xs

strip_at-there : (n x : ℕ) (xs : List ℕ) → strip_at n (x ∷ xs) ≡ cond (slice_index (x ∷ xs) n == 10) (take n (x ∷ xs)) (x ∷ xs)
strip_at-there n x xs = ap (λ b. cond (b && (slice_index (x ∷ xs) n == 10)) (take n (x ∷ xs)) (x ∷ xs)) (lt-ltb 0 (length (x ∷ xs)) (omega arith))

strip_at-cons : (n x y : ℕ) (ys : List ℕ) → strip_at (suc n) (x ∷ y ∷ ys) ≡ x ∷ strip_at n (y ∷ ys)
strip_at-cons n x y ys =
    strip_at-there (suc n) x (y ∷ ys)
    ∙ elim (slice_index (y ∷ ys) n == 10) as (λ b. cond b (x ∷ take n (y ∷ ys)) (x ∷ y ∷ ys) ≡ x ∷ cond b (take n (y ∷ ys)) (y ∷ ys)) [
      | true ↦ refl
      | false ↦ refl
    ]
    ∙ ap (λ rest. x ∷ rest) (sym (strip_at-there n y ys))

strip_last-cons : (x y : ℕ) (ys : List ℕ) → strip_last 10 (x ∷ y ∷ ys) ≡ x ∷ strip_last 10 (y ∷ ys)
strip_last-cons x y ys =
    let first : length (x ∷ y ∷ ys) - 1 ≡ suc (length ys) = omega arith in
    let second : length (y ∷ ys) - 1 ≡ length ys = omega arith in
    ap (λ n. strip_at n (x ∷ y ∷ ys)) first ∙ strip_at-cons (length ys) x y ys ∙ ap (λ n. x ∷ strip_at n (y ∷ ys)) (sym second)

strip_last-other : (x : ℕ) (ys : List ℕ) → (x == 10) ≡ false → strip_last 10 (x ∷ ys) ≡ x ∷ strip_last 10 ys
strip_last-other x [] is = ap (λ b. cond b [] (x ∷ [])) is
strip_last-other x (y ∷ ys) is = strip_last-cons x y ys

-- the first line of a text, and the others
record FirstLine (text : List ℕ) : Type 0 where
  pub others : List (List ℕ)
  pub pieces : pieces_at 10 text ≡ first_piece 10 text ∷ others
  pub rest : filter holds_any (map words_of others) ≡ requests_of (drop_through 10 text)

first_line-byte : (x : ℕ) (text : List ℕ) → (x == 10) ≡ false → FirstLine text → FirstLine (x ∷ text)
first_line-byte x text is first = record {
  others = first.others;
  pieces =
      ap (λ b. cond b ([] ∷ pieces_at 10 text) (with_byte x (pieces_at 10 text))) is ∙ ap (with_byte x) first.pieces
      ∙ ap (λ line. line ∷ first.others) (sym (ap (λ b. strip_last 10 (cond b (x ∷ []) (x ∷ take_through 10 text))) is ∙ strip_last-other x (take_through 10 text) is));
  rest = first.rest ∙ ap (λ b. requests_of (cond b text (drop_through 10 text))) (sym is);
}

first_line-feed : (x : ℕ) (text : List ℕ) → (x == 10) ≡ true → FirstLine (x ∷ text)
first_line-feed x text is = record {
  others = pieces_at 10 text;
  pieces =
      ap (λ b. cond b ([] ∷ pieces_at 10 text) (with_byte x (pieces_at 10 text))) is
      ∙ ap (λ line. line ∷ pieces_at 10 text) (sym (ap (λ b. strip_last 10 (cond b (x ∷ []) (x ∷ take_through 10 text))) is ∙ ap (λ b. cond b [] (x ∷ [])) is));
  rest = ap (λ b. requests_of (cond b text (drop_through 10 text))) (sym is);
}

first_line : (text : List ℕ) → FirstLine text
first_line [] = record { others = []; pieces = refl; rest = refl }
first_line (x ∷ text) =
    elim (x == 10) as (λ b. (x == 10) ≡ b → FirstLine (x ∷ text)) [
      | true ↦ λ is. first_line-feed x text is
      | false ↦ λ is. first_line-byte x text is (first_line text)
    ] refl

-- the request of the first line, if it has a word, and those of the others
pub requests-line : (text : List ℕ) → requests_of text ≡ one_request (words_of (first_piece 10 text)) ++ requests_of (drop_through 10 text)
requests-line text =
    let first = first_line text in
    ap (λ pieces. filter holds_any (map words_of pieces)) first.pieces ∙ filter-first (words_of (first_piece 10 text)) (map words_of first.others)
    ∙ ap (λ others. one_request (words_of (first_piece 10 text)) ++ others) first.rest

-- ---- the requests of an input so far

-- these are the requests of what was read of the input, if it is known
abbrev pub AreSoFar : (input input' : Option (List ℕ)) → List (List (List ℕ)) → Type 0
AreSoFar input input' requests = IfSome input (λ text. (rest : List ℕ) × (input' ≡ Some rest) × (requests_of text ≡ requests ++ requests_of rest))

pub so_far-nothing : (input : Option (List ℕ)) → AreSoFar input input []
so_far-nothing None = tt
so_far-nothing (Some text) = (text, refl, refl)

pub so_far-more : (input input' input'' : Option (List ℕ)) (requests : List (List (List ℕ))) (line : List ℕ) → AreSoFar input input' requests → IfSome input' (λ text. line ≡ first_piece 10 text) → DropsThrough input' input'' 10
    → AreSoFar input input'' (requests ++ one_request (words_of line))
so_far-more None input' input'' requests line so_far is drops = tt
so_far-more (Some text) None input'' requests line so_far is drops =
    let none : None ≡ Some so_far.0 = so_far.1 in absurd (cc)
so_far-more (Some text) (Some rest) input'' requests line so_far is drops =
    let same : rest ≡ so_far.0 = cc in (
      drop_through 10 rest,
      drops,
      so_far.2 ∙ ap (λ r. requests ++ requests_of r) (sym same) ∙ ap (λ more. requests ++ more) (requests-line rest)
          ∙ ap (λ l. requests ++ (one_request (words_of l) ++ requests_of (drop_through 10 rest))) (sym is)
          ∙ sym (append_assoc requests (one_request (words_of line)) (requests_of (drop_through 10 rest))),
    )

pub so_far-whole : (input input' : Option (List ℕ)) (requests : List (List (List ℕ))) → AreSoFar input input' requests → IsAtEnd input' → IfSome input (λ text. requests ≡ requests_of text)
so_far-whole None input' requests so_far ended = tt
so_far-whole (Some text) None requests so_far ended =
    let none : None ≡ Some so_far.0 = so_far.1 in absurd (cc)
so_far-whole (Some text) (Some rest) requests so_far ended =
    let same : rest ≡ so_far.0 = cc in
    sym (so_far.2 ∙ ap (λ r. requests ++ requests_of r) (sym same ∙ ended) ∙ append-nil requests)
