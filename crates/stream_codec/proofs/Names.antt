-- Names, values and first bytes of changes, as texts that are read.
use Rattle.std.proofs.Common.{◌≡◌, ◌⊎◌, ℕ, ◌+◌, ◌-◌, ◌<◌, ◌≤◌, min, List, [], ◌∷◌, ◌++◌, length, Option, None, Some, Ok, Err, inl, inr, refl, sym, ap, subst, ◌∙◌, arith}
use Rattle.std.specs.Prelude.{nat_le, nat_lt}
use Rattle.std.specs.Int.{w16, w32, to_be_bytes}
use Rattle.std.proofs.lemmas.Bool.Decides.{nat_tests}
use Rattle.kv_types.specs.declared.limits.TheConstants.{MAX_KEY_BYTES, MAX_VALUE_BYTES}
use Rattle.kv_types.specs.Change.{short_bytes, long_bytes}
use Rattle.kv_types.specs.declared.stop.Stop.TheVariants.{Short, Broken}
use Rattle.kv_types.proofs.ReaderLemmas.{ok_parts}
use Rattle.stream_codec.specs.declared.change.Body.{Body}
use Rattle.stream_codec.specs.declared.change.Body.TheVariants as bodies
use Rattle.stream_codec.specs.declared.change.Kind.{Kind}
use Rattle.stream_codec.specs.declared.change.Kind.TheVariants as kind
use Rattle.stream_codec.specs.declared.message.TheConstants.{LEAST_PUT_BYTES}
use Rattle.stream_codec.specs.Bytes.{Outcome, or_else, two_places, four_places, number_at, bytes_at, counted_at}
use Rattle.stream_codec.specs.Reading.{kind_of, put_kind_of, kind_in, least_size, kind_within, kind_at, name_at, put_count_within, put_count_at, value_at}
use Rattle.stream_codec.proofs.Readers.{Reads, Reads-as, Reads-same, Reads-then, Reads-either, Either, Then}
use Rattle.stream_codec.proofs.Numbers.{AreDigits, IsNumber, IsRun, number_reads, number_above, run_reads, IsCounted, counted_reads, digits_two, digits_four, two_digits, four_digits, true_or_false, cond_true, cond_false}

-- ---- names and values

-- a key or a field with its length, of at most so many bytes
pub record IsName (spare : ℕ) (name text : List ℕ) : Type 0 where
  pub short : length name ≤ MAX_KEY_BYTES
  pub fits : length name ≤ spare
  pub text_is : text ≡ short_bytes name

pub name_reads : (spare : ℕ) → Reads (name_at spare) (IsName spare)
name_reads spare =
    Reads-as (name_at spare) (IsCounted two_places (min MAX_KEY_BYTES spare)) (IsName spare)
    (counted_reads two_places (min MAX_KEY_BYTES spare) (refl, (refl, tt)) (omega arith))
    (λ name text i. record {
      short = omega (arith, i.most_is);
      fits = omega (arith, i.most_is);
      text_is = i.joined ∙ ap (λ d. d ++ name) (digits_two (length name) i.digits i.are_digits);
    })
    (λ name text i. record {
      most_is = omega (arith, i.short, i.fits);
      digits = to_be_bytes w16 (length name);
      are_digits = two_digits (length name) (omega (arith, i.short));
      joined = i.text_is;
    })

-- what may be left of a body behind a change: anything, or of puts nothing or enough for another one
abbrev pub Leaves : Body → ℕ → Type 0
Leaves bodies.Changes left = Unit {0}
Leaves bodies.Puts left = (left ≡ 0) ⊎ (LEAST_PUT_BYTES ≤ left)

pub record IsValue (b : Body) (spare : ℕ) (value text : List ℕ) : Type 0 where
  pub short : length value ≤ MAX_VALUE_BYTES
  pub fits : length value ≤ spare
  pub leaves : Leaves b (spare - length value)
  pub text_is : text ≡ long_bytes value

-- the length of a put's value
record IsPutCount (spare n : ℕ) (text : List ℕ) : Type 0 where
  short : n ≤ MAX_VALUE_BYTES
  fits : n ≤ spare
  leaves : Leaves bodies.Puts (spare - n)
  digits : AreDigits four_places n text

abbrev exact_at : ℕ → List ℕ → Outcome ℕ
exact_at spare bytes = number_at four_places spare spare bytes

abbrev most_at : ℕ → List ℕ → Outcome ℕ
most_at spare bytes = number_at four_places 0 (min (spare - LEAST_PUT_BYTES) MAX_VALUE_BYTES) bytes

abbrev below_at : ℕ → List ℕ → Outcome ℕ
below_at spare bytes = number_at four_places 0 (spare - LEAST_PUT_BYTES) bytes

-- all that is left
exact_to : (spare n : ℕ) (text : List ℕ) → spare ≤ MAX_VALUE_BYTES → IsNumber four_places spare spare n text → IsPutCount spare n text
exact_to spare n text h i =
    record {
      short = omega (arith, h, i.most_is);
      fits = i.most_is;
      leaves = inl (omega (arith, i.least_is));
      digits = i.digits;
    }

-- so few that another put fits
below_to : (spare n : ℕ) (text : List ℕ) → n ≤ MAX_VALUE_BYTES → n + LEAST_PUT_BYTES ≤ spare → AreDigits four_places n text → IsPutCount spare n text
below_to spare n text short fits digits = record { short = short; fits = omega (arith, fits); leaves = inr (omega (arith, fits)); digits = digits }

-- with few bytes left it is all of them
exact_is : (spare n : ℕ) → spare < LEAST_PUT_BYTES → n ≤ spare → Leaves bodies.Puts (spare - n) → spare ≤ n
exact_is spare n few fits leaves =
    elim leaves [
      | inl none ↦ omega (arith, none)
      | inr some ↦ absurd (omega (arith, few, some))
    ]

-- with more bytes left than a value has it is not all of them
most_is : (spare n : ℕ) → MAX_VALUE_BYTES < spare → n ≤ MAX_VALUE_BYTES → Leaves bodies.Puts (spare - n) → n ≤ spare - LEAST_PUT_BYTES
most_is spare n many short leaves =
    elim leaves [
      | inl none ↦ absurd (omega (arith, many, short, none))
      | inr some ↦ omega (arith, some)
    ]

few_reads : (spare : ℕ) → spare < LEAST_PUT_BYTES → Reads (exact_at spare) (IsPutCount spare)
few_reads spare few =
    Reads-as (exact_at spare) (IsNumber four_places spare spare) (IsPutCount spare)
    (number_reads four_places spare spare (refl, (refl, (refl, (refl, tt)))) (omega arith) (omega (arith, few)))
    (λ n text i. exact_to spare n text (omega (arith, few)) i)
    (λ n text i. record { least_is = exact_is spare n few i.fits i.leaves; most_is = i.fits; digits = i.digits })

many_reads : (spare : ℕ) → MAX_VALUE_BYTES < spare → Reads (most_at spare) (IsPutCount spare)
many_reads spare many =
    Reads-as (most_at spare) (IsNumber four_places 0 (min (spare - LEAST_PUT_BYTES) MAX_VALUE_BYTES)) (IsPutCount spare)
    (number_reads four_places 0 (min (spare - LEAST_PUT_BYTES) MAX_VALUE_BYTES) (refl, (refl, (refl, (refl, tt)))) (omega arith) (omega arith))
    (λ n text i. below_to spare n text (omega (arith, i.most_is)) (omega (arith, i.most_is, many)) i.digits)
    (λ n text i. record { least_is = omega arith; most_is = let low = most_is spare n many i.short i.leaves in omega (arith, low, i.short); digits = i.digits })

abbrev EitherCount : ℕ → ℕ → List ℕ → Type 0
EitherCount spare = Either (IsNumber four_places 0 (spare - LEAST_PUT_BYTES)) (IsNumber four_places spare spare)

some_to : (spare n : ℕ) (text : List ℕ) → LEAST_PUT_BYTES ≤ spare → spare ≤ MAX_VALUE_BYTES → EitherCount spare n text → IsPutCount spare n text
some_to spare n text some short t =
    elim t [
      | inl i ↦ below_to spare n text (omega (arith, i.most_is, short)) (omega (arith, i.most_is, some)) i.digits
      | inr i ↦ exact_to spare n text short i
    ]

some_from : (spare n : ℕ) (text : List ℕ) → IsPutCount spare n text → EitherCount spare n text
some_from spare n text i =
    elim i.leaves [
      | inl none ↦ inr (record { least_is = omega (arith, none); most_is = i.fits; digits = i.digits })
      | inr some ↦ inl (record { least_is = omega arith; most_is = omega (arith, some); digits = i.digits })
    ]

some_reads : (spare : ℕ) → LEAST_PUT_BYTES ≤ spare → spare ≤ MAX_VALUE_BYTES → Reads (λ bytes. or_else (below_at spare bytes) (exact_at spare bytes)) (IsPutCount spare)
some_reads spare some short =
    Reads-as (λ bytes. or_else (below_at spare bytes) (exact_at spare bytes)) (EitherCount spare) (IsPutCount spare)
    (Reads-either (below_at spare) (exact_at spare) (IsNumber four_places 0 (spare - LEAST_PUT_BYTES)) (IsNumber four_places spare spare)
    (number_reads four_places 0 (spare - LEAST_PUT_BYTES) (refl, (refl, (refl, (refl, tt)))) (omega arith) (omega arith))
    (number_reads four_places spare spare (refl, (refl, (refl, (refl, tt)))) (omega arith) (omega (arith, short)))
    (λ n text more i. number_above four_places (spare - LEAST_PUT_BYTES) 0 n text more i.digits (omega arith) (omega (arith, i.least_is, some))))
    (λ n text t. some_to spare n text some short t)
    (λ n text i. some_from spare n text i)

not_few_reads : (spare : ℕ) → LEAST_PUT_BYTES ≤ spare → Reads (put_count_within spare) (IsPutCount spare)
not_few_reads spare some =
    elim (true_or_false (nat_lt MAX_VALUE_BYTES spare)) [
      | inl t ↦ Reads-same (most_at spare) (put_count_within spare) (IsPutCount spare) (many_reads spare (grind (arith, nat_tests)))
          (λ bytes. cond_true (nat_lt MAX_VALUE_BYTES spare) (most_at spare bytes) (or_else (below_at spare bytes) (exact_at spare bytes)) t)
      | inr f ↦ Reads-same (λ bytes. or_else (below_at spare bytes) (exact_at spare bytes)) (put_count_within spare) (IsPutCount spare) (some_reads spare some (grind (arith, nat_tests)))
          (λ bytes. cond_false (nat_lt MAX_VALUE_BYTES spare) (most_at spare bytes) (or_else (below_at spare bytes) (exact_at spare bytes)) f)
    ]

put_count_reads : (spare : ℕ) → Reads (put_count_at spare) (IsPutCount spare)
put_count_reads spare =
    elim (true_or_false (nat_lt spare LEAST_PUT_BYTES)) [
      | inl t ↦ Reads-same (exact_at spare) (put_count_at spare) (IsPutCount spare) (few_reads spare (grind (arith, nat_tests)))
          (λ bytes. cond_true (nat_lt spare LEAST_PUT_BYTES) (exact_at spare bytes) (put_count_within spare bytes) t)
      | inr f ↦ Reads-same (put_count_within spare) (put_count_at spare) (IsPutCount spare) (not_few_reads spare (grind (arith, nat_tests)))
          (λ bytes. cond_false (nat_lt spare LEAST_PUT_BYTES) (exact_at spare bytes) (put_count_within spare bytes) f)
    ]

put_value_reads : (spare : ℕ) → Reads (value_at bodies.Puts spare) (IsValue bodies.Puts spare)
put_value_reads spare =
    Reads-as (value_at bodies.Puts spare) (Then (IsPutCount spare) (λ count. IsRun count)) (IsValue bodies.Puts spare)
    (Reads-then (put_count_at spare) (λ count. bytes_at count) (IsPutCount spare) (λ count. IsRun count) (put_count_reads spare) (λ count text i. run_reads count))
    (λ value text t. record {
      short = omega (arith, t.before.short, t.after.0);
      fits = omega (arith, t.before.fits, t.after.0);
      leaves = subst (λ n. Leaves bodies.Puts (spare - n)) (sym t.after.0) t.before.leaves;
      text_is = t.joined ∙ ap (λ s. t.first ++ s) t.after.1 ∙ ap (λ d. d ++ value) (digits_four (length value) t.first (subst (λ n. AreDigits four_places n t.first) (sym t.after.0) t.before.digits));
    })
    (λ value text i. record {
      x = length value;
      first = to_be_bytes w32 (length value);
      second = value;
      before = record { short = i.short; fits = i.fits; leaves = i.leaves; digits = four_digits (length value) (omega (arith, i.short)) };
      after = (refl, refl);
      joined = i.text_is;
    })

any_value_reads : (spare : ℕ) → Reads (value_at bodies.Changes spare) (IsValue bodies.Changes spare)
any_value_reads spare =
    Reads-as (counted_at four_places (min MAX_VALUE_BYTES spare)) (IsCounted four_places (min MAX_VALUE_BYTES spare)) (IsValue bodies.Changes spare)
    (counted_reads four_places (min MAX_VALUE_BYTES spare) (refl, (refl, (refl, (refl, tt)))) (omega arith))
    (λ value text i. record {
      short = omega (arith, i.most_is);
      fits = omega (arith, i.most_is);
      leaves = tt;
      text_is = i.joined ∙ ap (λ d. d ++ value) (digits_four (length value) i.digits i.are_digits);
    })
    (λ value text i. record {
      most_is = omega (arith, i.short, i.fits);
      digits = to_be_bytes w32 (length value);
      are_digits = four_digits (length value) (omega (arith, i.short));
      joined = i.text_is;
    })

pub value_reads : (b : Body) (spare : ℕ) → Reads (value_at b spare) (IsValue b spare)
value_reads bodies.Changes spare = any_value_reads spare
value_reads bodies.Puts spare = put_value_reads spare

-- ---- the first byte of a change

abbrev pub byte_of : Kind → ℕ
byte_of kind.PutString = 1
byte_of kind.PutField = 2
byte_of kind.DropString = 3
byte_of kind.DropField = 4
byte_of kind.DropKey = 5
byte_of kind.Clear = 6

kind_of-byte : (k : Kind) → kind_of (byte_of k) ≡ Some k
kind_of-byte kind.PutString = refl
kind_of-byte kind.PutField = refl
kind_of-byte kind.DropString = refl
kind_of-byte kind.DropField = refl
kind_of-byte kind.DropKey = refl
kind_of-byte kind.Clear = refl

byte-kind_of : (byte : ℕ) (k : Kind) → kind_of byte ≡ Some k → byte ≡ byte_of k
byte-kind_of byte k e = grind (arith, nat_tests)

-- such a body holds changes of this kind
abbrev pub IsOf : Body → Kind → Type 0
IsOf bodies.Changes k = Unit {0}
IsOf bodies.Puts kind.PutString = Unit {0}
IsOf bodies.Puts kind.PutField = Unit {0}
IsOf bodies.Puts other = ⊥

-- how many bytes the changes of such a body have at least
abbrev pub least_of : Body → ℕ
least_of bodies.Changes = 1
least_of bodies.Puts = LEAST_PUT_BYTES

pub least_of-kind : (b : Body) (k : Kind) → IsOf b k → least_of b ≤ least_size k
least_of-kind bodies.Changes kind.PutString of = omega arith
least_of-kind bodies.Changes kind.PutField of = omega arith
least_of-kind bodies.Changes kind.DropString of = omega arith
least_of-kind bodies.Changes kind.DropField of = omega arith
least_of-kind bodies.Changes kind.DropKey of = omega arith
least_of-kind bodies.Changes kind.Clear of = omega arith
least_of-kind bodies.Puts kind.PutString of = omega arith
least_of-kind bodies.Puts kind.PutField of = omega arith
least_of-kind bodies.Puts kind.DropString of = absurd of
least_of-kind bodies.Puts kind.DropField of = absurd of
least_of-kind bodies.Puts kind.DropKey of = absurd of
least_of-kind bodies.Puts kind.Clear of = absurd of

kind_in-byte : (b : Body) (k : Kind) → IsOf b k → kind_in b (byte_of k) ≡ Some k
kind_in-byte bodies.Changes k of = kind_of-byte k
kind_in-byte bodies.Puts kind.PutString of = refl
kind_in-byte bodies.Puts kind.PutField of = refl
kind_in-byte bodies.Puts kind.DropString of = absurd of
kind_in-byte bodies.Puts kind.DropField of = absurd of
kind_in-byte bodies.Puts kind.DropKey of = absurd of
kind_in-byte bodies.Puts kind.Clear of = absurd of

byte-put_kind_of : (byte : ℕ) (k : Kind) → put_kind_of byte ≡ Some k → byte ≡ byte_of k
byte-put_kind_of byte k e = grind (arith, nat_tests)

byte-kind_in : (b : Body) (byte : ℕ) (k : Kind) → kind_in b byte ≡ Some k → byte ≡ byte_of k
byte-kind_in bodies.Changes byte k e = byte-kind_of byte k e
byte-kind_in bodies.Puts byte k e = byte-put_kind_of byte k e

kind_in-of : (b : Body) (byte : ℕ) (k : Kind) → kind_in b byte ≡ Some k → IsOf b k
kind_in-of bodies.Changes byte k e = tt
kind_in-of bodies.Puts byte kind.PutString e = tt
kind_in-of bodies.Puts byte kind.PutField e = tt
kind_in-of bodies.Puts byte kind.DropString e = absurd (grind (arith, nat_tests))
kind_in-of bodies.Puts byte kind.DropField e = absurd (grind (arith, nat_tests))
kind_in-of bodies.Puts byte kind.DropKey e = absurd (grind (arith, nat_tests))
kind_in-of bodies.Puts byte kind.Clear e = absurd (grind (arith, nat_tests))

-- the first byte of a change of this kind in such a body, which may have so many bytes
pub record IsKind (b : Body) (left : ℕ) (k : Kind) (text : List ℕ) : Type 0 where
  pub fits : least_size k ≤ left
  pub of : IsOf b k
  pub text_is : text ≡ byte_of k ∷ []

kind_again : (b : Body) (left : ℕ) (k : Kind) (text more : List ℕ) → IsKind b left k text → kind_at b left (text ++ more) ≡ Ok (k, more)
kind_again b left k text more i =
    ap (λ t. kind_at b left (t ++ more)) i.text_is ∙ ap (kind_within left more) (kind_in-byte b k i.of)
    ∙ cond_true (nat_le (least_size k) left) (Ok (k, more)) (Err (Broken tt)) (grind (arith, nat_tests, i.fits))

within_takes : (b : Body) (left byte : ℕ) (bytes : List ℕ) (o : Option Kind) → kind_in b byte ≡ o → (k : Kind) (rest : List ℕ) → kind_within left bytes o ≡ Ok (k, rest) → (text : List ℕ) × IsKind b left k text × (byte ∷ bytes ≡ text ++ rest)
within_takes b left byte bytes None h k rest e = absurd cc
within_takes b left byte bytes (Some x) h k rest e =
    elim (true_or_false (nat_le (least_size x) left)) [
      | inl t ↦ let same = ok_parts x k bytes rest (sym (cond_true (nat_le (least_size x) left) (Ok (x, bytes)) (Err (Broken tt)) t) ∙ e) in
          let fits : least_size x ≤ left = grind (arith, nat_tests) in
          let is : byte ≡ byte_of k = byte-kind_in b byte k (h ∙ ap Some same.0) in
          (byte_of k ∷ [], record { fits = subst (λ y. least_size y ≤ left) same.0 fits; of = kind_in-of b byte k (h ∙ ap Some same.0); text_is = refl }, ap (λ first. first ∷ bytes) is ∙ ap (λ s. byte_of k ∷ s) same.1)
      | inr f ↦ let broken = sym (cond_false (nat_le (least_size x) left) (Ok (x, bytes)) (Err (Broken tt)) f) ∙ e in absurd cc
    ]

within_not_short : (left : ℕ) (bytes : List ℕ) (o : Option Kind) → kind_within left bytes o ≡ Err Short → ⊥
within_not_short left bytes None e = absurd cc
within_not_short left bytes (Some x) e =
    elim (true_or_false (nat_le (least_size x) left)) [
      | inl t ↦ let is = sym (cond_true (nat_le (least_size x) left) (Ok (x, bytes)) (Err (Broken tt)) t) ∙ e in absurd cc
      | inr f ↦ let is = sym (cond_false (nat_le (least_size x) left) (Ok (x, bytes)) (Err (Broken tt)) f) ∙ e in absurd cc
    ]

within_stays : (left : ℕ) (bytes more : List ℕ) (o : Option Kind) → kind_within left bytes o ≡ Err (Broken tt) → kind_within left (bytes ++ more) o ≡ Err (Broken tt)
within_stays left bytes more None e = refl
within_stays left bytes more (Some x) e =
    elim (true_or_false (nat_le (least_size x) left)) [
      | inl t ↦ let is = sym (cond_true (nat_le (least_size x) left) (Ok (x, bytes)) (Err (Broken tt)) t) ∙ e in absurd cc
      | inr f ↦ cond_false (nat_le (least_size x) left) (Ok (x, bytes ++ more)) (Err (Broken tt)) f
    ]

pub kind_takes : (b : Body) (left : ℕ) (bytes : List ℕ) (k : Kind) (rest : List ℕ) → kind_at b left bytes ≡ Ok (k, rest) → (text : List ℕ) × IsKind b left k text × (bytes ≡ text ++ rest)
kind_takes b left [] k rest e = absurd cc
kind_takes b left (byte ∷ bytes) k rest e = within_takes b left byte bytes (kind_in b byte) refl k rest e

-- where a kind was read there was room for a change
pub kind_fits : (b : Body) (left : ℕ) (bytes : List ℕ) (k : Kind) (rest : List ℕ) → kind_at b left bytes ≡ Ok (k, rest) → least_of b ≤ left
kind_fits b left bytes k rest e = let t = kind_takes b left bytes k rest e in omega (arith, t.1.fits, least_of-kind b k t.1.of)

kind_short : (b : Body) (left : ℕ) → least_of b ≤ left → (bytes : List ℕ) → kind_at b left bytes ≡ Err Short → (k : Kind) × (more : List ℕ) × IsKind b left k (bytes ++ more)
kind_short bodies.Changes left h [] e = (kind.Clear, 6 ∷ [], record { fits = h; of = tt; text_is = refl })
kind_short bodies.Puts left h [] e = (kind.PutString, 1 ∷ [], record { fits = h; of = tt; text_is = refl })
kind_short b left h (byte ∷ bytes) e = absurd (within_not_short left bytes (kind_in b byte) e)

kind_stays : (b : Body) (left : ℕ) (bytes more : List ℕ) → kind_at b left bytes ≡ Err (Broken tt) → kind_at b left (bytes ++ more) ≡ Err (Broken tt)
kind_stays b left [] more e = absurd cc
kind_stays b left (byte ∷ bytes) more e = within_stays left bytes more (kind_in b byte) e

pub kind_reads : (b : Body) (left : ℕ) → least_of b ≤ left → Reads (kind_at b left) (IsKind b left)
kind_reads b left h =
    record {
      begins = λ e. absurd cc;
      again = λ k text more i. kind_again b left k text more i;
      takes = λ bytes k rest e. kind_takes b left bytes k rest e;
      short = λ bytes e. kind_short b left h bytes e;
      stays = λ bytes more e. kind_stays b left bytes more e;
    }
