-- Bytes of which so many are missing that nothing is whole, whatever bytes they are.
use Rattle.std.proofs.Common.{◌≡◌, ℕ, zero, suc, ◌+◌, ◌-◌, ◌*◌, ◌^◌, ◌<◌, ◌≤◌, true, nat_eq, List, [], ◌∷◌, ◌++◌, length, Result, Ok, Err, refl, sym, ap, subst, ◌∙◌, arith}
use Rattle.std.proofs.lemmas.Bool.Decides.{nat_tests}
use Rattle.std.proofs.lemmas.List.{length-append}
use Rattle.std.proofs.lemmas.Nat.{mul-le, pow-add, leading_length}
use Rattle.std.proofs.Math.Nat.{pow-suc, suc-mul, one-le-pow}
use Rattle.std.proofs.Math.Pow.{pow_mono}
use Rattle.std.specs.Int.{w64, leading_zeros}
use Rattle.std.specs.List.{starts_with}
use Rattle.kv_types.specs.declared.stop.Stop.{Stop}
use Rattle.kv_types.specs.declared.stop.Stop.TheVariants.{Short, Broken}
use Rattle.kv_types.specs.Reader.{◌>>=◌, skipped}
use Rattle.kv_types.specs.declared.record_id.RecordId.TheVariants.{Str, Field}
use Rattle.kv_types.specs.declared.change.Change.{Change}
use Rattle.kv_types.specs.declared.change.Change.TheVariants.{Put, Drop}
use Rattle.stream_codec.specs.declared.change.Body.{Body}
use Rattle.stream_codec.specs.declared.change.Body.TheVariants as bodies
use Rattle.stream_codec.specs.declared.change.Kind.{Kind}
use Rattle.stream_codec.specs.declared.change.Kind.TheVariants as kind
use Rattle.stream_codec.specs.declared.head.Head.{Head}
use Rattle.stream_codec.specs.declared.head.Head.TheVariants as head
use Rattle.stream_codec.specs.declared.head.HeadKind.TheVariants as head_kind
use Rattle.stream_codec.specs.declared.step.Next.{Next}
use Rattle.stream_codec.specs.declared.step.Next.TheVariants as next
use Rattle.stream_codec.specs.Bytes.{Outcome, IsBytes, eight_places, ArePlaces}
use Rattle.stream_codec.specs.Reading.{least_size, kind_at, name_at, value_at, change_of, change_at, changes_at, long_at, head_of}
use Rattle.stream_codec.specs.declared.message.TheConstants.{MAX_BODY_BYTES}
use Rattle.stream_codec.specs.Stepping.{IsMore, size_end, after_end, before_end, numbers_end, part_size_end, part_number_end, part_position_end, end_from}
use Rattle.stream_codec.specs.Scanning.{Waits, field_and_value_at}
use Rattle.stream_codec.proofs.Readers.{Reads, grows}
use Rattle.stream_codec.proofs.Numbers.{number_grows, IsBytes-end, IsBytes-append, number_waits, number_waits_above, number_unbroken}
use Rattle.stream_codec.proofs.Names.{IsName, name_reads, IsKind, kind_fits, kind_reads}
use Rattle.stream_codec.proofs.Bodies.{changes_at-stop}

-- what waits in the first of two readers
pub waits_first : {A B : Type 0} (r : List ℕ → Outcome A) (f : A × List ℕ → Result B (Stop Unit)) (bytes : List ℕ) (missing : ℕ) → Waits r bytes missing → Waits (λ b. r b >>= f) bytes missing
waits_first r f bytes missing w more are h = ap (λ z. z >>= f) (w more are h)

-- and in the second
pub waits_second : {A B : Type 0} (r : List ℕ → Outcome A) (S : A → List ℕ → Type 0) (f : A × List ℕ → Result B (Stop Unit)) → Reads r S → (bytes : List ℕ) (x : A) (rest : List ℕ) (missing : ℕ) → r bytes ≡ Ok (x, rest) → Waits (λ b. f (x, b)) rest missing → Waits (λ b. r b >>= f) bytes missing
waits_second r S f p bytes x rest missing e w more are h = ap (λ z. z >>= f) (grows r S p bytes more x rest e) ∙ w more are h

-- behind a key or a field
waits_behind : {B : Type 0} (spare : ℕ) (f : List ℕ × List ℕ → Result B (Stop Unit)) (bytes name rest : List ℕ) (missing : ℕ) → name_at spare bytes ≡ Ok (name, rest) → Waits (λ b. f (name, b)) rest missing → Waits (λ b. name_at spare b >>= f) bytes missing
waits_behind spare f bytes name rest missing e w = waits_second (name_at spare) (IsName spare) f (name_reads spare) bytes name rest missing e w

pub waits_field_and_value : (b : Body) (spare : ℕ) (bytes field rest : List ℕ) (missing : ℕ) → name_at spare bytes ≡ Ok (field, rest) → Waits (value_at b (spare - length field)) rest missing → Waits (field_and_value_at b spare) bytes missing
waits_field_and_value b spare bytes field rest missing e w = waits_behind spare (λ name. value_at b (spare - length name.0) name.1) bytes field rest missing e w

-- ---- changes

abbrev done : Change → List ℕ → Outcome Change
done change rest = Ok (change, rest)

pub waits_put_string : (b : Body) (k : Kind) (spare : ℕ) (bytes key rest : List ℕ) (missing : ℕ) → k ≡ kind.PutString → name_at spare bytes ≡ Ok (key, rest) → Waits (value_at b (spare - length key)) rest missing → Waits (change_of b k spare) bytes missing
waits_put_string b k spare bytes key rest missing is e w more are h =
    ap (λ z. change_of b z spare (bytes ++ more)) is
    ∙ waits_behind spare (λ name. value_at b (spare - length name.0) name.1 >>= λ value. done (Put (Str name.0) value.0) value.1) bytes key rest missing e
    (waits_first (value_at b (spare - length key)) (λ value. done (Put (Str key) value.0) value.1) rest missing w) more are h

field_or_value : (b : Body) (spare : ℕ) (key : List ℕ) (r : Outcome (List ℕ)) → (r >>= λ field. value_at b (spare - length field.0) field.1) ≡ Err Short → (r >>= λ field. value_at b (spare - length field.0) field.1 >>= λ value. done (Put (Field key field.0) value.0) value.1) ≡ Err Short
field_or_value b spare key (Ok field) h = ap (λ z. z >>= λ value. done (Put (Field key field.0) value.0) value.1) h
field_or_value b spare key (Err stop) h = cc

pub waits_put_field : (b : Body) (k : Kind) (spare : ℕ) (bytes key rest : List ℕ) (missing : ℕ) → k ≡ kind.PutField → name_at spare bytes ≡ Ok (key, rest) → Waits (field_and_value_at b (spare - length key)) rest missing → Waits (change_of b k spare) bytes missing
waits_put_field b k spare bytes key rest missing is e w more are h =
    ap (λ z. change_of b z spare (bytes ++ more)) is
    ∙ waits_behind spare (λ name. name_at (spare - length name.0) name.1 >>= λ field. value_at b (spare - length name.0 - length field.0) field.1 >>= λ value. done (Put (Field name.0 field.0) value.0) value.1) bytes key rest missing e
    (λ others bytes_are less. field_or_value b (spare - length key) key (name_at (spare - length key) (rest ++ others)) (w others bytes_are less)) more are h

pub waits_drop_field : (b : Body) (k : Kind) (spare : ℕ) (bytes key rest : List ℕ) (missing : ℕ) → k ≡ kind.DropField → name_at spare bytes ≡ Ok (key, rest) → Waits (name_at (spare - length key)) rest missing → Waits (change_of b k spare) bytes missing
waits_drop_field b k spare bytes key rest missing is e w more are h =
    ap (λ z. change_of b z spare (bytes ++ more)) is
    ∙ waits_behind spare (λ name. name_at (spare - length name.0) name.1 >>= λ field. done (Drop (Field name.0 field.0)) field.1) bytes key rest missing e
    (waits_first (name_at (spare - length key)) (λ field. done (Drop (Field key field.0)) field.1) rest missing w) more are h

pub waits_change : (b : Body) (left : ℕ) (bytes : List ℕ) (k : Kind) (rest : List ℕ) (least missing : ℕ) → least ≡ least_size k → kind_at b left bytes ≡ Ok (k, rest) → Waits (change_of b k (left - least)) rest missing → Waits (change_at b left) bytes missing
unfolding change_at
waits_change b left bytes k rest least missing is e w =
    waits_second (kind_at b left) (IsKind b left) (λ x. change_of b x.0 (left - least_size x.0) x.1) (kind_reads b left (kind_fits b left bytes k rest e)) bytes k rest missing e
    (λ more are h. ap (λ n. change_of b k (left - n) (rest ++ more)) (sym is) ∙ w more are h)

-- ---- frames

pub waits_changes : (n : Next) (b : Body) (left : ℕ) (bytes : List ℕ) (missing : ℕ) → n ≡ next.Changes b left → IsMore n → Waits (change_at b left) bytes missing → Waits (end_from n) bytes missing
waits_changes n b left bytes missing is more_is w more are h =
    ap (λ z. end_from z (bytes ++ more)) is ∙ ap skipped (changes_at-stop b left (bytes ++ more) Short (subst IsMore is more_is) (w more are h))

-- ---- the numbers of frames that no byte can break, or only the last

are_eight : ArePlaces eight_places
are_eight = (refl, (refl, (refl, (refl, (refl, (refl, (refl, (refl, tt))))))))

-- a number of which only the last byte can be broken
long_waits : (most : ℕ) → 2 ^ 64 ≤ most + 256 → (bytes : List ℕ) → IsBytes bytes → length bytes < 8 → long_at 0 most bytes ≡ Err Short
long_waits most wide bytes are h = number_waits eight_places most 0 are_eight (omega (arith, wide)) bytes are (omega (arith, h))

-- a number that cannot be broken, and another reader behind it that waits for so many bytes
behind_long : {B : Type 0} (g : ℕ × List ℕ → Result B (Stop Unit)) (count : ℕ) → ((n : ℕ) (rest : List ℕ) → IsBytes rest → length rest < count → g (n, rest) ≡ Err Short) → (bytes : List ℕ) → IsBytes bytes → length bytes < 8 + count → (r : Outcome ℕ) → long_at 0 (2 ^ 64 - 1) bytes ≡ r → (r >>= g) ≡ Err Short
behind_long g count waits bytes are h (Ok n) e =
    let t = number_grows eight_places 0 (2 ^ 64 - 1) 0 bytes [] n.0 n.1 e in
    waits n.0 n.1 (IsBytes-end t.1 n.1 (subst IsBytes t.2 are)) (omega (arith, h, ap length t.2, length-append t.1 n.1, t.3))
behind_long g count waits bytes are h (Err Short) e = refl
behind_long g count waits bytes are h (Err (Broken fault)) e = absurd (number_unbroken eight_places (2 ^ 64 - 1) 0 are_eight (omega arith) bytes are e)

before_waits : (bytes : List ℕ) → IsBytes bytes → length bytes < 8 → before_end bytes ≡ Err Short
before_waits bytes are h = ap (λ z. z >>= λ before. after_end (before.0 + 1) before.1) (long_waits (2 ^ 64 - 2) (omega arith) bytes are h)

-- numbers that cannot be broken, one behind the other
numbers_wait : (left : ℕ) (bytes : List ℕ) → IsBytes bytes → length bytes < 8 * left → numbers_end left bytes ≡ Err Short
numbers_wait zero bytes are h = absurd (omega (arith, h))
numbers_wait (suc left) bytes are h =
    behind_long (λ number. numbers_end left number.1) (8 * left) (λ n rest rest_are k. numbers_wait left rest rest_are k) bytes are (omega (arith, h)) (long_at 0 (2 ^ 64 - 1) bytes) refl

part_number_waits : (bytes : List ℕ) → IsBytes bytes → length bytes < 8 → part_number_end bytes ≡ Err Short
part_number_waits bytes are h = ap (λ z. z >>= λ number. part_size_end number.1) (long_waits (2 ^ 64 - 1) (omega arith) bytes are h)

part_position_waits : (bytes : List ℕ) → IsBytes bytes → length bytes < 16 → part_position_end bytes ≡ Err Short
part_position_waits bytes are h = behind_long (λ position. part_number_end position.1) 8 (λ n. part_number_waits) bytes are (omega (arith, h)) (long_at 0 (2 ^ 64 - 1) bytes) refl

-- the numbers of an acknowledgement are short until all of their bytes are there
pub ack_waits : (bytes : List ℕ) → IsBytes bytes → length bytes < 16 → head_of head_kind.Ack bytes ≡ Err Short
ack_waits bytes are h =
    let ack : ℕ → ℕ × List ℕ → Outcome Head = λ epoch position. Ok (head.Ack (record { epoch = epoch; position = position.0 }), position.1) in
    behind_long (λ epoch. long_at 0 (2 ^ 64 - 1) epoch.1 >>= ack epoch.0) 8
    (λ epoch rest rest_are k. ap (λ z. z >>= ack epoch) (long_waits (2 ^ 64 - 1) (omega arith) rest rest_are k)) bytes are (omega (arith, h)) (long_at 0 (2 ^ 64 - 1) bytes) refl

-- what waits for so many bytes from its front on
waits_until : (n m : Next) (count : ℕ) → n ≡ m → ((all : List ℕ) → IsBytes all → length all < count → end_from m all ≡ Err Short) → (bytes : List ℕ) (missing : ℕ) → IsBytes bytes → missing ≤ count - length bytes → Waits (end_from n) bytes missing
waits_until n m count is waits bytes missing are fits more more_are h =
    ap (λ z. end_from z (bytes ++ more)) is
    ∙ waits (bytes ++ more) (IsBytes-append bytes more are more_are) (omega (arith, h, fits, length-append bytes more))

pub waits_epoch : (n : Next) (bytes : List ℕ) (missing : ℕ) → n ≡ next.Epoch → IsBytes bytes → missing ≤ 16 - length bytes → Waits (end_from n) bytes missing
waits_epoch n bytes missing is are fits =
    waits_until n next.Epoch 16 is (λ all all_are h. behind_long (λ n. before_end n.1) 8 (λ n. before_waits) all all_are (omega (arith, h)) (long_at 0 (2 ^ 64 - 1) all) refl) bytes missing are fits

pub waits_before : (n : Next) (bytes : List ℕ) (missing : ℕ) → n ≡ next.Before → IsBytes bytes → missing ≤ 8 - length bytes → Waits (end_from n) bytes missing
waits_before n bytes missing is are fits = waits_until n next.Before 8 is before_waits bytes missing are fits

pub waits_numbers : (n : Next) (left count : ℕ) (bytes : List ℕ) (missing : ℕ) → n ≡ next.Numbers left → IsBytes bytes → count ≤ 8 * left → missing ≤ count - length bytes → Waits (end_from n) bytes missing
waits_numbers n left count bytes missing is are some fits = waits_until n (next.Numbers left) (8 * left) is (numbers_wait left) bytes missing are (omega (arith, some, fits))

pub waits_part_epoch : (n : Next) (bytes : List ℕ) (missing : ℕ) → n ≡ next.PartEpoch → IsBytes bytes → missing ≤ 24 - length bytes → Waits (end_from n) bytes missing
waits_part_epoch n bytes missing is are fits =
    waits_until n next.PartEpoch 24 is (λ all all_are h. behind_long (λ n. part_position_end n.1) 16 (λ n. part_position_waits) all all_are (omega (arith, h)) (long_at 0 (2 ^ 64 - 1) all) refl) bytes missing are fits

pub waits_part_position : (n : Next) (bytes : List ℕ) (missing : ℕ) → n ≡ next.PartPosition → IsBytes bytes → missing ≤ 16 - length bytes → Waits (end_from n) bytes missing
waits_part_position n bytes missing is are fits = waits_until n next.PartPosition 16 is part_position_waits bytes missing are fits

pub waits_part_number : (n : Next) (bytes : List ℕ) (missing : ℕ) → n ≡ next.PartNumber → IsBytes bytes → missing ≤ 8 - length bytes → Waits (end_from n) bytes missing
waits_part_number n bytes missing is are fits = waits_until n next.PartNumber 8 is part_number_waits bytes missing are fits

-- ---- the numbers of frames that a leading byte may break

pow_256 : (k : ℕ) → 256 ^ k ≡ 2 ^ (8 * k)
pow_256 zero = refl
pow_256 (suc k) = let step : 8 * k + 8 ≡ 8 * suc k = omega arith in pow-suc 256 k ∙ ap (λ n. n * 256) (pow_256 k) ∙ sym (pow-add 2 (8 * k) 8) ∙ ap (λ n. 2 ^ n) step

-- a number with so many zeros in front
scaled_below : (n k m : ℕ) → n < 2 ^ m → m + 8 * k ≤ 64 → n * 256 ^ k < 2 ^ 64
scaled_below n k m low fits =
    let some = one-le-pow k 256 (omega arith) in
    let grown : suc n * 256 ^ k ≤ 2 ^ m * 256 ^ k = mul-le (suc n) (256 ^ k) (2 ^ m) (256 ^ k) low (omega arith) in
    let joined : 2 ^ m * 256 ^ k ≡ 2 ^ (m + 8 * k) = ap (λ p. 2 ^ m * p) (pow_256 k) ∙ sym (pow-add 2 m (8 * k)) in
    let within : 2 ^ (m + 8 * k) ≤ 2 ^ 64 = pow_mono fits in
    let next = suc-mul n (256 ^ k) in
    omega (arith, some, grown, joined, within, next)

-- the position after a group: as many bytes as what it has to be at least has zeros in front
after_waits : (least : ℕ) → least < 2 ^ 64 → (bytes : List ℕ) → IsBytes bytes → length bytes < 8 → 8 * length bytes ≤ leading_zeros w64 least → after_end least bytes ≡ Err Short
after_waits least fits bytes are h in_front =
    let t = leading_length 64 least fits in
    let low = scaled_below least (length bytes) t.0 t.2 (omega (arith, t.1, in_front)) in
    ap (λ z. z >>= λ after. size_end after.1) (number_waits_above eight_places least (2 ^ 64 - 1) 0 are_eight (omega arith) bytes are (omega (arith, h)) low)

pub waits_after : (least : ℕ) → least < 2 ^ 64 → (bytes : List ℕ) (first missing : ℕ) → IsBytes bytes → first ≤ 7 → 8 * first ≤ leading_zeros w64 least → missing ≤ first + 1 - length bytes → Waits (after_end least) bytes missing
waits_after least least_fits bytes first missing are few in_front fits more more_are h =
    after_waits least least_fits (bytes ++ more) (IsBytes-append bytes more are more_are) (omega (arith, h, fits, few, length-append bytes more)) (omega (arith, h, fits, in_front, length-append bytes more))

-- the length of a body that begins with three zeros
size_waits : (bytes : List ℕ) → IsBytes bytes → length bytes < 5 → size_end (0 ∷ 0 ∷ 0 ∷ bytes) ≡ Err Short
size_waits bytes are h =
    ap (λ z. z >>= λ size. skipped (changes_at bodies.Changes size.0 size.1))
    (number_waits (2 ^ 32 ∷ 2 ^ 24 ∷ 2 ^ 16 ∷ 2 ^ 8 ∷ 1 ∷ []) MAX_BODY_BYTES 0 are_eight.1.1.1 (omega arith) bytes are (omega (arith, h)))

three_zeros : (bytes : List ℕ) → starts_with nat_eq bytes (0 ∷ 0 ∷ 0 ∷ []) ≡ true → (rest : List ℕ) × (bytes ≡ 0 ∷ 0 ∷ 0 ∷ rest)
three_zeros [] e = absurd cc
three_zeros (a ∷ []) e = absurd (grind (arith, nat_tests))
three_zeros (a ∷ b ∷ []) e = absurd (grind (arith, nat_tests))
three_zeros (a ∷ b ∷ c ∷ rest) e =
    let x : a ≡ 0 = grind (arith, nat_tests) in
    let y : b ≡ 0 = grind (arith, nat_tests) in
    let z : c ≡ 0 = grind (arith, nat_tests) in
    (rest, rw (x, y, z) refl)

pub waits_size : (bytes : List ℕ) (missing : ℕ) → starts_with nat_eq bytes (0 ∷ 0 ∷ 0 ∷ []) ≡ true → IsBytes bytes → missing ≤ 8 - length bytes → Waits size_end bytes missing
waits_size bytes missing e are fits more more_are h =
    let t = three_zeros bytes e in
    let rest_are : IsBytes t.0 = IsBytes-end (0 ∷ 0 ∷ 0 ∷ []) t.0 (subst IsBytes t.1 are) in
    ap (λ b. size_end (b ++ more)) t.1
    ∙ size_waits (t.0 ++ more) (IsBytes-append t.0 more rest_are more_are) (omega (arith, h, fits, ap length t.1, length-append t.0 more))
