-- The numbers of messages, as texts that are read.
use Rattle.std.proofs.Common.{◌≡◌, ℕ, ◌+◌, ◌-◌, ◌^◌, ◌<◌, ◌≤◌, List, [], ◌∷◌, ◌++◌, Option, None, Some, Ok, Err, refl, sym, ap, subst, ◌∙◌, arith}
use Rattle.std.proofs.lemmas.Bool.Decides.{nat_tests}
use Rattle.std.proofs.lemmas.List.{append-nil}
use Rattle.frames.specs.declared.ack.Ack.{Ack}
use Rattle.kv_types.specs.declared.stop.Stop.TheVariants.{Short, Broken}
use Rattle.kv_types.specs.Reader.{◌>>=◌}
use Rattle.kv_types.proofs.ReaderLemmas.{ok_parts}
use Rattle.stream_codec.specs.declared.message.TheConstants.{LEAST_PUT_BYTES, MAX_BODY_BYTES, MAX_PART_BYTES}
use Rattle.stream_codec.specs.declared.head.HeadKind.{HeadKind}
use Rattle.stream_codec.specs.declared.head.HeadKind.TheVariants as head_kind
use Rattle.stream_codec.specs.declared.head.Head.{Head}
use Rattle.stream_codec.specs.declared.head.Head.TheVariants as head
use Rattle.stream_codec.specs.Message.{long}
use Rattle.stream_codec.specs.Bytes.{Outcome, eight_places}
use Rattle.stream_codec.specs.Reading.{head_kind_of, known, head_kind_at, long_at, head_of, head_at}
use Rattle.stream_codec.proofs.Readers.{Reads, Reads-as, Reads-last, Reads-then, Last, Then, last, pair}
use Rattle.stream_codec.proofs.Numbers.{AreDigits, IsNumber, number_reads, digits_eight, eight_digits}

-- a number of eight bytes
pub record IsLong (least most n : ℕ) (text : List ℕ) : Type 0 where
  pub least_is : least ≤ n
  pub most_is : n ≤ most
  pub text_is : text ≡ long n

pub long_reads : (least most : ℕ) → least ≤ most → most < 2 ^ 64 → Reads (long_at least most) (IsLong least most)
long_reads least most some fits =
    Reads-as (long_at least most) (IsNumber eight_places least most) (IsLong least most)
    (number_reads eight_places least most (refl, (refl, (refl, (refl, (refl, (refl, (refl, (refl, tt)))))))) some (omega (arith, some, fits)))
    (λ n text i. record { least_is = i.least_is; most_is = i.most_is; text_is = digits_eight n text i.digits })
    (λ n text i. record { least_is = i.least_is; most_is = i.most_is; digits = subst (AreDigits eight_places n) (sym i.text_is) (eight_digits n (omega (arith, i.most_is, fits))) })

-- ---- numbers behind the first byte

abbrev pub numbers_text : Head → List ℕ
numbers_text (head.Group epoch before after size) = long epoch ++ (long before ++ (long after ++ long size))
numbers_text (head.Ack ack) = long ack.epoch ++ long ack.position
numbers_text (head.Wanted epoch) = long epoch
numbers_text (head.Part epoch position number size) = long epoch ++ (long position ++ (long number ++ long size))
numbers_text (head.End epoch position parts) = long epoch ++ (long position ++ long parts)

pub record IsGroupHead (epoch before after size : ℕ) : Type 0 where
  pub epoch_fits : epoch < 2 ^ 64
  pub rises : before < after
  pub after_fits : after < 2 ^ 64
  pub body : size ≤ MAX_BODY_BYTES

pub record IsPartHead (epoch position number size : ℕ) : Type 0 where
  pub epoch_fits : epoch < 2 ^ 64
  pub position_fits : position < 2 ^ 64
  pub number_fits : number < 2 ^ 64
  pub some : LEAST_PUT_BYTES ≤ size
  pub body : size ≤ MAX_PART_BYTES

abbrev pub IsHead : Head → Type 0
IsHead (head.Group epoch before after size) = IsGroupHead epoch before after size
IsHead (head.Ack ack) = (ack.epoch < 2 ^ 64) × (ack.position < 2 ^ 64)
IsHead (head.Wanted epoch) = epoch < 2 ^ 64
IsHead (head.Part epoch position number size) = IsPartHead epoch position number size
IsHead (head.End epoch position parts) = (epoch < 2 ^ 64) × (position < 2 ^ 64) × (parts < 2 ^ 64)

abbrev pub kind_of_head : Head → HeadKind
kind_of_head (head.Group epoch before after size) = head_kind.Group
kind_of_head (head.Ack ack) = head_kind.Ack
kind_of_head (head.Wanted epoch) = head_kind.Wanted
kind_of_head (head.Part epoch position number size) = head_kind.Part
kind_of_head (head.End epoch position parts) = head_kind.End

pub record AreNumbers (k : HeadKind) (h : Head) (text : List ℕ) : Type 0 where
  pub kind_is : kind_of_head h ≡ k
  pub within : IsHead h
  pub text_is : text ≡ numbers_text h

abbrev Size : ℕ → ℕ → ℕ → Head → List ℕ → Type 0
Size epoch before after = Last (IsLong 0 MAX_BODY_BYTES) (λ size. head.Group epoch before after size)

abbrev After : ℕ → ℕ → Head → List ℕ → Type 0
After epoch before = Then (IsLong (before + 1) (2 ^ 64 - 1)) (Size epoch before)

abbrev Before : ℕ → Head → List ℕ → Type 0
Before epoch = Then (IsLong 0 (2 ^ 64 - 2)) (After epoch)

abbrev Position : ℕ → Head → List ℕ → Type 0
Position epoch = Last (IsLong 0 (2 ^ 64 - 1)) (λ position. head.Ack (record { epoch = epoch; position = position }))

abbrev pub size_at : ℕ → ℕ → ℕ → List ℕ → Outcome Head
size_at epoch before after bytes = long_at 0 MAX_BODY_BYTES bytes >>= λ size. Ok (head.Group epoch before after size.0, size.1)

abbrev pub after_at : ℕ → ℕ → List ℕ → Outcome Head
after_at epoch before bytes = long_at (before + 1) (2 ^ 64 - 1) bytes >>= λ after. size_at epoch before after.0 after.1

abbrev pub before_at : ℕ → List ℕ → Outcome Head
before_at epoch bytes = long_at 0 (2 ^ 64 - 2) bytes >>= λ before. after_at epoch before.0 before.1

abbrev position_at : ℕ → List ℕ → Outcome Head
position_at epoch bytes = long_at 0 (2 ^ 64 - 1) bytes >>= λ position. Ok (head.Ack (record { epoch = epoch; position = position.0 }), position.1)

after_reads : (epoch before : ℕ) → before ≤ 2 ^ 64 - 2 → Reads (after_at epoch before) (After epoch before)
after_reads epoch before h =
    Reads-then (long_at (before + 1) (2 ^ 64 - 1)) (size_at epoch before) (IsLong (before + 1) (2 ^ 64 - 1)) (Size epoch before) (long_reads (before + 1) (2 ^ 64 - 1) (omega (arith, h)) (omega arith))
    (λ after text i. Reads-last (long_at 0 MAX_BODY_BYTES) (IsLong 0 MAX_BODY_BYTES) (λ size. head.Group epoch before after size) (long_reads 0 MAX_BODY_BYTES (omega arith) (omega arith)))

before_reads : (epoch : ℕ) → Reads (before_at epoch) (Before epoch)
before_reads epoch =
    Reads-then (long_at 0 (2 ^ 64 - 2)) (after_at epoch) (IsLong 0 (2 ^ 64 - 2)) (After epoch)
    (long_reads 0 (2 ^ 64 - 2) (omega arith) (omega arith)) (λ before text i. after_reads epoch before i.most_is)

abbrev PartSize : ℕ → ℕ → ℕ → Head → List ℕ → Type 0
PartSize epoch position number = Last (IsLong LEAST_PUT_BYTES MAX_PART_BYTES) (λ size. head.Part epoch position number size)

abbrev PartNumber : ℕ → ℕ → Head → List ℕ → Type 0
PartNumber epoch position = Then (IsLong 0 (2 ^ 64 - 1)) (PartSize epoch position)

abbrev PartPosition : ℕ → Head → List ℕ → Type 0
PartPosition epoch = Then (IsLong 0 (2 ^ 64 - 1)) (PartNumber epoch)

abbrev Parts : ℕ → ℕ → Head → List ℕ → Type 0
Parts epoch position = Last (IsLong 0 (2 ^ 64 - 1)) (λ parts. head.End epoch position parts)

abbrev EndPosition : ℕ → Head → List ℕ → Type 0
EndPosition epoch = Then (IsLong 0 (2 ^ 64 - 1)) (Parts epoch)

abbrev pub part_size_at : ℕ → ℕ → ℕ → List ℕ → Outcome Head
part_size_at epoch position number bytes = long_at LEAST_PUT_BYTES MAX_PART_BYTES bytes >>= λ size. Ok (head.Part epoch position number size.0, size.1)

abbrev pub part_number_at : ℕ → ℕ → List ℕ → Outcome Head
part_number_at epoch position bytes = long_at 0 (2 ^ 64 - 1) bytes >>= λ number. part_size_at epoch position number.0 number.1

abbrev pub part_position_at : ℕ → List ℕ → Outcome Head
part_position_at epoch bytes = long_at 0 (2 ^ 64 - 1) bytes >>= λ position. part_number_at epoch position.0 position.1

abbrev pub parts_at : ℕ → ℕ → List ℕ → Outcome Head
parts_at epoch position bytes = long_at 0 (2 ^ 64 - 1) bytes >>= λ parts. Ok (head.End epoch position parts.0, parts.1)

abbrev pub end_position_at : ℕ → List ℕ → Outcome Head
end_position_at epoch bytes = long_at 0 (2 ^ 64 - 1) bytes >>= λ position. parts_at epoch position.0 position.1

any_reads : Reads (long_at 0 (2 ^ 64 - 1)) (IsLong 0 (2 ^ 64 - 1))
any_reads = long_reads 0 (2 ^ 64 - 1) (omega arith) (omega arith)

part_number_reads : (epoch position : ℕ) → Reads (part_number_at epoch position) (PartNumber epoch position)
part_number_reads epoch position =
    Reads-then (long_at 0 (2 ^ 64 - 1)) (part_size_at epoch position) (IsLong 0 (2 ^ 64 - 1)) (PartSize epoch position) any_reads
    (λ number text i. Reads-last (long_at LEAST_PUT_BYTES MAX_PART_BYTES) (IsLong LEAST_PUT_BYTES MAX_PART_BYTES) (λ size. head.Part epoch position number size) (long_reads LEAST_PUT_BYTES MAX_PART_BYTES (omega arith) (omega arith)))

part_position_reads : (epoch : ℕ) → Reads (part_position_at epoch) (PartPosition epoch)
part_position_reads epoch = Reads-then (long_at 0 (2 ^ 64 - 1)) (part_number_at epoch) (IsLong 0 (2 ^ 64 - 1)) (PartNumber epoch) any_reads (λ position text i. part_number_reads epoch position)

end_position_reads : (epoch : ℕ) → Reads (end_position_at epoch) (EndPosition epoch)
end_position_reads epoch =
    Reads-then (long_at 0 (2 ^ 64 - 1)) (parts_at epoch) (IsLong 0 (2 ^ 64 - 1)) (Parts epoch) any_reads
    (λ position text i. Reads-last (long_at 0 (2 ^ 64 - 1)) (IsLong 0 (2 ^ 64 - 1)) (λ parts. head.End epoch position parts) any_reads)

-- the texts that make them up
abbrev Shape : HeadKind → Head → List ℕ → Type 0
Shape head_kind.Group = Then (IsLong 0 (2 ^ 64 - 1)) Before
Shape head_kind.Ack = Then (IsLong 0 (2 ^ 64 - 1)) Position
Shape head_kind.Wanted = Last (IsLong 0 (2 ^ 64 - 1)) (λ epoch. head.Wanted epoch)
Shape head_kind.Part = Then (IsLong 0 (2 ^ 64 - 1)) PartPosition
Shape head_kind.End = Then (IsLong 0 (2 ^ 64 - 1)) EndPosition

shape_reads : (k : HeadKind) → Reads (head_of k) (Shape k)
shape_reads head_kind.Group = Reads-then (long_at 0 (2 ^ 64 - 1)) before_at (IsLong 0 (2 ^ 64 - 1)) Before (long_reads 0 (2 ^ 64 - 1) (omega arith) (omega arith)) (λ epoch text i. before_reads epoch)
shape_reads head_kind.Ack =
    Reads-then (long_at 0 (2 ^ 64 - 1)) position_at (IsLong 0 (2 ^ 64 - 1)) Position (long_reads 0 (2 ^ 64 - 1) (omega arith) (omega arith))
    (λ epoch text i. Reads-last (long_at 0 (2 ^ 64 - 1)) (IsLong 0 (2 ^ 64 - 1)) (λ position. head.Ack (record { epoch = epoch; position = position })) (long_reads 0 (2 ^ 64 - 1) (omega arith) (omega arith)))
shape_reads head_kind.Wanted = Reads-last (long_at 0 (2 ^ 64 - 1)) (IsLong 0 (2 ^ 64 - 1)) (λ epoch. head.Wanted epoch) any_reads
shape_reads head_kind.Part = Reads-then (long_at 0 (2 ^ 64 - 1)) part_position_at (IsLong 0 (2 ^ 64 - 1)) PartPosition any_reads (λ epoch text i. part_position_reads epoch)
shape_reads head_kind.End = Reads-then (long_at 0 (2 ^ 64 - 1)) end_position_at (IsLong 0 (2 ^ 64 - 1)) EndPosition any_reads (λ epoch text i. end_position_reads epoch)

numbers_to : (k : HeadKind) (h : Head) (text : List ℕ) → Shape k h text → AreNumbers k h text
numbers_to head_kind.Group h text t =
    let b = t.after in
    let a = b.after in
    let s = a.after in
    let within : IsGroupHead t.x b.x a.x s.x = record { epoch_fits = omega (arith, t.before.most_is); rises = omega (arith, a.before.least_is); after_fits = omega (arith, a.before.most_is); body = s.before.most_is } in
    rw s.after.1 (record { kind_is = refl; within = within; text_is = cc (append-nil s.first) })
numbers_to head_kind.Ack h text t =
    let p = t.after in
    rw p.after.1 (record { kind_is = refl; within = (omega (arith, t.before.most_is), omega (arith, p.before.most_is)); text_is = cc (append-nil p.first) })
numbers_to head_kind.Wanted h text t = rw t.after.1 (record { kind_is = refl; within = omega (arith, t.before.most_is); text_is = cc (append-nil t.first) })
numbers_to head_kind.Part h text t =
    let p = t.after in
    let n = p.after in
    let s = n.after in
    let within : IsPartHead t.x p.x n.x s.x =
    record { epoch_fits = omega (arith, t.before.most_is); position_fits = omega (arith, p.before.most_is); number_fits = omega (arith, n.before.most_is); some = s.before.least_is; body = s.before.most_is } in
    rw s.after.1 (record { kind_is = refl; within = within; text_is = cc (append-nil s.first) })
numbers_to head_kind.End h text t =
    let p = t.after in
    let n = p.after in
    rw n.after.1 (record { kind_is = refl; within = (omega (arith, t.before.most_is), omega (arith, p.before.most_is), omega (arith, n.before.most_is)); text_is = cc (append-nil n.first) })

-- a number is its bytes
number : (least most n : ℕ) → least ≤ n → n ≤ most → IsLong least most n (long n)
number least most n low high = record { least_is = low; most_is = high; text_is = refl }

shape_of : (h : Head) → IsHead h → Shape (kind_of_head h) h (numbers_text h)
shape_of (head.Group epoch before after size) w =
    pair _ _ _ (number 0 (2 ^ 64 - 1) epoch (omega arith) (omega (arith, w.epoch_fits)))
    (pair _ _ _ (number 0 (2 ^ 64 - 2) before (omega arith) (omega (arith, w.rises, w.after_fits)))
    (pair _ _ _ (number (before + 1) (2 ^ 64 - 1) after (omega (arith, w.rises)) (omega (arith, w.after_fits)))
    (last (λ n. head.Group epoch before after n) (number 0 MAX_BODY_BYTES size (omega arith) w.body))))
shape_of (head.Ack ack) w =
    pair _ _ _ (number 0 (2 ^ 64 - 1) ack.epoch (omega arith) (omega (arith, w.0)))
    (last (λ n. head.Ack (record { epoch = ack.epoch; position = n })) (number 0 (2 ^ 64 - 1) ack.position (omega arith) (omega (arith, w.1))))
shape_of (head.Wanted epoch) w = last (λ n. head.Wanted n) (number 0 (2 ^ 64 - 1) epoch (omega arith) (omega (arith, w)))
shape_of (head.Part epoch position part size) w =
    pair _ _ _ (number 0 (2 ^ 64 - 1) epoch (omega arith) (omega (arith, w.epoch_fits)))
    (pair _ _ _ (number 0 (2 ^ 64 - 1) position (omega arith) (omega (arith, w.position_fits)))
    (pair _ _ _ (number 0 (2 ^ 64 - 1) part (omega arith) (omega (arith, w.number_fits)))
    (last (λ n. head.Part epoch position part n) (number LEAST_PUT_BYTES MAX_PART_BYTES size w.some w.body))))
shape_of (head.End epoch position parts) w =
    pair _ _ _ (number 0 (2 ^ 64 - 1) epoch (omega arith) (omega (arith, w.0)))
    (pair _ _ _ (number 0 (2 ^ 64 - 1) position (omega arith) (omega (arith, w.1)))
    (last (λ n. head.End epoch position n) (number 0 (2 ^ 64 - 1) parts (omega arith) (omega (arith, w.2)))))

numbers_from : (k : HeadKind) (h : Head) (text : List ℕ) → AreNumbers k h text → Shape k h text
numbers_from k h text i = rw (← i.kind_is, i.text_is) (shape_of h i.within)

numbers_read : (k : HeadKind) → Reads (head_of k) (AreNumbers k)
numbers_read k = Reads-as (head_of k) (Shape k) (AreNumbers k) (shape_reads k) (numbers_to k) (numbers_from k)

-- the numbers of an acknowledgement, and what follows them
pub ack_read : (ack : Ack) (bytes numbers rest : List ℕ) → numbers ≡ long ack.epoch ++ long ack.position → ack.epoch < 2 ^ 64 → ack.position < 2 ^ 64 → bytes ≡ numbers ++ rest
    → head_of head_kind.Ack bytes ≡ Ok (head.Ack ack, rest)
ack_read ack bytes numbers rest text epoch position is =
    ap (head_of head_kind.Ack) is ∙ (numbers_read head_kind.Ack).again (head.Ack ack) numbers rest (record { kind_is = refl; within = (epoch, position); text_is = text })

-- ---- first bytes

abbrev pub byte_of : HeadKind → ℕ
byte_of head_kind.Group = 1
byte_of head_kind.Ack = 2
byte_of head_kind.Wanted = 3
byte_of head_kind.Part = 4
byte_of head_kind.End = 5

head_kind_of-byte : (k : HeadKind) → head_kind_of (byte_of k) ≡ Some k
head_kind_of-byte head_kind.Group = refl
head_kind_of-byte head_kind.Ack = refl
head_kind_of-byte head_kind.Wanted = refl
head_kind_of-byte head_kind.Part = refl
head_kind_of-byte head_kind.End = refl

byte-head_kind_of : (byte : ℕ) (k : HeadKind) → head_kind_of byte ≡ Some k → byte ≡ byte_of k
byte-head_kind_of byte k e = grind (arith, nat_tests)

abbrev pub IsByte : HeadKind → List ℕ → Type 0
IsByte k text = text ≡ byte_of k ∷ []

known_takes : (byte : ℕ) (bytes : List ℕ) (o : Option HeadKind) → head_kind_of byte ≡ o → (k : HeadKind) (rest : List ℕ) → known bytes o ≡ Ok (k, rest) → (text : List ℕ) × IsByte k text × (byte ∷ bytes ≡ text ++ rest)
known_takes byte bytes None h k rest e = absurd cc
known_takes byte bytes (Some x) h k rest e =
    let same = ok_parts x k bytes rest e in
    let is : byte ≡ byte_of k = byte-head_kind_of byte k (h ∙ ap Some same.0) in
    (byte_of k ∷ [], refl, ap (λ b. b ∷ bytes) is ∙ ap (λ b. byte_of k ∷ b) same.1)

known_not_short : (bytes : List ℕ) (o : Option HeadKind) → known bytes o ≡ Err Short → ⊥
known_not_short bytes None e = absurd cc
known_not_short bytes (Some x) e = absurd cc

known_stays : (bytes more : List ℕ) (o : Option HeadKind) → known bytes o ≡ Err (Broken tt) → known (bytes ++ more) o ≡ Err (Broken tt)
known_stays bytes more None e = refl
known_stays bytes more (Some x) e = absurd cc

byte_takes : (bytes : List ℕ) (k : HeadKind) (rest : List ℕ) → head_kind_at bytes ≡ Ok (k, rest) → (text : List ℕ) × IsByte k text × (bytes ≡ text ++ rest)
byte_takes [] k rest e = absurd cc
byte_takes (byte ∷ bytes) k rest e = known_takes byte bytes (head_kind_of byte) refl k rest e

byte_short : (bytes : List ℕ) → head_kind_at bytes ≡ Err Short → (k : HeadKind) × (more : List ℕ) × IsByte k (bytes ++ more)
byte_short [] e = (head_kind.Ack, 2 ∷ [], refl)
byte_short (byte ∷ bytes) e = absurd (known_not_short bytes (head_kind_of byte) e)

byte_stays : (bytes more : List ℕ) → head_kind_at bytes ≡ Err (Broken tt) → head_kind_at (bytes ++ more) ≡ Err (Broken tt)
byte_stays [] more e = absurd cc
byte_stays (byte ∷ bytes) more e = known_stays bytes more (head_kind_of byte) e

pub byte_reads : Reads head_kind_at IsByte
byte_reads =
    record {
      begins = λ e. absurd cc;
      again = λ k text more i. ap (λ t. head_kind_at (t ++ more)) i ∙ ap (known more) (head_kind_of-byte k);
      takes = λ bytes k rest e. byte_takes bytes k rest e;
      short = λ bytes e. byte_short bytes e;
      stays = λ bytes more e. byte_stays bytes more e;
    }

-- ---- heads

-- all of a message but the changes of a group
pub record IsHeadText (h : Head) (text : List ℕ) : Type 0 where
  pub within : IsHead h
  pub text_is : text ≡ byte_of (kind_of_head h) ∷ numbers_text h

pub head_reads : Reads head_at IsHeadText
unfolding head_at
head_reads =
    Reads-as head_at (Then IsByte AreNumbers) IsHeadText
    (Reads-then head_kind_at head_of IsByte AreNumbers byte_reads (λ k text i. numbers_read k))
    (λ h text t. record { within = t.after.within; text_is = t.joined ∙ ap (λ s. s ++ t.second) t.before ∙ ap (λ k. byte_of k ∷ t.second) (sym t.after.kind_is) ∙ ap (λ s. byte_of (kind_of_head h) ∷ s) t.after.text_is })
    (λ h text i. rw i.text_is (pair {S = IsByte} {T = AreNumbers} (kind_of_head h) (byte_of (kind_of_head h) ∷ []) (numbers_text h) refl (record { kind_is = refl; within = i.within; text_is = refl })))
