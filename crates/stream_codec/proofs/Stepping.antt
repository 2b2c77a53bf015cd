-- Frames that are passed one number or one change at a time.
use Rattle.std.proofs.Common.{◌≡◌, ℕ, zero, suc, ◌+◌, ◌-◌, ◌^◌, ◌<◌, true, List, [], ◌++◌, length, Result, Ok, Err, inl, inr, refl, ap, ◌∙◌, arith}
use Rattle.std.proofs.lemmas.Bool.Decides.{nat_tests}
use Rattle.std.proofs.lemmas.List.{length-append}
use Rattle.kv_types.specs.declared.stop.Stop.{Stop}
use Rattle.kv_types.specs.Reader.{◌>>=◌, skipped}
use Rattle.kv_types.proofs.ReaderLemmas.{bind_ok, bind_err, ok_parts}
use Rattle.stream_codec.specs.declared.message.TheConstants.{LEAST_PUT_BYTES, MAX_BODY_BYTES, MAX_PART_BYTES}
use Rattle.stream_codec.specs.declared.change.Body.{Body}
use Rattle.stream_codec.specs.declared.change.Body.TheVariants as bodies
use Rattle.stream_codec.specs.declared.head.HeadKind.{HeadKind}
use Rattle.stream_codec.specs.declared.head.HeadKind.TheVariants as head_kind
use Rattle.stream_codec.specs.declared.head.Head.{Head}
use Rattle.stream_codec.specs.declared.head.Head.TheVariants as head
use Rattle.stream_codec.specs.declared.step.Next.{Next}
use Rattle.stream_codec.specs.declared.step.Next.TheVariants as next
use Rattle.stream_codec.specs.Message.{Changes, CopiesPart}
use Rattle.stream_codec.specs.Bytes.{Outcome, eight_places}
use Rattle.stream_codec.specs.Reading.{change_at, changes_at, head_kind_at, long_at, head_of, head_at, body_at, message_at}
use Rattle.stream_codec.specs.Stepping.{is_more, IsMore, first_of, step_of, size_end, after_end, before_end, numbers_end, part_size_end, part_number_end, part_position_end, end_from}
use Rattle.stream_codec.specs.Scanning.{IsEnd, EndsAlike}
use Rattle.stream_codec.proofs.Readers.{grows}
use Rattle.stream_codec.proofs.Numbers.{number_grows}
use Rattle.stream_codec.proofs.Heads.{IsByte, byte_reads, size_at, after_at, before_at, part_size_at, part_number_at, part_position_at, parts_at, end_position_at}
use Rattle.stream_codec.proofs.Bodies.{changes_at-stop}
use Rattle.stream_codec.proofs.Skipping.{skipped_map, taken_size, passed_size}

-- ---- where the numbers of a message leave off

abbrev group_of : ℕ → ℕ → ℕ → ℕ × List ℕ → Outcome Head
group_of epoch before after size = Ok (head.Group epoch before after size.0, size.1)

abbrev ack_of : ℕ → ℕ × List ℕ → Outcome Head
ack_of epoch position = Ok (head.Ack (record { epoch = epoch; position = position.0 }), position.1)

abbrev body_end : Outcome Head → Result (List ℕ) (Stop Unit)
body_end r = skipped (r >>= λ h. body_at h.0 h.1)

size_from : (epoch before after : ℕ) (r : Outcome ℕ) → body_end (r >>= group_of epoch before after) ≡ (r >>= λ size. skipped (changes_at bodies.Changes size.0 size.1))
size_from epoch before after (Ok size) = skipped_map (changes_at bodies.Changes size.0 size.1) (λ changes. Changes epoch before after changes)
size_from epoch before after (Err stop) = refl

after_from : (epoch before : ℕ) (r : Outcome ℕ) → body_end (r >>= λ after. size_at epoch before after.0 after.1) ≡ (r >>= λ after. size_end after.1)
after_from epoch before (Ok after) = size_from epoch before after.0 (long_at 0 MAX_BODY_BYTES after.1)
after_from epoch before (Err stop) = refl

before_from : (epoch : ℕ) (r : Outcome ℕ) → body_end (r >>= λ before. after_at epoch before.0 before.1) ≡ (r >>= λ before. after_end (before.0 + 1) before.1)
before_from epoch (Ok before) = after_from epoch before.0 (long_at (before.0 + 1) (2 ^ 64 - 1) before.1)
before_from epoch (Err stop) = refl

epoch_from : (r : Outcome ℕ) → body_end (r >>= λ epoch. before_at epoch.0 epoch.1) ≡ (r >>= λ epoch. before_end epoch.1)
epoch_from (Ok epoch) = before_from epoch.0 (long_at 0 (2 ^ 64 - 2) epoch.1)
epoch_from (Err stop) = refl

-- the last of numbers that nothing breaks
last_from : (made : ℕ → Head) → ((n : ℕ) (rest : List ℕ) → skipped (body_at (made n) rest) ≡ Ok rest) → (r : Outcome ℕ) → body_end (r >>= λ n. Ok (made n.0, n.1)) ≡ (r >>= λ n. numbers_end 0 n.1)
last_from made ends (Ok n) = ends n.0 n.1
last_from made ends (Err stop) = refl

parts_from : (epoch : ℕ) (r : Outcome ℕ) → body_end (r >>= λ position. parts_at epoch position.0 position.1) ≡ (r >>= λ position. numbers_end 1 position.1)
parts_from epoch (Ok position) = last_from (λ parts. head.End epoch position.0 parts) (λ n rest. refl) (long_at 0 (2 ^ 64 - 1) position.1)
parts_from epoch (Err stop) = refl

copy_from : (r : Outcome ℕ) → body_end (r >>= λ epoch. end_position_at epoch.0 epoch.1) ≡ (r >>= λ epoch. numbers_end 2 epoch.1)
copy_from (Ok epoch) = parts_from epoch.0 (long_at 0 (2 ^ 64 - 1) epoch.1)
copy_from (Err stop) = refl

part_size_from : (epoch position number : ℕ) (r : Outcome ℕ) → body_end (r >>= λ size. Ok (head.Part epoch position number size.0, size.1)) ≡ (r >>= λ size. skipped (changes_at bodies.Puts size.0 size.1))
part_size_from epoch position number (Ok size) = skipped_map (changes_at bodies.Puts size.0 size.1) (λ puts. CopiesPart epoch position number puts)
part_size_from epoch position number (Err stop) = refl

part_number_from : (epoch position : ℕ) (r : Outcome ℕ) → body_end (r >>= λ number. part_size_at epoch position number.0 number.1) ≡ (r >>= λ number. part_size_end number.1)
part_number_from epoch position (Ok number) = part_size_from epoch position number.0 (long_at LEAST_PUT_BYTES MAX_PART_BYTES number.1)
part_number_from epoch position (Err stop) = refl

part_position_from : (epoch : ℕ) (r : Outcome ℕ) → body_end (r >>= λ position. part_number_at epoch position.0 position.1) ≡ (r >>= λ position. part_number_end position.1)
part_position_from epoch (Ok position) = part_number_from epoch position.0 (long_at 0 (2 ^ 64 - 1) position.1)
part_position_from epoch (Err stop) = refl

part_from : (r : Outcome ℕ) → body_end (r >>= λ epoch. part_position_at epoch.0 epoch.1) ≡ (r >>= λ epoch. part_position_end epoch.1)
part_from (Ok epoch) = part_position_from epoch.0 (long_at 0 (2 ^ 64 - 1) epoch.1)
part_from (Err stop) = refl

position_from : (epoch : ℕ) (r : Outcome ℕ) → body_end (r >>= ack_of epoch) ≡ (r >>= λ position. numbers_end 0 position.1)
position_from epoch (Ok position) = refl
position_from epoch (Err stop) = refl

ack_from : (r : Outcome ℕ) → body_end (r >>= λ epoch. long_at 0 (2 ^ 64 - 1) epoch.1 >>= ack_of epoch.0) ≡ (r >>= λ epoch. numbers_end 1 epoch.1)
ack_from (Ok epoch) = position_from epoch.0 (long_at 0 (2 ^ 64 - 1) epoch.1)
ack_from (Err stop) = refl

kind_from : (kind : HeadKind) (bytes : List ℕ) → body_end (head_of kind bytes) ≡ end_from (first_of kind) bytes
kind_from head_kind.Group bytes = epoch_from (long_at 0 (2 ^ 64 - 1) bytes)
kind_from head_kind.Ack bytes = ack_from (long_at 0 (2 ^ 64 - 1) bytes)
kind_from head_kind.Wanted bytes = last_from (λ epoch. head.Wanted epoch) (λ n rest. refl) (long_at 0 (2 ^ 64 - 1) bytes)
kind_from head_kind.Part bytes = part_from (long_at 0 (2 ^ 64 - 1) bytes)
kind_from head_kind.End bytes = copy_from (long_at 0 (2 ^ 64 - 1) bytes)

behind_kind : (bytes : List ℕ) (kind : HeadKind) (rest : List ℕ) → head_kind_at bytes ≡ Ok (kind, rest) → skipped (message_at bytes) ≡ end_from (first_of kind) rest
unfolding message_at head_at
behind_kind bytes kind rest e = ap (λ r. skipped ((r >>= λ k. head_of k.0 k.1) >>= λ h. body_at h.0 h.1)) e ∙ kind_from kind rest

kind_stops : (bytes : List ℕ) (stop : Stop Unit) → head_kind_at bytes ≡ Err stop → skipped (message_at bytes) ≡ Err stop
unfolding message_at head_at
kind_stops bytes stop e = ap (λ r. skipped ((r >>= λ k. head_of k.0 k.1) >>= λ h. body_at h.0 h.1)) e

-- ---- steps

pub more_is : (next : Next) → is_more next ≡ true → IsMore next
more_is (next.Changes b left) e = grind (arith, nat_tests)
more_is (next.Numbers left) e = grind (arith, nat_tests)
more_is _ e = tt

-- a step leads on: whatever comes, the frame ends where it does behind the step, and the step takes a byte at least
pub record Leads (first : Next) (bytes : List ℕ) (later : Next) (rest : List ℕ) : Type 0 where
  pub alike : EndsAlike first bytes later rest
  pub end : IsEnd bytes rest
  pub shorter : length rest < length bytes

abbrev followed : (ℕ → Next) → ℕ × List ℕ → Outcome Next
followed later n = Ok (later n.0, n.1)

long_leads : (first : Next) (least most : ℕ) (f : ℕ × List ℕ → Result (List ℕ) (Stop Unit)) (later : ℕ → Next) → ((bytes : List ℕ) → end_from first bytes ≡ (long_at least most bytes >>= f)) → ((n : ℕ) (bytes : List ℕ) → f (n, bytes) ≡ end_from (later n) bytes) → (bytes : List ℕ) (x : Next) (rest : List ℕ) → (long_at least most bytes >>= followed later) ≡ Ok (x, rest) → Leads first bytes x rest
long_leads first least most f later is then_is bytes x rest e =
    let k = bind_ok (followed later) (long_at least most bytes) (x, rest) e in
    let same = ok_parts (later k.0.0) x k.0.1 rest k.2 in
    let t = number_grows eight_places least most 0 bytes [] k.0.0 k.0.1 k.1 in
    record {
      alike = λ more.
          let g = number_grows eight_places least most 0 bytes more k.0.0 k.0.1 k.1 in
          is (bytes ++ more) ∙ ap (λ r. r >>= f) g.0 ∙ then_is k.0.0 (k.0.1 ++ more)
          ∙ ap (λ z. end_from z (k.0.1 ++ more)) same.0 ∙ ap (λ s. end_from x (s ++ more)) same.1;
      end = (t.1, t.2 ∙ ap (λ s. t.1 ++ s) same.1);
      shorter = omega (arith, ap length t.2, length-append t.1 k.0.1, t.3, ap length same.1);
    }

kind_leads : (bytes : List ℕ) (x : Next) (rest : List ℕ) → step_of next.Kind bytes ≡ Ok (x, rest) → Leads next.Kind bytes x rest
kind_leads bytes x rest e =
    let k = bind_ok (λ kind. Ok (first_of kind.0, kind.1)) (head_kind_at bytes) (x, rest) e in
    let same = ok_parts (first_of k.0.0) x k.0.1 rest k.2 in
    let t = byte_reads.takes bytes k.0.0 k.0.1 k.1 in
    record {
      alike = λ more.
          behind_kind (bytes ++ more) k.0.0 (k.0.1 ++ more) (grows head_kind_at IsByte byte_reads bytes more k.0.0 k.0.1 k.1)
          ∙ ap (λ z. end_from z (k.0.1 ++ more)) same.0 ∙ ap (λ s. end_from x (s ++ more)) same.1;
      end = (t.0, t.2 ∙ ap (λ s. t.0 ++ s) same.1);
      shorter = omega (arith, ap length t.2, length-append t.0 k.0.1, ap length t.1, ap length same.1);
    }

change_leads : (b : Body) (left : ℕ) → 0 < left → (bytes : List ℕ) (x : Next) (rest : List ℕ) → step_of (next.Changes b left) bytes ≡ Ok (x, rest) → Leads (next.Changes b left) bytes x rest
change_leads b left h bytes x rest e =
    let k = bind_ok (λ change. Ok (next.Changes b (left - (length bytes - length change.1)), change.1)) (change_at b left bytes) (x, rest) e in
    let same = ok_parts (next.Changes b (left - (length bytes - length k.0.1))) x k.0.1 rest k.2 in
    let t = taken_size b left bytes k.0.0 k.0.1 k.1 in
    record {
      alike = λ more.
          passed_size b left bytes k.0.0 k.0.1 h k.1 more
          ∙ ap (λ z. end_from z (k.0.1 ++ more)) same.0 ∙ ap (λ s. end_from x (s ++ more)) same.1;
      end = (t.4.0, t.4.1 ∙ ap (λ s. t.4.0 ++ s) same.1);
      shorter = omega (arith, t.0, t.2, ap length same.1);
    }

pub step_leads : (first : Next) → IsMore first → (bytes : List ℕ) (x : Next) (rest : List ℕ) → step_of first bytes ≡ Ok (x, rest) → Leads first bytes x rest
step_leads next.Kind h bytes x rest e = kind_leads bytes x rest e
step_leads next.Epoch h bytes x rest e = long_leads next.Epoch 0 (2 ^ 64 - 1) (λ n. before_end n.1) (λ n. next.Before) (λ b. refl) (λ n b. refl) bytes x rest e
step_leads next.Before h bytes x rest e = long_leads next.Before 0 (2 ^ 64 - 2) (λ n. after_end (n.0 + 1) n.1) (λ n. next.After (n + 1)) (λ b. refl) (λ n b. refl) bytes x rest e
step_leads (next.After least) h bytes x rest e = long_leads (next.After least) least (2 ^ 64 - 1) (λ n. size_end n.1) (λ n. next.Size) (λ b. refl) (λ n b. refl) bytes x rest e
step_leads next.Size h bytes x rest e = long_leads next.Size 0 MAX_BODY_BYTES (λ n. skipped (changes_at bodies.Changes n.0 n.1)) (λ n. next.Changes bodies.Changes n) (λ b. refl) (λ n b. refl) bytes x rest e
step_leads (next.Numbers zero) h bytes x rest e = absurd (omega (arith, h))
step_leads (next.Numbers (suc left)) h bytes x rest e =
    let fewer : left ≡ suc left - 1 = omega arith in
    long_leads (next.Numbers (suc left)) 0 (2 ^ 64 - 1) (λ n. numbers_end left n.1) (λ n. next.Numbers (suc left - 1)) (λ b. refl) (λ n b. ap (λ k. numbers_end k b) fewer) bytes x rest e
step_leads next.PartEpoch h bytes x rest e = long_leads next.PartEpoch 0 (2 ^ 64 - 1) (λ n. part_position_end n.1) (λ n. next.PartPosition) (λ b. refl) (λ n b. refl) bytes x rest e
step_leads next.PartPosition h bytes x rest e = long_leads next.PartPosition 0 (2 ^ 64 - 1) (λ n. part_number_end n.1) (λ n. next.PartNumber) (λ b. refl) (λ n b. refl) bytes x rest e
step_leads next.PartNumber h bytes x rest e = long_leads next.PartNumber 0 (2 ^ 64 - 1) (λ n. part_size_end n.1) (λ n. next.PartSize) (λ b. refl) (λ n b. refl) bytes x rest e
step_leads next.PartSize h bytes x rest e = long_leads next.PartSize LEAST_PUT_BYTES MAX_PART_BYTES (λ n. skipped (changes_at bodies.Puts n.0 n.1)) (λ n. next.Changes bodies.Puts n) (λ b. refl) (λ n b. refl) bytes x rest e
step_leads (next.Changes b left) h bytes x rest e = change_leads b left h bytes x rest e

-- what stops a step stops the frame
stops : {A B : Type 0} (r : Outcome A) (g : A × List ℕ → Outcome B) (f : A × List ℕ → Result (List ℕ) (Stop Unit)) (stop : Stop Unit) → ((x : A × List ℕ) → g x ≡ Err stop → ⊥) → (r >>= g) ≡ Err stop → (r >>= f) ≡ Err stop
stops (Ok x) g f stop never e = absurd (never x e)
stops (Err other) g f stop never e = cc

pub step_stops : (first : Next) → IsMore first → (bytes : List ℕ) (stop : Stop Unit) → step_of first bytes ≡ Err stop → end_from first bytes ≡ Err stop
step_stops next.Kind h bytes stop e =
    elim (bind_err (λ kind. Ok (first_of kind.0, kind.1)) (head_kind_at bytes) stop e) [
      | inl p ↦ kind_stops bytes stop p
      | inr k ↦ let bad = k.2 in absurd cc
    ]
step_stops next.Epoch h bytes stop e = stops (long_at 0 (2 ^ 64 - 1) bytes) (λ n. Ok (next.Before, n.1)) (λ n. before_end n.1) stop (λ x bad. absurd cc) e
step_stops next.Before h bytes stop e = stops (long_at 0 (2 ^ 64 - 2) bytes) (λ n. Ok (next.After (n.0 + 1), n.1)) (λ n. after_end (n.0 + 1) n.1) stop (λ x bad. absurd cc) e
step_stops (next.After least) h bytes stop e = stops (long_at least (2 ^ 64 - 1) bytes) (λ n. Ok (next.Size, n.1)) (λ n. size_end n.1) stop (λ x bad. absurd cc) e
step_stops next.Size h bytes stop e = stops (long_at 0 MAX_BODY_BYTES bytes) (λ n. Ok (next.Changes bodies.Changes n.0, n.1)) (λ n. skipped (changes_at bodies.Changes n.0 n.1)) stop (λ x bad. absurd cc) e
step_stops (next.Numbers zero) h bytes stop e = absurd (omega (arith, h))
step_stops (next.Numbers (suc left)) h bytes stop e = stops (long_at 0 (2 ^ 64 - 1) bytes) (λ n. Ok (next.Numbers (suc left - 1), n.1)) (λ n. numbers_end left n.1) stop (λ x bad. absurd cc) e
step_stops next.PartEpoch h bytes stop e = stops (long_at 0 (2 ^ 64 - 1) bytes) (λ n. Ok (next.PartPosition, n.1)) (λ n. part_position_end n.1) stop (λ x bad. absurd cc) e
step_stops next.PartPosition h bytes stop e = stops (long_at 0 (2 ^ 64 - 1) bytes) (λ n. Ok (next.PartNumber, n.1)) (λ n. part_number_end n.1) stop (λ x bad. absurd cc) e
step_stops next.PartNumber h bytes stop e = stops (long_at 0 (2 ^ 64 - 1) bytes) (λ n. Ok (next.PartSize, n.1)) (λ n. part_size_end n.1) stop (λ x bad. absurd cc) e
step_stops next.PartSize h bytes stop e = stops (long_at LEAST_PUT_BYTES MAX_PART_BYTES bytes) (λ n. Ok (next.Changes bodies.Puts n.0, n.1)) (λ n. skipped (changes_at bodies.Puts n.0 n.1)) stop (λ x bad. absurd cc) e
step_stops (next.Changes b left) h bytes stop e =
    elim (bind_err (λ change. Ok (next.Changes b (left - (length bytes - length change.1)), change.1)) (change_at b left bytes) stop e) [
      | inl p ↦ ap skipped (changes_at-stop b left bytes stop h p)
      | inr k ↦ let bad = k.2 in absurd cc
    ]
