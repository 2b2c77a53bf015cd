-- Text with shared values in it, as it grows at its end and is taken from its front.
use Rattle.std.proofs.Common.{◌≡◌, ℕ, ◌+◌, ◌-◌, ◌^◌, ◌<◌, ◌≤◌, List, [], ◌∷◌, ◌++◌, length, take, drop, Result, Ok, Err, OnOk, OnErr, refl, sym, ap, ◌∙◌, arith, append_assoc, length-append, length-drop, append-nil}
use Rattle.std.proofs.lemmas.List.{take-append-le, take-append-drop, drop-append-le, drop-take, drop-drop, drop_at, take_all, drop_all, length-take-le}
use Rattle.std.proofs.lemmas.List.Elements.{All-rest, All-head, All-push, All-cons}
use Rattle.reply_gate.specs.declared.shared_part.SharedPart.{SharedPart}
use Rattle.reply_gate.specs.Woven.{woven, led_by, IsWoven}

woven-text : (parts : List SharedPart) (text more : List ℕ) → led_by parts ≤ length text → woven parts (text ++ more) ≡ woven parts text ++ more
woven-text [] text more within = refl
woven-text (part ∷ parts) text more within =
    let lead : part.lead ≤ length text = omega arith in
    let rest : led_by parts ≤ length (drop part.lead text) = omega (arith, length-drop part.lead text) in
    rw (take-append-le part.lead text more lead, drop-append-le part.lead text more lead, woven-text parts (drop part.lead text) more rest) (simp append_assoc)

-- text was written behind the rest, or was not
pub text-written : {E : Type 0} (result : Result Unit E) (led shared : ℕ) (parts : List SharedPart) (text more new : List ℕ) → IsWoven led shared parts text → OnOk result (new ≡ text ++ more) → OnErr result (new ≡ text)
    → IsWoven led shared parts new × OnOk result (woven parts new ≡ woven parts text ++ more) × ((rest : List ℕ) × (new ≡ text ++ rest))
text-written (Ok x) led shared parts text more new is e none =
    let whole = woven-text parts text more (omega (arith, is.within, is.places)) in
    rw e (
      record {
        places = is.places;
        within = omega (arith, is.within, length-append text more);
        counted = ap length whole ∙ omega (arith, length-append (woven parts text) more, length-append text more, is.counted);
        bounded = is.bounded;
        full = is.full;
      },
      whole,
      (more, refl),
    )
text-written (Err x) led shared parts text more new is none e = rw e (is, tt, ([], sym (append-nil text)))

led_by-push : (parts : List SharedPart) (part : SharedPart) → led_by (parts ++ part ∷ []) ≡ led_by parts + part.lead
led_by-push [] part = omega arith
led_by-push (first ∷ parts) part = omega (arith, led_by-push parts part)

woven-push : (parts : List SharedPart) (part : SharedPart) (text : List ℕ) → led_by parts + part.lead ≡ length text → woven (parts ++ part ∷ []) text ≡ woven parts text ++ part.bytes
woven-push [] part text all = rw (take_all part.lead text (omega arith), drop_all part.lead text (omega arith), append-nil) refl
woven-push (first ∷ parts) part text all =
    let rest : led_by parts + part.lead ≡ length (drop first.lead text) = omega (arith, length-drop first.lead text) in
    rw (woven-push parts part (drop first.lead text) rest) (simp append_assoc)

-- a value was put behind the rest
pub value-put : (led shared : ℕ) (parts new : List SharedPart) (text bytes : List ℕ) → IsWoven led shared parts text → 0 < length bytes → shared + length bytes < 2 ^ 63
    → new ≡ parts ++ record { lead = length text - led; bytes = bytes } ∷ []
    → IsWoven (length text) (shared + length bytes) new text × (woven new text ≡ woven parts text ++ bytes)
value-put led shared parts new text bytes is some bounded e =
    let part : SharedPart = record { lead = length text - led; bytes = bytes } in
    let whole = woven-push parts part text (omega (arith, is.within, is.places)) in
    rw e (
      record {
        places = omega (arith, is.within, is.places, led_by-push parts part);
        within = omega arith;
        counted = ap length whole ∙ omega (arith, length-append (woven parts text) bytes, is.counted);
        bounded = bounded;
        full = All-push (λ (x : SharedPart). 0 < length x.bytes) parts part is.full some;
      },
      whole,
    )

-- the first bytes of the text before the first value are taken
pub lead-taken : (led shared n : ℕ) (part : SharedPart) (parts : List SharedPart) (text : List ℕ) → IsWoven led shared (part ∷ parts) text → n ≤ part.lead
    → IsWoven (led - n) shared (record { lead = part.lead - n; bytes = part.bytes } ∷ parts) (drop n text)
    × (woven (record { lead = part.lead - n; bytes = part.bytes } ∷ parts) (drop n text) ≡ drop n (woven (part ∷ parts) text))
lead-taken led shared n part parts text is most =
    let left = part.lead - n in
    let split : n + left ≡ part.lead = omega arith in
    let within : n ≤ length (take part.lead text) = omega (arith, is.within, is.places, length-take-le part.lead text (omega (arith, is.within, is.places))) in
    let taken = rw split at (drop-take n left text) in
    let dropped = rw split at (drop-drop left n text) in
    let whole : take left (drop n text) ++ (part.bytes ++ woven parts (drop left (drop n text))) ≡ drop n (woven (part ∷ parts) text) =
    rw (drop-append-le n (take part.lead text) (part.bytes ++ woven parts (drop part.lead text)) within, taken, dropped) refl in (
      record {
        places = omega (arith, is.places);
        within = omega (arith, is.within, length-drop n text);
        counted = ap length whole ∙ omega (arith, length-drop n (woven (part ∷ parts) text), length-drop n text, is.counted, is.within, is.places);
        bounded = is.bounded;
        full = All-cons (λ (x : SharedPart). 0 < length x.bytes) _ parts (All-head (λ (x : SharedPart). 0 < length x.bytes) part parts is.full) (All-rest (λ (x : SharedPart). 0 < length x.bytes) part parts (part ∷ parts) refl is.full);
      },
      whole,
    )

-- the bytes of a value that stands first
value-first : (part : SharedPart) (parts : List SharedPart) (text : List ℕ) → part.lead ≡ 0 → woven (part ∷ parts) text ≡ part.bytes ++ woven parts text
value-first part parts text first = rw first refl

no-less : (parts : List SharedPart) (text : List ℕ) → length text ≤ length (woven parts text)
no-less [] text = omega arith
no-less (part ∷ parts) text =
    let rest = drop part.lead text in
    omega (arith, no-less parts rest, ap length (take-append-drop part.lead text), length-append (take part.lead text) rest, length-append (take part.lead text) (part.bytes ++ woven parts rest), length-append part.bytes (woven parts rest))

-- a value that stands first is counted
pub value-counted : (led shared : ℕ) (part : SharedPart) (parts : List SharedPart) (text : List ℕ) → IsWoven led shared (part ∷ parts) text → part.lead ≡ 0 → length part.bytes ≤ shared
value-counted led shared part parts text is first =
    omega (arith, is.counted, ap length (value-first part parts text first), length-append part.bytes (woven parts text), no-less parts text)

-- the first bytes of a value that stands first are taken
pub value-taken : (led shared n : ℕ) (part : SharedPart) (parts : List SharedPart) (text : List ℕ) → IsWoven led shared (part ∷ parts) text → part.lead ≡ 0 → n < length part.bytes
    → IsWoven led (shared - n) (record { lead = part.lead; bytes = drop n part.bytes } ∷ parts) text
    × (woven (record { lead = part.lead; bytes = drop n part.bytes } ∷ parts) text ≡ drop n (woven (part ∷ parts) text))
value-taken led shared n part parts text is first most =
    let left : SharedPart = record { lead = part.lead; bytes = drop n part.bytes } in
    let within : n ≤ length part.bytes = omega arith in
    let whole = value-first left parts text first ∙ sym (drop-append-le n part.bytes (woven parts text) within) ∙ ap (drop n) (sym (value-first part parts text first)) in (
      record {
        places = is.places;
        within = is.within;
        counted = ap length whole ∙ omega (arith, length-drop n (woven (part ∷ parts) text), is.counted, value-counted led shared part parts text is first);
        bounded = omega (arith, is.bounded);
        full = All-cons (λ (x : SharedPart). 0 < length x.bytes) left parts (omega (arith, length-drop n part.bytes)) (All-rest (λ (x : SharedPart). 0 < length x.bytes) part parts (part ∷ parts) refl is.full);
      },
      whole,
    )

-- all of a value that stands first is taken
pub value-gone : (led shared : ℕ) (part : SharedPart) (parts : List SharedPart) (text : List ℕ) → IsWoven led shared (part ∷ parts) text → part.lead ≡ 0
    → IsWoven led (shared - length part.bytes) parts text × (woven parts text ≡ drop (length part.bytes) (woven (part ∷ parts) text))
value-gone led shared part parts text is first =
    let whole = sym (drop_at part.bytes (woven parts text) (length part.bytes) refl) ∙ ap (drop (length part.bytes)) (sym (value-first part parts text first)) in (
      record {
        places = omega (arith, is.places);
        within = is.within;
        counted = ap length whole ∙ omega (arith, length-drop (length part.bytes) (woven (part ∷ parts) text), is.counted, value-counted led shared part parts text is first);
        bounded = omega (arith, is.bounded);
        full = All-rest (λ (x : SharedPart). 0 < length x.bytes) part parts (part ∷ parts) refl is.full;
      },
      whole,
    )
