-- Bytes that are put one after the other.
use Rattle.std.proofs.Common.{◌≡◌, ℕ, ◌+◌, ◌^◌, ◌<◌, ◌≤◌, List, [], ◌∷◌, ◌++◌, length, map, Option, None, Some, Result, Ok, Err, OnOk, ap, sym, ◌∙◌, arith}
use Rattle.std.proofs.lemmas.List.{append_assoc, length-append}
use Rattle.std.specs.List.{AllByRecursion}
use Rattle.std.specs.Option.{SomeIff}
use Rattle.kv_types.specs.declared.record_id.RecordId.{RecordId}
use Rattle.stream_codec.specs.Message.{IsPut, put_of}
use Rattle.stream_codec.specs.Puts.{Puts}

-- bytes that were put, and then a call that puts more
pub puts_after : {T E : Type 0} (r : Result T E) (old mid new : List ℕ) (spare0 spare1 spare2 : ℕ) (x y : List ℕ) → mid ≡ old ++ x → spare0 ≤ spare1 + length x → Puts r mid new spare1 spare2 y → Puts r old new spare0 spare2 (x ++ y)
puts_after (Ok t) old mid new spare0 spare1 spare2 x y e s p =
    (p.0 ∙ ap (λ b. b ++ y) e ∙ append_assoc old x y, omega (arith, s, p.1, length-append x y))
puts_after (Err t) old mid new spare0 spare1 spare2 x y e s p = omega (arith, s, p, length-append x y)

pub some_size : (found : Option ℕ) (n size : ℕ) → SomeIff found (n < 2 ^ 64) n → found ≡ Some size → size ≡ n
some_size None n size h e = absurd cc
some_size (Some x) n size h e = let same : x ≡ size = cc in sym same ∙ h.1

pub OnOk-weaken : {T E P Q : Type 0} (result : Result T E) → (P → Q) → OnOk result P → OnOk result Q
OnOk-weaken (Ok x) into h = into h
OnOk-weaken (Err e) into h = tt

-- records with their values are puts
pub are_puts : (puts : List (RecordId × List ℕ)) → AllByRecursion IsPut (map put_of puts)
are_puts [] = tt
are_puts (put ∷ puts) = (tt, are_puts puts)
