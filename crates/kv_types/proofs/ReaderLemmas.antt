-- What the steps of a reader gave.
use Rattle.std.proofs.Common.{◌≡◌, ◌⊎◌, inl, inr, Result, Ok, Err, refl, ap}
use Rattle.kv_types.specs.declared.stop.Stop.{Stop}
use Rattle.kv_types.specs.Reader.{◌>>=◌}

-- both steps gave a value
pub bind_ok : {F A B : Type 0} (f : A → Result B (Stop F)) (r : Result A (Stop F)) (y : B) → (r >>= f) ≡ Ok y → (x : A) × (r ≡ Ok x) × (f x ≡ Ok y)
bind_ok f (Ok x) y e = (x, refl, e)
bind_ok f (Err stop) y e = absurd (cc)

-- the first step stopped, or the second
pub bind_err : {F A B : Type 0} (f : A → Result B (Stop F)) (r : Result A (Stop F)) (stop : Stop F) → (r >>= f) ≡ Err stop → (r ≡ Err stop) ⊎ ((x : A) × (r ≡ Ok x) × (f x ≡ Err stop))
bind_err f (Ok x) stop e = inr (x, refl, e)
bind_err f (Err other) stop e = inl (let same : other ≡ stop = cc in ap Err same)

-- the parts of what was read
pub ok_parts : {F A B : Type 0} (x y : A) (s t : B) → ◌≡◌ {A = Result (A × B) (Stop F)} (Ok (x, s)) (Ok (y, t)) → (x ≡ y) × (s ≡ t)
ok_parts {F} {A} {B} x y s t e =
    let pairs : ◌≡◌ {A = A × B} (x, s) (y, t) = cc in
    (ap (λ p. p.0) pairs, ap (λ p. p.1) pairs)
