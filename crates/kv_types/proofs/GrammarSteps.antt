-- Tools on readers: which way a test went, and the first byte at which a reading breaks.
use Rattle.std.proofs.Common.{◌≡◌, ℕ, Bool, true, false, cond, ◌⊎◌, inl, inr, List, [], ◌∷◌, ◌++◌, Result, Ok, Err, refl, ap, sym, ◌∙◌, arith}
use Rattle.std.proofs.lemmas.List.{append_assoc}
use Rattle.kv_types.specs.declared.item.ProtocolFault.{ProtocolFault}
use Rattle.kv_types.specs.declared.stop.Stop.{Stop}
use Rattle.kv_types.specs.declared.stop.Stop.TheVariants.{Short, Broken}
use Rattle.kv_types.specs.Reader.{◌>>=◌}
use Rattle.kv_types.specs.Reading.{after_byte}

-- which way a test went
pub chosen : {A : Type 0} (test : Bool) (x y z : A) → cond test x y ≡ z → ((test ≡ true) × (x ≡ z)) ⊎ ((test ≡ false) × (y ≡ z))
chosen true x y z e = inl (refl, e)
chosen false x y z e = inr (refl, e)

pub cond_cases : {A : Type 0} (a b : Bool) (x y w z : A) → cond a x (cond b y w) ≡ z → ((a ≡ true) × (x ≡ z)) ⊎ ((a ≡ false) × (b ≡ true) × (y ≡ z)) ⊎ ((a ≡ false) × (b ≡ false) × (w ≡ z))
cond_cases a b x y w z e = grind arith

pub after_byte-takes : (expected : ℕ) (fault : ProtocolFault) (bytes rest : List ℕ) → after_byte expected fault bytes ≡ Ok rest → bytes ≡ expected ∷ rest
after_byte-takes expected fault bytes rest e = grind arith

pub after_byte-short : (expected : ℕ) (fault : ProtocolFault) (bytes : List ℕ) → after_byte expected fault bytes ≡ Err Short → bytes ≡ []
after_byte-short expected fault bytes e = grind arith

-- The reading breaks with this fault at a byte: the bytes before it are too short, and with it no further bytes help. `Place` says where it is.
abbrev pub BreaksAt : {A : Type 0} → (List ℕ → Result A (Stop ProtocolFault)) → (List ℕ → ℕ → ProtocolFault → Type 0) → List ℕ → ProtocolFault → Type 0
BreaksAt read Place bytes fault =
    (prefix : List ℕ) × (byte : ℕ) × (rest : List ℕ) × Place prefix byte fault × (bytes ≡ prefix ++ byte ∷ rest) × (read prefix ≡ Err Short) × (read (prefix ++ byte ∷ []) ≡ Err (Broken fault))

abbrev pub Anywhere : List ℕ → ℕ → ProtocolFault → Type 0
Anywhere prefix byte fault = Unit {0}

-- it breaks in the first of two steps
pub BreaksAt-first : {A B : Type 0} (read : List ℕ → Result A (Stop ProtocolFault)) (f : A → Result B (Stop ProtocolFault)) (Place Place' : List ℕ → ℕ → ProtocolFault → Type 0) (bytes : List ℕ) (fault : ProtocolFault) → ((prefix : List ℕ) (byte : ℕ) → Place prefix byte fault → Place' prefix byte fault) → BreaksAt read Place bytes fault → BreaksAt (λ b. read b >>= f) Place' bytes fault
BreaksAt-first read f Place Place' bytes fault moves b = (b.0, b.1, b.2, moves b.0 b.1 b.3, b.4, ap (λ r. r >>= f) b.5, ap (λ r. r >>= f) b.6)

-- it breaks after bytes that are read without a fault
pub BreaksAt-behind : {A : Type 0} (read read' : List ℕ → Result A (Stop ProtocolFault)) (Place Place' : List ℕ → ℕ → ProtocolFault → Type 0) (before bytes : List ℕ) (fault : ProtocolFault) → ((after : List ℕ) → read' (before ++ after) ≡ read after) → ((prefix : List ℕ) (byte : ℕ) → Place prefix byte fault → Place' (before ++ prefix) byte fault) → BreaksAt read Place bytes fault → BreaksAt read' Place' (before ++ bytes) fault
BreaksAt-behind read read' Place Place' before bytes fault same moves b =
    let broken = ap read' (append_assoc before b.0 (b.1 ∷ [])) ∙ same (b.0 ++ b.1 ∷ []) ∙ b.6 in
    (before ++ b.0, b.1, b.2, moves b.0 b.1 b.3, ap (λ x. before ++ x) b.4 ∙ sym (append_assoc before b.0 (b.1 ∷ b.2)), same b.0 ∙ b.5, broken)

-- it breaks at the first byte
pub BreaksAt-here : {A : Type 0} (read : List ℕ → Result A (Stop ProtocolFault)) (Place : List ℕ → ℕ → ProtocolFault → Type 0) (byte : ℕ) (bytes : List ℕ) (fault : ProtocolFault) → read [] ≡ Err Short → read (byte ∷ []) ≡ Err (Broken fault) → Place [] byte fault → BreaksAt read Place (byte ∷ bytes) fault
BreaksAt-here read Place byte bytes fault short broken place = ([], byte, bytes, place, refl, short, broken)

pub after_byte-breaks : (expected : ℕ) (fault other : ProtocolFault) (bytes : List ℕ) → after_byte expected fault bytes ≡ Err (Broken other) → (other ≡ fault) × BreaksAt (after_byte expected fault) (λ prefix byte said. (prefix ≡ []) × (said ≡ fault)) bytes other
after_byte-breaks expected fault other [] e = absurd (cc)
after_byte-breaks expected fault other (byte ∷ bytes) e =
    let same : other ≡ fault = grind arith in
    (same, BreaksAt-here (after_byte expected fault) (λ prefix byte said. (prefix ≡ []) × (said ≡ fault)) byte bytes other refl (grind arith) (refl, same))
