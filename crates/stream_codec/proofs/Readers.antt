-- Readers of bytes of which more may come, and the texts that each of them reads.
use Rattle.std.proofs.Common.{◌≡◌, ◌⊎◌, ℕ, List, [], ◌∷◌, ◌++◌, Result, Ok, Err, inl, inr, refl, sym, ap, ◌∙◌}
use Rattle.std.proofs.lemmas.List.{append_assoc, append-nil}
use Rattle.kv_types.specs.declared.stop.Stop.{Stop}
use Rattle.kv_types.specs.declared.stop.Stop.TheVariants.{Short, Broken}
use Rattle.kv_types.specs.Reader.{◌>>=◌}
use Rattle.kv_types.proofs.ReaderLemmas.{bind_ok, bind_err, ok_parts}
use Rattle.stream_codec.specs.Bytes.{Outcome, or_else}

-- ---- results

bind_as : {A B : Type 0} (r : Result A (Stop Unit)) (x : Result A (Stop Unit)) (f : A → Result B (Stop Unit)) → r ≡ x → (r >>= f) ≡ (x >>= f)
bind_as r x f e = ap (λ z. z >>= f) e

rest_of_nothing : (text rest : List ℕ) → [] ≡ text ++ rest → rest ≡ []
rest_of_nothing [] rest e = sym e
rest_of_nothing (byte ∷ text) rest e = absurd cc

-- ---- readers

-- `read` reads the texts that `Spells` names, and no others; it waits only for what can come, and is broken only for good
pub record Reads {A : Type 0} (read : List ℕ → Outcome A) (Spells : A → List ℕ → Type 0) : Type 0 where
  pub begins : (read [] ≡ Err (Broken tt)) → ⊥
  pub again : (x : A) (text more : List ℕ) → Spells x text → read (text ++ more) ≡ Ok (x, more)
  pub takes : (bytes : List ℕ) (x : A) (rest : List ℕ) → read bytes ≡ Ok (x, rest) → (text : List ℕ) × Spells x text × (bytes ≡ text ++ rest)
  pub short : (bytes : List ℕ) → read bytes ≡ Err Short → (x : A) × (more : List ℕ) × Spells x (bytes ++ more)
  pub stays : (bytes more : List ℕ) → read bytes ≡ Err (Broken tt) → read (bytes ++ more) ≡ Err (Broken tt)

-- what was read stays read when more bytes come
pub grows : {A : Type 0} (read : List ℕ → Outcome A) (Spells : A → List ℕ → Type 0) → Reads read Spells → (bytes more : List ℕ) (x : A) (rest : List ℕ) → read bytes ≡ Ok (x, rest) → read (bytes ++ more) ≡ Ok (x, rest ++ more)
grows read Spells p bytes more x rest e =
    let t = p.takes bytes x rest e in
    ap (λ b. read (b ++ more)) t.2 ∙ ap read (append_assoc t.0 rest more) ∙ p.again x t.0 (rest ++ more) t.1

some_text_by : {A : Type 0} (read : List ℕ → Outcome A) (Spells : A → List ℕ → Type 0) → Reads read Spells → (r : Outcome A) → read [] ≡ r → (x : A) × (text : List ℕ) × Spells x text
some_text_by read Spells p (Ok x) e = let t = p.takes [] x.0 x.1 e in (x.0, t.0, t.1)
some_text_by read Spells p (Err Short) e = let t = p.short [] e in (t.0, [] ++ t.1, t.2)
some_text_by read Spells p (Err (Broken fault)) e = absurd (p.begins e)

-- something is read
pub some_text : {A : Type 0} (read : List ℕ → Outcome A) (Spells : A → List ℕ → Type 0) → Reads read Spells → (x : A) × (text : List ℕ) × Spells x text
some_text read Spells p = some_text_by read Spells p (read []) refl

-- the same texts, told otherwise
pub Reads-as : {A : Type 0} (read : List ℕ → Outcome A) (S T : A → List ℕ → Type 0) → Reads read S → ((x : A) (text : List ℕ) → S x text → T x text) → ((x : A) (text : List ℕ) → T x text → S x text) → Reads read T
Reads-as read S T p to from =
    record {
      begins = p.begins;
      again = λ x text more t. p.again x text more (from x text t);
      takes = λ bytes x rest e. let t = p.takes bytes x rest e in (t.0, to x t.0 t.1, t.2);
      short = λ bytes e. let t = p.short bytes e in (t.0, t.1, to t.0 (bytes ++ t.1) t.2);
      stays = p.stays;
    }

-- a reader that gives the same
pub Reads-same : {A : Type 0} (r s : List ℕ → Outcome A) (S : A → List ℕ → Type 0) → Reads r S → ((bytes : List ℕ) → s bytes ≡ r bytes) → Reads s S
Reads-same r s S p same =
    record {
      begins = λ e. p.begins (sym (same []) ∙ e);
      again = λ x text more t. same (text ++ more) ∙ p.again x text more t;
      takes = λ bytes x rest e. p.takes bytes x rest (sym (same bytes) ∙ e);
      short = λ bytes e. p.short bytes (sym (same bytes) ∙ e);
      stays = λ bytes more e. same (bytes ++ more) ∙ p.stays bytes more (sym (same bytes) ∙ e);
    }

-- nothing more is read, and the value is this
abbrev pub Gives : {A : Type 0} → A → A → List ℕ → Type 0
Gives x y text = (text ≡ []) × (y ≡ x)

pub Reads-done : {A : Type 0} (x : A) → Reads (λ bytes. Ok (x, bytes)) (Gives x)
Reads-done {A} x =
    let read : A → List ℕ → Outcome A = λ y bytes. Ok (y, bytes) in
    record {
      begins = λ e. absurd cc;
      again = λ y text more t. ap (λ b. read x (b ++ more)) t.0 ∙ ap (λ z. read z more) (sym t.1);
      takes = λ bytes y rest e. let same = ok_parts x y bytes rest e in ([], (refl, sym same.0), same.1);
      short = λ bytes e. absurd cc;
      stays = λ bytes more e. absurd cc;
    }

-- one text, and then another that depends on what was read
pub record Then {A B : Type 0} (S : A → List ℕ → Type 0) (T : A → B → List ℕ → Type 0) (y : B) (text : List ℕ) : Type 0 where
  pub x : A
  pub first : List ℕ
  pub second : List ℕ
  pub before : S x first
  pub after : T x y second
  pub joined : text ≡ first ++ second

pub pair : {A B : Type 0} {S : A → List ℕ → Type 0} {T : A → B → List ℕ → Type 0} {y : B} (x : A) (first second : List ℕ) → S x first → T x y second → Then S T y (first ++ second)
pair x first second before after = record { x = x; first = first; second = second; before = before; after = after; joined = refl }

pub last : {A B : Type 0} {S : A → List ℕ → Type 0} (made : A → B) {x : A} {text : List ℕ} → S x text → Then S (λ x. Gives (made x)) (made x) text
last made {x} {text} before = record { x = x; first = text; second = []; before = before; after = (refl, refl); joined = sym (append-nil text) }

-- two readers, one after the other
pub Reads-then : {A B : Type 0} (r : List ℕ → Outcome A) (f : A → List ℕ → Outcome B) (S : A → List ℕ → Type 0) (T : A → B → List ℕ → Type 0) → Reads r S → ((x : A) (text : List ℕ) → S x text → Reads (f x) (T x)) → Reads (λ bytes. r bytes >>= λ x. f x.0 x.1) (Then S T)
Reads-then r f S T p q =
    record {
      begins = λ e.
          elim (bind_err (λ x. f x.0 x.1) (r []) (Broken tt) e) [
            | inl h ↦ p.begins h
            | inr k ↦ let t = p.takes [] k.0.0 k.0.1 k.1 in (q k.0.0 t.0 t.1).begins (ap (f k.0.0) (sym (rest_of_nothing t.0 k.0.1 t.2)) ∙ k.2)
          ];
      again = λ y text more t.
          ap (λ b. r (b ++ more) >>= λ x. f x.0 x.1) t.joined
          ∙ ap (λ b. r b >>= λ x. f x.0 x.1) (append_assoc t.first t.second more)
          ∙ bind_as (r (t.first ++ (t.second ++ more))) (Ok (t.x, t.second ++ more)) (λ x. f x.0 x.1) (p.again t.x t.first (t.second ++ more) t.before)
          ∙ (q t.x t.first t.before).again y t.second more t.after;
      takes = λ bytes y rest e.
          let k = bind_ok (λ x. f x.0 x.1) (r bytes) (y, rest) e in
          let t = p.takes bytes k.0.0 k.0.1 k.1 in
          let u = (q k.0.0 t.0 t.1).takes k.0.1 y rest k.2 in
          (t.0 ++ u.0, pair k.0.0 t.0 u.0 t.1 u.1, t.2 ∙ ap (λ b. t.0 ++ b) u.2 ∙ sym (append_assoc t.0 u.0 rest));
      short = λ bytes e.
          elim (bind_err (λ x. f x.0 x.1) (r bytes) Short e) [
            | inl h ↦ let t = p.short bytes h in
                let u = some_text (f t.0) (T t.0) (q t.0 (bytes ++ t.1) t.2) in
                (u.0, t.1 ++ u.1, rw (← append_assoc bytes t.1 u.1) (pair t.0 (bytes ++ t.1) u.1 t.2 u.2))
            | inr k ↦ let t = p.takes bytes k.0.0 k.0.1 k.1 in
                let u = (q k.0.0 t.0 t.1).short k.0.1 k.2 in
                (u.0, u.1, record { x = k.0.0; first = t.0; second = k.0.1 ++ u.1; before = t.1; after = u.2; joined = ap (λ b. b ++ u.1) t.2 ∙ append_assoc t.0 k.0.1 u.1 })
          ];
      stays = λ bytes more e.
          elim (bind_err (λ x. f x.0 x.1) (r bytes) (Broken tt) e) [
            | inl h ↦ bind_as (r (bytes ++ more)) (Err (Broken tt)) (λ x. f x.0 x.1) (p.stays bytes more h)
            | inr k ↦ let t = p.takes bytes k.0.0 k.0.1 k.1 in
                bind_as (r (bytes ++ more)) (Ok (k.0.0, k.0.1 ++ more)) (λ x. f x.0 x.1) (grows r S p bytes more k.0.0 k.0.1 k.1)
                ∙ (q k.0.0 t.0 t.1).stays k.0.1 more k.2
          ];
    }

-- a text, of which a value is made, and nothing more
abbrev pub Last : {A B : Type 0} → (A → List ℕ → Type 0) → (A → B) → B → List ℕ → Type 0
Last S made = Then S (λ x. Gives (made x))

pub Reads-last : {A B : Type 0} (r : List ℕ → Outcome A) (S : A → List ℕ → Type 0) (made : A → B) → Reads r S → Reads (λ bytes. r bytes >>= λ x. Ok (made x.0, x.1)) (Last S made)
Reads-last r S made p = Reads-then r (λ x rest. Ok (made x, rest)) S (λ x. Gives (made x)) p (λ x text i. Reads-done (made x))

-- ---- one reader, or another where the bytes break the first

either_ok : {A : Type 0} (x y : Outcome A) (read : A × List ℕ) → or_else x y ≡ Ok read → (x ≡ Ok read) ⊎ ((x ≡ Err (Broken tt)) × (y ≡ Ok read))
either_ok (Ok other) y read e = inl e
either_ok (Err Short) y read e = absurd cc
either_ok (Err (Broken fault)) y read e = inr (refl, e)

either_short : {A : Type 0} (x y : Outcome A) → or_else x y ≡ Err Short → (x ≡ Err Short) ⊎ ((x ≡ Err (Broken tt)) × (y ≡ Err Short))
either_short (Ok other) y e = absurd cc
either_short (Err Short) y e = inl refl
either_short (Err (Broken fault)) y e = inr (refl, e)

either_broken : {A : Type 0} (x y : Outcome A) → or_else x y ≡ Err (Broken tt) → (x ≡ Err (Broken tt)) × (y ≡ Err (Broken tt))
either_broken (Ok other) y e = absurd cc
either_broken (Err Short) y e = absurd cc
either_broken (Err (Broken fault)) y e = (refl, e)

abbrev pub Either : {A : Type 0} → (A → List ℕ → Type 0) → (A → List ℕ → Type 0) → A → List ℕ → Type 0
Either S T x text = S x text ⊎ T x text

-- the texts of both, if those of the second break the first
pub Reads-either : {A : Type 0} (r s : List ℕ → Outcome A) (S T : A → List ℕ → Type 0) → Reads r S → Reads s T → ((x : A) (text more : List ℕ) → T x text → r (text ++ more) ≡ Err (Broken tt)) → Reads (λ bytes. or_else (r bytes) (s bytes)) (Either S T)
Reads-either r s S T p q breaks =
    record {
      begins = λ e. p.begins (either_broken (r []) (s []) e).0;
      again = λ x text more t.
          elim t [
            | inl a ↦ ap (λ z. or_else z (s (text ++ more))) (p.again x text more a)
            | inr b ↦ ap (λ z. or_else z (s (text ++ more))) (breaks x text more b) ∙ q.again x text more b
          ];
      takes = λ bytes x rest e.
          elim (either_ok (r bytes) (s bytes) (x, rest) e) [
            | inl a ↦ let t = p.takes bytes x rest a in (t.0, inl t.1, t.2)
            | inr b ↦ let t = q.takes bytes x rest b.1 in (t.0, inr t.1, t.2)
          ];
      short = λ bytes e.
          elim (either_short (r bytes) (s bytes) e) [
            | inl a ↦ let t = p.short bytes a in (t.0, t.1, inl t.2)
            | inr b ↦ let t = q.short bytes b.1 in (t.0, t.1, inr t.2)
          ];
      stays = λ bytes more e.
          let b = either_broken (r bytes) (s bytes) e in
          ap (λ z. or_else z (s (bytes ++ more))) (p.stays bytes more b.0) ∙ q.stays bytes more b.1;
    }

-- ---- two readers of the same texts are one

-- what the one waits for is no fault for the other
apart : {A : Type 0} (r s : List ℕ → Outcome A) (S : A → List ℕ → Type 0) → Reads r S → Reads s S → (bytes : List ℕ) → r bytes ≡ Err Short → s bytes ≡ Err (Broken tt) → ⊥
apart r s S p q bytes e f =
    let t = p.short bytes e in
    let good : s (bytes ++ t.1) ≡ Ok (t.0, []) = ap s (sym (append-nil (bytes ++ t.1))) ∙ q.again t.0 (bytes ++ t.1) [] t.2 in
    let bad = q.stays bytes t.1 f in
    absurd cc

same_at : {A : Type 0} (r s : List ℕ → Outcome A) (S : A → List ℕ → Type 0) → Reads r S → Reads s S → (bytes : List ℕ) (x y : Outcome A) → r bytes ≡ x → s bytes ≡ y → r bytes ≡ s bytes
same_at r s S p q bytes (Ok x) y e f =
    let t = p.takes bytes x.0 x.1 e in e ∙ sym (ap s t.2 ∙ q.again x.0 t.0 x.1 t.1)
same_at r s S p q bytes (Err stop) (Ok y) e f =
    let t = q.takes bytes y.0 y.1 f in ap r t.2 ∙ p.again y.0 t.0 y.1 t.1 ∙ sym f
same_at r s S p q bytes (Err Short) (Err Short) e f = e ∙ sym f
same_at r s S p q bytes (Err (Broken fault)) (Err (Broken other)) e f = e ∙ sym f
same_at r s S p q bytes (Err Short) (Err (Broken fault)) e f = absurd (apart r s S p q bytes e f)
same_at r s S p q bytes (Err (Broken fault)) (Err Short) e f = absurd (apart s r S q p bytes f e)

pub same_readers : {A : Type 0} (r s : List ℕ → Outcome A) (S : A → List ℕ → Type 0) → Reads r S → Reads s S → (bytes : List ℕ) → r bytes ≡ s bytes
same_readers r s S p q bytes = same_at r s S p q bytes (r bytes) (s bytes) refl refl
