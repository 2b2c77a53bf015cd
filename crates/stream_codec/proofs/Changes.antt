-- A change as a text that is read.
use Rattle.std.proofs.Common.{◌≡◌, ℕ, ◌+◌, ◌-◌, ◌≤◌, List, [], ◌∷◌, ◌++◌, length, Ok, refl, sym, ap, subst, ◌∙◌, arith}
use Rattle.std.proofs.lemmas.List.{append_assoc, append-nil, length-append}
use Rattle.kv_types.specs.declared.limits.TheConstants.{MAX_KEY_BYTES, MAX_VALUE_BYTES}
use Rattle.kv_types.specs.declared.record_id.RecordId.TheVariants.{Str, Field}
use Rattle.kv_types.specs.declared.change.Change.{Change}
use Rattle.kv_types.specs.declared.change.Change.TheVariants.{Put, Drop, DropKey, Clear}
use Rattle.kv_types.specs.Change.{short_bytes, long_bytes, change_text}
use Rattle.kv_types.specs.Reader.{◌>>=◌}
use Rattle.stream_codec.specs.declared.change.Body.{Body}
use Rattle.stream_codec.specs.declared.change.Body.TheVariants as bodies
use Rattle.stream_codec.specs.declared.change.Kind.{Kind}
use Rattle.stream_codec.specs.declared.change.Kind.TheVariants as kind
use Rattle.stream_codec.specs.declared.message.TheConstants.{LEAST_PUT_BYTES}
use Rattle.stream_codec.specs.Message.{IsChange, IsPut}
use Rattle.stream_codec.specs.Reading.{least_size, kind_at, name_at, value_at, change_of, change_at}
use Rattle.stream_codec.proofs.Readers.{Gives, Reads, Reads-as, Reads-done, Reads-last, Reads-then, Last, Then, last, pair}
use Rattle.kv_types.proofs.ReaderLemmas.{bind_ok}
use Rattle.stream_codec.proofs.Names.{IsName, name_reads, Leaves, IsValue, value_reads, byte_of, IsOf, least_of, IsKind, kind_fits, kind_reads}

-- ---- behind the first byte

abbrev pub kind_of_change : Change → Kind
kind_of_change (Put (Str key) value) = kind.PutString
kind_of_change (Put (Field key field) value) = kind.PutField
kind_of_change (Drop (Str key)) = kind.DropString
kind_of_change (Drop (Field key field)) = kind.DropField
kind_of_change (DropKey key) = kind.DropKey
kind_of_change Clear = kind.Clear

-- how many bytes its names and its value have
abbrev pub own_bytes : Change → ℕ
own_bytes (Put (Str key) value) = length key + length value
own_bytes (Put (Field key field) value) = length key + length field + length value
own_bytes (Drop (Str key)) = length key
own_bytes (Drop (Field key field)) = length key + length field
own_bytes (DropKey key) = length key
own_bytes Clear = 0

pub size_is : (c : Change) → length (change_text c) ≡ least_size (kind_of_change c) + own_bytes c
size_is (Put (Str key) value) = omega (arith, length-append key (long_bytes value))
size_is (Put (Field key field) value) = omega (arith, length-append key (short_bytes field ++ long_bytes value), length-append key (short_bytes field), length-append (short_bytes key ++ short_bytes field) (long_bytes value), length-append field (long_bytes value))
size_is (Drop (Str key)) = omega arith
size_is (Drop (Field key field)) = omega (arith, length-append key (short_bytes field))
size_is (DropKey key) = omega arith
size_is Clear = refl

abbrev pub text_behind : Change → List ℕ
text_behind (Put (Str key) value) = short_bytes key ++ long_bytes value
text_behind (Put (Field key field) value) = short_bytes key ++ (short_bytes field ++ long_bytes value)
text_behind (Drop (Str key)) = short_bytes key
text_behind (Drop (Field key field)) = short_bytes key ++ short_bytes field
text_behind (DropKey key) = short_bytes key
text_behind Clear = []

pub change_text-behind : (c : Change) → change_text c ≡ byte_of (kind_of_change c) ∷ text_behind c
change_text-behind (Put (Str key) value) = refl
change_text-behind (Put (Field key field) value) = ap (λ t. 2 ∷ t) (append_assoc (short_bytes key) (short_bytes field) (long_bytes value))
change_text-behind (Drop (Str key)) = refl
change_text-behind (Drop (Field key field)) = refl
change_text-behind (DropKey key) = refl
change_text-behind Clear = refl

-- a change of this kind, behind its first byte
pub record IsBehind (b : Body) (k : Kind) (spare : ℕ) (c : Change) (text : List ℕ) : Type 0 where
  pub kind_is : kind_of_change c ≡ k
  pub within : IsChange c
  pub fits : own_bytes c ≤ spare
  pub leaves : Leaves b (spare - own_bytes c)
  pub text_is : text ≡ text_behind c

-- the texts that make it up
abbrev Shape : Body → Kind → ℕ → Change → List ℕ → Type 0
Shape b kind.PutString spare = Then (IsName spare) (λ key. Last (IsValue b (spare - length key)) (λ value. Put (Str key) value))
Shape b kind.PutField spare =
    Then (IsName spare) (λ key. Then (IsName (spare - length key)) (λ field. Last (IsValue b (spare - length key - length field)) (λ value. Put (Field key field) value)))
Shape b kind.DropString spare = Last (IsName spare) (λ key. Drop (Str key))
Shape b kind.DropField spare = Then (IsName spare) (λ key. Last (IsName (spare - length key)) (λ field. Drop (Field key field)))
Shape b kind.DropKey spare = Last (IsName spare) (λ key. DropKey key)
Shape b kind.Clear spare = Gives Clear

shape_reads : (b : Body) (k : Kind) (spare : ℕ) → Reads (change_of b k spare) (Shape b k spare)
shape_reads b kind.PutString spare =
    Reads-then (name_at spare) (λ key rest. value_at b (spare - length key) rest >>= λ value. Ok (Put (Str key) value.0, value.1)) (IsName spare) (λ key. Last (IsValue b (spare - length key)) (λ value. Put (Str key) value)) (name_reads spare)
    (λ key text i. Reads-last (value_at b (spare - length key)) (IsValue b (spare - length key)) (λ value. Put (Str key) value) (value_reads b (spare - length key)))
shape_reads b kind.PutField spare =
    Reads-then (name_at spare) (λ key rest. name_at (spare - length key) rest >>= λ field. value_at b (spare - length key - length field.0) field.1 >>= λ value. Ok (Put (Field key field.0) value.0, value.1)) (IsName spare)
    (λ key. Then (IsName (spare - length key)) (λ field. Last (IsValue b (spare - length key - length field)) (λ value. Put (Field key field) value))) (name_reads spare)
    (λ key text i. Reads-then (name_at (spare - length key)) (λ field rest. value_at b (spare - length key - length field) rest >>= λ value. Ok (Put (Field key field) value.0, value.1)) (IsName (spare - length key))
    (λ field. Last (IsValue b (spare - length key - length field)) (λ value. Put (Field key field) value)) (name_reads (spare - length key))
    (λ field text2 j. Reads-last (value_at b (spare - length key - length field)) (IsValue b (spare - length key - length field)) (λ value. Put (Field key field) value) (value_reads b (spare - length key - length field))))
shape_reads b kind.DropString spare = Reads-last (name_at spare) (IsName spare) (λ key. Drop (Str key)) (name_reads spare)
shape_reads b kind.DropField spare =
    Reads-then (name_at spare) (λ key rest. name_at (spare - length key) rest >>= λ field. Ok (Drop (Field key field.0), field.1)) (IsName spare) (λ key. Last (IsName (spare - length key)) (λ field. Drop (Field key field))) (name_reads spare)
    (λ key text i. Reads-last (name_at (spare - length key)) (IsName (spare - length key)) (λ field. Drop (Field key field)) (name_reads (spare - length key)))
shape_reads b kind.DropKey spare = Reads-last (name_at spare) (IsName spare) (λ key. DropKey key) (name_reads spare)
shape_reads b kind.Clear spare = Reads-done Clear

-- a body that holds drops leaves anything
drop_leaves : (b : Body) (left : ℕ) → IsOf b kind.DropString → Leaves b left
drop_leaves bodies.Changes left of = tt
drop_leaves bodies.Puts left of = absurd of

drop_field_leaves : (b : Body) (left : ℕ) → IsOf b kind.DropField → Leaves b left
drop_field_leaves bodies.Changes left of = tt
drop_field_leaves bodies.Puts left of = absurd of

drop_key_leaves : (b : Body) (left : ℕ) → IsOf b kind.DropKey → Leaves b left
drop_key_leaves bodies.Changes left of = tt
drop_key_leaves bodies.Puts left of = absurd of

clear_leaves : (b : Body) (left : ℕ) → IsOf b kind.Clear → Leaves b left
clear_leaves bodies.Changes left of = tt
clear_leaves bodies.Puts left of = absurd of

behind_to : (b : Body) (k : Kind) (spare : ℕ) → IsOf b k → (c : Change) (text : List ℕ) → Shape b k spare c text → IsBehind b k spare c text
behind_to b kind.PutString spare of c text t =
    let u = t.after in
    let left : spare - length t.x - length u.x ≡ spare - (length t.x + length u.x) = omega arith in
    rw u.after.1 (record { kind_is = refl; within = (t.before.short, u.before.short); fits = omega (arith, t.before.fits, u.before.fits); leaves = subst (Leaves b) left u.before.leaves; text_is = cc (append-nil u.first) })
behind_to b kind.PutField spare of c text t =
    let u = t.after in
    let w = u.after in
    let left : spare - length t.x - length u.x - length w.x ≡ spare - (length t.x + length u.x + length w.x) = omega arith in
    rw w.after.1 (record { kind_is = refl; within = ((t.before.short, u.before.short), w.before.short); fits = omega (arith, t.before.fits, u.before.fits, w.before.fits); leaves = subst (Leaves b) left w.before.leaves; text_is = cc (append-nil w.first) })
behind_to b kind.DropString spare of c text t = rw t.after.1 (record { kind_is = refl; within = t.before.short; fits = t.before.fits; leaves = drop_leaves b (spare - length t.x) of; text_is = cc (append-nil t.first) })
behind_to b kind.DropField spare of c text t =
    let u = t.after in
    rw u.after.1 (record { kind_is = refl; within = (t.before.short, u.before.short); fits = omega (arith, t.before.fits, u.before.fits); leaves = drop_field_leaves b (spare - (length t.x + length u.x)) of; text_is = cc (append-nil u.first) })
behind_to b kind.DropKey spare of c text t = rw t.after.1 (record { kind_is = refl; within = t.before.short; fits = t.before.fits; leaves = drop_key_leaves b (spare - length t.x) of; text_is = cc (append-nil t.first) })
behind_to b kind.Clear spare of c text t = rw t.1 (record { kind_is = refl; within = tt; fits = omega arith; leaves = clear_leaves b (spare - 0) of; text_is = t.0 })

-- a name and a value are their bytes
name : (spare : ℕ) (key : List ℕ) → length key ≤ MAX_KEY_BYTES → length key ≤ spare → IsName spare key (short_bytes key)
name spare key short fits = record { short = short; fits = fits; text_is = refl }

value : (b : Body) (spare : ℕ) (bytes : List ℕ) → length bytes ≤ MAX_VALUE_BYTES → length bytes ≤ spare → Leaves b (spare - length bytes) → IsValue b spare bytes (long_bytes bytes)
value b spare bytes short fits leaves = record { short = short; fits = fits; leaves = leaves; text_is = refl }

shape_of : (b : Body) (spare : ℕ) (c : Change) → IsChange c → own_bytes c ≤ spare → Leaves b (spare - own_bytes c) → Shape b (kind_of_change c) spare c (text_behind c)
shape_of b spare (Put (Str key) bytes) is fits leaves =
    let left : spare - (length key + length bytes) ≡ spare - length key - length bytes = omega arith in
    pair _ _ _ (name spare key is.0 (omega (arith, fits))) (last (λ v. Put (Str key) v) (value b (spare - length key) bytes is.1 (omega (arith, fits)) (subst (Leaves b) left leaves)))
shape_of b spare (Put (Field key field) bytes) is fits leaves =
    let left : spare - (length key + length field + length bytes) ≡ spare - length key - length field - length bytes = omega arith in
    pair _ _ _ (name spare key is.0.0 (omega (arith, fits)))
    (pair _ _ _ (name (spare - length key) field is.0.1 (omega (arith, fits))) (last (λ v. Put (Field key field) v) (value b (spare - length key - length field) bytes is.1 (omega (arith, fits)) (subst (Leaves b) left leaves))))
shape_of b spare (Drop (Str key)) is fits leaves = last (λ k. Drop (Str k)) (name spare key is fits)
shape_of b spare (Drop (Field key field)) is fits leaves = pair _ _ _ (name spare key is.0 (omega (arith, fits))) (last (λ f. Drop (Field key f)) (name (spare - length key) field is.1 (omega (arith, fits))))
shape_of b spare (DropKey key) is fits leaves = last (λ k. DropKey k) (name spare key is fits)
shape_of b spare Clear is fits leaves = (refl, refl)

behind_from : (b : Body) (k : Kind) (spare : ℕ) (c : Change) (text : List ℕ) → IsBehind b k spare c text → Shape b k spare c text
behind_from b k spare c text i = rw (← i.kind_is, i.text_is) (shape_of b spare c i.within i.fits i.leaves)

behind_reads : (b : Body) (k : Kind) (spare : ℕ) → IsOf b k → Reads (change_of b k spare) (IsBehind b k spare)
behind_reads b k spare of = Reads-as (change_of b k spare) (Shape b k spare) (IsBehind b k spare) (shape_reads b k spare) (λ c text t. behind_to b k spare of c text t) (behind_from b k spare)

-- such a body holds the change
abbrev pub IsIn : Body → Change → Type 0
IsIn bodies.Changes c = Unit {0}
IsIn bodies.Puts c = IsPut c

in_of : (b : Body) (c : Change) → IsOf b (kind_of_change c) → IsIn b c
in_of bodies.Changes c of = tt
in_of bodies.Puts (Put (Str key) value) of = tt
in_of bodies.Puts (Put (Field key field) value) of = tt
in_of bodies.Puts (Drop (Str key)) of = absurd of
in_of bodies.Puts (Drop (Field key field)) of = absurd of
in_of bodies.Puts (DropKey key) of = absurd of
in_of bodies.Puts Clear of = absurd of

of_in : (b : Body) (c : Change) → IsIn b c → IsOf b (kind_of_change c)
of_in bodies.Changes c is = tt
of_in bodies.Puts (Put (Str key) value) is = tt
of_in bodies.Puts (Put (Field key field) value) is = tt
of_in bodies.Puts (Drop (Str key)) is = absurd is
of_in bodies.Puts (Drop (Field key field)) is = absurd is
of_in bodies.Puts (DropKey key) is = absurd is
of_in bodies.Puts Clear is = absurd is

-- a put has so many bytes at least
pub put_long : (c : Change) → IsPut c → LEAST_PUT_BYTES ≤ length (change_text c)
put_long (Put (Str key) value) is = omega (arith, size_is (Put (Str key) value))
put_long (Put (Field key field) value) is = omega (arith, size_is (Put (Field key field) value))
put_long (Drop (Str key)) is = absurd is
put_long (Drop (Field key field)) is = absurd is
put_long (DropKey key) is = absurd is
put_long Clear is = absurd is

-- a change of at most so many bytes in such a body, behind which others fit or none is left
pub record IsChangeWithin (b : Body) (left : ℕ) (c : Change) (text : List ℕ) : Type 0 where
  pub within : IsChange c
  pub member : IsIn b c
  pub fits : length (change_text c) ≤ left
  pub leaves : Leaves b (left - length (change_text c))
  pub text_is : text ≡ change_text c

abbrev Whole : Body → ℕ → Change → List ℕ → Type 0
Whole b left = Then (IsKind b left) (λ k. IsBehind b k (left - least_size k))

change_to : (b : Body) (left : ℕ) (c : Change) (text : List ℕ) → Whole b left c text → IsChangeWithin b left c text
change_to b left c text t =
    let least : least_size t.x ≤ left = t.before.fits in
    let own : own_bytes c ≤ left - least_size t.x = t.after.fits in
    let size : length (change_text c) ≡ least_size t.x + own_bytes c = size_is c ∙ ap (λ k. least_size k + own_bytes c) t.after.kind_is in
    let behind : left - least_size t.x - own_bytes c ≡ left - length (change_text c) = omega (arith, size) in
    record {
      within = t.after.within;
      member = in_of b c (subst (IsOf b) (sym t.after.kind_is) t.before.of);
      fits = omega (arith, least, own, size);
      leaves = subst (Leaves b) behind t.after.leaves;
      text_is = t.joined ∙ ap (λ s. s ++ t.second) t.before.text_is ∙ ap (λ k. byte_of k ∷ t.second) (sym t.after.kind_is) ∙ ap (λ s. byte_of (kind_of_change c) ∷ s) t.after.text_is ∙ sym (change_text-behind c);
    }

change_from : (b : Body) (left : ℕ) (c : Change) (text : List ℕ) → IsChangeWithin b left c text → Whole b left c text
change_from b left c text i =
    let size = size_is c in
    let behind : left - length (change_text c) ≡ left - least_size (kind_of_change c) - own_bytes c = omega (arith, size) in
    record {
      x = kind_of_change c;
      first = byte_of (kind_of_change c) ∷ [];
      second = text_behind c;
      before = record { fits = omega (arith, size, i.fits); of = of_in b c i.member; text_is = refl };
      after = record { kind_is = refl; within = i.within; fits = omega (arith, size, i.fits); leaves = subst (Leaves b) behind i.leaves; text_is = refl };
      joined = i.text_is ∙ change_text-behind c;
    }

pub change_reads : (b : Body) (left : ℕ) → least_of b ≤ left → Reads (change_at b left) (IsChangeWithin b left)
unfolding change_at
change_reads b left h =
    Reads-as (change_at b left) (Whole b left) (IsChangeWithin b left)
    (Reads-then (kind_at b left) (λ k rest. change_of b k (left - least_size k) rest) (IsKind b left) (λ k. IsBehind b k (left - least_size k)) (kind_reads b left h) (λ k text i. behind_reads b k (left - least_size k) i.of))
    (λ c text t. change_to b left c text t)
    (λ c text i. change_from b left c text i)

-- where a change was read there was room for one
pub change_fits : (b : Body) (left : ℕ) (bytes : List ℕ) (c : Change) (rest : List ℕ) → change_at b left bytes ≡ Ok (c, rest) → least_of b ≤ left
unfolding change_at
change_fits b left bytes c rest e =
    let k = bind_ok (λ kind. change_of b kind.0 (left - least_size kind.0) kind.1) (kind_at b left bytes) (c, rest) e in
    kind_fits b left bytes k.0.0 k.0.1 k.1
