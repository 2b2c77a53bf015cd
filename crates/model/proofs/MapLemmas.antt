-- The map of versions: there is at most one, it depends on the versions alone, and it is computed entry by entry.
use Rattle.std.proofs.Common.{◌≡◌, ℕ, zero, suc, ◌<◌, ◌≤◌, Bool, true, false, cond, List, [], IsTrue, Option, Some, None, IsSome, refl, sym, ap, subst, ◌∙◌, arith, ⊎_elim}
use Rattle.std.proofs.lemmas.Bool.{cases_lt}
use Rattle.std.specs.FinMap.Entries.{is_sorted}
use Rattle.kv_types.specs.declared.record_id.RecordId.{RecordId}
use Rattle.kv_types.specs.declared.record_id.RecordId.TheVariants.{Str, Field}
use Rattle.kv_types.specs.Keyspace.{Keyspace, IsKeyspace, record_cmp, value_at, with_record}
use Rattle.kv_types.proofs.OrderLemmas.{same_record}
use Rattle.kv_types.proofs.LookUpLemmas.{is_same, is_same_at, is_other, value_at-with_record}
use Rattle.kv_types.proofs.PlayLemmas.{is_sorted-with_record, same_keyspace}
use Rattle.model.specs.Image.{Version, IsLive, IsMapOf, with_version, map_below}

-- ---- one map at most

-- a value that is found on one side is found on the other
same_option : {X : Type 0} (a b : Option X) → ((x : X) → a ≡ Some x → b ≡ Some x) → ((x : X) → b ≡ Some x → a ≡ Some x) → a ≡ b
same_option None None there back = refl
same_option None (Some y) there back = back y refl
same_option (Some x) b there back = sym (there x refl)

pub value_at-maps : {versions : ℕ → Option Version} {entries : ℕ} {s t : Keyspace} → IsMapOf versions entries s → IsMapOf versions entries t → (id : RecordId) → value_at s id ≡ value_at t id
value_at-maps {s = s} {t = t} a b id =
    same_option (value_at s id) (value_at t id)
    (λ value e. let live = a.held id value e in b.found live.0 id value live.1 live.2)
    (λ value e. let live = b.held id value e in a.found live.0 id value live.1 live.2)

-- the versions have one map at most
pub IsMapOf-unique : {versions : ℕ → Option Version} {entries : ℕ} {s t : Keyspace} → IsMapOf versions entries s → IsMapOf versions entries t → IsKeyspace s → IsKeyspace t → s ≡ t
IsMapOf-unique {s = s} {t = t} a b lawful_s lawful_t = same_keyspace s t lawful_s lawful_t (value_at-maps a b)

-- ---- the versions alone

IsLive-same : (versions others : ℕ → Option Version) (i : ℕ) {id : RecordId} {value : List ℕ} → versions i ≡ others i → IsLive versions i id value → IsLive others i id value
IsLive-same versions others i e live = record { version = live.version; begun = sym e ∙ live.begun; not_ended = live.not_ended; id_is = live.id_is; value_is = live.value_is }

-- versions that agree in every entry have the same maps
pub IsMapOf-same : (versions others : ℕ → Option Version) (entries : ℕ) (s : Keyspace) → ((i : ℕ) → i < entries → versions i ≡ others i) → IsMapOf versions entries s → IsMapOf others entries s
IsMapOf-same versions others entries s same map = record {
  held = λ id value e. let live = map.held id value e in (live.0, live.1, IsLive-same versions others live.0 (same live.0 live.1) live.2);
  found = λ i id value lt live. map.found i id value lt (IsLive-same others versions i (sym (same i lt)) live);
  once = λ i j id v w lt lt' a b. map.once i j id v w lt lt' (IsLive-same others versions i (sym (same i lt)) a) (IsLive-same others versions j (sym (same j lt')) b);
}

pub not_live : {versions : ℕ → Option Version} {i : ℕ} {id : RecordId} {value : List ℕ} → versions i ≡ None → IsLive versions i id value → ⊥
not_live none live = let e = live.begun in cc

-- where nothing was begun, the map is empty
pub IsMapOf-none : (versions : ℕ → Option Version) (entries : ℕ) → ((i : ℕ) → i < entries → versions i ≡ None) → IsMapOf versions entries []
IsMapOf-none versions entries none = record {
  held = λ id value e. cc;
  found = λ i id value lt live. absurd (not_live (none i lt) live);
  once = λ i j id v w lt lt' a b. absurd (not_live (none i lt) a);
}

-- what is known of a live entry's version
pub live_version : {versions : ℕ → Option Version} {i : ℕ} {id : RecordId} {value : List ℕ} (version : Version) → versions i ≡ Some version → IsLive versions i id value
    → (version.is_ended ≡ false) × (version.id ≡ id) × (version.value ≡ value)
live_version version e live = let begun = live.begun in (cc, cc, cc)

-- ---- computed

-- the entries below n hold no record twice
abbrev pub OnceBelow : (ℕ → Option Version) → ℕ → Type 0
OnceBelow versions n = (i j : ℕ) (id : RecordId) (v w : List ℕ) → i < n → j < n → IsLive versions i id v → IsLive versions j id w → i ≡ j

-- an entry that is not live adds nothing
more_idle : (versions : ℕ → Option Version) (n : ℕ) (s : Keyspace) → ((id : RecordId) (value : List ℕ) → IsLive versions n id value → ⊥) → OnceBelow versions (suc n) → IsMapOf versions n s → IsMapOf versions (suc n) s
more_idle versions n s idle once map = record {
  held = λ id value e. let live = map.held id value e in (live.0, omega arith, live.2);
  found = λ i id value lt live. ⊎_elim (λ (below : i < n). map.found i id value below live)
      (λ (above : n ≤ i). let last : i ≡ n = omega arith in absurd (idle id value (rw last at live))) (cases_lt i n);
  once = once;
}

held_more : (versions : ℕ → Option Version) (n : ℕ) (s : Keyspace) (version : Version) → versions n ≡ Some version → version.is_ended ≡ false → IsMapOf versions n s
    → (id : RecordId) (value : List ℕ) (b : Bool) → is_same id version.id ≡ b → cond b (Some version.value) (value_at s id) ≡ Some value → (i : ℕ) × (i < suc n) × IsLive versions i id value
held_more versions n s version begun going map id value true same e =
    (n, omega arith, record { version = version; begun = begun; not_ended = going; id_is = sym (same_record id version.id same); value_is = let f = e in cc })
held_more versions n s version begun going map id value false same e = let live = map.held id value e in (live.0, omega arith, live.2)

-- the record of a live entry is added
more_live : (versions : ℕ → Option Version) (n : ℕ) (s : Keyspace) (version : Version) → versions n ≡ Some version → version.is_ended ≡ false → OnceBelow versions (suc n) → IsMapOf versions n s
    → IsMapOf versions (suc n) (with_record version.id version.value s)
more_live versions n s version begun going once map = record {
  held = λ id value e. held_more versions n s version begun going map id value (is_same id version.id) refl (sym (value_at-with_record s version.id version.value id) ∙ e);
  found = λ i id value lt live. value_at-with_record s version.id version.value id ∙ ⊎_elim
      (λ (below : i < n).
      let own : IsLive versions n version.id version.value = record { version = version; begun = begun; not_ended = going; id_is = refl; value_is = refl } in
      let differ : is_same id version.id ≡ false = is_other id version.id (λ same.
      let at : i ≡ n = once i n id value version.value lt (omega arith) live (subst (λ other. IsLive versions n other version.value) (sym same) own) in omega arith) in
      ap (λ b. cond b (Some version.value) (value_at s id)) differ ∙ map.found i id value below live)
      (λ (above : n ≤ i).
      let last : i ≡ n = omega arith in
      let known = live_version version begun (subst (λ k. IsLive versions k id value) last live) in
      ap (λ b. cond b (Some version.value) (value_at s id)) (is_same_at id version.id (sym known.1)) ∙ ap Some known.2)
      (cases_lt i n);
  once = once;
}

-- the version of one more entry is added
pub more_version : (versions : ℕ → Option Version) (n : ℕ) (s : Keyspace) (entry : Option Version) → versions n ≡ entry → OnceBelow versions (suc n) → IsMapOf versions n s → IsMapOf versions (suc n) (with_version entry s)
more_version versions n s None e once map = more_idle versions n s (λ id value live. not_live e live) once map
more_version versions n s (Some version) e once map =
    elim (version.is_ended) as (λ b. version.is_ended ≡ b → IsMapOf versions (suc n) (cond b s (with_record version.id version.value s))) [
      | true ↦ λ ended. more_idle versions n s (λ id value live. let known = (live_version version e live).0 in cc) once map
      | false ↦ λ going. more_live versions n s version e going once map
    ] refl

-- what is computed is a map, where no record is live twice
pub IsMapOf-map_below : (versions : ℕ → Option Version) (entries : ℕ) → OnceBelow versions entries → IsMapOf versions entries (map_below versions entries)
unfolding map_below
IsMapOf-map_below versions zero once = IsMapOf-none versions 0 (λ i lt. absurd (omega arith))
IsMapOf-map_below versions (suc n) once =
    more_version versions n (map_below versions n) (versions n) refl once (IsMapOf-map_below versions n (λ i j id v w lt lt' a b. once i j id v w (omega arith) (omega arith) a b))

is_sorted-with_version : (entry : Option Version) (s : Keyspace) → IsTrue (is_sorted record_cmp s) → IsTrue (is_sorted record_cmp (with_version entry s))
is_sorted-with_version None s h = h
is_sorted-with_version (Some version) s h =
    elim (version.is_ended) as (λ b. IsTrue (is_sorted record_cmp (cond b s (with_record version.id version.value s)))) [ true ↦ h | false ↦ is_sorted-with_record version.id version.value s h ]

pub is_sorted-map_below : (versions : ℕ → Option Version) (n : ℕ) → IsTrue (is_sorted record_cmp (map_below versions n))
unfolding map_below
is_sorted-map_below versions zero = refl
is_sorted-map_below versions (suc n) = is_sorted-with_version (versions n) (map_below versions n) (is_sorted-map_below versions n)

-- the map is computed
pub map_below-map : {versions : ℕ → Option Version} {entries : ℕ} {s : Keyspace} → IsMapOf versions entries s → IsKeyspace s → map_below versions entries ≡ s
map_below-map {versions} {entries} {s} map lawful =
    let computed = IsMapOf-map_below versions entries map.once in
    let same = value_at-maps computed map in
    let kinds : IsKeyspace (map_below versions entries) = record {
      sorted = is_sorted-map_below versions entries;
      one_kind = λ key field is. same (Field key field) ∙ lawful.one_kind key field (subst IsSome (same (Str key)) is);
    } in
    same_keyspace (map_below versions entries) s kinds lawful same
