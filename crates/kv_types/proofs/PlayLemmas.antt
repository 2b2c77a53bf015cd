-- A keyspace stays a keyspace under every change, and changes are played one after another.
use Rattle.std.proofs.Common.{◌≡◌, ℕ, List, [], ◌∷◌, ◌++◌, Bool, false, IsTrue, cond, not, T, Option, Some, None, IsSome, Ordering, Equal, refl, sym, subst, is_eq, Result, Ok, Err, OnOk, OnErr, arith}
use Rattle.std.specs.FinMap.Entries.{where_key, is_sorted, is_sorted-put, is_sorted-where_key, same_entries}
use Rattle.std.specs.Ordering.{ordering_then}
use Rattle.kv_types.specs.declared.record_id.RecordId.{RecordId}
use Rattle.kv_types.specs.declared.record_id.RecordId.TheVariants.{Str, Field}
use Rattle.kv_types.specs.declared.change.Change.{Change}
use Rattle.kv_types.specs.declared.change.Change.TheVariants.{Put, Drop, DropKey, Clear}
use Rattle.kv_types.specs.Keyspace.{Keyspace, IsKeyspace, key_of, bytes_cmp, record_cmp, value_at, with_record, without_record, without_key, play, play_all}
use Rattle.kv_types.specs.Order.{record_cmp_total}
use Rattle.kv_types.proofs.OrderLemmas.{record_cmp_equal, same_strings, field_is_no_string, string_is_no_field}
use Rattle.kv_types.proofs.LookUpLemmas.{is_same, is_same_key, value_at-without_record, value_at-without_key, value_at-put_string, value_at-put_field}

-- ---- in order

T_from : (b : Bool) → IsTrue b → T b
T_from b e = subst T (sym e) tt

true_from : (b : Bool) → T b → IsTrue b
true_from b h = grind arith

pub is_sorted-with_record : (id : RecordId) (value : List ℕ) (s : Keyspace) → IsTrue (is_sorted record_cmp s) → IsTrue (is_sorted record_cmp (with_record id value s))
is_sorted-with_record id value s h = true_from _ (is_sorted-put record_cmp record_cmp_total id value s (T_from _ h))

is_sorted-where : (p : RecordId → Bool) (s : Keyspace) → IsTrue (is_sorted record_cmp s) → T (is_sorted record_cmp (where_key record_cmp p s))
is_sorted-where p s h = is_sorted-where_key record_cmp p s (T_from _ h)

pub is_sorted-without_record : (id : RecordId) (s : Keyspace) → IsTrue (is_sorted record_cmp s) → IsTrue (is_sorted record_cmp (without_record id s))
is_sorted-without_record id s h = true_from _ (is_sorted-where (λ other. not (is_same other id)) s h)

pub is_sorted-without_key : (key : List ℕ) (s : Keyspace) → IsTrue (is_sorted record_cmp s) → IsTrue (is_sorted record_cmp (without_key key s))
is_sorted-without_key key s h = true_from _ (is_sorted-where (λ other. not (is_same_key (key_of other) key)) s h)

pub is_sorted-play : (s : Keyspace) (change : Change) → IsTrue (is_sorted record_cmp s) → IsTrue (is_sorted record_cmp (play s change))
is_sorted-play s (Put (Str key) value) h = is_sorted-with_record (Str key) value (without_key key s) (is_sorted-without_key key s h)
is_sorted-play s (Put (Field key field) value) h = is_sorted-with_record (Field key field) value (without_record (Str key) s) (is_sorted-without_record (Str key) s h)
is_sorted-play s (Drop id) h = is_sorted-without_record id s h
is_sorted-play s (DropKey key) h = is_sorted-without_key key s h
is_sorted-play s Clear h = refl

-- ---- no key is both a string and a hash

abbrev OneKind : Option (List ℕ) → Option (List ℕ) → Type 0
OneKind string field = IsSome string → field ≡ None

kinds_dropped : (b c : Bool) (x y : Option (List ℕ)) → OneKind x y → OneKind (cond b None x) (cond c None y)
kinds_dropped b c x y h is = grind arith

kinds_put_string : (b : Bool) (value : List ℕ) (x y : Option (List ℕ)) → OneKind x y → OneKind (cond b (Some value) (cond b None x)) (cond b None y)
kinds_put_string b value x y h is = grind arith

is_eq-then_false : (o p : Ordering) → is_eq (ordering_then o Equal) ≡ false → is_eq (ordering_then o p) ≡ false
is_eq-then_false o p e = grind arith

kinds_put_field : (b c : Bool) (value : List ℕ) (x y : Option (List ℕ)) → (b ≡ false → c ≡ false) → OneKind x y → OneKind (cond b None x) (cond c (Some value) y)
kinds_put_field b c value x y apart h is = grind arith

one_kind-play : (s : Keyspace) (change : Change) → IsKeyspace s → (key field : List ℕ) → OneKind (value_at (play s change) (Str key)) (value_at (play s change) (Field key field))
one_kind-play s (Put (Str k) value) ok key field =
    simp value_at-put_string (simp (same_strings, field_is_no_string) (kinds_put_string (is_same (Str key) (Str k)) value _ _ (ok.one_kind key field)))
one_kind-play s (Put (Field k f) value) ok key field =
    let kinds = kinds_put_field (is_same (Str key) (Str k)) (is_same (Field key field) (Field k f)) value _ _ (is_eq-then_false (bytes_cmp key k) (bytes_cmp field f)) (ok.one_kind key field) in
    simp value_at-put_field (simp (string_is_no_field, field_is_no_string) kinds)
one_kind-play s (Drop id) ok key field =
    simp value_at-without_record (kinds_dropped (is_same (Str key) id) (is_same (Field key field) id) _ _ (ok.one_kind key field))
one_kind-play s (DropKey k) ok key field =
    simp value_at-without_key (kinds_dropped (is_same_key key k) (is_same_key key k) _ _ (ok.one_kind key field))
one_kind-play s Clear ok key field = λ is. refl

pub is_keyspace-play : (s : Keyspace) (change : Change) → IsKeyspace s → IsKeyspace (play s change)
is_keyspace-play s change ok = record { sorted = is_sorted-play s change ok.sorted; one_kind = one_kind-play s change ok }

pub is_keyspace-play_all : (s : Keyspace) (changes : List Change) → IsKeyspace s → IsKeyspace (play_all s changes)
is_keyspace-play_all s [] ok = ok
is_keyspace-play_all s (change ∷ changes) ok = is_keyspace-play_all (play s change) changes (is_keyspace-play s change ok)

-- ---- one after another

pub play_all-append : (s : Keyspace) (xs ys : List Change) → play_all s (xs ++ ys) ≡ play_all (play_all s xs) ys
play_all-append s [] ys = refl
play_all-append s (change ∷ xs) ys = play_all-append (play s change) xs ys

-- a call that played the change, or left the keyspace as it was, leaves a keyspace
pub is_keyspace-played : {A E : Type 0} (r : Result A E) (old new : Keyspace) (change : Change) → IsKeyspace old → OnOk r (new ≡ play old change) → OnErr r (new ≡ old) → IsKeyspace new
is_keyspace-played (Ok x) old new change ok played unchanged = subst IsKeyspace (sym played) (is_keyspace-play old change ok)
is_keyspace-played (Err e) old new change ok played unchanged = subst IsKeyspace (sym unchanged) ok

pub is_keyspace-empty : IsKeyspace []
is_keyspace-empty = record { sorted = refl; one_kind = λ key field is. refl }

pub same_keyspace : (s t : Keyspace) → IsKeyspace s → IsKeyspace t → ((id : RecordId) → value_at s id ≡ value_at t id) → s ≡ t
same_keyspace s t a b alike = same_entries record_cmp record_cmp_total record_cmp_equal s t (T_from _ a.sorted) (T_from _ b.sorted) alike
