-- What a change does to the versions and to their map.
use Rattle.std.proofs.Common.{◌≡◌, ℕ, ◌<◌, Bool, true, false, cond, ◌||◌, List, [], ◌∷◌, map, Option, Some, None, nat_eq, refl, sym, ap, subst, ◌∙◌, eq-eqb, ne_eqb, eqb-true, arith}
use Rattle.std.proofs.lemmas.Bool.{or_parts}
use Rattle.std.specs.List.{AllByRecursion}
use Rattle.kv_types.specs.declared.record_id.RecordId.{RecordId}
use Rattle.kv_types.specs.declared.record_id.RecordId.TheVariants.{Str, Field}
use Rattle.kv_types.specs.declared.change.Change.{Change}
use Rattle.kv_types.specs.declared.change.Change.TheVariants as change
use Rattle.kv_types.specs.Keyspace.{Keyspace, value_at, play}
use Rattle.kv_types.proofs.OrderLemmas.{same_record, record_itself, key_itself}
use Rattle.kv_types.proofs.LookUpLemmas.{is_same, is_same_at, is_other, value_at-put_string, value_at-put_field, value_at-without_record, value_at-without_key}
use Rattle.model.specs.Image.{Version, IsLive, IsMapOf}
use Rattle.model.specs.declared.group.Put.{Put}
use Rattle.model.specs.declared.group.PlacedChange.{PlacedChange}
use Rattle.model.specs.declared.group.PlacedChange.TheVariants as placed
use Rattle.model.specs.Group.{change_of, put_of, Versions, ends_record, ended_by, ended_where_begun, version_of_put, with_puts, change_versions}
use Rattle.model.proofs.MapLemmas.{live_version, not_live}

-- ---- what a look-up finds after a change, in terms of versions

-- a change takes out the records that it ends
abbrev pub without_ended : Change → Keyspace → RecordId → Option (List ℕ)
without_ended c s id = cond (ends_record c id) None (value_at s id)

pub value_at-put : (s : Keyspace) (id : RecordId) (value : List ℕ) (q : RecordId) → value_at (play s (change.Put id value)) q ≡ cond (is_same q id) (Some value) (without_ended (change.Put id value) s q)
value_at-put s (Str key) value q = value_at-put_string s key value q
value_at-put s (Field key field) value q = grind (arith, value_at-put_field s key field value q)

-- a put ends what its record held
pub ends_record-own : (id : RecordId) (value : List ℕ) → ends_record (change.Put id value) id ≡ true
ends_record-own (Str key) value = key_itself key
ends_record-own (Field key field) value = ap (λ b. b || is_same (Field key field) (Str key)) (record_itself (Field key field))

-- ---- versions and what is found of them, where what is found is any function

record Maps (versions : ℕ → Option Version) (entries : ℕ) (found_at : RecordId → Option (List ℕ)) : Type 0 where
  held : (id : RecordId) (value : List ℕ) → found_at id ≡ Some value → (i : ℕ) × (i < entries) × IsLive versions i id value
  found : (i : ℕ) (id : RecordId) (value : List ℕ) → i < entries → IsLive versions i id value → found_at id ≡ Some value
  once : (i j : ℕ) (id : RecordId) (v w : List ℕ) → i < entries → j < entries → IsLive versions i id v → IsLive versions j id w → i ≡ j

map-maps : (versions : ℕ → Option Version) (entries : ℕ) (found_at : RecordId → Option (List ℕ)) (s : Keyspace) → ((id : RecordId) → value_at s id ≡ found_at id) → Maps versions entries found_at → IsMapOf versions entries s
map-maps versions entries found_at s same maps = record {
  held = λ id value e. maps.held id value (sym (same id) ∙ e);
  found = λ i id value lt live. same id ∙ maps.found i id value lt live;
  once = maps.once;
}

-- ---- versions that a change ends

begun_before : (entry : Option Version) (c : Change) (ended : Version) → ended_where_begun c entry ≡ Some ended → (version : Version) × (entry ≡ Some version) × (ended_by c version ≡ ended)
begun_before None c ended e = cc
begun_before (Some version) c ended e = (version, refl, cc)

-- a live version of a record that the change does not end stays live
pub live_after : (versions : Versions) (c : Change) (i : ℕ) (id : RecordId) (value : List ℕ) → ends_record c id ≡ false → IsLive versions i id value → IsLive (λ j. ended_where_begun c (versions j)) i id value
live_after versions c i id value spared live = record {
  version = ended_by c live.version;
  begun = ap (ended_where_begun c) live.begun;
  not_ended = ap (λ b. b || ends_record c live.version.id) live.not_ended ∙ ap (ends_record c) live.id_is ∙ spared;
  id_is = live.id_is;
  value_is = live.value_is;
}

-- a version that is live after the change was live before it, and the change does not end its record
pub live_before : (versions : Versions) (c : Change) (i : ℕ) (id : RecordId) (value : List ℕ) → IsLive (λ j. ended_where_begun c (versions j)) i id value → IsLive versions i id value × (ends_record c id ≡ false)
live_before versions c i id value live =
    let before = begun_before (versions i) c live.version live.begun in
    let version = before.0 in
    let ended = before.2 in
    let going = or_parts version.is_ended (ends_record c version.id) (ap (λ (v : Version). v.is_ended) ended ∙ live.not_ended) in
    let same : version.id ≡ id = ap (λ (v : Version). v.id) ended ∙ live.id_is in
    (record { version = version; begun = before.1; not_ended = going.0; id_is = same; value_is = ap (λ (v : Version). v.value) ended ∙ live.value_is }, ap (ends_record c) (sym same) ∙ going.1)

held_spared : (versions : Versions) (entries : ℕ) (c : Change) (s : Keyspace) → IsMapOf versions entries s → (id : RecordId) (value : List ℕ) (b : Bool) → ends_record c id ≡ b → cond b None (value_at s id) ≡ Some value
    → (i : ℕ) × (i < entries) × IsLive (λ j. ended_where_begun c (versions j)) i id value
held_spared versions entries c s map id value true ended e = cc
held_spared versions entries c s map id value false spared e = let live = map.held id value e in (live.0, live.1, live_after versions c live.0 id value spared live.2)

maps-ended : (versions : Versions) (entries : ℕ) (c : Change) (s : Keyspace) → IsMapOf versions entries s → Maps (λ j. ended_where_begun c (versions j)) entries (without_ended c s)
maps-ended versions entries c s map = record {
  held = λ id value e. held_spared versions entries c s map id value (ends_record c id) refl e;
  found = λ i id value lt live. let before = live_before versions c i id value live in ap (λ b. cond b None (value_at s id)) before.1 ∙ map.found i id value lt before.0;
  once = λ i j id v w lt lt' a b. map.once i j id v w lt lt' (live_before versions c i id v a).0 (live_before versions c j id w b).0;
}

-- ---- a version that a put makes

-- the entry of a put is one of the directory, and holds no version
pub record HasRoom (versions : Versions) (entries : ℕ) (put : Put) : Type 0 where
  pub within : put.entry.0 < entries
  pub empty : versions put.entry.0 ≡ None

abbrev pub with_put : ℕ → Put → Versions → Versions
with_put position put versions = with_puts position (put ∷ []) versions

with_put-own : (position : ℕ) (put : Put) (versions : Versions) → with_put position put versions put.entry.0 ≡ Some (version_of_put position put)
with_put-own position put versions = ap (λ b. cond b (Some (version_of_put position put)) (versions put.entry.0)) (eq-eqb put.entry.0 put.entry.0 refl)

with_put-other : (position : ℕ) (put : Put) (versions : Versions) (i : ℕ) → nat_eq i put.entry.0 ≡ false → with_put position put versions i ≡ versions i
with_put-other position put versions i other = ap (λ b. cond b (Some (version_of_put position put)) (versions i)) other

-- a live version is that of the put, or it was live before
pub data LiveWithPut (versions : Versions) (put : Put) (i : ℕ) (id : RecordId) (value : List ℕ) : Type 0 where
  own : (at : i ≡ put.entry.0) (same_id : put.id ≡ id) (same_value : put.value ≡ value) → LiveWithPut versions put i id value
  other : (apart : nat_eq i put.entry.0 ≡ false) (live : IsLive versions i id value) → LiveWithPut versions put i id value

pub live_with_put : (position : ℕ) (versions : Versions) (put : Put) (i : ℕ) (id : RecordId) (value : List ℕ) (b : Bool) → nat_eq i put.entry.0 ≡ b → IsLive (with_put position put versions) i id value → LiveWithPut versions put i id value
live_with_put position versions put i id value true e live =
    let at : i ≡ put.entry.0 = eqb-true i put.entry.0 e in
    let known = live_version (version_of_put position put) (ap (with_put position put versions) at ∙ with_put-own position put versions) live in
    own at known.1 known.2
live_with_put position versions put i id value false e live =
    other e (record { version = live.version; begun = sym (with_put-other position put versions i e) ∙ live.begun; not_ended = live.not_ended; id_is = live.id_is; value_is = live.value_is })

pub live_put : (position : ℕ) (versions : Versions) (put : Put) → IsLive (with_put position put versions) put.entry.0 put.id put.value
live_put position versions put = record { version = version_of_put position put; begun = with_put-own position put versions; not_ended = refl; id_is = refl; value_is = refl }

-- a version that was live stays live where the put's entry held none
pub live_beside : (position : ℕ) (versions : Versions) (put : Put) (i : ℕ) (id : RecordId) (value : List ℕ) → versions put.entry.0 ≡ None → IsLive versions i id value → IsLive (with_put position put versions) i id value
live_beside position versions put i id value empty live =
    let apart : nat_eq i put.entry.0 ≡ false = ne_eqb i put.entry.0 (λ at. not_live empty (subst (λ k. IsLive versions k id value) at live)) in
    record { version = live.version; begun = with_put-other position put versions i apart ∙ live.begun; not_ended = live.not_ended; id_is = live.id_is; value_is = live.value_is }

module _ (position : ℕ) (versions : Versions) (entries : ℕ) (put : Put) (found_at : RecordId → Option (List ℕ)) (room : HasRoom versions entries put) (absent : found_at put.id ≡ None) (maps : Maps versions entries found_at) where
  held_with_put : (id : RecordId) (value : List ℕ) (b : Bool) → is_same id put.id ≡ b → cond b (Some put.value) (found_at id) ≡ Some value → (i : ℕ) × (i < entries) × IsLive (with_put position put versions) i id value
  held_with_put id value true same e =
      let live : IsLive (with_put position put versions) put.entry.0 id put.value = subst (λ q. IsLive (with_put position put versions) put.entry.0 q put.value) (sym (same_record id put.id same)) (live_put position versions put) in
      let value_is : put.value ≡ value = cc in
      (put.entry.0, room.within, subst (λ v. IsLive (with_put position put versions) put.entry.0 id v) value_is live)
  held_with_put id value false same e = let live = maps.held id value e in (live.0, live.1, live_beside position versions put live.0 id value room.empty live.2)

  -- no other entry has a live version of the put's record
  no_other : (i : ℕ) (id : RecordId) (value : List ℕ) → i < entries → IsLive versions i id value → put.id ≡ id → ⊥
  no_other i id value lt live same = let found = maps.found i id value lt live in let gone = subst (λ q. found_at q ≡ None) same absent in cc

  found_with_put : (i : ℕ) (id : RecordId) (value : List ℕ) → i < entries → LiveWithPut versions put i id value → cond (is_same id put.id) (Some put.value) (found_at id) ≡ Some value
  found_with_put i id value lt (own at same_id same_value) = ap (λ b. cond b (Some put.value) (found_at id)) (is_same_at id put.id (sym same_id)) ∙ ap Some same_value
  found_with_put i id value lt (other apart live) = ap (λ b. cond b (Some put.value) (found_at id)) (is_other id put.id (λ same. no_other i id value lt live (sym same))) ∙ maps.found i id value lt live

  once_with_put : (i j : ℕ) (id : RecordId) (v w : List ℕ) → i < entries → j < entries → LiveWithPut versions put i id v → LiveWithPut versions put j id w → i ≡ j
  once_with_put i j id v w lt lt' (own at same_id same_value) (own at' same_id' same_value') = at ∙ sym at'
  once_with_put i j id v w lt lt' (own at same_id same_value) (other apart live) = absurd (no_other j id w lt' live same_id)
  once_with_put i j id v w lt lt' (other apart live) (own at same_id same_value) = absurd (no_other i id v lt live same_id)
  once_with_put i j id v w lt lt' (other apart live) (other apart' live') = maps.once i j id v w lt lt' live live'

  maps-with_put : Maps (with_put position put versions) entries (λ id. cond (is_same id put.id) (Some put.value) (found_at id))
  maps-with_put = record {
    held = λ id value e. held_with_put id value (is_same id put.id) refl e;
    found = λ i id value lt live. found_with_put i id value lt (live_with_put position versions put i id value (nat_eq i put.entry.0) refl live);
    once = λ i j id v w lt lt' a b. once_with_put i j id v w lt lt' (live_with_put position versions put i id v (nat_eq i put.entry.0) refl a) (live_with_put position versions put j id w (nat_eq j put.entry.0) refl b);
  }

-- ---- one change

pub still_empty : (versions : Versions) (c : Change) (i : ℕ) → versions i ≡ None → ended_where_begun c (versions i) ≡ None
still_empty versions c i e = ap (ended_where_begun c) e

-- the map moves by the change
pub IsMapOf-change : (position : ℕ) (versions : Versions) (entries : ℕ) (s : Keyspace) (placed_change : PlacedChange) → AllByRecursion (HasRoom versions entries) (put_of placed_change) → IsMapOf versions entries s
    → IsMapOf (change_versions position versions placed_change) entries (play s (change_of placed_change))
IsMapOf-change position versions entries s (placed.Put put) room map =
    let c = change.Put put.id put.value in
    let found_at = without_ended c s in
    let ended = λ (j : ℕ). ended_where_begun c (versions j) in
    let room_after : HasRoom ended entries put = record { within = room.0.within; empty = still_empty versions c put.entry.0 room.0.empty } in
    let absent : found_at put.id ≡ None = ap (λ b. cond b None (value_at s put.id)) (ends_record-own put.id put.value) in
    map-maps (with_put position put ended) entries (λ id. cond (is_same id put.id) (Some put.value) (found_at id)) (play s c) (value_at-put s put.id put.value)
    (maps-with_put position ended entries put found_at room_after absent (maps-ended versions entries c s map))
IsMapOf-change position versions entries s (placed.Drop id) room map = map-maps _ entries (without_ended (change.Drop id) s) (play s (change.Drop id)) (value_at-without_record s id) (maps-ended versions entries (change.Drop id) s map)
IsMapOf-change position versions entries s (placed.DropKey key) room map = map-maps _ entries (without_ended (change.DropKey key) s) (play s (change.DropKey key)) (value_at-without_key s key) (maps-ended versions entries (change.DropKey key) s map)
IsMapOf-change position versions entries s placed.Clear room map = map-maps _ entries (without_ended change.Clear s) (play s change.Clear) (λ id. refl) (maps-ended versions entries change.Clear s map)
